-- Which group of rules a stage asks.
use Rattle.std.specs.Prelude.{◌≡◌, ◌⊎◌, ℕ, ◌+◌, ◌*◌}
use Rattle.cep_term.specs.Multiset.{Multiset}
use Rattle.cep_rule.specs.declared.parts.Parts.{Parts}
use Rattle.cep_rule.specs.declared.offer.Offer.{Offer}
use Rattle.cep_rule.specs.Offers.{IsOffer}

-- the group of a stage's own rules
abbrev pub own_group : ℕ → ℕ
own_group stage = 2 * stage

-- the group of the rules that leave a stage at quiescence
abbrev pub leaving_group : ℕ → ℕ
leaving_group stage = 2 * stage + 1

-- The group has some offer in the state.
abbrev pub HasOffer : Parts → ℕ → Multiset → ℕ → Type 0
HasOffer program height state group = (offer : Offer) × IsOffer program height state group offer

-- A stage asks a group: its own rules where one of them applies, and else those that leave it where one of them applies.
abbrev pub IsAsked : Parts → ℕ → Multiset → ℕ → ℕ → Type 0
IsAsked program height state stage group =
    ((group ≡ own_group stage) × HasOffer program height state group)
    ⊎ ((group ≡ leaving_group stage) × ¬ HasOffer program height state (own_group stage) × HasOffer program height state group)

-- A stage is quiet: neither one of its own rules applies, nor one that leaves it.
abbrev pub IsQuiet : Parts → ℕ → Multiset → ℕ → Type 0
IsQuiet program height state stage = ¬ HasOffer program height state (own_group stage) × ¬ HasOffer program height state (leaving_group stage)
