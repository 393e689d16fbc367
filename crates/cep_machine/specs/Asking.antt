-- Which lists of a matcher a stage asks.
use Rattle.std.specs.Prelude.{◌≡◌, ◌⊎◌, ℕ, ◌<◌, List, [], ◌∷◌, length}
use Rattle.cep_rule.specs.declared.offer.Offer.{Offer}
use Rattle.cep_rule.specs.Stages.{own_group, leaving_group}
use Rattle.cep_rule.specs.Matching.{offers_of}

-- these offers, and where there are none the others
abbrev pub unless_none : List Offer → List Offer → List Offer
unless_none [] others = others
unless_none (offer ∷ offers) others = offer ∷ offers

-- the offers that a stage asks: those of its own group, and where there are none those of the group
-- that leaves it
abbrev pub asked_offers : List (List Offer) → ℕ → List Offer
asked_offers lists stage =
    unless_none (offers_of lists (own_group stage)) (offers_of lists (leaving_group stage))

-- A stage asks a group by the lists: its own where this has an offer, and else the one that leaves
-- it where that has one.
abbrev pub IsAskedIn : List (List Offer) → ℕ → ℕ → Type 0
IsAskedIn lists stage group =
    ((group ≡ own_group stage) × (0 < length (offers_of lists group)))
    ⊎
    ((group ≡ leaving_group stage) × (length (offers_of lists (own_group stage)) ≡ 0)
    × (0 < length (offers_of lists group)))
