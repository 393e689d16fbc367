-- Rounds: which of several chosen offers are admitted, and what these do together.
use Rattle.std.specs.Prelude.{◌≡◌, ℕ, ◌+◌, ◌-◌, ◌≤◌, ◌<◌, Bool, true, false, List, [], ◌∷◌, Some, slice_get, option_map, unwrap_or, length}
use Rattle.std.specs.List.{AllByRecursion}
use Rattle.std.specs.FinMap as finite
use Rattle.cep_base.specs.declared.limits.TheConstants.{MOST_HEIGHT}
use Rattle.cep_term.specs.Tree.{Tree, AtomTree}
use Rattle.cep_term.specs.Multiset.{Multiset, count_of, IsContained, held}
use Rattle.cep_rule.specs.declared.signature.Signature.{Signature}
use Rattle.cep_rule.specs.declared.rule.Rule.{Rule}
use Rattle.cep_rule.specs.declared.parts.Parts.{Parts}
use Rattle.cep_rule.specs.declared.offer.Offer.{Offer}
use Rattle.cep_rule.specs.Typing.{is_fact}
use Rattle.cep_rule.specs.State.{joined, IsState, Fits}
use Rattle.cep_rule.specs.Instances.{left_of, right_of}
use Rattle.cep_rule.specs.Offers.{Applies}
use Rattle.cep_round.specs.declared.limits.TheConstants.{MOST_PLAYERS}

-- a side of an offer: that of its rule under its values, and nothing where there is no such rule
abbrev pub offer_side : (Signature → Rule → List Tree → Multiset) → Parts → Offer → Multiset
offer_side side program offer =
    unwrap_or
    (option_map (λ rule. side program.signature rule offer.values)
    (slice_get program.rules offer.rule))
    finite.empty

-- what an offer needs: its left side
abbrev pub needs : Parts → Offer → Multiset
needs program offer = offer_side left_of program offer

-- what an offer gives: its right side
abbrev pub gives : Parts → Offer → Multiset
gives program offer = offer_side right_of program offer

-- the sum of one side of all offers, each fact once
abbrev pub sum_of_sides : (Parts → Offer → Multiset) → Parts → List Offer → Multiset
sum_of_sides side program [] = finite.empty
sum_of_sides side program (offer ∷ offers) =
    joined program.signature (side program offer) (sum_of_sides side program offers)

-- what all offers need
abbrev pub all_need : Parts → List Offer → Multiset
all_need program offers = sum_of_sides needs program offers

-- what all offers give
abbrev pub all_give : Parts → List Offer → Multiset
all_give program offers = sum_of_sides gives program offers

-- what is used once an offer is admitted, if this much was used before it
abbrev pub used_with : Parts → Multiset → Offer → Multiset
used_with program used offer = joined program.signature used (needs program offer)

-- The flags say which offers are admitted where this much is used already. An offer is admitted if
-- and only if what is used and what it needs are together contained in the state, and then what it
-- needs is used too for those after it.
abbrev pub AreAdmitted : Parts → Multiset → Multiset → List Offer → List Bool → Type 0
AreAdmitted program state used [] [] = Unit {0}
AreAdmitted program state used [] (flag ∷ flags) = ⊥
AreAdmitted program state used (offer ∷ offers) [] = ⊥
AreAdmitted program state used (offer ∷ offers) (true ∷ flags) =
    IsContained (used_with program used offer) state
    × AreAdmitted program state (used_with program used offer) offers flags
AreAdmitted program state used (offer ∷ offers) (false ∷ flags) =
    ¬ IsContained (used_with program used offer) state × AreAdmitted program state used offers flags

-- the offers whose flags are true, in order
abbrev pub admitted : List Offer → List Bool → List Offer
admitted [] flags = []
admitted (offer ∷ offers) [] = []
admitted (offer ∷ offers) (true ∷ flags) = offer ∷ admitted offers flags
admitted (offer ∷ offers) (false ∷ flags) = admitted offers flags

-- what is used after these offers, if this much was used before them
abbrev pub used_after : Parts → Multiset → List Offer → List Bool → Multiset
used_after program used [] flags = used
used_after program used (offer ∷ offers) [] = used
used_after program used (offer ∷ offers) (true ∷ flags) =
    used_after program (used_with program used offer) offers flags
used_after program used (offer ∷ offers) (false ∷ flags) = used_after program used offers flags

-- Together the offers lead from one state to another: all that they need is there, and of each atom
-- there are as many copies as are left without it, and those that they give; of a fact one if there
-- is any.
pub record Together (program : Parts) (offers : List Offer) (old new : Multiset) : Type 0 where
  pub contained : IsContained (all_need program offers) old
  pub counts : (a : AtomTree) → count_of new a
      ≡ held (is_fact program.signature a)
      (count_of old a - count_of (all_need program offers) a + count_of (all_give program offers) a)

-- A round: the flags say which of the chosen offers are admitted, and together these lead from the
-- old state to the new one.
pub record IsRound (program : Parts) (offers : List Offer) (flags : List Bool) (old new : Multiset)
    : Type 0 where
  pub flagged : AreAdmitted program old finite.empty offers flags
  pub together : Together program (admitted offers flags) old new

-- Offers that players have chosen in a state of the program: each applies to it within the greatest
-- height, and no more players chose than there may be.
pub record AreChosen (program : Parts) (state : Multiset) (offers : List Offer) : Type 0 where
  pub is_state : IsState program.signature state
  pub fits : Fits state
  pub few : length offers ≤ MOST_PLAYERS
  pub apply : AllByRecursion (Applies program MOST_HEIGHT state) offers

-- The offer stands at the place of the list, counted from 0, and at none before it.
pub record IsLeastPlace (offers : List Offer) (offer : Offer) (place : ℕ) : Type 0 where
  pub there : slice_get offers place ≡ Some offer
  pub first : (earlier : ℕ) → earlier < place → ¬ (slice_get offers earlier ≡ Some offer)
