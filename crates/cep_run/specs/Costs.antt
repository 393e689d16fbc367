-- What a run may cost: how often the counter may rise, said of deeds alone and of what a matcher
-- may tick. What that is depends on the matcher.
use Rattle.std.specs.Prelude.{◌≡◌, ℕ, ◌+◌, List, [], ◌∷◌, length}
use Rattle.cep_term.specs.Tree.{Tree, AtomTree}
use Rattle.cep_term.specs.Multiset.{Multiset, gathered}
use Rattle.cep_rule.specs.declared.rule.Rule.{Rule}
use Rattle.cep_rule.specs.declared.parts.Parts.{Parts}
use Rattle.cep_rule.specs.Instances.{taken_by, added_by}
use Rattle.cep_step.specs.Deeds.{Deed}

-- what a matcher may tick to begin: of which program, with which state, within which height, and
-- how often
abbrev pub Beginnings : Type 1
Beginnings = Parts → Multiset → ℕ → ℕ → Type 0

-- what a matcher may tick for an edit: of which program, before it with which state, within which
-- height, what is taken and what is added, and how often
abbrev pub Edits : Type 1
Edits = Parts → Multiset → ℕ → Multiset → List AtomTree → ℕ → Type 0

-- A step by a rule with these values costs what the matcher may tick for its edit, and one for each
-- backward premise, for which a derivation is asked.
pub record IsStepCost (may_edit : Edits) (program : Parts) (height : ℕ) (state : Multiset)
    (rule : Rule) (values : List Tree) (cost : ℕ) : Type 0 where
  pub edit : ℕ
  pub allowed : may_edit program state height (gathered (taken_by program.signature rule values))
      (added_by program.signature rule values) edit
  pub sum : cost ≡ edit + length rule.backs

-- what a deed costs
abbrev pub IsDeedCost : Edits → Parts → ℕ → Deed → ℕ → Type 0
IsDeedCost may_edit program height deed cost =
    IsStepCost may_edit program height deed.before.spot.state deed.rule deed.offer.values cost

-- what deeds cost together
abbrev pub AreDeedCosts : Edits → Parts → ℕ → List Deed → ℕ → Type 0
AreDeedCosts may_edit program height [] cost = cost ≡ 0
AreDeedCosts may_edit program height (deed ∷ deeds) cost =
    (here : ℕ) × (later : ℕ) × IsDeedCost may_edit program height deed here
    × AreDeedCosts may_edit program height deeds later × (cost ≡ here + later)

-- A run costs what the matcher may tick to begin in the program's start state, and what its deeds
-- cost.
pub record IsRunCost (may_begin : Beginnings) (may_edit : Edits) (program : Parts) (height : ℕ)
    (deeds : List Deed) (cost : ℕ) : Type 0 where
  pub start : ℕ
  pub done : ℕ
  pub allowed : may_begin program program.start height start
  pub deeds_cost : AreDeedCosts may_edit program height deeds done
  pub sum : cost ≡ start + done
