-- What deeds cost is counted one after another.
use Rattle.std.proofs.Common.{ℕ, ◌+◌, List, [], ◌∷◌, ◌++◌, refl, arith}
use Rattle.std.proofs.lemmas.List.{map-append}
use Rattle.std.specs.Prelude.{Result, IfOk}
use Rattle.cep_rule.specs.declared.parts.Parts.{Parts}
use Rattle.cep_rule.specs.Matching.{RoseBy}
use Rattle.cep_step.specs.Deeds.{Deed}
use Rattle.cep_run.specs.Run.{Turn, deeds_of}
use Rattle.cep_run.specs.Costs.{Beginnings, Edits, IsDeedCost, AreDeedCosts, IsRunCost}

-- what follows from two things that hold of an outcome
pub both_ok : {T E : Type 0} (r : Result T E) (P Q R : T → Type 0) → ((x : T) → P x → Q x → R x) → IfOk r P → IfOk r Q → IfOk r R
both_ok r P Q R follows p q = grind arith

module _ (may_edit : Edits) (program : Parts) (height : ℕ) where
  costs_behind : (deeds : List Deed) (deed : Deed) (before here : ℕ) → AreDeedCosts may_edit program height deeds before → IsDeedCost may_edit program height deed here → AreDeedCosts may_edit program height (deeds ++ deed ∷ []) (before + here)
  costs_behind (first ∷ deeds) deed before here all one = grind (arith, costs_behind deeds deed all.1 here all.3 one)
  costs_behind deeds deed before here all one = grind arith

  -- the counter rose by what some turns cost, and then by what one more costs
  pub counted_behind : (turns : List Turn) (turn : Turn) (old between new : ℕ) → RoseBy (AreDeedCosts may_edit program height (deeds_of turns)) old between → RoseBy (IsDeedCost may_edit program height turn.deed) between new
      → RoseBy (AreDeedCosts may_edit program height (deeds_of (turns ++ turn ∷ []))) old new
  counted_behind turns turn old between new so one = record { ticks = so.ticks + one.ticks; allows = rw map-append (costs_behind (deeds_of turns) turn.deed so.ticks one.ticks so.allows one.allows); risen = omega (arith, so.risen, one.risen) }

  -- nothing was done yet
  pub counted_nothing : (steps : ℕ) → RoseBy (AreDeedCosts may_edit program height []) steps steps
  counted_nothing steps = record { ticks = 0; allows = refl; risen = omega arith }

  -- it rose by what a matcher may tick to begin, and then by what the deeds cost
  pub run_counted : (may_begin : Beginnings) (deeds : List Deed) (old between new : ℕ) → RoseBy (may_begin program program.start height) old between → RoseBy (AreDeedCosts may_edit program height deeds) between new
      → RoseBy (IsRunCost may_begin may_edit program height deeds) old new
  run_counted may_begin deeds old between new begun done = record {
    ticks = begun.ticks + done.ticks;
    allows = record { start = begun.ticks; done = done.ticks; allowed = begun.allows; deeds_cost = done.allows; sum = refl };
    risen = omega (arith, begun.risen, done.risen);
  }
