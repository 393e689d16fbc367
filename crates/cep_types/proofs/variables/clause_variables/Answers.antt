use Rattle.std.proofs.Common.{[], ◌∷◌}
use Rattle.std.proofs.lemmas.List.{take_all}
use Rattle.cep_source.specs.Kept.{atom_at}
use Rattle.cep_types.proofs.Meeting.{atom_is_met, both_are_met, none_are_met}
use Rattle.cep_types.proofs.variables.clause_variables.Goals as goal

pub loop-goal-init : goal.loop-goal-init
loop-goal-init c = none_are_met _ _

pub loop-goal-preserved : goal.loop-goal-preserved
loop-goal-preserved c =
    atom_is_met c.args.source.now c.args.clause.now.goals.now c.loop-goal.goal-index c.goal-item.result c.meet_atom.new.variables c.loop-goal.variables c.meet_atom-in-loop-goal.new.variables c.loop-goal-test.true c.goal-item.is c.loop-goal.invariant
    (rw c.of_raw.ensures at c.in_ok-meet_atom-2.ensures)

pub returns : goal.returns
returns c =
    let source = c.args.source.now in
    let goals = c.args.clause.now.goals.now in
    rw (← c.unmet-variables.ensures) (both_are_met source (atom_at c.args.clause.now.head ∷ []) goals c.unmet-variables.result c.meet_atom.new.variables c.loop-goal.variables c.in_ok-meet_atom.ensures (rw (take_all c.loop-goal.goal-index goals c.loop-goal-test.false) at c.loop-goal.invariant))
