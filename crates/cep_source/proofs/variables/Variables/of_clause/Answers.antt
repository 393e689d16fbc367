use Rattle.std.proofs.Common.{◌∷◌}
use Rattle.std.proofs.lemmas.List.{take_all}
use Rattle.cep_source.specs.Kept.{atom_at}
use Rattle.cep_source.proofs.Meeting.{goals_met, are_variables}
use Rattle.cep_source.proofs.variables.Variables.of_clause.Goals as goal

pub loop-goal-preserved : goal.loop-goal-preserved
loop-goal-preserved c =
    goals_met c.args.source.now (atom_at c.args.clause.now.head) c.args.clause.now.goals.now c.loop-goal.goal-index c.goal-item.result c.as_slice.result.now c.loop-goal-test.true c.goal-item.is c.as_slice.ensures
    c.loop-goal.variables c.meet_nodes-in-loop-goal.new.self c.in_ok-meet_nodes-2.ensures c.loop-goal.invariant

pub returns : goal.returns
returns c =
    are_variables c.args.source.now (atom_at c.args.clause.now.head ∷ c.args.clause.now.goals.now) c.loop-goal.variables (rw (take_all c.loop-goal.goal-index c.args.clause.now.goals.now c.loop-goal-test.false) at c.loop-goal.invariant)
