use Rattle.std.proofs.Common.{take}
use Rattle.cep_types.specs.Met.{AreMet}
use Rattle.cep_types.proofs.variables.clause_variables.Given as goal

abbrev pub invariant-loop-goal : goal.invariant-loop-goal
invariant-loop-goal l = AreMet l.source (take l.goal-index l.goal-items) l.initial.variables l.variables
