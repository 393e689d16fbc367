use Rattle.std.proofs.Common.{◌≡◌, ◌∷◌, take}
use Rattle.cep_parse.specs.Raw.{raw_nodes}
use Rattle.cep_source.specs.Met.{none_met, met_nodes}
use Rattle.cep_source.specs.Kept.{clause_item}
use Rattle.cep_source.proofs.variables.Variables.of_clause.Given as goal

abbrev pub invariant-loop-goal : goal.invariant-loop-goal
invariant-loop-goal l = l.variables ≡ met_nodes l.source none_met (raw_nodes ((clause_item l.clause).head ∷ take l.goal-index (clause_item l.clause).goals))
