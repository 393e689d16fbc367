-- The reordering of a log that a seed gives.
use Rattle.std.specs.Prelude.{ℕ, List}
use Rattle.cep_rule.specs.declared.parts.Parts.{Parts}
use Rattle.cep_log.specs.declared.log.Log.{Log}
use Rattle.cep_order.specs.declared.step_cause.StepCause.{StepCause}
use Rattle.cep_order.specs.Orders.{IsOrderBy}
use Rattle.cep_cause.specs.declared.reordered.Reordered.{Reordered}
use Rattle.cep_cause.specs.Reorderings.{step_places}
use Rattle.cep_cause.specs.Reordered.{ComesTo}
use Rattle.cep_cause.specs.Graphs.{IsGraph}

-- The order is the one that a seed gives to the steps of a log by its graph.
pub record IsOrderOf (program : Parts) (log : Log) (seed : ℕ) (order : List ℕ) : Type 0 where
  pub causes : List StepCause
  pub graph : IsGraph program log causes
  pub by_seed : IsOrderBy seed causes order

-- A log comes to this if its steps are done in the order that a seed gives by its graph.
pub record IsReorderedBy (program : Parts) (log : Log) (seed : ℕ) (reordered : Reordered)
    : Type 0 where
  pub order : List ℕ
  pub by_seed : IsOrderOf program log seed order
  pub comes : ComesTo program (step_places order) log reordered
