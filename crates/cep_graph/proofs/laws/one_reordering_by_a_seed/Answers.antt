use Rattle.std.proofs.Common.{subst, ℕ, List}
use Rattle.cep_order.specs.declared.step_cause.StepCause.{StepCause}
use Rattle.cep_order.specs.Orders.{IsOrderBy}
use Rattle.cep_cause.specs.Reorderings.{step_places}
use Rattle.cep_cause.specs.Reordered.{ComesTo}
use Rattle.cep_graph.proofs.laws.one_reordering_by_a_seed.Goals as goal

pub returns : goal.returns
returns c = λ program log seed one other is is'.
    let by = is.by_seed in
    let by' = is'.by_seed in
    let causes = c.one_graph.ensures program log by'.causes by.causes by'.graph by.graph in
    let order = c.one_order_for_a_seed.ensures seed by.causes is'.order is.order (subst (λ (causes : List StepCause). IsOrderBy seed causes is'.order) causes by'.by_seed) by.by_seed in
    c.orders_come_to_one_answer.ensures program log (step_places is.order) one other is.comes (subst (λ (order : List ℕ). ComesTo program (step_places order) log other) order is'.comes)
