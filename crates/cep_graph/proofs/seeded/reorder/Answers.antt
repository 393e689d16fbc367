use Rattle.cep_graph.proofs.seeded.reorder.Goals as goal

pub again-requires-clause-order : goal.again-requires-clause-order
again-requires-clause-order c =
    let by = c.in_ok-order.ensures in
    (by.graph.touches, by.graph.are, c.orders_by_seeds_are_orders.ensures.order c.args.seed by.graph.touches by.causes c.in_ok-order.order by.graph.entries by.by_seed)
