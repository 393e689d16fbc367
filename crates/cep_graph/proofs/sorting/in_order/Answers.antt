use Rattle.std.proofs.Common.{ap, ◌∙◌}
use Rattle.std.specs.Prelude.{nat_lt, filter}
use Rattle.cep_graph.proofs.Trailing.{after_increasing, after_counted, after_same}
use Rattle.cep_graph.proofs.sorting.in_order.Goals as goal

pub returns-clause-increasing : goal.returns-clause-increasing
returns-clause-increasing c = after_increasing c.args.numbers.items c.sort.new.self.items c.dedup.new.self.items c.in_ok-after.after c.sort.ensures.permutation c.in_ok-sort.ensures.sorted c.dedup.ensures.filtered (c.in_ok-after.ensures ∙ ap (λ ns. filter (λ n. nat_lt 0 n) ns) c.as_slice.ensures.value)

pub returns-clause-counted : goal.returns-clause-counted
returns-clause-counted c = after_counted c.args.numbers.items c.sort.new.self.items c.dedup.new.self.items c.in_ok-after.after c.sort.ensures.permutation c.in_ok-sort.ensures.sorted c.dedup.ensures.filtered (c.in_ok-after.ensures ∙ ap (λ ns. filter (λ n. nat_lt 0 n) ns) c.as_slice.ensures.value)

pub returns-clause-same : goal.returns-clause-same
returns-clause-same c = after_same c.args.numbers.items c.sort.new.self.items c.dedup.new.self.items c.in_ok-after.after c.sort.ensures.permutation c.in_ok-sort.ensures.sorted c.dedup.ensures.filtered (c.in_ok-after.ensures ∙ ap (λ ns. filter (λ n. nat_lt 0 n) ns) c.as_slice.ensures.value)
