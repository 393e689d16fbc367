use Rattle.std.proofs.Common.{◌∙◌, ap, ◌++◌}
use Rattle.cep_graph.proofs.Taken.{joined}
use Rattle.cep_graph.proofs.taking.add_all.Goals as goal

pub returns : goal.returns
returns c = joined c.args.numbers.now.items c.args.more.now c.extend_from_slice.new.self.items (c.in_ok-extend_from_slice.ensures.items ∙ ap (λ ns. c.args.numbers.now.items ++ ns) c.as_slice.ensures)
