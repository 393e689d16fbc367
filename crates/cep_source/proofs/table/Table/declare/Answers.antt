use Rattle.cep_source.proofs.Declaring.{named_more, both_ok}
use Rattle.cep_source.proofs.table.Table.declare.Goals as goal

pub returns-clause-named : goal.returns-clause-named
returns-clause-named g c =
    both_ok c.declare_as.result
    (λ pushed more span is. named_more c.args.text.now span c.args.self.now c.declare_as.new.self c.args.item c.args.name is c.slice_at.result.now c.slice_at.ensures pushed more)
    c.declare_as.ensures.items c.declare_as.ensures.names
