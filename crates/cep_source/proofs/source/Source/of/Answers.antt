use Rattle.cep_source.proofs.source.Source.of.Goals as goal

pub invariant_of-result : goal.invariant_of-result
invariant_of-result c = record { kinds = c.in_ok-kinds.ensures.kinds; named = c.in_ok-kinds.ensures.named; clauses = c.in_ok-clauses.ensures }
