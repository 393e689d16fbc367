use Rattle.cep_infer.proofs.resolving.drafted.Goals as goal

pub drafted_from-drafted-requires : goal.drafted_from-drafted-requires
drafted_from-drafted-requires c = rw c.in_ok-source.ensures c.requires

pub returns : goal.returns
returns c = rw c.in_ok-source.ensures at c.drafted_from-drafted.ensures
