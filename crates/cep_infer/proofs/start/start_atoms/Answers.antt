use Rattle.cep_infer.proofs.start.start_atoms.Goals as goal

pub read_atoms-requires : goal.read_atoms-requires
read_atoms-requires c = rw c.listed.ensures (rw c.in-Named.is at c.requires)

pub read_listed-requires : goal.read_listed-requires
read_listed-requires c = rw c.as_slice.ensures (rw c.in-Listed.is at c.requires)
