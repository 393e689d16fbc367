use Rattle.cep_source.specs.Kept.{atom_at}
use Rattle.cep_types.proofs.Meeting.{one_found}
use Rattle.cep_types.proofs.clashes.lone_clash.Goals as goal

pub returns : goal.returns
returns c = rw (one_found c.args.source.now (atom_at c.args.atom) c.unmet-variables.result c.meet_atom.new.variables c.unmet-variables.ensures c.in_ok-meet_atom.ensures) at c.atom_clash.ensures
