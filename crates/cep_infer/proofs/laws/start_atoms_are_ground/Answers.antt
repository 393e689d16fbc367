use Rattle.cep_infer.proofs.RulesInTurn.{state_written, atom_closed, atom_ground}
use Rattle.cep_infer.proofs.laws.start_atoms_are_ground.Goals as goal

pub returns : goal.returns
returns c = record { written = state_written; closed = λ source raw named written. atom_closed source named raw written; ground = atom_ground }
