use Rattle.cep_ground.proofs.Programs.{declared}
use Rattle.cep_ground.proofs.laws.a_text_in_order_declares.Goals as goal

pub returns : goal.returns
returns c source clean = declared source clean (c.atoms_are_made_of_tokens.ensures.made source)
    (record { written = c.start_atoms_are_ground.ensures.written; closed = c.start_atoms_are_ground.ensures.closed; ground = c.start_atoms_are_ground.ensures.ground })
