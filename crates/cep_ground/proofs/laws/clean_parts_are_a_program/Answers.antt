use Rattle.cep_ground.proofs.Programs.{StartLaws, is_program, is_in_order, backs_counted}
use Rattle.cep_ground.proofs.laws.clean_parts_are_a_program.Goals as goal

pub returns : goal.returns
returns c =
    let made = c.atoms_are_made_of_tokens.ensures.made in
    let items = c.items_are_made_of_tokens.ensures in
    let starts : StartLaws = record { written = c.start_atoms_are_ground.ensures.written; closed = c.start_atoms_are_ground.ensures.closed; ground = c.start_atoms_are_ground.ensures.ground } in
    record {
      program = λ source parts clean bound.
          is_program source clean (made source) (items.made source.text clean.is_source.tokens source.file clean.is_source.parsed) (items.few source.text clean.is_source.tokens source.file clean.is_source.parsed) starts c.bags_are_lawful.ensures bound parts;
      in_order = λ source parts clean bound.
          is_in_order source clean (made source) (items.made source.text clean.is_source.tokens source.file clean.is_source.parsed) (items.few source.text clean.is_source.tokens source.file clean.is_source.parsed) starts c.bags_are_lawful.ensures bound parts;
      counted = λ source clean bound.
          backs_counted source clean (made source) (items.made source.text clean.is_source.tokens source.file clean.is_source.parsed) (items.few source.text clean.is_source.tokens source.file clean.is_source.parsed) starts c.bags_are_lawful.ensures bound;
    }
