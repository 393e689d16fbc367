use Rattle.cep_play.proofs.Playing.{one_due}
use Rattle.cep_play.proofs.laws.one_due.Goals as goal

pub returns : goal.returns
returns c = λ words files come. one_due
    (λ text program spells. c.clean_parts_are_a_program.ensures.program spells.source program spells.clean spells.bound spells.declared spells.grounded)
    c.one_status.ensures.same
    files come c.one_request.ensures words
