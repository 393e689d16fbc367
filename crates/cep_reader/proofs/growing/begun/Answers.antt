use Rattle.cep_reader.proofs.LineKindLemmas.{nothing_begins, not_some}
use Rattle.cep_reader.proofs.growing.begun.Goals as goal

pub returns-in-None-clause-none : goal.returns-in-None-clause-none
returns-in-None-clause-none c =
    nothing_begins c.args.vocabulary.now c.args.number c.args.line.now c.args.log (not_some c.end_line.result _ _ c.in_default.not-Some c.end_line.ensures) (rw c.in-None.is at c.in_ok-offer.ensures.none)
