use Rattle.cep_reader.proofs.LineKindLemmas.{have_none}
use Rattle.cep_reader.proofs.line_kinds.have_line.Goals as goal

pub returns-in-None-clause-none : goal.returns-in-None-clause-none
returns-in-None-clause-none c = λ entry said.
    let counted = c.in-Some.ensures in
    have_none c.args.vocabulary.now c.args.line.now c.in-Some.text.now c.in-Some.count entry counted.1 counted.2 (rw c.in-None.is at c.in_ok-atom.ensures.none) said
