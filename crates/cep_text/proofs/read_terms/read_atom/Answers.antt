use Rattle.cep_text.proofs.TermTexts.{atom_some, atom_none}
use Rattle.cep_text.proofs.read_terms.read_atom.Goals as goal

pub returns-in-Ok-clause-some : goal.returns-in-Ok-clause-some
returns-in-Ok-clause-some c = atom_some c.args.vocabulary.now c.args.bytes.now _ c.in-Ok.ensures.read

pub returns-in-Err-Unread-clause-none : goal.returns-in-Err-Unread-clause-none
returns-in-Err-Unread-clause-none c =
    let unread = rw c.in-Err-Unread.field-0-is at c.in-Err-Unread.ensures.read in
    atom_none c.args.vocabulary.now c.args.bytes.now c.whole_atom.ensures.kept unread
