use Rattle.std.proofs.Common.{length, ap, arith}
use Rattle.cep_text.proofs.TermTexts.{term_some, term_none, no_sort}
use Rattle.cep_text.proofs.read_terms.read_term.Goals as goal

pub returns-then-sort-len-clause-none : goal.returns-then-sort-len-clause-none
returns-then-sort-len-clause-none c =
    let many = ap (λ parts. length parts.signature.sorts) c.parts.ensures.parts in
    no_sort c.args.vocabulary.now c.args.sort c.args.bytes.now c.parts.ensures.kept (omega arith)

pub returns-in-Ok-clause-some : goal.returns-in-Ok-clause-some
returns-in-Ok-clause-some c = term_some c.args.vocabulary.now c.args.sort c.args.bytes.now _ c.in-Ok.ensures

pub returns-in-Err-Unread-clause-none : goal.returns-in-Err-Unread-clause-none
returns-in-Err-Unread-clause-none c =
    let unread = rw c.in-Err-Unread.field-0-is at c.in-Err-Unread.ensures in
    term_none c.args.vocabulary.now c.args.sort c.args.bytes.now c.parts.ensures.kept unread
