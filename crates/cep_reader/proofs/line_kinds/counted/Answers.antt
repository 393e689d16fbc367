use Rattle.std.proofs.Common.{◌≡◌, arith, rules}
use Rattle.cep_reader.proofs.LineKindLemmas.{counted_as, same_decimal}
use Rattle.cep_reader.proofs.line_kinds.counted.Goals as goal
use Rattle.cep_reader.proofs.line_kinds.counted.Goals.{else-count-ge1-via-then-count-ge1+else-from-le-MOST_COPIES, else-count-ge1-via-else-count-ge1}

pub returns-in_err-text : goal.returns-in_err-text
returns-in_err-text c = rw c.from_residual-in_err-text.ensures (λ count text some few said.
    c.in_err-text.ensures text (counted_as c.args.line.now c.in_ok-strip.field-0.now c.cut_word.result.0.now c.cut_word.result.1.now count text c.in_ok-strip.ensures c.cut_word.ensures.all c.cut_word.ensures.unspaced c.cut_word.ensures.cut few said).1)

pub returns-in_err-count : goal.returns-in_err-count
returns-in_err-count c = rw c.from_residual-in_err-count.ensures (λ count text some few said.
    c.in_err-count.ensures.none count (omega arith) (counted_as c.args.line.now c.in_ok-strip.field-0.now c.cut_word.result.0.now c.cut_word.result.1.now count text c.in_ok-strip.ensures c.cut_word.ensures.all c.cut_word.ensures.unspaced c.cut_word.ensures.cut few said).0)

pub returns-else-count-ge1 : goal.returns-else-count-ge1
returns-else-count-ge1 c = λ count text some few said.
    let same : c.in_ok-count.count ≡ count = same_decimal c.in_ok-count.count count c.cut_word.result.0.now (omega arith) (omega arith) c.in_ok-count.ensures.some
    (counted_as c.args.line.now c.in_ok-strip.field-0.now c.cut_word.result.0.now c.cut_word.result.1.now count text c.in_ok-strip.ensures c.cut_word.ensures.all c.cut_word.ensures.unspaced c.cut_word.ensures.cut few said).0 in
    elim c.else-count-ge1.branch [
      | else-count-ge1-via-then-count-ge1+else-from-le-MOST_COPIES w ↦ omega arith
      | else-count-ge1-via-else-count-ge1 w ↦ omega arith
    ]

pub returns-then-from-le-MOST_COPIES : goal.returns-then-from-le-MOST_COPIES
returns-then-from-le-MOST_COPIES c = (omega arith, omega arith, search rules)
