use Rattle.std.proofs.Common.{◌≡◌, arith}
use Rattle.cep_reader.proofs.LineKindLemmas.{same_decimal}
use Rattle.cep_reader.proofs.line_kinds.height_line.Goals as goal
use Rattle.cep_reader.proofs.line_kinds.height_line.Goals.{else-height-ge1-via-then-height-ge1+else-height-le-MOST_HEIGHT, else-height-ge1-via-else-height-ge1}

pub returns-else-height-ge1 : goal.returns-else-height-ge1
returns-else-height-ge1 c = λ height is said.
    let same : c.in_ok-height.height ≡ height = same_decimal c.in_ok-height.height height c.in_ok-strip.field-0.now (omega arith) (omega (arith, is.low)) c.in_ok-height.ensures.some (grind (arith, said, c.in_ok-strip.ensures)) in
    elim c.else-height-ge1.branch [
      | else-height-ge1-via-then-height-ge1+else-height-le-MOST_HEIGHT w ↦ omega (arith, is.low, is.some)
      | else-height-ge1-via-else-height-ge1 w ↦ omega (arith, is.low, is.some)
    ]
