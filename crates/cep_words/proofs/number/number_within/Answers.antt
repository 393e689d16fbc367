use Rattle.std.proofs.Common.{◌≡◌, sym, arith, ◌∙◌}
use Rattle.std.proofs.lemmas.Fmt.{decimal_injective}
use Rattle.cep_words.proofs.number.number_within.Goals.{else-from-value-via-then-from-value+else-value-from, else-from-value-via-else-from-value}
use Rattle.cep_words.proofs.number.number_within.Goals as goal

pub returns-else-from-value : goal.returns-else-from-value
returns-else-from-value c = λ value within is.
    let most = c.ranges.most.fits in
    let same : value ≡ c.in_ok-value.value = decimal_injective value c.in_ok-value.value (omega (arith, most, within.1)) (omega arith) (sym is ∙ c.in_ok-value.ensures) in
    elim c.else-from-value.branch [
      | else-from-value-via-then-from-value+else-value-from w ↦ omega (arith, same, within.1, w.from-then-from-value.ensures)
      | else-from-value-via-else-from-value w ↦ omega (arith, same, within.0, c.from.ensures)
    ]
