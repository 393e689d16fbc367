use Rattle.std.proofs.Common.{◌≡◌, ◌≢◌, ◌<◌, ◌^◌, ℕ, Bool, true, false, List, Some, None, bytes_eq, arith, sym, subst, ap, ◌∙◌}
use Rattle.std.specs.Str.{IsAscii}
use Rattle.std.specs.Prelude.{Result, Ok, Err, MatchOption, decimal}
use Rattle.std.specs.Result.{MatchResult, result_ok}
use Rattle.std.specs.Bool.{then_some}
use Rattle.std.proofs.lemmas.Fmt.{IsAscii-decimal, parse-decimal}
use Rattle.std.proofs.lemmas.Str.{IsUtf8-from_ascii}
use Rattle.std.proofs.lemmas.Slice.Eq.{bytes_eq-Decides}
use Rattle.cep_base.proofs.Lists.{none_some, some_same}
use Rattle.cep_base.proofs.reading.decimal.Goals as goal

module _ {T E : Type 0} (P : T → Type 0) (Q : E → Type 0) where
  given : (r : Result T E) (x : T) → Some x ≡ result_ok r → MatchResult r P Q → P x
  given (Ok y) x is cases = subst P (sym (some_same x y is)) cases
  given (Err e) x is cases = absurd cc

  refused : (r : Result T E) → result_ok r ≡ None → MatchResult r P Q → (e : E) × Q e
  refused (Ok y) none cases = absurd cc
  refused (Err e) none cases = (e, cases)

-- the bytes that the number spells are those that were read, or these are no decimal
compared : (bytes written : List ℕ) (m : ℕ) (same : Bool) → same ≡ bytes_eq written bytes → written ≡ decimal m → m < 2 ^ 64 → ((n : ℕ) → n < 2 ^ 64 → bytes ≡ decimal n → Some m ≡ Some n)
    → MatchOption (then_some same m) ((n : ℕ) → n < 2 ^ 64 → bytes ≢ decimal n) (λ n. (n < 2 ^ 64) × (bytes ≡ decimal n))
compared bytes written m true is spelled small only = (small, grind (arith, bytes_eq-Decides))
compared bytes written m false is spelled small only = λ n below e. let one = some_same m n (only n below e) in grind (arith, bytes_eq-Decides)

pub returns-in_err-ok : goal.returns-in_err-ok
returns-in_err-ok c = rw c.from_residual.ensures (λ n small is.
    let none = refused _ _ c.from_utf8.result (sym c.ok.ensures.value ∙ c.in_err-ok.was) c.from_utf8.ensures.cases in
    none.1.0 (IsUtf8-from_ascii c.args.bytes.now (subst IsAscii (sym is) (IsAscii-decimal n small))))

pub returns-in_err-number : goal.returns-in_err-number
returns-in_err-number c = rw c.from_residual-in_err-number.ensures (λ n small is.
    let text = given _ _ c.from_utf8.result c.in_ok-ok.field-0 c.in_ok-ok.ensures.value c.from_utf8.ensures.cases in
    let read = parse-decimal 64 n c.in_ok-ok.field-0.now c.parse.result small (omega arith) (text.0 ∙ is) c.parse.ensures.value.0 in
    none_some n (sym c.in_err-number.was ∙ c.ok-2.ensures.value ∙ ap result_ok read))

pub returns : goal.returns
returns c =
    let text = given _ _ c.from_utf8.result c.in_ok-ok.field-0 c.in_ok-ok.ensures.value c.from_utf8.ensures.cases in
    rw c.then_some.ensures (compared c.args.bytes.now c.as_bytes.result.now c.in_ok-number.number c.eq.result c.eq.ensures (c.as_bytes.ensures.value ∙ c.format.ensures.text) (omega arith)
    (λ n small is. c.in_ok-number.ensures.value ∙ ap result_ok (parse-decimal 64 n c.in_ok-ok.field-0.now c.parse.result small (omega arith) (text.0 ∙ is) c.parse.ensures.value.0)))
