use Rattle.std.proofs.Common.{◌≡◌, true, false, List, ℕ, sym, ap, subst, ◌∙◌, bytes_eq}
use Rattle.std.specs.Fmt.{signed_decimal}
use Rattle.std.specs.Str.{IsAscii}
use Rattle.std.proofs.lemmas.Fmt.{IsAscii-signed, parse-signed_decimal}
use Rattle.std.proofs.lemmas.Str.{IsUtf8-from_ascii}
use Rattle.std.proofs.lemmas.Slice.Eq.{bytes_eq-Decides}
use Rattle.std.proofs.lemmas.Int.{to_z-of_z}
use mir.Syntax.{w64}
use mir.Val.{to_z, of_z}
use Rattle.cep_claim.proofs.Spelled.{small, fits}
use Rattle.cep_claim.proofs.words.number_word.Goals as goal

not_same : (a b : List ℕ) → bytes_eq a b ≡ false → a ≡ b → ⊥
not_same a b t e = let same : bytes_eq a b ≡ true = (bytes_eq-Decides a b).1 e in absurd cc

pub returns-in_default : goal.returns-in_default
returns-in_default c = λ z is e.
    c.in_default.ensures.cases.0 (IsUtf8-from_ascii c.args.word.now (subst IsAscii (sym e) (IsAscii-signed z (small z is))))

pub returns-in_default-parse : goal.returns-in_default-parse
returns-in_default-parse c = λ z is e.
    c.in_default-parse.not-Ok z (parse-signed_decimal _ z c.in-Ok.text.now c.parse.result (fits z is) (small z is) (c.in-Ok.ensures.cases.0 ∙ e) c.parse.ensures.value.0)

pub returns-else-eq : goal.returns-else-eq
returns-else-eq c = λ z is e.
    let parsed = parse-signed_decimal _ z c.in-Ok.text.now c.parse.result (fits z is) (small z is) (c.in-Ok.ensures.cases.0 ∙ e) c.parse.ensures.value.0 in
    let same : c.in-Ok-parse.number ≡ z = cc (parsed, c.in-Ok-parse.is) in
    not_same c.as_bytes.result.now c.args.word.now (sym c.eq.ensures ∙ c.if-eq.false) (c.as_bytes.ensures.value ∙ c.format.ensures.text ∙ ap signed_decimal (ap (λ n. to_z w64 (of_z w64 n)) same ∙ to_z-of_z w64 z (fits z is)) ∙ sym e)
