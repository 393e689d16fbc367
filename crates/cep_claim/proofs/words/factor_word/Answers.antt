use Rattle.std.proofs.Common.{◌≡◌, true, rules, sym, ◌∙◌, subst}
use Rattle.std.proofs.lemmas.Fmt.{signed_decimal_injective}
use Rattle.std.proofs.lemmas.Int.{to_z-of_z}
use mir.Syntax.{w64}
use mir.Val.{SFits}
use Rattle.cep_claim.specs.Factors.{IsFactor}
use Rattle.cep_claim.proofs.Spelled.{small}
use Rattle.cep_claim.proofs.words.factor_word.Goals as goal

pub returns-else-is_factor : goal.returns-else-is_factor
returns-else-is_factor c = λ factor is e.
    let f : SFits w64 c.in_ok-factor.factor = search rules in
    let same : c.in_ok-factor.factor ≡ factor = signed_decimal_injective c.in_ok-factor.factor factor f.sfits (small factor is) (sym c.in_ok-factor.ensures ∙ e) in
    let holds : c.is_factor.result ≡ true = c.is_factor.ensures.1 (subst IsFactor (sym same ∙ sym (to_z-of_z w64 c.in_ok-factor.factor f)) is) in
    absurd (cc (holds, c.if-is_factor.false))
