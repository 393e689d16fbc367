-- Claims that are judged one after another.
use Rattle.std.proofs.Common.{◌≡◌, ℕ, ◌+◌, ◌<◌, List, [], ◌∷◌, ◌++◌, length, map, take, get_or, refl, ap, sym, ◌∙◌, Option, None, Some, arith}
use Rattle.std.specs.Prelude.{MatchOption}
use Rattle.std.specs.List.{AllByRecursion, flat_map}
use Rattle.std.proofs.lemmas.List.{map-append, take_more, flat_map_more}
use Rattle.cep_base.proofs.Lists.{all_pushed}
use Rattle.cep_rule.specs.declared.parts.Parts.{Parts}
use Rattle.cep_report.specs.ClaimLines.{claim_lines_of}
use Rattle.cep_claim.specs.declared.weight.Weight.{Weight}
use Rattle.cep_weigh.specs.declared.against.Against.{Against}
use Rattle.cep_examine.specs.declared.report.Status.{Status}
use Rattle.cep_examine.specs.Report.{code_of}
use Rattle.cep_examine.specs.Claims.{claims_code, IsJudged}

abbrev pub Judged : Type 0
Judged = Weight × Option Against

abbrev lines_of : Parts → Judged → List ℕ
lines_of program one = claim_lines_of program one.0 one.1

-- the lines of these claims were written, and this is the status after them
pub record AreTold (program : Parts) (weights : List Weight) (text : List ℕ) (status : Status) : Type 0 where
  pub judged : List Judged
  pub each : map (λ one. one.0) judged ≡ weights
  pub right : AllByRecursion (λ one. IsJudged program one.0 one.1) judged
  pub text_is : text ≡ flat_map (lines_of program) judged
  pub status_is : code_of status ≡ claims_code (map (λ one. one.1) judged)

code_kept : (judged : List Judged) (weight : Weight) → claims_code (map (λ one. one.1) (judged ++ (weight, None) ∷ [])) ≡ claims_code (map (λ one. one.1) judged)
code_kept ((first, None) ∷ judged) weight = code_kept judged weight
code_kept judged weight = refl

code_broken : (judged : List Judged) (weight : Weight) (against : Against) → claims_code (map (λ one. one.1) (judged ++ (weight, Some against) ∷ [])) ≡ 5
code_broken ((first, None) ∷ judged) weight against = code_broken judged weight against
code_broken judged weight against = refl

code_after : (judged : List Judged) (weight : Weight) (verdict : Option Against) (status status' : Status) → code_of status ≡ claims_code (map (λ one. one.1) judged) → MatchOption verdict (status' ≡ status) (λ _. code_of status' ≡ 5)
    → code_of status' ≡ claims_code (map (λ one. one.1) (judged ++ (weight, verdict) ∷ []))
code_after judged weight verdict status status' was is = grind (arith, code_kept, code_broken)

-- one claim more
pub one_told : (program : Parts) (weights : List Weight) (i : ℕ) (weight : Weight) (verdict : Option Against) (text text' : List ℕ) (status status' : Status) → i < length weights → weight ≡ get_or weights i weight → AreTold program (take i weights) text status
    → IsJudged program weight verdict → text' ≡ text ++ claim_lines_of program weight verdict → MatchOption verdict (status' ≡ status) (λ _. code_of status' ≡ 5) → AreTold program (take (i + 1) weights) text' status'
one_told program weights i weight verdict text text' status status' within here told right written after = record {
  judged = told.judged ++ (weight, verdict) ∷ [];
  each = map-append (λ one. one.0) told.judged ((weight, verdict) ∷ []) ∙ ap (λ ws. ws ++ weight ∷ []) told.each ∙ ap (λ w. take i weights ++ w ∷ []) here ∙ sym (take_more weights i weight within);
  right = all_pushed (λ one. IsJudged program one.0 one.1) told.judged (weight, verdict) told.right right;
  text_is = written ∙ ap (λ xs. xs ++ claim_lines_of program weight verdict) told.text_is ∙ flat_map_more (lines_of program) [] told.judged (weight, verdict);
  status_is = code_after told.judged weight verdict status status' told.status_is after;
}
