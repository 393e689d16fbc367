-- What is reported of a file of claims, against a program.
use Rattle.std.specs.Prelude.{◌≡◌, ◌⊎◌, ℕ, ◌≤◌, ◌<◌, List, [], ◌∷◌, length, map, Option, None, Some, MatchOption}
use Rattle.std.specs.List.{AllByRecursion, flat_map}
use Rattle.cep_rule.specs.declared.parts.Parts.{Parts}
use Rattle.cep_claim.specs.declared.limits.TheConstants.{MOST_CLAIMS}
use Rattle.cep_claim.specs.declared.fault.KeepFault.{KeepFault}
use Rattle.cep_claim.specs.declared.weight.Weight.{Weight}
use Rattle.cep_weigh.specs.declared.against.Against.{Against}
use Rattle.cep_weigh.specs.Weights.{AllKeepTo, IsFirstAgainst}
use Rattle.cep_weigh.specs.Claims.{HasClaims, HasFault}
use Rattle.cep_report.specs.ClaimLines.{claim_fault_text, claim_lines_of}
use Rattle.cep_examine.specs.Report.{Report, line_report}
use Rattle.cep_examine.specs.Check.{too_long_text}

-- Each rule keeps the claim, or this is the first that does not.
abbrev pub IsJudged : Parts → Weight → Option Against → Type 0
IsJudged program weight judged = MatchOption judged (AllKeepTo program weight.claim weight.sum) (IsFirstAgainst program weight.claim weight.sum)

-- the status: 5 if some claim is broken, and else 0
abbrev pub claims_code : List (Option Against) → ℕ
claims_code [] = 0
claims_code (None ∷ later) = claims_code later
claims_code (Some against ∷ later) = 5

-- The report of claims, each judged.
pub record IsReportOfWeights (program : Parts) (weights : List Weight) (report : Report) : Type 0 where
  pub judged : List (Weight × Option Against)
  pub each : map (λ one. one.0) judged ≡ weights
  pub right : AllByRecursion (λ one. IsJudged program one.0 one.1) judged
  pub is : report ≡ record { written = flat_map (λ one. claim_lines_of program one.0 one.1) judged; code = claims_code (map (λ one. one.1) judged) }

-- What is reported of the bytes of a file of claims: they are too many, or no claims, or each claim is judged.
abbrev pub ReportsWeighing : Parts → List ℕ → Report → Type 0
ReportsWeighing program bytes report =
    ((MOST_CLAIMS < length bytes) × (report ≡ line_report too_long_text 1))
    ⊎ (((fault : KeepFault) × (length bytes ≤ MOST_CLAIMS) × HasFault program bytes fault × (report ≡ line_report (claim_fault_text fault) 1))
    ⊎ ((weights : List Weight) × (length bytes ≤ MOST_CLAIMS) × HasClaims program bytes weights × IsReportOfWeights program weights report))
