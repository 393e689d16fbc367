-- Private.
-- What is reported of a log, before it is said of the bytes that it was read from.
use Rattle.std.specs.Prelude.{◌≡◌, ◌⊎◌, ℕ, List, unwrap_or}
use Rattle.cep_base.specs.declared.limits.TheConstants.{DEFAULT_SEED}
use Rattle.cep_rule.specs.declared.parts.Parts.{Parts}
use Rattle.cep_lines.specs.Lines.{line}
use Rattle.cep_words.specs.declared.request.Task.{Task}
use Rattle.cep_words.specs.declared.request.Task.TheVariants.{Check, Renew, Cause, Again, Weigh}
use Rattle.cep_log.specs.declared.log.Log.{Log}
use Rattle.cep_log.specs.Legal.{IsLegal}
use Rattle.cep_check.specs.declared.cause.Verdict.{Verdict}
use Rattle.cep_check.specs.declared.cause.Verdict.TheVariants as verdicts
use Rattle.cep_check.specs.Causes.{IsVerdict}
use Rattle.cep_check.specs.Telling.{verdict_text}
use Rattle.cep_cause.specs.Renewed.{IsRenewedText, IsTooLongRenewed}
use Rattle.cep_examine.specs.Report.{Report, line_report}
use Rattle.cep_examine.specs.Renew.{new_too_long_text}
use Rattle.cep_examine.specs.Cause.{ReportsGraph}
use Rattle.cep_examine.specs.Again.{ReportsReordering}

-- the status and the report of a verdict
abbrev pub verdict_code : Verdict → ℕ
verdict_code (verdicts.Accepted steps) = 0
verdict_code (verdicts.Refused at cause) = 1

abbrev pub verdict_report : Parts → Verdict → Report
verdict_report program verdict = record { written = line (verdict_text program verdict); code = verdict_code verdict }

-- what is reported of a legal log that is renewed: its new text, or that this is too long
abbrev pub IsRenewalReport : Parts → Log → Report → Type 0
IsRenewalReport program log report =
    ((text : List ℕ) × IsRenewedText program log text × (report ≡ record { written = text; code = 0 }))
    ⊎ (IsTooLongRenewed program log × (report ≡ line_report new_too_long_text 1))

-- what is reported of a legal log, for a task
abbrev pub IsLegalReport : Task → Parts → Log → Report → Type 0
IsLegalReport Check program log report = (verdict : Verdict) × IsVerdict program log verdict × (report ≡ verdict_report program verdict)
IsLegalReport Renew program log report = IsRenewalReport program log report
IsLegalReport Cause program log report = ReportsGraph program log report
IsLegalReport (Again seed) program log report = ReportsReordering program log (unwrap_or seed DEFAULT_SEED) report
IsLegalReport Weigh program log report = ⊥

-- What is reported of a log: that, or why it is refused.
abbrev pub IsLogReport : Task → Parts → Log → Report → Type 0
IsLogReport task program log report =
    (IsLegal program log × IsLegalReport task program log report)
    ⊎ ((verdict : Verdict) × IsVerdict program log verdict × (verdict_code verdict ≡ 1) × (report ≡ verdict_report program verdict))
