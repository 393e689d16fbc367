-- What is reported of a second file, against a program.
use Rattle.std.specs.Prelude.{◌≡◌, ◌⊎◌, ℕ, List, unwrap_or}
use Rattle.cep_base.specs.declared.limits.TheConstants.{DEFAULT_SEED, MOST_LOG}
use Rattle.cep_rule.specs.declared.parts.Parts.{Parts}
use Rattle.cep_log.specs.declared.log.Log.{Log}
use Rattle.cep_words.specs.declared.request.Task.{Task}
use Rattle.cep_words.specs.declared.request.Task.TheVariants.{Check, Renew, Cause, Again, Weigh}
use Rattle.cep_claim.specs.declared.limits.TheConstants.{MOST_CLAIMS}
use Rattle.cep_examine.specs.Exchange.{Loaded, IsUnread, IsRead}
use Rattle.cep_examine.specs.Report.{Report, line_report}
use Rattle.cep_examine.specs.Unread.{no_second}
use Rattle.cep_examine.specs.Loading.{OfFile}
use Rattle.cep_examine.specs.Check.{IsLegalTranscript, Accepts, Rejects}
use Rattle.cep_examine.specs.Renew.{Renews, RenewsTooLong, new_too_long_text}
use Rattle.cep_examine.specs.Cause.{ReportsGraph}
use Rattle.cep_examine.specs.Again.{ReportsReordering}
use Rattle.cep_examine.specs.Claims.{ReportsWeighing}

-- the bytes are no legal transcript, and the report is the line that says why
abbrev pub ReportsWhy : Parts → List ℕ → Report → Type 0
ReportsWhy program bytes report = (text : List ℕ) × Rejects program bytes text × (report ≡ line_report text 1)

-- the bytes are a legal transcript, and P holds of its log
abbrev pub OfLegalLog : Parts → List ℕ → (Log → Type 0) → Type 0
OfLegalLog program bytes P = (log : Log) × IsLegalTranscript program bytes log × P log

-- What is reported of the bytes of a second file. A transcript that is checked: how many steps it has, or why it is not accepted. One that is renewed: its new text, or why it is not accepted, or that the new text is too long. One whose graph is listed: the lines of that, or why it is not accepted. One whose steps are done again: what it comes to in the order that the seed gives, or why it is not accepted. A file of claims: each claim judged, or why it is none.
abbrev pub Reports : Task → Parts → List ℕ → Report → Type 0
Reports Check program bytes report =
    ((text : List ℕ) × Accepts program bytes text × (report ≡ line_report text 0)) ⊎ ReportsWhy program bytes report
Reports Renew program bytes report =
    ((text : List ℕ) × Renews program bytes text × (report ≡ record { written = text; code = 0 }))
    ⊎ (ReportsWhy program bytes report ⊎ (RenewsTooLong program bytes × (report ≡ line_report new_too_long_text 1)))
Reports Cause program bytes report =
    OfLegalLog program bytes (λ log. ReportsGraph program log report) ⊎ ReportsWhy program bytes report
Reports (Again seed) program bytes report =
    OfLegalLog program bytes (λ log. ReportsReordering program log (unwrap_or seed DEFAULT_SEED) report) ⊎ ReportsWhy program bytes report
Reports Weigh program bytes report = ReportsWeighing program bytes report

-- the most bytes of the second file of a task
abbrev pub most_of : Task → ℕ
most_of Check = MOST_LOG
most_of Renew = MOST_LOG
most_of Cause = MOST_LOG
most_of (Again seed) = MOST_LOG
most_of Weigh = MOST_CLAIMS

-- this is reported of the second file, which may be one that could not be read
abbrev pub ReportsSecond : Loaded → Task → Parts → List ℕ → Report → Type 0
ReportsSecond loads task program log report =
    (OfFile loads.files log (λ bytes. Reports task program bytes report) × IsRead loads)
    ⊎ (IsUnread loads × (report ≡ line_report (no_second task) 7))
