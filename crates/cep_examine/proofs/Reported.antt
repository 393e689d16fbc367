-- What is reported of a text, of a file and of a transcript.
use Rattle.std.proofs.Common.{◌≡◌, inl, inr, ℕ, ◌+◌, ◌<◌, ◌≤◌, List, ◌++◌, length, refl, sym, ap, subst, arith, Option, Some}
use Rattle.std.specs.Prelude.{codes, decimal, replicate, Err, Result, IfOk}
use Rattle.std.specs.Option.{IsSomeAnd}
use Rattle.std.proofs.lemmas.List.{length-replicate}
use Rattle.cep_base.specs.declared.limits.TheConstants.{MOST_LOG}
use Rattle.cep_base.specs.Files.{Files, HasFile, HasLongerFile}
use Rattle.cep_rule.specs.declared.parts.Parts.{Parts}
use Rattle.cep_refusal.specs.declared.fault.Fault.{Fault}
use Rattle.cep_refusal.specs.declared.refusal.Refusal.{Refusal}
use Rattle.cep_refusal.specs.Told.{Tells}
use Rattle.cep_ground.specs.Texts.{Spells}
use Rattle.cep_ground.specs.Refusals.{IsWrong, IsRefusedFor, IsAccepted}
use Rattle.cep_words.specs.declared.request.Task.{Task}
use Rattle.cep_words.specs.declared.request.Task.TheVariants.{Check, Renew, Weigh}
use Rattle.cep_log.specs.declared.log.Log.{Log}
use Rattle.cep_log.specs.declared.fault.LogFault.{LogFault}
use Rattle.cep_log.specs.Legal.{IsLegal}
use Rattle.cep_log.specs.Transcript.{HasLog, HasMisfit}
use Rattle.cep_log.specs.Written.{text_of, IsRenewal}
use Rattle.cep_check.specs.declared.cause.Cause.{Cause}
use Rattle.cep_check.specs.declared.cause.Verdict.{Verdict}
use Rattle.cep_check.specs.declared.cause.Verdict.TheVariants as verdicts
use Rattle.cep_check.specs.Causes.{IsLogRefused, IsVerdict}
use Rattle.cep_check.specs.Telling.{verdict_text, fault_text}
use Rattle.cep_cause.specs.Renewed.{IsTooLongRenewed}
use Rattle.cep_examine.specs.Exchange.{Loaded, IsRead}
use Rattle.cep_examine.specs.Report.{Report, line_report}
use Rattle.cep_examine.specs.Loading.{refusal_text, IsRefusal, IsFoundInText, IsFoundInFile}
use Rattle.cep_examine.specs.Check.{Rejects, too_long_text}
use Rattle.cep_examine.specs.Renew.{Renews}
use Rattle.cep_examine.specs.Reports.{ReportsWhy, Reports, most_of}
use Rattle.cep_examine.specs.Outcome.{verdict_code, verdict_report, IsRenewalReport, IsLegalReport, IsLogReport}

-- the report of a refusal
pub text_refused : (text : List ℕ) (refusal : Refusal) (report : Report) → ((text : List ℕ) (parts : Parts) (fault : Fault) → Spells text parts → ¬ (IsWrong text fault))
    → ((text : List ℕ) (one other : Fault) → IsRefusedFor text one → IsRefusedFor text other → one ≡ other) → ((text : List ℕ) (fault : Fault) (one other : Refusal) → Tells text fault one → Tells text fault other → one ≡ other)
    → IsAccepted text (Err refusal) → report ≡ line_report (refusal_text refusal) 3 → IsRefusal text report
text_refused text refusal report never one_fault one_told (fault, refused, tells) is = record {
  fault = fault;
  refusal = refusal;
  refused = refused;
  tells = tells;
  alone = λ other told refused' tells'. one_told text fault told refusal (subst (λ f. Tells text f told) (one_fault text other fault refused' refused) tells') tells;
  no_program = λ program spells. never text program fault spells refused.holds;
  is = is;
}

-- what is found in a text is found in a file that has it
pub found_in : {E : Type 0} (loads : Loaded) (file text : List ℕ) (answer : Result (Result Parts Report) E) → HasFile loads.files file text → IsRead loads → IfOk answer (IsFoundInText text) → IfOk answer (IsFoundInFile loads file)
found_in loads file text answer has read found = grind arith

-- bytes that are no legal transcript, for any task on one
why_reported : (task : Task) (program : Parts) (bytes : List ℕ) (report : Report) → ¬ (task ≡ Weigh) → ReportsWhy program bytes report → Reports task program bytes report
why_reported task program bytes report of_log why = grind arith

module _ (program : Parts) (bytes : List ℕ) (log : Log) (short : length bytes ≤ MOST_LOG) (has : HasLog program bytes log) (once : (one other : Log) → HasLog program bytes one → HasLog program bytes other → one ≡ other)
    (never : (line : ℕ) (cause : Cause) → IsLogRefused program log line cause → ¬ (IsLegal program log)) where
  -- a log that is refused
  refused_log : (at : ℕ) (cause : Cause) → IsLogRefused program log at cause → Rejects program bytes (verdict_text program (verdicts.Refused at cause))
  refused_log at cause is = record { no_legal = λ other legal. never at cause is (subst (IsLegal program) (once other log legal.1 has) legal.2); why = inr (inr (log, at, cause, has, is, refl)) }

  -- a verdict on a log that was read
  verdict_reported : (verdict : Verdict) → IsVerdict program log verdict → Reports Check program bytes (verdict_report program verdict)
  verdict_reported (verdicts.Accepted steps) is = inl (codes "accepted " ++ decimal steps, (log, (short, has, is.0), ap (λ n. codes "accepted " ++ decimal n) is.1), refl)
  verdict_reported (verdicts.Refused at cause) is = inr (verdict_text program (verdicts.Refused at cause), refused_log at cause is, refl)

  refusal_reported : (verdict : Verdict) → IsVerdict program log verdict → verdict_code verdict ≡ 1 → ReportsWhy program bytes (verdict_report program verdict)
  refusal_reported verdict is same = grind (arith, refused_log)

  module _ (one_text : (old one other : Log) → IsRenewal program old one → IsRenewal program old other → text_of program one ≡ text_of program other) where
    -- no text is that of a log whose new text is too long
    no_renewed : IsTooLongRenewed program log → (text : List ℕ) → ¬ (Renews program bytes text)
    no_renewed too text (other, legal, is) = grind (arith, once other log legal.1 has, one_text log too.new is.new too.renews (subst (λ (old : Log). IsRenewal program old is.new) (once other log legal.1 has) is.renews), too.long, is.read.short)

    renewal_reported : (report : Report) → IsLegal program log → IsRenewalReport program log report → Reports Renew program bytes report
    renewal_reported report legal (inl (text, is, same)) = inl (text, (log, (short, has, legal), is), same)
    renewal_reported report legal (inr (long, same)) = inr (inr (record { log = log; legal = (short, has, legal); long = long; no_text = no_renewed long }, same))

    -- the report of a legal log
    legal_reported : (task : Task) (report : Report) → IsLegal program log → IsLegalReport task program log report → Reports task program bytes report
    legal_reported Check report legal (verdict, is, same) = subst (Reports Check program bytes) (sym same) (verdict_reported verdict is)
    legal_reported Renew report legal is = renewal_reported report legal is
    legal_reported Weigh report legal is = absurd is
    legal_reported task report legal is = grind arith

    -- the report of a log that was read
    pub log_reported : (task : Task) (report : Report) → ¬ (task ≡ Weigh) → IsLogReport task program log report → Reports task program bytes report
    log_reported task report of_log given = grind (arith, legal_reported, why_reported, refusal_reported)

-- bytes that are no transcript
pub misfit_reported : (task : Task) (program : Parts) (bytes : List ℕ) (fault : LogFault) (report : Report) → ¬ (task ≡ Weigh) → HasMisfit program bytes fault
    → ((log : Log) → HasLog program bytes log → ¬ (HasMisfit program bytes fault)) → report ≡ line_report (fault_text fault) 1 → Reports task program bytes report
misfit_reported task program bytes fault report of_log misfit apart same =
    subst (Reports task program bytes) (sym same)
    (why_reported task program bytes _ of_log (fault_text fault, record { no_legal = λ log legal. apart log legal.1 misfit; why = inr (inl (fault, misfit, refl)) }, refl))

-- bytes that are too many
too_many : (program : Parts) (bytes : List ℕ) → MOST_LOG < length bytes → Rejects program bytes too_long_text
too_many program bytes long = record { no_legal = λ log legal. (let short = legal.0 in absurd (omega (arith, long, short))); why = inl (long, refl) }

pub long_reported : (task : Task) (program : Parts) (bytes : List ℕ) → most_of task < length bytes → Reports task program bytes (line_report too_long_text 1)
long_reported Renew program bytes long = inr (inl (too_long_text, too_many program bytes long, refl))
long_reported Weigh program bytes long = inl (long, refl)
long_reported task program bytes long = inr (too_long_text, too_many program bytes long, refl)

-- a text that is too long, for a shelf that tells none
long_text : (n : ℕ) → (text : List ℕ) × (n < length text)
long_text n = (replicate (n + 1) 0, simp length-replicate (omega arith))

long_there : (found : Option (List ℕ)) (most : ℕ) → IsSomeAnd found (λ bytes. most < length bytes) → (text : List ℕ) × (found ≡ Some text) × (most < length text)
long_there found most is = grind arith

-- some text of the file is too long: the one that is there, where the files are told
pub longer_file : (files : Option Files) (name : List ℕ) (most : ℕ) → HasLongerFile files name most → (text : List ℕ) × HasFile files name text × (most < length text)
longer_file files name most has = grind (arith, long_text most, long_there)
