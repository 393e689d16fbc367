-- What a check tells of the bytes of a transcript.
use Rattle.std.specs.Prelude.{◌≡◌, ◌⊎◌, ℕ, ◌≤◌, ◌<◌, List, ◌++◌, length, codes, decimal}
use Rattle.cep_base.specs.declared.limits.TheConstants.{MOST_LOG}
use Rattle.cep_rule.specs.declared.parts.Parts.{Parts}
use Rattle.cep_log.specs.declared.log.Log.{Log}
use Rattle.cep_log.specs.declared.fault.LogFault.{LogFault}
use Rattle.cep_log.specs.Legal.{IsLegal}
use Rattle.cep_log.specs.Transcript.{HasLog, HasMisfit}
use Rattle.cep_check.specs.declared.cause.Cause.{Cause}
use Rattle.cep_check.specs.Causes.{IsLogRefused}
use Rattle.cep_check.specs.Telling.{cause_text, refused_text, fault_text}

-- The bytes are a transcript of at most 67,108,864 bytes, and its log is legal.
abbrev pub IsLegalTranscript : Parts → List ℕ → Log → Type 0
IsLegalTranscript program bytes log = (length bytes ≤ MOST_LOG) × HasLog program bytes log × IsLegal program log

-- The bytes are a legal transcript, and the line tells how many steps it has.
abbrev pub Accepts : Parts → List ℕ → List ℕ → Type 0
Accepts program bytes text = (log : Log) × IsLegalTranscript program bytes log × (text ≡ codes "accepted " ++ decimal (length log.steps))

abbrev pub too_long_text : List ℕ
too_long_text = codes "refused 0 TooLong"

-- The line tells why the bytes are not accepted: they are too many; they are not, and are no transcript, and this is the first misfit; or their log is refused at this line for this cause.
abbrev pub TellsWhy : Parts → List ℕ → List ℕ → Type 0
TellsWhy program bytes text =
    ((MOST_LOG < length bytes) × (text ≡ too_long_text))
    ⊎ (((fault : LogFault) × HasMisfit program bytes fault × (text ≡ fault_text fault))
    ⊎ ((log : Log) × (number : ℕ) × (cause : Cause) × HasLog program bytes log × IsLogRefused program log number cause × (text ≡ refused_text number (cause_text program cause))))

-- The bytes are no legal transcript, and the line tells why.
pub record Rejects (program : Parts) (bytes : List ℕ) (text : List ℕ) : Type 0 where
  pub no_legal : (log : Log) → ¬ (IsLegalTranscript program bytes log)
  pub why : TellsWhy program bytes text
