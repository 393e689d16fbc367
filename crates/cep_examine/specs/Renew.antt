-- What the transcript in bytes is renewed into.
use Rattle.std.specs.Prelude.{ℕ, List, codes}
use Rattle.cep_rule.specs.declared.parts.Parts.{Parts}
use Rattle.cep_log.specs.declared.log.Log.{Log}
use Rattle.cep_cause.specs.Renewed.{IsRenewedText, IsTooLongRenewed}
use Rattle.cep_examine.specs.Check.{IsLegalTranscript}

-- The bytes are a legal transcript, and the text is that of its log renewed.
abbrev pub Renews : Parts → List ℕ → List ℕ → Type 0
Renews program bytes text = (log : Log) × IsLegalTranscript program bytes log × IsRenewedText program log text

-- The bytes are a legal transcript, the text of its log renewed is longer than a transcript may be, and no other text is that.
pub record RenewsTooLong (program : Parts) (bytes : List ℕ) : Type 0 where
  pub log : Log
  pub legal : IsLegalTranscript program bytes log
  pub long : IsTooLongRenewed program log
  pub no_text : (text : List ℕ) → ¬ (Renews program bytes text)

abbrev pub new_too_long_text : List ℕ
new_too_long_text = codes "refused 0 NewTooLong"
