-- What renewing a log comes to.
use Rattle.std.specs.Prelude.{◌≡◌, ℕ, ◌<◌, List, length}
use Rattle.cep_base.specs.declared.limits.TheConstants.{MOST_LOG}
use Rattle.cep_rule.specs.declared.parts.Parts.{Parts}
use Rattle.cep_log.specs.declared.log.Log.{Log}
use Rattle.cep_log.specs.Transcript.{HasLog}
use Rattle.cep_log.specs.Written.{text_of, IsRenewal}

-- The text is a log's in version 2: it is a transcript of that log renewed, as it is written, with
-- no line that is passed over.
pub record IsRenewedText (program : Parts) (old : Log) (text : List ℕ) : Type 0 where
  pub new : Log
  pub renews : IsRenewal program old new
  pub read : HasLog program text new
  pub written : text ≡ text_of program new

-- No transcript is a log's in version 2, since the text of that log renewed is too long.
pub record IsTooLongRenewed (program : Parts) (old : Log) : Type 0 where
  pub new : Log
  pub renews : IsRenewal program old new
  pub long : MOST_LOG < length (text_of program new)
