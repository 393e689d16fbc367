-- The lines that say which file could not be read.
use Rattle.std.specs.Prelude.{ℕ, List, codes}
use Rattle.cep_words.specs.declared.request.Task.{Task}
use Rattle.cep_words.specs.declared.request.Task.TheVariants.{Check, Renew, Cause, Again, Weigh}

abbrev pub no_program : List ℕ
no_program = codes "cannot read program"

abbrev pub no_transcript : List ℕ
no_transcript = codes "cannot read transcript"

abbrev pub no_claims : List ℕ
no_claims = codes "cannot read claims"

-- that the second file of a task could not be read
abbrev pub no_second : Task → List ℕ
no_second Check = no_transcript
no_second Renew = no_transcript
no_second Cause = no_transcript
no_second (Again seed) = no_transcript
no_second Weigh = no_claims
