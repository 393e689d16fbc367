use Rattle.std.proofs.Common.{rules}
use Rattle.cep_words.proofs.number.begins_as_decimal.Goals as goal

pub returns-in-len2-up : goal.returns-in-len2-up
returns-in-len2-up c = search rules
