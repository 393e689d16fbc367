use Rattle.std.proofs.Common.{rules}
use Rattle.cep_words.proofs.options.Options.with.Goals as goal

pub returns-in-None : goal.returns-in-None
returns-in-None c = search rules
