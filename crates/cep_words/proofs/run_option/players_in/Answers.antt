use Rattle.std.proofs.Common.{rules}
use Rattle.cep_words.proofs.run_option.players_in.Goals as goal

pub returns : goal.returns
returns c = search rules
