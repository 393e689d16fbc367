use Rattle.cep_lex.proofs.Unique.{lexed_one}
use Rattle.cep_lex.proofs.laws.lexed_once.Goals as goal

pub returns : goal.returns
returns c = lexed_one
