use Rattle.cep_lex.proofs.Lexed.{lexed}
use Rattle.cep_lex.proofs.laws.every_text_is_lexed.Goals as goal

pub returns : goal.returns
returns c = lexed
