use Rattle.cep_parse.proofs.ParsedOnce.{parsed}
use Rattle.cep_parse.proofs.laws.all_tokens_are_parsed.Goals as goal

pub returns : goal.returns
returns c = parsed
