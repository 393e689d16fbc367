use Rattle.cep_parse.proofs.ParsedOnce as once
use Rattle.cep_parse.proofs.laws.parsed_once.Goals as goal

pub returns : goal.returns
returns c = once.parsed_once c.one_raw_file.ensures
