use Rattle.cep_parse.specs.Symbols.{symbols_of}
use Rattle.cep_ground.proofs.OneAnswer.{program_once}
use Rattle.cep_ground.proofs.laws.one_program.Goals as goal

pub returns : goal.returns
returns c = program_once c.lexed_once.ensures (λ text tokens one other. c.one_raw_file.ensures (symbols_of text tokens) one other)
