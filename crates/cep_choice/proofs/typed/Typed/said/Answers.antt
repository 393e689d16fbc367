use Rattle.cep_choice.proofs.LineBytes.{says_none}
use Rattle.cep_choice.proofs.typed.Typed.said.Goals as goal

pub returns-in-Empty-clause-says : goal.returns-in-Empty-clause-says
returns-in-Empty-clause-says c n line small within reads = says_none n c.args.self line small c.in-Empty.is reads
