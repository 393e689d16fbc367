use Rattle.std.proofs.Common.{arith}
use Rattle.std.proofs.lemmas.Grind.{common_steps}
use Rattle.cep_infer.proofs.RulesInTurn.{none_left}
use Rattle.cep_infer.proofs.terms.read_atom.Goals as goal

pub returns : goal.returns
returns c = grind (arith, common_steps, none_left _ _ _ c.requires c.in_ok-args.ensures.filled)
