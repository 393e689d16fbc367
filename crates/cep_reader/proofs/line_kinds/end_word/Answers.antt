use Rattle.std.proofs.Common.{arith}
use Rattle.std.proofs.lemmas.Grind.{common_steps}
use Rattle.cep_reader.proofs.line_kinds.end_word.Goals as goal

pub returns-in-atom : goal.returns-in-atom
returns-in-atom c = grind (arith, common_steps)

pub returns-in-quiet : goal.returns-in-quiet
returns-in-quiet c = grind (arith, common_steps)

pub returns-in-input : goal.returns-in-input
returns-in-input c = grind (arith, common_steps)

pub returns-in-turns : goal.returns-in-turns
returns-in-turns c = grind (arith, common_steps)

pub returns-in-typed : goal.returns-in-typed
returns-in-typed c = grind (arith, common_steps)

pub returns-in-state : goal.returns-in-state
returns-in-state c = grind (arith, common_steps)
