use Rattle.std.proofs.Common.{arith}
use Rattle.cep_step.proofs.Entries.{taken_behind, room_for_gains}
use Rattle.cep_step.proofs.spot.edit.Goals as goal

pub add_all-requires-clause-few : goal.add_all-requires-clause-few
add_all-requires-clause-few c = grind (arith, room_for_gains)

pub returns : goal.returns
returns c = grind (arith, taken_behind)
