use Rattle.std.proofs.Common.{rules}
use Rattle.cep_players.proofs.acting.place_in.Goals as goal

pub returns-in-Some : goal.returns-in-Some
returns-in-Some g c = search rules
