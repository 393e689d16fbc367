use Rattle.cep_players.proofs.RoundsThere.{dialogue_there}
use Rattle.cep_players.proofs.laws.dialogues_in_rounds_are_there.Goals as goal

pub returns : goal.returns
returns c = λ program settings players come kept some. dialogue_there program settings players c.players_are_lawful.ensures kept some come
