use Rattle.cep_players.proofs.OneInRounds.{one_dialogue}
use Rattle.cep_players.proofs.laws.one_dialogue_in_rounds.Goals as goal

pub returns : goal.returns
returns c = λ program settings players.
    one_dialogue c.one_list_of_offers.ensures c.one_state_after_a_step.ensures.state c.one_choice_is_heard.ensures.one c.one_state_after_a_round.ensures.flags
    program settings players
