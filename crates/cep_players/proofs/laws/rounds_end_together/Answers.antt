use Rattle.cep_players.proofs.BlockedLines.{IsPermutation-refl, start_of, whole_supply, admitted}
use Rattle.cep_players.proofs.RoundsThere.{deeds_done, together}
use Rattle.cep_players.proofs.laws.rounds_end_together.Goals as goal

pub returns-clause-rounds : goal.returns-clause-rounds
returns-clause-rounds c = λ program settings players at last from to round kept is done.
    c.rounds_are_lawful.ensures.last program settings.height at.spot.state last.spot.state round.chosen (admitted round.chosen round.flags) round.flags kept is done.choice.flagged
    (IsPermutation-refl (admitted round.chosen round.flags)) (rw done.all at (deeds_done c.players_are_lawful.ensures.rounds program settings.height at round.deeds last done.done))

pub returns-clause-dialogues : goal.returns-clause-dialogues
returns-clause-dialogues c = λ program settings players come rest parts end word last events kept said.
    together c.players_are_lawful.ensures.rounds program settings players kept
    (λ at last from to round is done. returns-clause-rounds c program settings players at last from to round kept is done)
    (start_of program) (whole_supply come) parts said.run.here said.run.between kept.start said.run.done
