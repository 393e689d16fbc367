use Rattle.cep_players.proofs.RoundsThere.{run_deeds, run_quiet}
use Rattle.cep_players.proofs.laws.rounds_are_deeds.Goals as goal

pub returns-clause-deeds : goal.returns-clause-deeds
returns-clause-deeds c program settings players at last from to parts end word run = run_deeds program settings players at from parts end word last to run

pub returns-clause-quiet : goal.returns-clause-quiet
returns-clause-quiet c program settings players at last from to parts end word run = run_quiet program settings players at from parts end word last to run
