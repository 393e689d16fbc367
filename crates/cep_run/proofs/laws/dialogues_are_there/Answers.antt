use Rattle.cep_run.proofs.Transcribed.{dialogue_there}
use Rattle.cep_run.proofs.laws.dialogues_are_there.Goals as goal

pub returns : goal.returns
returns c = λ program settings come kept. dialogue_there program settings come kept (λ at from. c.runs_are_there.ensures program settings at from kept)
