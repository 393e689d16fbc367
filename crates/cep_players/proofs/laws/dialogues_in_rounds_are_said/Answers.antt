use Rattle.cep_players.proofs.BlockedLines.{start_of, whole_supply}
use Rattle.cep_players.proofs.laws.dialogues_in_rounds_are_said.Goals as goal

pub returns : goal.returns
returns c = λ program settings players word come events rest kept height (parts, end, last, dialogue). record {
  parts = parts;
  end = end;
  last = last;
  dialogue = dialogue;
  deeds = c.rounds_are_deeds.ensures.deeds program settings players (start_of program) last (whole_supply come) dialogue.left parts end word dialogue.run;
  together = c.rounds_end_together.ensures.dialogues program settings players come rest parts end word last events kept dialogue;
  logged = λ short. let (log, has, holds, legal, many) = c.rounds_have_logs.ensures program settings players come rest parts end word last events kept height dialogue short in (log, has, legal, many);
  only = λ parts' end' word' last' events' rest' other. c.one_dialogue_in_rounds.ensures program settings players come rest' rest parts' parts end' end word' word last' last events' events other dialogue;
}
