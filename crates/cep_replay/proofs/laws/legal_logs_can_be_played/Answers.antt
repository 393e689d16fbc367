use Rattle.cep_replay.proofs.Playing.{played}
use Rattle.cep_replay.proofs.laws.legal_logs_can_be_played.Goals as goal

pub returns : goal.returns
returns c = λ program settings log typed.
    played c.lines_are_read_as_written.ensures.numbers c.one_state_after_a_step.ensures.state program settings log typed
    (c.one_dialogue.ensures.but_for_proofs program settings typed)
