use Rattle.cep_run.proofs.RunThere.{there_laws, question_begins, turn_begins}
use Rattle.cep_run.proofs.laws.runs_go_on.Goals as goal

pub returns : goal.returns
returns c =
    let laws = there_laws c.steps_lead_to_states.ensures c.offers_are_there.ensures c.edits_are_steps.ensures.whole c.drawn_places_are_within.ensures in
    record {
      questions = λ program settings at from question to kept is_state asks. question_begins laws program settings kept at from question to is_state asks;
      turns = λ program settings at from turn kept is_state is. turn_begins laws program settings kept at from turn is_state is;
    }
