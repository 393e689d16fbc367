use Rattle.cep_run.proofs.RunThere.{there_laws, question_leads}
use Rattle.cep_run.proofs.laws.questions_lead_on.Goals as goal

pub returns : goal.returns
returns c = λ program settings at from question to kept is_state asks.
    question_leads (there_laws c.steps_lead_to_states.ensures c.offers_are_there.ensures c.edits_are_steps.ensures.whole c.drawn_places_are_within.ensures) program settings kept at from question to is_state asks
