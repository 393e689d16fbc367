use Rattle.cep_run.proofs.RunThere.{there_laws, runs_there}
use Rattle.cep_run.proofs.laws.runs_are_there.Goals as goal

pub returns : goal.returns
returns c = λ program settings at from kept.
    runs_there (there_laws c.steps_lead_to_states.ensures c.offers_are_there.ensures c.edits_are_steps.ensures.whole c.drawn_places_are_within.ensures) program settings kept at from
