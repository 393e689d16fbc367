use Rattle.cep_run.proofs.RunThere.{offer_done}
use Rattle.cep_run.proofs.laws.offers_can_be_done.Goals as goal

pub returns : goal.returns
returns c = offer_done c.edits_are_steps.ensures.whole
