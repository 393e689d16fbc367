use Rattle.cep_run.proofs.OneDialogue.{one_run}
use Rattle.cep_run.proofs.laws.one_run.Goals as goal

pub returns : goal.returns
returns c = λ program settings. one_run c.one_list_of_offers.ensures c.one_state_after_a_step.ensures.state program settings
