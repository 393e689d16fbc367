use Rattle.cep_log.proofs.SameLogs.{renewals_same}
use Rattle.cep_log.proofs.laws.renewals_have_one_text.Goals as goal

pub returns : goal.returns
returns c = λ program old one other is is'. renewals_same c.one_state_after_a_step.ensures.state program old one other is is'
