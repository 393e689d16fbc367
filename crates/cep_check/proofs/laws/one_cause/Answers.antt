use Rattle.cep_check.proofs.OneCause.{refused_alike}
use Rattle.cep_check.proofs.laws.one_cause.Goals as goal

pub returns : goal.returns
returns c = λ program log line line' cause other of refused refused'.
    refused_alike c.bags_are_lawful.ensures (record { total = c.offers_have_one_order.ensures.total; ties = c.offers_have_one_order.ensures.ties }) c.one_state_after_a_step.ensures.state c.what_is_needed_is_there.ensures.contained program log of line line' cause other refused refused'
