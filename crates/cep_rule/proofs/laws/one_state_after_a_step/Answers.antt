use Rattle.cep_rule.proofs.StepLaws.{one_step, one_rest, rest_is_state}
use Rattle.cep_rule.proofs.laws.one_state_after_a_step.Goals as goal

pub returns : goal.returns
returns c =
    let laws = c.bags_are_lawful.ensures in
    record { state = one_step laws; rest = one_rest laws; rest_is_state = rest_is_state laws }
