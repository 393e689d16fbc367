use Rattle.cep_check.proofs.Differences.{refused_clash}
use Rattle.cep_check.proofs.laws.refused_logs_are_not_legal.Goals as goal

pub returns : goal.returns
returns c = λ program log line cause refused legal. refused_clash c.bags_are_lawful.ensures c.one_state_after_a_step.ensures.state c.what_is_needed_is_there.ensures.contained program log line cause refused legal
