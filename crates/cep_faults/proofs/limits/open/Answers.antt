use Rattle.cep_faults.proofs.Firsts.{opened}
use Rattle.cep_faults.proofs.limits.open.Goals as goal

pub returns-in_ok-push : goal.returns-in_ok-push
returns-in_ok-push c = opened c.args.runs.now.items c.push.new.self.items c.args.level c.args.terms c.if-terms-gt0.true c.in_ok-push.ensures.items
