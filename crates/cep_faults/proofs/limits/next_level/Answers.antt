use Rattle.std.proofs.Common.{refl, arith}
use Rattle.cep_faults.proofs.Firsts.{next_again, next_other}
use Rattle.cep_faults.proofs.limits.next_level.Goals as goal

pub returns-then-run-gt0-clause-some : goal.returns-then-run-gt0-clause-some
returns-then-run-gt0-clause-some c =
    next_again c.args.runs.now.items _ c.in_ok-last.last c.index-run.result.now (omega (arith, c.in_ok-last.ensures.0, c.in_ok-last.ensures.1)) c.index-run.ensures c.if-run-gt0.true refl

pub returns-else-run-gt0-clause-some : goal.returns-else-run-gt0-clause-some
returns-else-run-gt0-clause-some c =
    next_other c.args.runs.now.items c.truncate.new.self.items c.in_ok-last.last c.index-run.result.now (omega (arith, c.in_ok-last.ensures.0, c.in_ok-last.ensures.1)) c.index-run.ensures (omega arith) c.truncate.ensures.items
