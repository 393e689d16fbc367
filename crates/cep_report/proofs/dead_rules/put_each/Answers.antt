use Rattle.cep_report.specs.DeadLines.{dead_line}
use Rattle.cep_report.proofs.Added.{one_more}
use Rattle.cep_report.proofs.dead_rules.put_each.Goals as goal

pub loop-dead-preserved : goal.loop-dead-preserved
loop-dead-preserved c = one_more (dead_line c.args.program.now) c.args.out.now c.loop-dead.out c.put_dead.new.out c.args.deads.now c.loop-dead.dead-index _ c.loop-dead-test.true c.loop-dead.invariant c.in_ok-put_dead.ensures
