use Rattle.std.proofs.Common.{◌+◌, ap}
use Rattle.cep_report.proofs.CauseLines.{one_more_line}
use Rattle.cep_report.proofs.causes.put_causes.Goals as goal

pub loop-cause-preserved : goal.loop-cause-preserved
loop-cause-preserved c = (
  ap (λ n. n + 1) c.loop-cause.invariant.0,
  one_more_line c.args.out.now c.loop-cause.out c.put_cause.new.out c.args.causes.now c.loop-cause.number c.loop-cause.cause-index c.cause-item.result c.loop-cause.invariant.0 c.loop-cause-test.true c.cause-item.is c.loop-cause.invariant.1 c.in_ok-put_cause.ensures,
)
