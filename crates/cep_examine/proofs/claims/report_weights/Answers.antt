use Rattle.cep_examine.proofs.Judging.{one_told}
use Rattle.cep_examine.proofs.claims.report_weights.Goals as goal

pub loop-i-preserved : goal.loop-i-preserved
loop-i-preserved c =
    one_told c.args.program.now c.args.weights.now c.loop-i.i c.index-weights-i.result c.judge-judged.result c.loop-i.text c.put_claim.new.out c.loop-i.status c.status_after-status.result
    c.loop-i-test.true c.index-weights-i.is c.loop-i.invariant c.judge-judged.ensures.rule c.in_ok-put_claim.ensures c.status_after-status.ensures
