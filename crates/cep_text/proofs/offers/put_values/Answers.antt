use Rattle.cep_text.proofs.Nodes.{given_step, given_begun}
use Rattle.cep_text.proofs.offers.put_values.Goals as goal

pub returns-in_err-put_given-clause-err : goal.returns-in_err-put_given-clause-err
returns-in_err-put_given-clause-err c =
    given_begun _ _ c.loop-i.i _ _ c.get.result.now _ _ c.loop-i.out _
    c.get.ensures c.get-in-loop-i.ensures c.loop-i.invariant c.in_err-put_given.ensures.err

pub loop-i-preserved : goal.loop-i-preserved
loop-i-preserved c =
    given_step _ c.loop-i.i _ _ c.get.result.now _ _ c.loop-i.out _
    c.get.ensures c.get-in-loop-i.ensures c.loop-i.invariant c.in_ok-put_given.ensures.ok
