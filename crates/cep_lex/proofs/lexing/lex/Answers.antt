use Rattle.std.proofs.Common.{drop}
use Rattle.cep_lex.proofs.Steps.{cut_next}
use Rattle.cep_lex.proofs.lexing.lex.Goals as goal

pub returns-in-End : goal.returns-in-End
returns-in-End c = record { rest = drop c.loop-tokens.at c.args.text.now; cut = c.loop-tokens.invariant.cut; last = rw c.in-End.is at c.step_at.ensures }

pub returns-in-Fault : goal.returns-in-Fault
returns-in-Fault c = (rw c.in-Fault.is at c.step_at.ensures) c.loop-tokens.tokens c.loop-tokens.invariant.cut

pub loop-tokens-preserved : goal.loop-tokens-preserved
loop-tokens-preserved c =
    let stands = rw c.in-Next.is at c.step_at.ensures in
    let next = cut_next c.args.text.now c.loop-tokens.at c.loop-tokens.tokens c.in-Next.token c.loop-tokens.invariant.within c.loop-tokens.invariant.cut stands.0 in
    record { within = stands.2; cut = rw c.in_ok-push-in-Next.ensures.ok next }
