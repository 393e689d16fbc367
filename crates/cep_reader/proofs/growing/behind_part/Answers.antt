use Rattle.std.proofs.Common.{arith}
use Rattle.cep_reader.proofs.LineKindLemmas.{by_said, by_none, stage_said}
use Rattle.cep_reader.proofs.growing.behind_part.Goals as goal

pub returns-in_ok-joined-in-Some-clause-some : goal.returns-in_ok-joined-in-Some-clause-some
returns-in_ok-joined-in-Some-clause-some c =
    by_said _ _ _ _ _ _ _ _ _ c.parts.ensures.parts c.get-rule.ensures (omega (arith, c.if-len.true, c.len.ensures, c.len-2.ensures)) (rw c.in-Some.is at c.in_ok-proof.ensures.some) c.in_ok-push-in-Some.ensures.ok c.in_ok-joined-in-Some.ensures

pub returns-in-None-clause-none : goal.returns-in-None-clause-none
returns-in-None-clause-none c = by_none _ _ _ _ _ _ c.parts.ensures.parts c.get-rule.ensures (omega (arith, c.if-len.true, c.len.ensures, c.len-2.ensures)) (rw c.in-None.is at c.in_ok-proof.ensures.none)

pub returns-in_ok-joined-in-Some-stage_line-clause-some : goal.returns-in_ok-joined-in-Some-stage_line-clause-some
returns-in_ok-joined-in-Some-stage_line-clause-some c =
    stage_said _ _ _ _ _ _ _ _ c.parts.ensures.parts c.get-rule.ensures (omega (arith, c.if-len.false, c.len.ensures, c.len-2.ensures)) c.in-Some-stage_line.ensures c.in_ok-joined-in-Some-stage_line.ensures
