use Rattle.std.proofs.Common.{◌≡◌, rules, sym, ap, ◌∙◌, subst, arith, slice_get}
use Rattle.cep_base.proofs.Lists.{holds_at, some_same}
use mir.Syntax.{w64}
use mir.Val.{SFits}
use Rattle.cep_weigh.specs.Weights.{left_sum, right_sum, Wants}
use Rattle.cep_weigh.proofs.Sums.{unwanted}
use Rattle.cep_weigh.proofs.Factors.{kept_all}
use Rattle.cep_weigh.proofs.judging.judge.Goals as goal

pub returns-then-not-wants-clause-broken : goal.returns-then-not-wants-clause-broken
returns-then-not-wants-clause-broken c = λ rule values old new at step.
    let l : SFits w64 c.left_sum-left.result = search rules in
    let r : SFits w64 c.right_sum-right.result = search rules in
    let never = unwanted c.wants.result c.args.weight.now.claim c.left_sum-left.result c.right_sum-right.result l r c.wants.ensures c.if-not-wants.true in
    let same : c.get-rule.result.now ≡ rule = some_same _ _ (sym c.get-rule.ensures ∙ ap (λ parts. slice_get parts.rules c.loop-i.i) c.parts.ensures.parts ∙ at) in
    c.claims_hold_of_runs.ensures.broken c.args.program.now.signature c.args.weight.now.claim c.args.weight.now.sum rule values old new c.requires.linear
    (λ keeps. never (subst (λ z. Wants c.args.weight.now.claim z c.right_sum-right.result) (sym (c.left_sum-left.ensures ∙ (λ i. left_sum (c.as_slice-parts.ensures i) (same i))))
    (subst (λ z. Wants c.args.weight.now.claim (left_sum c.args.weight.now.sum rule) z) (sym (c.right_sum-right.ensures ∙ (λ i. right_sum (c.as_slice-parts.ensures i) (same i)))) keeps)))
    step

pub returns-clause-rule : goal.returns-clause-rule
returns-clause-rule c = kept_all c.args.program.now c.parts.result.now c.args.weight.now.claim c.args.weight.now.sum c.as_slice-parts.result.now c.loop-i.i c.parts.ensures.parts c.as_slice-parts.ensures (omega arith) c.loop-i.invariant

pub returns-clause-runs : goal.returns-clause-runs
returns-clause-runs c =
    c.claims_hold_of_runs.ensures.kept c.args.program.now c.args.weight.now.claim c.args.weight.now.sum c.requires.linear c.requires.signs
    (kept_all c.args.program.now c.parts.result.now c.args.weight.now.claim c.args.weight.now.sum c.as_slice-parts.result.now c.loop-i.i c.parts.ensures.parts c.as_slice-parts.ensures (omega arith) c.loop-i.invariant)

pub left_sum-left-requires-clause-few : goal.left_sum-left-requires-clause-few
left_sum-left-requires-clause-few c =
    (holds_at _ c.args.program.now.rules c.loop-i.i c.get-rule.result.now c.parts.ensures.kept.small.each_rule (rw c.parts.ensures.parts at c.get-rule.ensures)).premises

pub right_sum-right-requires-clause-few : goal.right_sum-right-requires-clause-few
right_sum-right-requires-clause-few c =
    (holds_at _ c.args.program.now.rules c.loop-i.i c.get-rule.result.now c.parts.ensures.kept.small.each_rule (rw c.parts.ensures.parts at c.get-rule.ensures)).right
