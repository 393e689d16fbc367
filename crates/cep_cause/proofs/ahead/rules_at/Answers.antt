use Rattle.std.proofs.Common.{◌≡◌, ◌⊎◌, ◌+◌, ◌%◌, ◌<◌, ◌≤◌, length, arith}
use Rattle.cep_base.proofs.Lists.{holds_at}
use Rattle.cep_cause.proofs.NextRules.{no_rules, one_rule_more, rules_there}
use Rattle.cep_cause.proofs.ahead.rules_at.Goals as goal

pub overflow_sub-get : goal.overflow_sub-get
overflow_sub-get c =
    let within = holds_at (λ number. (0 < number) × (number ≤ length c.args.log.now.steps)) c.args.order.now c.loop-i.i c.get.result.now c.requires.numbers c.get.ensures in
    omega arith

pub get-step-requires : goal.get-step-requires
get-step-requires c =
    let within = holds_at (λ number. (0 < number) × (number ≤ length c.args.log.now.steps)) c.args.order.now c.loop-i.i c.get.result.now c.requires.numbers c.get.ensures in
    omega arith

pub loop-i-init : goal.loop-i-init
loop-i-init c = no_rules c.args.log.now.steps c.args.order.now c.args.place c.new-rules.result c.new-rules.ensures

pub loop-i-preserved : goal.loop-i-preserved
loop-i-preserved c =
    rw c.in_ok-push.ensures.ok (one_rule_more c.args.log.now.steps c.args.order.now c.args.place c.loop-i.i c.get.result.now c.get-step.result.now c.loop-i.rules c.get.ensures c.get-step.ensures c.loop-i.invariant)

pub returns : goal.returns
returns c =
    let begins : c.args.place % 64 ≡ 0 = grind (arith, c.if-place-gt0.false) in
    let all : (length c.args.order.now ≤ c.loop-i.i) ⊎ (c.args.place + 64 ≤ c.loop-i.i) = grind (arith, c.loop-i-test.false, c.len.ensures, c.min.ensures) in
    rules_there c.args.log.now.steps c.args.order.now c.args.place c.loop-i.i c.loop-i.rules begins all c.loop-i.invariant
