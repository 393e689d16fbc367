use Rattle.std.proofs.Common.{◌≡◌, ◌<◌, ◌+◌, length, refl, sym, ap, ◌∙◌, subst, arith}
use Rattle.std.specs.Prelude.{slice_get}
use Rattle.std.proofs.lemmas.Option.{slice_get_within}
use Rattle.cep_base.proofs.Lists.{some_same}
use Rattle.cep_cause.specs.Tokens.{listed_copies}
use Rattle.cep_rule.specs.declared.rule.Rule.{Rule}
use Rattle.cep_rule.specs.declared.parts.Parts.{Parts}
use Rattle.cep_rule.specs.Program.{IsTypedRule}
use Rattle.cep_rule.specs.Typing.{AreValues}
use Rattle.cep_graph.specs.Traces.{AreOfStart}
use Rattle.cep_graph.specs.Trails.{TouchesBy}
use Rattle.cep_graph.proofs.OneGraph.{none_so_far, one_more, all_done, has_rule}
use Rattle.cep_graph.proofs.graph_of.graph.Goals as goal

pub loop-i-init : goal.loop-i-init
loop-i-init c = λ touches are. none_so_far c.args.program.now c.args.log.now touches c.in_ok-tokens.tokens c.new-causes.result c.new-causes.ensures are
    (subst (λ (p : Parts). AreOfStart (listed_copies p.start) c.in_ok-tokens.tokens) c.parts-parts.ensures.parts c.in_ok-tokens.ensures)

pub get-rule-requires : goal.get-rule-requires
get-rule-requires c =
    let has = has_rule c.args.program.now c.args.log.now c.loop-i.i c.get-step.result.now c.parts-parts.ensures.kept c.requires c.get-step.ensures in
    subst (λ (p : Parts). c.get-step.result.now.offer.rule < length p.rules) (sym c.parts-parts.ensures.parts) (slice_get_within c.args.program.now.rules c.get-step.result.now.offer.rule has.rule has.numbered)

pub touch-requires-clause-typed : goal.touch-requires-clause-typed
touch-requires-clause-typed c =
    let has = has_rule c.args.program.now c.args.log.now c.loop-i.i c.get-step.result.now c.parts-parts.ensures.kept c.requires c.get-step.ensures in
    let same : has.rule ≡ c.get-rule.result.now = some_same has.rule c.get-rule.result.now (sym has.numbered ∙ sym (ap (λ (p : Parts). slice_get p.rules c.get-step.result.now.offer.rule) c.parts-parts.ensures.parts) ∙ c.get-rule.ensures) in
    subst (λ (p : Parts). IsTypedRule p.signature c.get-rule.result.now) (sym c.parts-parts.ensures.parts) (subst (λ (r : Rule). IsTypedRule c.args.program.now.signature r) same has.typed)

pub touch-requires-clause-values : goal.touch-requires-clause-values
touch-requires-clause-values c =
    let has = has_rule c.args.program.now c.args.log.now c.loop-i.i c.get-step.result.now c.parts-parts.ensures.kept c.requires c.get-step.ensures in
    let same : has.rule ≡ c.get-rule.result.now = some_same has.rule c.get-rule.result.now (sym has.numbered ∙ sym (ap (λ (p : Parts). slice_get p.rules c.get-step.result.now.offer.rule) c.parts-parts.ensures.parts) ∙ c.get-rule.ensures) in
    subst (λ (p : Parts). AreValues p.signature.cons c.get-rule.result.now.kinds c.get-step.result.now.offer.values) (sym c.parts-parts.ensures.parts) (subst (λ (r : Rule). AreValues c.args.program.now.signature.cons r.kinds c.get-step.result.now.offer.values) same has.values)

pub loop-i-preserved : goal.loop-i-preserved
loop-i-preserved c = λ touches are.
    one_more c.args.program.now c.args.log.now touches c.loop-i.i c.loop-i.tokens c.touch.new.tokens c.loop-i.causes c.push.new.self c.get-step.result.now c.get-rule.result.now (c.loop-i.i + 1) (record { barrier = c.is_some.result; after = c.in_ok-after.after })
    c.get-step.ensures (sym (ap (λ (p : Parts). slice_get p.rules c.get-step.result.now.offer.rule) c.parts-parts.ensures.parts) ∙ c.get-rule.ensures) refl
    c.is_some.ensures c.in_ok-push.ensures.ok
    (subst (λ (p : Parts). TouchesBy p.signature c.get-step.result.now.offer.values c.get-rule.result.now (c.loop-i.i + 1) c.loop-i.tokens c.touch.new.tokens c.in_ok-after.after) c.parts-parts.ensures.parts c.in_ok-after.ensures)
    (c.loop-i.invariant touches are)

pub returns : goal.returns
returns c =
    let there = c.logs_touch_tokens.ensures.there c.args.program.now c.args.log.now c.parts-parts.ensures.kept c.requires in
    let within = (c.loop-i.invariant there.0 there.1).within in
    let all : c.loop-i.i ≡ length c.args.log.now.steps = omega (arith, c.len-i-end.ensures, c.loop-i-test.false) in
    all_done c.args.program.now c.args.log.now there.0 c.loop-i.i c.loop-i.tokens c.loop-i.causes all there.1 (c.loop-i.invariant there.0 there.1)
