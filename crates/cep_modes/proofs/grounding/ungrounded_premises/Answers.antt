use Rattle.std.proofs.Common.{arith}
use Rattle.std.proofs.lemmas.List.{take_all}
use Rattle.cep_base.proofs.Lists.{holds_at}
use Rattle.cep_rule.specs.declared.parts.Parts.{Parts}
use Rattle.cep_modes.proofs.Numbering.{are_fine, rule_within, marks_say, one_more_marked}
use Rattle.cep_modes.proofs.grounding.ungrounded_premises.Goals as goal

pub marks_of_rule-requires-clause-premises : goal.marks_of_rule-requires-clause-premises
marks_of_rule-requires-clause-premises c = holds_at _ c.args.parts.now.rules c.loop-rule.rule c.get.result.now (are_fine c.types_are_lawful.ensures c.args.parts.now c.requires).premises c.get.ensures

pub marks_of_rule-requires-clause-backs : goal.marks_of_rule-requires-clause-backs
marks_of_rule-requires-clause-backs c = holds_at _ c.args.parts.now.rules c.loop-rule.rule c.get.result.now (are_fine c.types_are_lawful.ensures c.args.parts.now c.requires).backs c.get.ensures

pub marks_of_rule-requires-clause-within : goal.marks_of_rule-requires-clause-within
marks_of_rule-requires-clause-within c = rw c.deref.ensures.value (rule_within c.args.parts.now.clauses c.args.parts.now.rules c.in_ok-bad.bad.items c.loop-rule.rule c.get.result.now c.in_ok-bad.ensures c.get.ensures)

pub loop-rule-preserved : goal.loop-rule-preserved
loop-rule-preserved c =
    let parts : Parts = c.args.parts.now in
    one_more_marked parts.clauses parts.rules c.loop-rule.rule c.get.result.now c.loop-rule.marks c.push.new.self c.in_ok-marks_of_rule.field-0 c.get.ensures c.loop-rule.invariant
    (marks_say parts.clauses parts.rules c.deref.result.now c.loop-rule.rule c.get.result.now c.in_ok-marks_of_rule.field-0 (rw c.deref.ensures.value c.in_ok-bad.ensures) c.get.ensures
    (holds_at _ parts.rules c.loop-rule.rule c.get.result.now (are_fine c.types_are_lawful.ensures parts c.requires).backs c.get.ensures) c.in_ok-marks_of_rule.ensures)
    c.in_ok-push.ensures.ok

pub returns : goal.returns
returns c = rw (take_all c.loop-rule.rule c.args.parts.now.rules (omega (arith, c.len-rule-end.ensures, c.loop-rule-test.false))) at c.loop-rule.invariant
