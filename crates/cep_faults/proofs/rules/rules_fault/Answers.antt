use Rattle.std.proofs.Common.{[], ◌∙◌}
use Rattle.cep_source.specs.Kept.{rule_item}
use Rattle.cep_faults.specs.Faults.{rule_faults}
use Rattle.cep_faults.proofs.Firsts.{noted, all_mapped}
use Rattle.cep_faults.proofs.rules.rules_fault.Goals as goal

pub loop-rule-preserved : goal.loop-rule-preserved
loop-rule-preserved c =
    noted (λ rule. rule_faults c.args.source.now (rule_item rule)) [] c.rules-rule-items.result.now c.loop-rule.rule-index _ c.rule-item.result _ _ _
    c.loop-rule-test.true c.rule-item.is c.loop-rule.invariant c.in_ok-fault.ensures c.note.ensures

pub returns : goal.returns
returns c = c.found.ensures ∙ all_mapped (rule_faults c.args.source.now) rule_item c.rules-rule-items.result.now _ c.loop-rule.rule-index _ c.loop-rule-test.false c.rules-rule-items.ensures c.loop-rule.invariant
