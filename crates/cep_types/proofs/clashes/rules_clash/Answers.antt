use Rattle.cep_refusal.specs.First.{standing}
use Rattle.cep_base.proofs.ForemostLoops.{foremost_mapped}
use Rattle.cep_source.specs.Kept.{rule_item}
use Rattle.cep_types.specs.Sites.{rule_scope}
use Rattle.cep_types.specs.Clashes.{scope_clashes}
use Rattle.cep_types.proofs.Meeting.{all_found}
use Rattle.cep_types.proofs.clashes.rules_clash.Goals as goal

pub loop-rule-preserved : goal.loop-rule-preserved
loop-rule-preserved c =
    foremost_mapped standing (λ rule. scope_clashes c.args.source.now (rule_scope rule)) rule_item c.rules-rule-items.result.now c.loop-rule.rule-index c.rule-item.result _ _ _ c.loop-rule-test.true c.rule-item.is c.loop-rule.invariant c.in_ok-clash.ensures c.note.ensures

pub returns : goal.returns
returns c = all_found (λ rule. scope_clashes c.args.source.now (rule_scope rule)) rule_item c.rules-rule-items.result.now c.loop-rule.rule-index _ _ _ c.loop-rule-test.false c.rules-rule-items.ensures c.loop-rule.invariant c.found.ensures
