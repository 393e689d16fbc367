use Rattle.std.proofs.Common.{◌∙◌, arith}
use Rattle.std.proofs.lemmas.List.{take_all}
use Rattle.cep_rule.specs.declared.rule.Rule.{Rule}
use Rattle.cep_source.specs.Kept.{rule_item}
use Rattle.cep_infer.specs.Meaning.{IsRuleBy}
use Rattle.cep_infer.proofs.RulesInTurn.{zip_more, named_each, named_more}
use Rattle.cep_infer.proofs.rules.read_rules.Goals as goal

pub bounds-names-i : goal.bounds-names-i
bounds-names-i c = omega (arith, c.loop-i-test.true, named_each c.args.source.now c.rules-items.result.now c.rule_names-names.result.now c.rules-items.ensures c.rule_names-names.ensures)

pub loop-i-preserved : goal.loop-i-preserved
loop-i-preserved c = record {
  rules = zip_more (IsRuleBy c.args.source.now) rule_item c.rules-items.result.now c.loop-i.i c.index-items-i.result c.loop-i.rules c.push.new.self c.in_ok-rule.rule
      c.loop-i-test.true c.index-items-i.is c.loop-i.invariant.rules c.in_ok-rule.ensures.rule c.in_ok-push.ensures.ok;
  names = named_more (λ (rule : Rule). rule.name) c.rule_names-names.result.now c.loop-i.i c.index-names-i.result c.loop-i.rules c.push.new.self c.in_ok-rule.rule
      (omega (arith, c.loop-i-test.true, named_each c.args.source.now c.rules-items.result.now c.rule_names-names.result.now c.rules-items.ensures c.rule_names-names.ensures))
      c.index-names-i.is c.loop-i.invariant.names (c.in_ok-rule.ensures.name ∙ c.bytes.ensures) c.in_ok-push.ensures.ok;
}

pub returns-clause-names : goal.returns-clause-names
returns-clause-names c =
    c.loop-i.invariant.names
    ∙ take_all c.loop-i.i c.rule_names-names.result.now (omega (arith, c.loop-i-test.false, named_each c.args.source.now c.rules-items.result.now c.rule_names-names.result.now c.rules-items.ensures c.rule_names-names.ensures))
    ∙ c.rule_names-names.ensures
