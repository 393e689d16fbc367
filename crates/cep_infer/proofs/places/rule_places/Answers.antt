use Rattle.cep_source.specs.Kept.{rule_item}
use Rattle.cep_infer.specs.Places.{backs_at, unbound_at}
use Rattle.cep_infer.proofs.Placing.{lists_more}
use Rattle.cep_infer.proofs.places.rule_places.Goals as goal

pub loop-rule-preserved : goal.loop-rule-preserved
loop-rule-preserved c =
    let source = c.args.source.now in
    record {
      reached = c.in_ok-add.ensures.reached;
      backs = lists_more source.text (backs_at source) rule_item c.rules-rule-items.result.now c.loop-rule.rule-index c.rule-item.result c.loop-rule.places.backs _
          c.loop-rule-test.true c.rule-item.is c.loop-rule.invariant.backs c.in_ok-add.ensures.backs;
      unbound = lists_more source.text (unbound_at source) rule_item c.rules-rule-items.result.now c.loop-rule.rule-index c.rule-item.result c.loop-rule.places.unbound _
          c.loop-rule-test.true c.rule-item.is c.loop-rule.invariant.unbound c.in_ok-add.ensures.unbound;
    }
