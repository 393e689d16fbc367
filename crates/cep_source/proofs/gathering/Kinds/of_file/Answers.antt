use Rattle.std.proofs.Common.{refl, rules, take, arith}
use Rattle.cep_source.specs.Kept.{AreKinds}
use Rattle.cep_source.proofs.Declaring.{taken, none_ruled, none_named}
use Rattle.cep_source.proofs.gathering.Kinds.of_file.Goals as goal
use Rattle.std.proofs.lemmas.Grind.{common_steps}

pub loop-item-init : goal.loop-item-init
loop-item-init c = record {
  kinds = search rules;
  named = record {
    sorts = none_named c.args.text.now (λ name. name) c.empty.result c.empty.ensures.items c.empty.ensures.names;
    preds = none_named c.args.text.now (λ pred. pred.name) c.empty-2.result c.empty-2.ensures.items c.empty-2.ensures.names;
    rules = none_ruled c.args.text.now _ c.empty-3.ensures.items c.new.ensures.items refl c.empty-3.ensures.names;
    stages = none_named c.args.text.now (λ name. name) c.empty-4.result c.empty-4.ensures.items c.empty-4.ensures.names;
    interactives = none_named c.args.text.now (λ name. name) c.empty-5.result c.empty-5.ensures.items c.empty-5.ensures.names;
    contexts = none_named c.args.text.now (λ context. context.name) c.empty-6.result c.empty-6.ensures.items c.empty-6.ensures.names;
  };
}

pub loop-item-preserved : goal.loop-item-preserved
loop-item-preserved c = record {
  kinds = taken (λ items. AreKinds items c.gather.new.self) c.as_slice-item-items.result.now c.loop-item.item-index c.item-item.result c.loop-item-test.true c.item-item.is
      (c.in_ok-gather.ensures.kinds (take c.loop-item.item-index c.as_slice-item-items.result.now) c.loop-item.invariant.kinds);
  named = c.in_ok-gather.ensures.named c.loop-item.invariant.named;
}

pub returns-clause-kinds : goal.returns-clause-kinds
returns-clause-kinds c = grind (arith, common_steps)
