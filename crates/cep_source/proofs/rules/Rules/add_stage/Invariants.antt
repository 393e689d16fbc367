use Rattle.std.proofs.Common.{◌≡◌, ◌++◌, map, take}
use Rattle.cep_source.specs.Kept.{AreRules, rule_item, in_stage}
use Rattle.cep_source.proofs.rules.Rules.add_stage.Given as goal

abbrev pub invariant-loop-raw : goal.invariant-loop-raw
invariant-loop-raw l = record {
  rules : map rule_item l.self.table.items.items ≡ map rule_item l.fn.self.table.items.items ++ map (in_stage l.stage) (take l.raw-index l.raws);
  named : AreRules l.text l.fn.self → AreRules l.text l.self;
}
