use Rattle.std.proofs.Common.{◌≡◌, map, take}
use Rattle.std.specs.List.{AllZip}
use Rattle.cep_source.specs.Kept.{rule_item}
use Rattle.cep_infer.specs.Meaning.{IsRuleBy}
use Rattle.cep_infer.proofs.rules.read_rules.Given as goal

abbrev pub invariant-loop-i : goal.invariant-loop-i
invariant-loop-i l = record {
  rules : AllZip (IsRuleBy l.source) (map rule_item (take l.i l.items)) l.rules;
  names : map (λ rule. rule.name) l.rules ≡ take l.i l.names;
}
