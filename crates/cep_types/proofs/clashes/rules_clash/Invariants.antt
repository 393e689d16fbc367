use Rattle.std.proofs.Common.{◌≡◌, map, take}
use Rattle.std.specs.List.{flat_map}
use Rattle.cep_refusal.specs.First.{first_in}
use Rattle.cep_source.specs.Kept.{rule_item}
use Rattle.cep_types.specs.Sites.{rule_scope}
use Rattle.cep_types.specs.Clashes.{scope_clashes}
use Rattle.cep_types.proofs.clashes.rules_clash.Given as goal

abbrev pub invariant-loop-rule : goal.invariant-loop-rule
invariant-loop-rule l = l.first ≡ first_in (flat_map (λ rule. scope_clashes l.source (rule_scope rule)) (map rule_item (take l.rule-index l.rule-items)))
