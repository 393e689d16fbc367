use Rattle.std.proofs.Common.{◌≡◌, take}
use Rattle.std.specs.List.{flat_map}
use Rattle.cep_refusal.specs.First.{first_in}
use Rattle.cep_source.specs.Kept.{rule_item}
use Rattle.cep_faults.specs.Faults.{rule_faults}
use Rattle.cep_faults.proofs.rules.rules_fault.Given as goal

abbrev pub invariant-loop-rule : goal.invariant-loop-rule
invariant-loop-rule l = l.first ≡ first_in (flat_map (λ rule. rule_faults l.source (rule_item rule)) (take l.rule-index l.rule-items))
