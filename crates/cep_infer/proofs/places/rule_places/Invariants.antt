use Rattle.std.proofs.Common.{map, take}
use Rattle.cep_source.specs.Kept.{rule_item}
use Rattle.cep_infer.specs.Places.{IsReached, ArePlaceLists, backs_at, unbound_at}
use Rattle.cep_infer.proofs.places.rule_places.Given as goal

abbrev pub invariant-loop-rule : goal.invariant-loop-rule
invariant-loop-rule l = record {
  reached : IsReached l.source.text l.reached;
  backs : ArePlaceLists l.source.text (map (backs_at l.source) (map rule_item (take l.rule-index l.rule-items))) l.places.backs;
  unbound : ArePlaceLists l.source.text (map (unbound_at l.source) (map rule_item (take l.rule-index l.rule-items))) l.places.unbound;
}
