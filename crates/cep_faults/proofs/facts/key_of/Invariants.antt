use Rattle.std.proofs.Common.{◌≡◌, ◌++◌, take}
use Rattle.std.specs.List.{flat_map}
use Rattle.cep_source.specs.Items.{said}
use Rattle.cep_faults.specs.FactKeys.{name_key, count_key, node_key}
use Rattle.cep_faults.proofs.facts.key_of.Given as goal

abbrev pub invariant-loop-node : goal.invariant-loop-node
invariant-loop-node l = l.key ≡ (name_key (said l.source l.atom.name) ++ count_key l.atom.args) ++ flat_map (node_key l.source) (take l.node-index l.node-items)
