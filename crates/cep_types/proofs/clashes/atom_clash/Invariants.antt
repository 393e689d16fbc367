use Rattle.std.proofs.Common.{◌≡◌, map, drop}
use Rattle.std.specs.List.{flat_map}
use Rattle.cep_refusal.specs.First.{first_in, first_of}
use Rattle.cep_source.specs.Items.{said}
use Rattle.cep_types.specs.Sites.{sites_from}
use Rattle.cep_types.specs.Clashes.{clash_of}
use Rattle.cep_types.specs.Met.{type_met}
use Rattle.cep_types.proofs.clashes.atom_clash.Given as goal

abbrev pub invariant-loop-node : goal.invariant-loop-node
invariant-loop-node l = first_in (flat_map (clash_of l.source (type_met l.source l.variables.firsts)) (sites_from l.source (map (said l.source) l.initial.pending) l.node-items)) ≡ first_of l.first (first_in (flat_map (clash_of l.source (type_met l.source l.variables.firsts)) (sites_from l.source (map (said l.source) l.pending) (drop l.node-index l.node-items))))
