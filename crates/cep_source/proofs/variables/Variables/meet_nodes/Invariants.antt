use Rattle.std.proofs.Common.{◌≡◌, take}
use Rattle.cep_source.specs.Met.{met_nodes}
use Rattle.cep_source.proofs.variables.Variables.meet_nodes.Given as goal

abbrev pub invariant-loop-node : goal.invariant-loop-node
invariant-loop-node l = l.self ≡ met_nodes l.source l.fn.self (take l.node-index l.nodes)
