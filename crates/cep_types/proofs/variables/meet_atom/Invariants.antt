use Rattle.std.proofs.Common.{map, drop}
use Rattle.cep_source.specs.Items.{said}
use Rattle.cep_types.specs.Sites.{sites_from}
use Rattle.cep_types.proofs.Meeting.{IsMeeting}
use Rattle.cep_types.proofs.variables.meet_atom.Given as goal

abbrev pub invariant-loop-node : goal.invariant-loop-node
invariant-loop-node l =
    IsMeeting l.source (sites_from l.source (map (said l.source) l.initial.pending) l.node-items) l.fn.variables l.variables (sites_from l.source (map (said l.source) l.pending) (drop l.node-index l.node-items))
