use Rattle.std.proofs.Common.{[], take}
use Rattle.cep_infer.specs.Built.{IsLeftBuilt}
use Rattle.cep_infer.proofs.left.read_left.Given as goal
use Rattle.cep_base.specs.FirstNames.{names_among}

abbrev pub invariant-loop-elem : goal.invariant-loop-elem
invariant-loop-elem l = IsLeftBuilt l.source (names_among l.variables.firsts) (take l.elem-index l.side) l.fn.blanks l.blanks (record { premises = []; backs = [] }) l.left
