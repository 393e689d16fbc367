use Rattle.std.proofs.Common.{◌≡◌, drop}
use Rattle.cep_source.specs.Uses.{stages_named}
use Rattle.cep_infer.proofs.rules.stage_named.Given as goal

abbrev pub invariant-loop-elem : goal.invariant-loop-elem
invariant-loop-elem l = stages_named l.side ≡ stages_named (drop l.elem-index l.side)
