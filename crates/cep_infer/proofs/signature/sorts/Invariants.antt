use Rattle.std.proofs.Common.{◌≡◌, map, take}
use Rattle.cep_source.specs.Items.{said}
use Rattle.cep_infer.proofs.signature.sorts.Given as goal

abbrev pub invariant-loop-span : goal.invariant-loop-span
invariant-loop-span l = l.names ≡ map (said l.source) (take l.span-index l.span-items)
