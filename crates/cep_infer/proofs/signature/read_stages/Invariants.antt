use Rattle.std.proofs.Common.{◌≡◌, map, take}
use Rattle.cep_infer.specs.Meaning.{stage_by}
use Rattle.cep_infer.proofs.signature.read_stages.Given as goal

abbrev pub invariant-loop-span : goal.invariant-loop-span
invariant-loop-span l = l.stages ≡ map (stage_by l.source) (take l.span-index l.span-items)
