use Rattle.std.proofs.Common.{take}
use Rattle.cep_claim.specs.Written.{AreResolved}
use Rattle.cep_claim.proofs.numbering.numbered.Given as goal

abbrev pub invariant-loop-part : goal.invariant-loop-part
invariant-loop-part l = AreResolved l.signature (take l.part-index l.parts) l.sum
