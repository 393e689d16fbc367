use Rattle.std.proofs.Common.{take}
use Rattle.cep_source.specs.Kept.{AreKinds, HaveTheirNames}
use Rattle.cep_source.proofs.gathering.Kinds.of_file.Given as goal

abbrev pub invariant-loop-item : goal.invariant-loop-item
invariant-loop-item l = record {
  kinds : AreKinds (take l.item-index l.item-items) l.kinds;
  named : HaveTheirNames l.text l.kinds;
}
