use Rattle.std.proofs.Common.{take}
use Rattle.cep_source.specs.Kept.{AreClausesAmong}
use Rattle.cep_source.proofs.clauses.Clauses.in_file.Given as goal

abbrev pub invariant-loop-item : goal.invariant-loop-item
invariant-loop-item l = AreClausesAmong (record { text = l.text; file = l.file }) (take l.item-index l.item-items) l.clauses
