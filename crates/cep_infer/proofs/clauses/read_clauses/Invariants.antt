use Rattle.std.proofs.Common.{map, take}
use Rattle.std.specs.List.{AllZip}
use Rattle.cep_source.specs.Kept.{clause_item}
use Rattle.cep_infer.specs.Meaning.{IsClauseBy}
use Rattle.cep_infer.proofs.clauses.read_clauses.Given as goal

abbrev pub invariant-loop-item : goal.invariant-loop-item
invariant-loop-item l = AllZip (IsClauseBy l.source) (map clause_item (take l.item-index l.item-items)) l.clauses
