use Rattle.std.proofs.Common.{◌≡◌, map, take}
use Rattle.std.specs.List.{flat_map}
use Rattle.cep_refusal.specs.First.{first_in}
use Rattle.cep_source.specs.Kept.{clause_item}
use Rattle.cep_types.specs.Sites.{clause_scope}
use Rattle.cep_types.specs.Clashes.{scope_clashes}
use Rattle.cep_types.proofs.clashes.clauses_clash.Given as goal

abbrev pub invariant-loop-clause : goal.invariant-loop-clause
invariant-loop-clause l = l.first ≡ first_in (flat_map (λ clause. scope_clashes l.source (clause_scope clause)) (map clause_item (take l.clause-index l.clause-items)))
