use Rattle.std.proofs.Common.{drop, map}
use Rattle.std.specs.List.{flat_map}
use Rattle.cep_rule.specs.Derivations.{proof_of}
use Rattle.cep_lines.specs.Lines.{by_line}
use Rattle.cep_lines.proofs.Adding.{IsAdding}
use Rattle.cep_lines.proofs.deed.put_proofs.Given as goal

abbrev pub invariant-loop-proof : goal.invariant-loop-proof
invariant-loop-proof l =
    let proofs = map proof_of l.proofs in
    IsAdding l.fn.out (flat_map (by_line l.program) proofs) l.out (flat_map (by_line l.program) (drop l.proof-index proofs))
