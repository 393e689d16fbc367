use Rattle.std.proofs.Common.{drop}
use Rattle.std.specs.List.{flat_map}
use Rattle.cep_lines.specs.Lines.{have_line}
use Rattle.cep_lines.proofs.Adding.{IsAdding}
use Rattle.std.specs.FinMap as finite
use Rattle.cep_lines.proofs.lines.put_listing.Given as goal

abbrev pub invariant-loop-i : goal.invariant-loop-i
invariant-loop-i l =
    let entries = finite.entries l.state in
    IsAdding l.fn.out (flat_map (have_line l.program.signature) entries) l.out (flat_map (have_line l.program.signature) (drop l.i entries))
