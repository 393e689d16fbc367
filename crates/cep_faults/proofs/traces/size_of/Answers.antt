use Rattle.std.proofs.Common.{arith, []}
use Rattle.cep_faults.proofs.Counting.{none_counted}
use Rattle.cep_faults.proofs.traces.size_of.Goals as goal
use Rattle.cep_faults.proofs.traces.size_of.Goals.{in-Named+in_ok-note_context-in-Named, in-Listed+in_ok-note_braces-in-Listed}

pub returns : goal.returns
returns c =
    let none = none_counted c.args.source.now c.nothing-counted.result c.nothing-counted.ensures in
    elim c.match-start.branch [
      | in-Named+in_ok-note_context-in-Named w ↦ (let counted = w.in_ok-note_context-in-Named.ensures [] none in grind (arith, counted.size, w.counted-is, w.in-Named.is))
      | in-Listed+in_ok-note_braces-in-Listed w ↦ (let counted = w.in_ok-note_braces-in-Listed.ensures [] none in grind (arith, counted.size, w.counted-is, w.as_slice.ensures, w.in-Listed.is))
    ]
