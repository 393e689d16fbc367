use Rattle.std.proofs.Common.{List, ◌++◌, take}
use Rattle.cep_parse.specs.declared.raw.RawAtom.{RawAtom}
use Rattle.cep_faults.specs.Counted.{IsCountOf}
use Rattle.cep_faults.proofs.traces.Counted.note_context.Given as goal

abbrev pub invariant-loop-atom : goal.invariant-loop-atom
invariant-loop-atom l = (before : List RawAtom) → IsCountOf l.source before l.fn.self → IsCountOf l.source (before ++ take l.atom-index l.atoms) l.self
