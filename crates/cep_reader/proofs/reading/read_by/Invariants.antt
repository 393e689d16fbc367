use Rattle.cep_reader.proofs.Passing.{all_lines, HasPassed}
use Rattle.cep_reader.proofs.reading.read_by.Given as goal

abbrev pub invariant-loop-line : goal.invariant-loop-line
invariant-loop-line l = HasPassed l.vocabulary (all_lines l.fn.bytes) l.line-iterator l.number l.so_far
