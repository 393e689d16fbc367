use Rattle.std.proofs.Common.{List, ℕ, ◌+◌, ◌≤◌, ◌++◌, take}
use Rattle.cep_lex.specs.Places.{IsPlaceAfter}
use Rattle.cep_lex.proofs.places.place_after.Given as goal

abbrev pub invariant-loop-byte : goal.invariant-loop-byte
invariant-loop-byte l = record {
  so_far : (before : List ℕ) → IsPlaceAfter before l.fn.pos → IsPlaceAfter (before ++ take l.byte-index l.bytes) l.after;
  line : l.after.line ≤ l.fn.pos.line + l.byte-index;
  col : l.after.col ≤ l.fn.pos.col + l.byte-index;
}
