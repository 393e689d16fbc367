use Rattle.std.proofs.Common.{◌≡◌, ◌≤◌, [], length, drop}
use Rattle.cep_text.specs.Reading.{givens_at, small_at}
use Rattle.cep_text.proofs.read_offers.givens.Given as goal

abbrev pub invariant-loop-i : goal.invariant-loop-i
invariant-loop-i l = record {
  read : givens_at (small_at l.vocabulary.signature.cons) l.vars l.kinds [] l.bytes ≡ givens_at (small_at l.vocabulary.signature.cons) (drop l.i l.vars) (drop l.i l.kinds) l.values l.rest;
  shorter : length l.rest ≤ length l.bytes;
}
