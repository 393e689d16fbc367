use Rattle.std.proofs.Common.{append-nil, arith}
use Rattle.cep_lex.proofs.GapLemmas.{place_break, place_more}
use Rattle.cep_lex.proofs.places.place_after.Goals as goal

pub loop-byte-init : goal.loop-byte-init
loop-byte-init c = record { so_far = λ before place. rw append-nil place; line = omega arith; col = omega arith }

pub loop-byte-preserved-then-byte-ne10 : goal.loop-byte-preserved-then-byte-ne10
loop-byte-preserved-then-byte-ne10 c = record {
  so_far = λ before place. place_more before c.args.bytes.now c.loop-byte.byte-index c.loop-byte.after c.loop-byte-test.true c.if-byte-ne10.true (c.loop-byte.invariant.so_far before place);
  line = omega (arith, c.loop-byte.invariant.line);
  col = omega (arith, c.loop-byte.invariant.col);
}

pub loop-byte-preserved : goal.loop-byte-preserved
loop-byte-preserved c = record {
  so_far = λ before place. place_break before c.args.bytes.now c.loop-byte.byte-index c.loop-byte.after c.loop-byte-test.true c.if-byte-ne10.false (c.loop-byte.invariant.so_far before place);
  line = omega (arith, c.loop-byte.invariant.line);
  col = omega arith;
}
