use Rattle.std.proofs.Common.{inl, inr}
use Rattle.cep_infer.proofs.Drafting.{first_trace, some_trace}
use Rattle.cep_infer.proofs.resolving.drafted_from.Goals as goal

pub returns-in-Some : goal.returns-in-Some
returns-in-Some c = inl (rw c.in-Some.is at c.in_ok-misnamed.ensures)

pub returns-in-Some-2 : goal.returns-in-Some-2
returns-in-Some-2 c = inr (rw c.in_default.is at c.in_ok-misnamed.ensures, rw c.in-Some-2.is at c.in_ok-mistyped.ensures)

pub unwrap-trace-requires : goal.unwrap-trace-requires
unwrap-trace-requires c = some_trace c.args.source.now c.traces.result.now c.item_at.result (rw c.in_default.is at c.in_ok-misnamed.ensures) c.traces.ensures c.item_at.ensures

pub parts_from-requires : goal.parts_from-requires
parts_from-requires c = record {
  named = rw c.in_default.is at c.in_ok-misnamed.ensures;
  filled = c.requires.filled;
  first = first_trace c.args.source.now c.traces.result.now c.unwrap-trace.result c.item_at.result c.traces.ensures c.item_at.ensures c.unwrap-trace.ensures;
}

pub returns : goal.returns
returns c = record {
  named = rw c.in_default.is at c.in_ok-misnamed.ensures;
  typed = rw c.in_default-2.is at c.in_ok-mistyped.ensures;
  draft_is = record { parts_are = c.in_ok-parts_from.ensures; backs_are = c.in_ok-places.ensures.backs; unbound_are = c.in_ok-places.ensures.unbound };
}
