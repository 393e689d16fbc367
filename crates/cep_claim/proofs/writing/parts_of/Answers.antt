use Rattle.std.proofs.Common.{◌≡◌, ◌==◌, Bor, [], length, true, List, ℕ, refl, sym, ap, ◌∙◌, arith}
use Rattle.cep_claim.specs.Written.{mark_of}
use Rattle.cep_claim.proofs.Parted.{three, some_at, none_at, first_is, part_read, stuck_short, stuck_mark, stuck_part}
use Rattle.cep_claim.proofs.writing.parts_of.Goals as goal

abbrev nowhere : Bor (List ℕ)
nowhere = record { ref_ptr = (0, 0); now = [] }

pub returns-then-not-is_mark-clause-none : goal.returns-then-not-is_mark-clause-none
returns-then-not-is_mark-clause-none c = λ all each e.
    let is = three (λ word. word.now) c.loop-rest.rest.now nowhere nowhere nowhere _ refl (omega arith) in
    stuck_mark _ c.loop-rest.parts all _ _ _ _ _ c.loop-rest.invariant each e is
    (λ marked. let yes : c.is_mark.result ≡ true = c.is_mark.ensures.1 (marked ∙ ap mark_of (sym (first_is c.is_empty.result c.loop-rest.parts c.is_empty.ensures))) in absurd (cc (yes, c.if-not-is_mark.true)))

pub returns-in-None-clause-none : goal.returns-in-None-clause-none
returns-in-None-clause-none c = λ all each e.
    let is = three (λ word. word.now) c.loop-rest.rest.now nowhere nowhere nowhere _ refl (omega arith) in
    stuck_part _ c.loop-rest.parts all _ _ _ _ _ c.loop-rest.invariant each e is (none_at c.in_ok-part.field-0 _ c.in-None.is c.in_ok-part.ensures.none)

pub loop-rest-preserved : goal.loop-rest-preserved
loop-rest-preserved c =
    let is = three (λ word. word.now) c.loop-rest.rest.now nowhere nowhere nowhere _ refl (omega arith) in
    let some = some_at c.in_ok-part.field-0 c.in-Some.part _ c.in-Some.is c.in_ok-part.ensures.some in
    let first = first_is c.is_empty.result c.loop-rest.parts c.is_empty.ensures in
    rw c.in_ok-push-in-Some.ensures.ok
    (part_read _ c.loop-rest.parts _ _ _ _ _ c.in-Some.part c.loop-rest.invariant is (c.is_mark.ensures.0 c.if-not-is_mark.false ∙ ap mark_of first) some.0 some.1 some.2)

pub returns-else-is_empty-clause-none : goal.returns-else-is_empty-clause-none
returns-else-is_empty-clause-none c = λ all each e.
    stuck_short (λ word. word.now) _ c.loop-rest.parts all c.loop-rest.rest.now c.loop-rest.invariant each e (omega arith)
    (λ none. let h : (length c.loop-rest.rest.now == 0) ≡ true = ap (λ xs. length xs == 0) none in absurd (cc (h, c.if-is_empty.ensures)))
