use Rattle.std.proofs.Common.{◌≡◌, refl, inl, inr, true, sym, subst}
use Rattle.cep_weigh.proofs.Lined.{not_twice}
use Rattle.cep_claim.specs.Factors.{HaveOwnPredicates, AreNotNegative}
use Rattle.cep_claim.specs.Written.{AreResolved}
use Rattle.cep_weigh.specs.Claims.{IsNamedBefore}
use Rattle.cep_claim.proofs.Parted.{some_at}
use Rattle.cep_weigh.proofs.reading.claim_of.Goals as goal

pub returns-then-has_name-clause-fault : goal.returns-then-has_name-clause-fault
returns-then-has_name-clause-fault c = (
  refl,
  (
    record {
      written = c.in-Some.written;
      line_is = some_at c.in_ok-written.field-0 c.in-Some.written _ c.in-Some.is c.in_ok-written.ensures.some;
      sum = c.in-Some-2.sum;
      numbered = subst (λ parts. AreResolved c.args.signature.now parts c.in-Some-2.sum) c.as_slice.ensures (some_at c.in_ok-sum.field-0 c.in-Some-2.sum _ c.in-Some-2.is c.in_ok-sum.ensures.some);
    },
    inl (subst (IsNamedBefore c.args.claims.now) c.bytes.ensures (c.has_name.ensures.0 c.if-has_name.true)),
  ),
)

pub returns-then-not-are_apart-clause-fault : goal.returns-then-not-are_apart-clause-fault
returns-then-not-are_apart-clause-fault c = (
  refl,
  (
    record {
      written = c.in-Some.written;
      line_is = some_at c.in_ok-written.field-0 c.in-Some.written _ c.in-Some.is c.in_ok-written.ensures.some;
      sum = c.in-Some-2.sum;
      numbered = subst (λ parts. AreResolved c.args.signature.now parts c.in-Some-2.sum) c.as_slice.ensures (some_at c.in_ok-sum.field-0 c.in-Some-2.sum _ c.in-Some-2.is c.in_ok-sum.ensures.some);
    },
    inr (λ apart. let yes : c.are_apart.result ≡ true = c.are_apart.ensures.1 (subst HaveOwnPredicates (sym c.as_slice-2.ensures) apart) in absurd (cc (yes, c.if-not-are_apart.true))),
  ),
)

pub returns-then-not-are_not_negative-clause-fault : goal.returns-then-not-are_not_negative-clause-fault
returns-then-not-are_not_negative-clause-fault c = (
  refl,
  (
    record {
      written = c.in-Some.written;
      line_is = some_at c.in_ok-written.field-0 c.in-Some.written _ c.in-Some.is c.in_ok-written.ensures.some;
      sum = c.in-Some-2.sum;
      numbered = subst (λ parts. AreResolved c.args.signature.now parts c.in-Some-2.sum) c.as_slice.ensures (some_at c.in_ok-sum.field-0 c.in-Some-2.sum _ c.in-Some-2.is c.in_ok-sum.ensures.some);
    },
    (not_twice c.has_name.result (IsNamedBefore c.args.claims.now c.in-Some.written.name) (HaveOwnPredicates c.in-Some-2.sum)
        ((λ yes. subst (IsNamedBefore c.args.claims.now) c.bytes.ensures (c.has_name.ensures.0 yes)), (λ named. c.has_name.ensures.1 (subst (IsNamedBefore c.args.claims.now) (sym c.bytes.ensures) named)))
        c.if-has_name.false (subst HaveOwnPredicates c.as_slice-2.ensures (c.are_apart.ensures.0 c.if-not-are_apart.false))),
    c.is_fall.ensures.0 c.if-is_fall.true,
    (λ signs. let yes : c.are_not_negative.result ≡ true = c.are_not_negative.ensures.1 (subst AreNotNegative (sym c.as_slice-then-is_fall.ensures) signs) in absurd (cc (yes, c.if-not-are_not_negative.true))),
  ),
)
