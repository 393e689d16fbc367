use Rattle.cep_base.proofs.Bools.{true_false}
use Rattle.cep_ground.proofs.EarliestPlaces.{earlier_other, earlier_one, one_alone, other_alone}
use Rattle.cep_ground.proofs.places.earlier.Goals as goal

pub returns-then-stands_before : goal.returns-then-stands_before
returns-then-stands_before c xs ys one other =
    rw c.in-Some-Some.is-1
    (earlier_other c.in-Some-Some.pos c.in-Some-Some.next (c.stands_before.ensures.0 c.if-stands_before.true) xs ys
    (rw c.in-Some-Some.is-0 at one) (rw c.in-Some-Some.is-1 at other))

pub returns-else-stands_before : goal.returns-else-stands_before
returns-else-stands_before c xs ys one other =
    rw c.in-Some-Some.is-0
    (earlier_one c.in-Some-Some.pos c.in-Some-Some.next (λ before. true_false c.stands_before.result (c.stands_before.ensures.1 before) c.if-stands_before.false) xs ys
    (rw c.in-Some-Some.is-0 at one) (rw c.in-Some-Some.is-1 at other))

pub returns-in-Some-None : goal.returns-in-Some-None
returns-in-Some-None c xs ys one other = one_alone c.args.one xs ys one (rw c.in-Some-None.is-1 at other)

pub returns-in-None-default : goal.returns-in-None-default
returns-in-None-default c xs ys one other = other_alone c.args.other xs ys (rw c.in-None-default.is-0 at one) other
