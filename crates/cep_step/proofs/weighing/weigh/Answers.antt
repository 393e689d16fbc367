use Rattle.std.proofs.Common.{refl, arith}
use Rattle.cep_step.proofs.Ready.{not_all_fit, exact_number, in_range, added_ground, taken_ground, can_weigh, taken_few, too_full, within}
use Rattle.cep_step.proofs.weighing.weigh.Goals as goal

pub returns-in-Some : goal.returns-in-Some
returns-in-Some c =
    let first = rw c.in_ok-new.ensures at c.in-Some.ensures in
    (not_all_fit _ _ first, λ small. exact_number c.steps_are_lawful.ensures _ _ _ _ c.requires.ready _ first (small refl))

pub weigh_edit-requires-clause-can : goal.weigh_edit-requires-clause-can
weigh_edit-requires-clause-can c =
    rw c.listed_or.ensures (can_weigh c.steps_are_lawful.ensures _ _ _ _ c.requires.ready _ _ c.in_ok-gains.gains c.in_ok-taken.ensures c.in_ok-added.ensures c.in_ok-gains.ensures (rw c.in_ok-new.ensures at c.in_default.ensures))

pub of-requires-clause-few : goal.of-requires-clause-few
of-requires-clause-few c = omega (arith, taken_few c.steps_are_lawful.ensures _ _ _ _ c.requires.ready _ c.in_ok-taken.ensures)

pub returns-in-TooFull : goal.returns-in-TooFull
returns-in-TooFull c =
    too_full c.steps_are_lawful.ensures _ _ _ _ c.requires.ready _ _ c.in_ok-gains.gains c.in_ok-taken.ensures c.in_ok-added.ensures c.in_ok-gains.ensures (rw c.in_ok-new.ensures at c.in_default.ensures) c.in-TooFull.number (rw (← c.listed_or.ensures) c.in-TooFull.ensures)

pub returns-in_ok-of-in-Fits : goal.returns-in_ok-of-in-Fits
returns-in_ok-of-in-Fits c =
    within c.steps_are_lawful.ensures _ _ _ _ c.requires.ready _ _ _ c.in_ok-taken.ensures c.in_ok-added.ensures c.in_ok-gains.ensures (rw c.in_ok-new.ensures at c.in_default.ensures)
    _ _ _ c.in_ok-of-in-Fits.ensures c.unwrap_or.ensures (rw (← c.listed_or.ensures) c.in-Fits.ensures)

pub used_atoms-requires : goal.used_atoms-requires
used_atoms-requires c = in_range c.steps_are_lawful.ensures c.args.parts.now.signature _ _ c.requires.ready.are _ c.requires.ready.typed.premises

pub made_atoms-requires : goal.made_atoms-requires
made_atoms-requires c = in_range c.steps_are_lawful.ensures c.args.parts.now.signature _ _ c.requires.ready.are _ c.requires.ready.typed.right

pub gained_unless_all-requires : goal.gained_unless_all-requires
gained_unless_all-requires c = added_ground c.steps_are_lawful.ensures _ _ _ _ c.requires.ready _ c.in_ok-added.ensures

pub of-requires-clause-known : goal.of-requires-clause-known
of-requires-clause-known c = taken_ground c.steps_are_lawful.ensures _ _ _ _ c.requires.ready _ c.in_ok-taken.ensures
