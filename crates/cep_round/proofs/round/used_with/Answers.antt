use Rattle.std.proofs.Common.{◌++◌, List, sym, ap, subst, ◌∙◌}
use Rattle.std.specs.List.{AllByRecursion}
use Rattle.cep_term.specs.Tree.{AtomTree, IsGroundAtom}
use Rattle.cep_round.specs.Sides.{needed_by}
use Rattle.cep_round.proofs.Orders.{needed_ground, used_with_is, few_with}
use Rattle.cep_round.proofs.round.used_with.Goals as goal

pub join-requires-clause-ground : goal.join-requires-clause-ground
join-requires-clause-ground c =
    let program = c.args.program.now in
    let offer = c.args.offer.now in
    subst (AllByRecursion IsGroundAtom) (sym (c.in_ok-push_needed.ensures ∙ ap (λ (atoms : List AtomTree). atoms ++ needed_by program offer) c.new-needed.ensures))
    (needed_ground c.steps_are_lawful.ensures program c.parts.ensures.kept offer c.requires.offer)

pub join-requires-clause-few : goal.join-requires-clause-few
join-requires-clause-few c =
    few_with c.steps_are_lawful.ensures c.args.program.now c.parts.ensures.kept c.args.offer.now c.requires.offer c.args.used.now c.in_ok-with.with c.push_needed.new.atoms
    (c.in_ok-push_needed.ensures ∙ ap (λ (atoms : List AtomTree). atoms ++ needed_by c.args.program.now c.args.offer.now) c.new-needed.ensures) c.in_ok-with.ensures c.requires.few

pub returns : goal.returns
returns c =
    used_with_is c.steps_are_lawful.ensures c.args.program.now c.parts.ensures.kept c.args.offer.now c.requires.offer c.args.used.now c.in_ok-with.with c.parts.result.now c.push_needed.new.atoms c.join.new.bag
    c.requires.bag c.parts.ensures.parts (c.in_ok-push_needed.ensures ∙ ap (λ (atoms : List AtomTree). atoms ++ needed_by c.args.program.now c.args.offer.now) c.new-needed.ensures) c.in_ok-with.ensures c.in_ok-join.ensures
