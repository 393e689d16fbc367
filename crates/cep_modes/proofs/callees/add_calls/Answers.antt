use Rattle.std.proofs.Common.{ap, ◌∙◌, ◌∷◌, [], ◌++◌, arith}
use Rattle.std.proofs.lemmas.Grind.{common_steps}
use Rattle.cep_term.specs.Tree.{atom_of}
use Rattle.cep_modes.specs.Places.{holds}
use Rattle.cep_base.proofs.Lists.{holds_at}
use Rattle.cep_modes.proofs.Looping.{call_found, goal_learnt}
use Rattle.cep_modes.proofs.callees.add_calls.Goals as goal

pub loop-i-preserved : goal.loop-i-preserved
loop-i-preserved c = record {
  found =
      call_found c.args.goals.now c.loop-i.i (atom_of c.get-goal.result.now) (holds c.loop-i.known) (holds c.learn_all.new.known) c.loop-i.found.items c.push.new.self.items _
      c.get-goal.ensures (c.in_ok-push.ensures.items ∙ ap (λ n. c.loop-i.found.items ++ n ∷ []) c.place.ensures) c.learn_all.ensures c.loop-i.invariant.found;
  known = goal_learnt c.args.goals.now c.loop-i.i (atom_of c.get-goal.result.now) (holds c.loop-i.known) (holds c.learn_all.new.known) _ c.get-goal.ensures c.learn_all.ensures c.loop-i.invariant.known;
}

pub returns-clause-found : goal.returns-clause-found
returns-clause-found c = grind (arith, common_steps)

pub returns-clause-known : goal.returns-clause-known
returns-clause-known c = grind (arith, common_steps)

pub place-requires : goal.place-requires
place-requires c = rw c.loop-i.auto.known (holds_at _ c.args.goals.now c.loop-i.i (atom_of c.get-goal.result.now) c.requires c.get-goal.ensures)

pub learn_all-requires : goal.learn_all-requires
learn_all-requires c = rw c.loop-i.auto.known ((holds_at _ c.args.goals.now c.loop-i.i (atom_of c.get-goal.result.now) c.requires c.get-goal.ensures).in_range)
