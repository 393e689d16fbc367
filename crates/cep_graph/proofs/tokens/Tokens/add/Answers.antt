use Rattle.std.proofs.Common.{[], ◌∷◌, ◌++◌, arith}
use Rattle.std.proofs.lemmas.Grind.{common_steps}
use Rattle.cep_graph.proofs.Made.{changed}
use Rattle.cep_graph.proofs.tokens.Tokens.add.Goals as goal

pub returns : goal.returns
returns c = λ a id. changed c.bags_are_lawful.ensures (λ d. d.items) c.self.inside.store.atoms c.self.inside.queues.items c.args.id a c.index_mut.result.now c.push_back.new.self c.args.self.now (λ queue. queue ++ c.args.trace ∷ []) c.self.view_is c.self.invariant id c.index_mut.ensures.value c.in_ok-push_back.ensures.items

pub index_mut-requires : goal.index_mut-requires
index_mut-requires c = grind (arith, common_steps)

pub invariant_of-self : goal.invariant_of-self
invariant_of-self c = grind (arith, common_steps)

pub invariant_of-self-2 : goal.invariant_of-self-2
invariant_of-self-2 c = grind (arith, common_steps)
