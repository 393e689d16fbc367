use Rattle.std.proofs.Common.{◌++◌, ap, ◌∙◌, arith}
use Rattle.std.specs.Option.{option_to_list}
use Rattle.cep_graph.proofs.Made.{is_queue, changed_back, none_left}
use Rattle.std.proofs.lemmas.Grind.{common_steps}
use Rattle.cep_graph.proofs.tokens.Tokens.take_oldest.Goals as goal

pub returns-clause-none : goal.returns-clause-none
returns-clause-none c = λ a id none.
    is_queue c.bags_are_lawful.ensures (λ d. d.items) c.self.inside.store.atoms c.self.inside.queues.items c.args.id a c.index_mut.result.now c.pop_front.new.self c.args.self.now c.self.view_is c.self.invariant id c.index_mut.ensures.value
    ∙ none_left c.index_mut.result.now.items c.pop_front.new.self.items (c.pop_front.ensures.items ∙ ap (λ popped. option_to_list popped ++ c.pop_front.new.self.items) none) c.pop_front.ensures.rest

pub returns-clause-taken : goal.returns-clause-taken
returns-clause-taken c = λ a id. changed_back c.bags_are_lawful.ensures (λ d. d.items) c.self.inside.store.atoms c.self.inside.queues.items c.args.id a c.index_mut.result.now c.pop_front.new.self c.args.self.now (λ queue. option_to_list c.pop_front.result ++ queue) c.self.view_is c.self.invariant id c.index_mut.ensures.value c.pop_front.ensures.items

pub index_mut-requires : goal.index_mut-requires
index_mut-requires c = grind (arith, common_steps)

pub invariant_of-self : goal.invariant_of-self
invariant_of-self c = grind (arith, common_steps)
