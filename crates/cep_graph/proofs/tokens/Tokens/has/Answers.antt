use Rattle.std.proofs.Common.{List, length, sym, ap, ◌∙◌}
use Rattle.std.specs.Prelude.{nat_lt}
use Rattle.cep_graph.specs.declared.trace.Trace.{Trace}
use Rattle.cep_graph.proofs.Made.{is_queue}
use Rattle.cep_graph.proofs.tokens.Tokens.has.Goals as goal

pub returns : goal.returns
returns c = λ a id.
    let is = is_queue c.bags_are_lawful.ensures (λ d. d.items) c.self.inside.store.atoms c.self.inside.queues.items c.args.id a c.index.result.now c.index.result.now c.args.self.now c.self.view_is c.self.invariant id c.index.ensures in
    c.is_some.ensures ∙ c.front.ensures.item.0 ∙ ap (λ (queue : List Trace). nat_lt 0 (length queue)) (sym is)
