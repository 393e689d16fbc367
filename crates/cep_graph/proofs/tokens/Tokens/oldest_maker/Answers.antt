use Rattle.std.proofs.Common.{◌≡◌, ℕ, suc, true, arith, List, length, get_or, sym, ap, ◌∙◌}
use Rattle.std.proofs.lemmas.Bool.{false≢true}
use Rattle.std.specs.Prelude.{nat_lt}
use Rattle.std.proofs.lemmas.Bool.Decides.{nat_tests}
use Rattle.cep_graph.specs.declared.trace.Trace.{Trace}
use Rattle.cep_graph.proofs.Made.{is_queue}
use Rattle.cep_graph.proofs.tokens.Tokens.oldest_maker.Goals as goal

positive : (n : ℕ) → nat_lt 0 (suc n) ≡ true
positive n = grind (arith, nat_tests)

pub returns-in-Some : goal.returns-in-Some
returns-in-Some c = λ a oldest others id first.
    let is = is_queue c.bags_are_lawful.ensures (λ d. d.items) c.self.inside.store.atoms c.self.inside.queues.items c.args.id a c.index.result.now c.index.result.now c.args.self.now c.self.view_is c.self.invariant id c.index.ensures in
    ap (λ (trace : Trace). trace.maker) (c.in-Some.ensures.item.1 ∙ ap (λ (queue : List Trace). get_or queue 0 c.in-Some.trace.now) (sym is ∙ first))

pub returns-in-None : goal.returns-in-None
returns-in-None c = λ a oldest others id first.
    let is = is_queue c.bags_are_lawful.ensures (λ d. d.items) c.self.inside.store.atoms c.self.inside.queues.items c.args.id a c.index.result.now c.index.result.now c.args.self.now c.self.view_is c.self.invariant id c.index.ensures in
    absurd (false≢true (c.in-None.ensures.item.0 ∙ ap (λ (queue : List Trace). nat_lt 0 (length queue)) (sym is ∙ first) ∙ positive (length others)))
