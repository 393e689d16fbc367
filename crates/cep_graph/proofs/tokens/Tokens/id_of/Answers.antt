use Rattle.std.proofs.Common.{◌<◌, [], ◌∷◌, ◌++◌, length, map, ap, ◌∙◌, sym, subst, arith}
use Rattle.std.proofs.lemmas.Grind.{common_steps}
use Rattle.std.proofs.lemmas.List.{length-map}
use Rattle.cep_term.specs.Tree.{atom_of}
use Rattle.cep_graph.specs.Queues.{GetsId}
use Rattle.cep_graph.proofs.Made.{meets_new}
use Rattle.cep_graph.proofs.tokens.Tokens.id_of.Goals as goal

pub invariant_of-self-in_err-push : goal.invariant_of-self-in_err-push
invariant_of-self-in_err-push c = let few = c.in_err-push.ensures.full in let room = c.in_ok-reserve.ensures.ok in absurd (omega arith)

pub returns-in_ok-push : goal.returns-in_ok-push
returns-in_ok-push c =
    let items = c.in_ok-push.ensures.items ∙ ap (λ deques. deques ++ c.new.result ∷ []) c.reserve.ensures.items in
    let more : length c.self.inside.store.atoms < length c.intern.new.self.atoms = omega (arith, c.self.invariant.long, length-map c.self.inside.queues.items (λ d. d.items), c.self.inside.queues.ok.0, c.reserve.ensures.len, c.atoms.ensures.value, c.len.ensures, c.if-atoms-len.true) in
    subst (λ deques. GetsId c.args.self.now (atom_of c.args.atom.now) c.in_ok-id.id (record { atoms = c.intern.new.self.atoms; rows = map (λ d. d.items) deques })) (sym items)
    (meets_new c.bags_are_lawful.ensures (λ d. d.items) c.self.inside.store.atoms c.intern.new.self.atoms c.self.inside.queues.items c.in_ok-id.id (atom_of c.args.atom.now) c.args.self.now c.new.result c.self.view_is c.self.invariant c.in_ok-id.ensures.id more c.new.ensures.items)

pub invariant_of-self-in_ok-push : goal.invariant_of-self-in_ok-push
invariant_of-self-in_ok-push c = grind (arith, common_steps)

pub invariant_of-self-else-atoms-len : goal.invariant_of-self-else-atoms-len
invariant_of-self-else-atoms-len c = grind (arith, common_steps)

pub returns-else-atoms-len : goal.returns-else-atoms-len
returns-else-atoms-len c = grind (arith, common_steps)
