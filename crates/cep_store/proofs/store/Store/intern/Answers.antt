use Rattle.std.proofs.Common.{◌≡◌, ℕ, ◌<◌, ◌^◌, List, [], ◌∷◌, ◌++◌, ap, ◌∙◌, subst, arith}
use Rattle.std.specs.Prelude.{IfOk, OnErr}
use Rattle.cep_base.proofs.Outcomes.{on_err}
use Rattle.cep_term.specs.Tree.{atom_of, trees_of}
use Rattle.cep_store.specs.Held.{Held, HasId, StaysHeld}
use Rattle.cep_store.specs.Keys.{terms_by, atoms_by, held_by}
use Rattle.cep_store.proofs.Storing.{keys_grown, atoms_grown, stays_held, keys_after_atom, stays_after_atom, id_after_atom, same_after_atom}
use Rattle.cep_store.proofs.store.Store.intern.Goals as goal

pub invariant_of-self-in_err-intern_args : goal.invariant_of-self-in_err-intern_args
invariant_of-self-in_err-intern_args c = keys_grown c.self.inside.terms c.intern_args.new.terms c.self.inside.atoms c.self.invariant c.intern_args.ensures.keys c.intern_args.ensures.front

pub returns-in_err-intern_args-clause-stays : goal.returns-in_err-intern_args-clause-stays
returns-in_err-intern_args-clause-stays c =
    subst (λ old. StaysHeld old (held_by c.intern_args.new.terms c.self.inside.atoms)) c.self.view_is
    (stays_held c.self.inside.terms c.intern_args.new.terms c.self.inside.atoms c.self.invariant c.intern_args.ensures.keys c.intern_args.ensures.front)

pub returns-in_err-intern_args-clause-err : goal.returns-in_err-intern_args-clause-err
returns-in_err-intern_args-clause-err c =
    on_err _ _ (
    subst (λ (old : Held). atoms_by (terms_by c.intern_args.new.terms) c.self.inside.atoms ≡ old.atoms) c.self.view_is
    (atoms_grown c.self.inside.terms c.intern_args.new.terms c.self.inside.atoms c.self.invariant c.intern_args.ensures.keys c.intern_args.ensures.front))

pub invariant_of-self-2 : goal.invariant_of-self-2
invariant_of-self-2 c =
    let starts = c.in_ok-push.ensures.items ∙ ap (λ (l : List ℕ). l ++ c.args.a.now.pred ∷ []) c.clear.ensures.items in
    let small : c.args.a.now.pred < 2 ^ 32 = omega arith in
    keys_after_atom c.self.inside.terms c.intern_args.new.terms c.self.inside.atoms c.self.invariant c.intern_args.ensures.keys c.intern_args.ensures.front
    c.add.new.self c.args.a.now.pred c.push.new.self.items c.deref.result.now (trees_of c.args.a.now.args) starts (rw c.deref.ensures.value c.in_ok-intern_args.ensures.ids) small c.add.ensures.apart c.add.result c.add.ensures.place c.add.ensures.err

pub returns-clause-id : goal.returns-clause-id
returns-clause-id c =
    let starts = c.in_ok-push.ensures.items ∙ ap (λ (l : List ℕ). l ++ c.args.a.now.pred ∷ []) c.clear.ensures.items in
    let small : c.args.a.now.pred < 2 ^ 32 = omega arith in
    subst (λ (old : Held). IfOk c.add.result (λ id. HasId old.atoms (atom_of c.args.a.now) id (atoms_by (terms_by c.intern_args.new.terms) c.add.new.self))) c.self.view_is
    (id_after_atom c.self.inside.terms c.intern_args.new.terms c.self.inside.atoms c.self.invariant c.intern_args.ensures.keys c.intern_args.ensures.front
    c.add.new.self c.args.a.now.pred c.push.new.self.items c.deref.result.now (trees_of c.args.a.now.args) starts (rw c.deref.ensures.value c.in_ok-intern_args.ensures.ids) small c.add.ensures.apart c.add.result c.add.ensures.place)

pub returns-clause-stays : goal.returns-clause-stays
returns-clause-stays c =
    let starts = c.in_ok-push.ensures.items ∙ ap (λ (l : List ℕ). l ++ c.args.a.now.pred ∷ []) c.clear.ensures.items in
    let small : c.args.a.now.pred < 2 ^ 32 = omega arith in
    subst (λ old. StaysHeld old (held_by c.intern_args.new.terms c.add.new.self)) c.self.view_is
    (stays_after_atom c.self.inside.terms c.intern_args.new.terms c.self.inside.atoms c.self.invariant c.intern_args.ensures.keys c.intern_args.ensures.front
    c.add.new.self c.args.a.now.pred c.push.new.self.items c.deref.result.now (trees_of c.args.a.now.args) starts (rw c.deref.ensures.value c.in_ok-intern_args.ensures.ids) small c.add.ensures.apart c.add.result c.add.ensures.place c.add.ensures.err)

pub returns-clause-err : goal.returns-clause-err
returns-clause-err c =
    subst (λ (old : Held). OnErr c.add.result (atoms_by (terms_by c.intern_args.new.terms) c.add.new.self ≡ old.atoms)) c.self.view_is
    (same_after_atom c.self.inside.terms c.intern_args.new.terms c.self.inside.atoms c.self.invariant c.intern_args.ensures.keys c.intern_args.ensures.front c.add.new.self c.add.result c.add.ensures.err)
