use Rattle.std.proofs.Common.{ℕ, ◌<◌, ◌^◌, List, [], ◌∷◌, ◌++◌, length, drop, refl, ap, ◌∙◌, ◌≡◌, arith, rules}
use Rattle.std.proofs.lemmas.Result.{on_ok_weaker}
use Rattle.cep_base.proofs.Outcomes.{on_ok}
use Rattle.cep_term.specs.Tree.{trees_of}
use Rattle.cep_store.specs.Keys.{terms_by}
use Rattle.cep_store.proofs.Additions.{args_added, alone_adds, begun_again, keys_after, front_after, term_after, only_after}
use Rattle.cep_store.proofs.interning.+intern.Goals as goal

pub intern_args-returns-in_ok-push-in-Cons-clause-ids :
    goal.intern_args-returns-in_ok-push-in-Cons-clause-ids
intern_args-returns-in_ok-push-in-Cons-clause-ids t c =
    rw (c.in-Cons.is, ← c.deref.ensures) (
    on_ok_weaker _
    (args_added (terms_by c.intern_term.new.terms) (terms_by c.intern_args.new.terms) c.args.key.now.items c.push.new.self.items c.intern_args.new.key.items c.in_ok-id-in-Cons.id _ _ c.in_ok-id-in-Cons.ensures.id c.intern_args.ensures.front (c.in_ok-push-in-Cons.ensures.items ∙ ap (λ (l : List ℕ). l ++ c.in_ok-id-in-Cons.id ∷ []) c.in_ok-id-in-Cons.ensures.begun))
    (rw (c.deref-in-Cons.ensures, ← c.deref.ensures) at c.intern_args.ensures.ids))

pub intern_term-returns-clause-id : goal.intern_term-returns-clause-id
intern_term-returns-clause-id t c =
    let begun : c.len-begun.result ≡ length c.args.key.now.items = omega (arith, c.len-begun.ensures) in
    let alone = c.key_behind.result.now in
    let adds = alone_adds (terms_by c.intern_args.new.terms) c.args.key.now.items c.push.new.self.items c.intern_args.new.key.items alone c.in-App.c (trees_of c.in-App.args) c.in_ok-push-in-App.ensures.items c.in_ok-intern_args-in-App.ensures.ids (rw (c.key_behind.ensures, begun, c.deref.ensures.value) refl) in
    let small : c.in-App.c < 2 ^ 32 = omega arith in
    rw c.in-App.is (term_after c.intern_args.new.terms c.add-id.new.self c.in-App.c (c.in-App.c ∷ []) alone (trees_of c.in-App.args) refl adds small c.intern_args.ensures.keys c.add-id.ensures.apart c.add-id.result c.add-id.ensures.place)

pub intern_term-returns-clause-keys : goal.intern_term-returns-clause-keys
intern_term-returns-clause-keys t c =
    let begun : c.len-begun.result ≡ length c.args.key.now.items = omega (arith, c.len-begun.ensures) in
    let alone = c.key_behind.result.now in
    let adds = alone_adds (terms_by c.intern_args.new.terms) c.args.key.now.items c.push.new.self.items c.intern_args.new.key.items alone c.in-App.c (trees_of c.in-App.args) c.in_ok-push-in-App.ensures.items c.in_ok-intern_args-in-App.ensures.ids (rw (c.key_behind.ensures, begun, c.deref.ensures.value) refl) in
    let small : c.in-App.c < 2 ^ 32 = omega arith in
    keys_after c.intern_args.new.terms c.add-id.new.self c.in-App.c (c.in-App.c ∷ []) alone (trees_of c.in-App.args) refl adds small c.intern_args.ensures.keys c.add-id.ensures.apart c.add-id.result c.add-id.ensures.place c.add-id.ensures.err

pub intern_term-returns-clause-front : goal.intern_term-returns-clause-front
intern_term-returns-clause-front t c =
    let begun : c.len-begun.result ≡ length c.args.key.now.items = omega (arith, c.len-begun.ensures) in
    let alone = c.key_behind.result.now in
    let adds = alone_adds (terms_by c.intern_args.new.terms) c.args.key.now.items c.push.new.self.items c.intern_args.new.key.items alone c.in-App.c (trees_of c.in-App.args) c.in_ok-push-in-App.ensures.items c.in_ok-intern_args-in-App.ensures.ids (rw (c.key_behind.ensures, begun, c.deref.ensures.value) refl) in
    let small : c.in-App.c < 2 ^ 32 = omega arith in
    front_after c.intern_args.new.terms c.add-id.new.self c.in-App.c (c.in-App.c ∷ []) alone (trees_of c.in-App.args) refl adds small c.intern_args.ensures.keys c.add-id.ensures.apart c.add-id.result (terms_by c.args.terms.now) c.intern_args.ensures.front c.add-id.ensures.place c.add-id.ensures.err

pub intern_term-returns-clause-only : goal.intern_term-returns-clause-only
intern_term-returns-clause-only t c =
    let begun : c.len-begun.result ≡ length c.args.key.now.items = omega (arith, c.len-begun.ensures) in
    let alone = c.key_behind.result.now in
    let adds = alone_adds (terms_by c.intern_args.new.terms) c.args.key.now.items c.push.new.self.items c.intern_args.new.key.items alone c.in-App.c (trees_of c.in-App.args) c.in_ok-push-in-App.ensures.items c.in_ok-intern_args-in-App.ensures.ids (rw (c.key_behind.ensures, begun, c.deref.ensures.value) refl) in
    let small : c.in-App.c < 2 ^ 32 = omega arith in
    rw c.in-App.is (only_after c.intern_args.new.terms c.add-id.new.self c.in-App.c (c.in-App.c ∷ []) alone (trees_of c.in-App.args) refl adds small c.intern_args.ensures.keys c.add-id.ensures.apart c.add-id.result (terms_by c.args.terms.now) c.intern_args.ensures.only c.add-id.ensures.place c.add-id.ensures.err)

pub intern_term-returns-clause-begun : goal.intern_term-returns-clause-begun
intern_term-returns-clause-begun t c =
    let begun : c.len-begun.result ≡ length c.args.key.now.items = search rules in
    on_ok c.add-id.result _ (rw (c.truncate.ensures.items, begun) (begun_again (terms_by c.intern_args.new.terms) c.args.key.now.items c.push.new.self.items c.intern_args.new.key.items c.in-App.c (trees_of c.in-App.args) c.in_ok-push-in-App.ensures.items c.in_ok-intern_args-in-App.ensures.ids))
