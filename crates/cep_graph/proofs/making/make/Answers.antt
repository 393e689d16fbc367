use Rattle.std.proofs.Common.{◌≡◌, ◌⊎◌, inl, inr, ◌+◌, Bool, true, false, ◌&&◌, List, length, drop, refl, sym, ◌∙◌, subst, arith}
use Rattle.std.proofs.lemmas.Grind.{common_steps}
use Rattle.std.proofs.lemmas.Option.{slice_get_within}
use Rattle.std.specs.Prelude.{nat_lt}
use Rattle.cep_base.proofs.Lists.{holds_at}
use Rattle.cep_term.specs.Tree.{AtomTree, atom_of, IsGroundAtom, IsAtomInRange}
use Rattle.cep_rule.specs.Typing.{is_fact}
use Rattle.cep_rule.specs.Instances.{full_instance}
use Rattle.cep_graph.specs.Queues.{Queues, queue_of}
use Rattle.cep_graph.specs.Traces.{MakesFor}
use Rattle.cep_graph.proofs.Taken.{drop_next}
use Rattle.cep_graph.proofs.Made.{make_skip, make_add}
use Rattle.cep_graph.proofs.making.make.Goals.{then-not-is_fact+in_ok-add, then-not-is_fact-via-then-not-is_fact, then-not-is_fact-via-else-not-is_fact+then-not-has, else-not-is_fact+else-not-has}
use Rattle.cep_graph.proofs.making.make.Goals as goal

one_false : (s t : Bool) → (s ≡ false) ⊎ (t ≡ false) → (s && t) ≡ false
one_false true true (inl e) = e
one_false true true (inr e) = e
one_false true false either = refl
one_false false t either = refl

both_true : (s t : Bool) → s ≡ true → t ≡ true → (s && t) ≡ true
both_true true t e e' = e'
both_true false t e e' = e

pub loop-i-preserved : goal.loop-i-preserved
loop-i-preserved c =
    elim c.if-not-is_fact.branch [
      | then-not-is_fact+in_ok-add w ↦
          λ new rest. c.loop-i.invariant new
          (subst (λ (atoms : List AtomTree). MakesFor c.args.signature.now c.args.values.now atoms c.args.number c.loop-i.tokens new) (sym (drop_next c.args.right.now c.loop-i.i (atom_of c.get-atom.result.now) c.get-atom.ensures))
          (make_add c.bags_are_lawful.ensures c.args.signature.now c.args.values.now (atom_of c.get-atom.result.now) (drop (c.loop-i.i + 1) c.args.right.now) c.args.number c.loop-i.tokens c.id_of_instance.new.tokens new c.in_ok-id.id c.in_ok-id.ensures w.add.new.self (record { maker = c.args.number; users = w.new-users.result })
          (one_false (is_fact c.args.signature.now (full_instance c.args.values.now (atom_of c.get-atom.result.now))) (nat_lt 0 (length (queue_of c.id_of_instance.new.tokens (full_instance c.args.values.now (atom_of c.get-atom.result.now)))))
          (elim w.then-not-is_fact.branch [
            | then-not-is_fact-via-then-not-is_fact w' ↦ inl (let e : c.is_fact.result ≡ false = cc in sym c.is_fact.ensures ∙ e)
            | then-not-is_fact-via-else-not-is_fact+then-not-has w' ↦ inr (let e : w'.has.result ≡ false = cc in sym (w'.has.ensures (full_instance c.args.values.now (atom_of c.get-atom.result.now)) c.in_ok-id.ensures.met) ∙ e)
          ]))
          refl w.new-users.ensures (w.in_ok-add.ensures (full_instance c.args.values.now (atom_of c.get-atom.result.now)) c.in_ok-id.ensures.met)
          (subst (λ (q : Queues). MakesFor c.args.signature.now c.args.values.now (drop (c.loop-i.i + 1) c.args.right.now) c.args.number q new) w.tokens-is rest)))
      | else-not-is_fact+else-not-has w ↦
          λ new rest. c.loop-i.invariant new
          (subst (λ (atoms : List AtomTree). MakesFor c.args.signature.now c.args.values.now atoms c.args.number c.loop-i.tokens new) (sym (drop_next c.args.right.now c.loop-i.i (atom_of c.get-atom.result.now) c.get-atom.ensures))
          (make_skip c.bags_are_lawful.ensures c.args.signature.now c.args.values.now (atom_of c.get-atom.result.now) (drop (c.loop-i.i + 1) c.args.right.now) c.args.number c.loop-i.tokens c.id_of_instance.new.tokens new c.in_ok-id.id c.in_ok-id.ensures
          (both_true (is_fact c.args.signature.now (full_instance c.args.values.now (atom_of c.get-atom.result.now))) (nat_lt 0 (length (queue_of c.id_of_instance.new.tokens (full_instance c.args.values.now (atom_of c.get-atom.result.now)))))
          (let e : c.is_fact.result ≡ true = cc in sym c.is_fact.ensures ∙ e)
          (let e : w.has.result ≡ true = cc in sym (w.has.ensures (full_instance c.args.values.now (atom_of c.get-atom.result.now)) c.in_ok-id.ensures.met) ∙ e))
          (subst (λ (q : Queues). MakesFor c.args.signature.now c.args.values.now (drop (c.loop-i.i + 1) c.args.right.now) c.args.number q new) w.tokens-is rest)))
    ]

pub returns : goal.returns
returns c = grind (arith, common_steps)

pub id_of_instance-requires-clause-range : goal.id_of_instance-requires-clause-range
id_of_instance-requires-clause-range c = holds_at (λ (a : AtomTree). IsAtomInRange (length c.args.values.now) a) c.args.right.now c.loop-i.i (atom_of c.get-atom.result.now) c.requires.range c.get-atom.ensures

pub id_of_instance-requires-clause-ground : goal.id_of_instance-requires-clause-ground
id_of_instance-requires-clause-ground c = holds_at (λ (a : AtomTree). IsGroundAtom (full_instance c.args.values.now a)) c.args.right.now c.loop-i.i (atom_of c.get-atom.result.now) c.requires.ground c.get-atom.ensures

pub has-requires : goal.has-requires
has-requires c = slice_get_within c.id_of_instance.new.tokens.atoms c.in_ok-id.id (full_instance c.args.values.now (atom_of c.get-atom.result.now)) c.in_ok-id.ensures.met

pub add-requires : goal.add-requires
add-requires c = slice_get_within c.id_of_instance.new.tokens.atoms c.in_ok-id.id (full_instance c.args.values.now (atom_of c.get-atom.result.now)) c.in_ok-id.ensures.met
