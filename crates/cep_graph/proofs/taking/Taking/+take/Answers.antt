use Rattle.std.proofs.Common.{◌↔◌, ◌⊎◌, ℕ, ◌+◌, ◌≤◌, List, length, drop, refl, sym, ap, ◌∙◌, subst, arith, Contains}
use Rattle.std.specs.Prelude.{slice_get}
use Rattle.std.proofs.lemmas.List.{drop_all}
use Rattle.std.proofs.lemmas.Result.{on_ok_weaker}
use Rattle.std.proofs.lemmas.Option.{slice_get_within}
use Rattle.cep_base.proofs.Lists.{holds_at}
use Rattle.cep_term.specs.Tree.{AtomTree, IsGroundAtom, IsAtomInRange}
use Rattle.cep_rule.specs.Patterns.{PremiseTree, premise_of}
use Rattle.cep_rule.specs.Instances.{full_instance}
use Rattle.cep_graph.specs.Traces.{TakesFor}
use Rattle.cep_graph.proofs.Taken.{none_taken, fact_takes, none_takes, gone_takes, kept_takes, drop_next}
use Rattle.cep_graph.proofs.taking.Taking.+take.Goals as goal

pub returns-then-i-len-clause-takes : goal.returns-then-i-len-clause-takes
returns-then-i-len-clause-takes t c =
    let all : length c.args.premises.now ≤ c.args.i = omega (arith, c.len.ensures, c.if-i-len.true) in
    subst (λ (premises : List PremiseTree). TakesFor c.args.self.now.signature.now c.args.self.now.values.now premises c.args.self.now.number c.args.tokens.now c.args.tokens.now c.args.numbers.now.items c.args.numbers.now.items) (sym (drop_all c.args.i c.args.premises.now all)) (none_taken c.bags_are_lawful.ensures c.args.self.now.signature.now c.args.self.now.values.now c.args.self.now.number c.args.tokens.now c.args.numbers.now.items)

pub id_of_instance-requires-clause-range : goal.id_of_instance-requires-clause-range
id_of_instance-requires-clause-range t c = holds_at (λ (premise : PremiseTree). IsAtomInRange (length c.args.self.now.values.now) premise.atom) c.args.premises.now c.args.i (premise_of c.get-premise.result.now) c.requires.range c.get-premise.ensures

pub id_of_instance-requires-clause-ground : goal.id_of_instance-requires-clause-ground
id_of_instance-requires-clause-ground t c = holds_at (λ (premise : PremiseTree). IsGroundAtom (full_instance c.args.self.now.values.now premise.atom)) c.args.premises.now c.args.i (premise_of c.get-premise.result.now) c.requires.ground c.get-premise.ensures

pub oldest_maker-requires : goal.oldest_maker-requires
oldest_maker-requires t c = slice_get_within c.id_of_instance.new.tokens.atoms c.in_ok-id.id (full_instance c.args.self.now.values.now (premise_of c.get-premise.result.now).atom) c.in_ok-id.ensures.met

pub returns-then-is_fact-clause-takes : goal.returns-then-is_fact-clause-takes
returns-then-is_fact-clause-takes t c =
    on_ok_weaker c.take.result (λ takes.
    subst (λ (premises : List PremiseTree). TakesFor c.args.self.now.signature.now c.args.self.now.values.now premises c.args.self.now.number c.args.tokens.now c.take.new.tokens c.args.numbers.now.items c.take.new.numbers.items) (sym (drop_next c.args.premises.now c.args.i (premise_of c.get-premise.result.now) c.get-premise.ensures))
    (fact_takes c.bags_are_lawful.ensures c.args.self.now.signature.now c.args.self.now.values.now (premise_of c.get-premise.result.now) (drop (c.args.i + 1) c.args.premises.now) c.args.self.now.number c.args.tokens.now c.id_of_instance.new.tokens c.take.new.tokens c.in_ok-id.id c.oldest_maker.result c.args.numbers.now.items c.take.new.numbers.items (sym c.is_fact.ensures ∙ c.if-is_fact.true) c.in_ok-id.ensures
    (λ oldest others first. c.oldest_maker.ensures (full_instance c.args.self.now.values.now (premise_of c.get-premise.result.now).atom) oldest others c.in_ok-id.ensures.met first)
    (subst (λ (ns : List ℕ). TakesFor c.args.self.now.signature.now c.args.self.now.values.now (drop (c.args.i + 1) c.args.premises.now) c.args.self.now.number c.id_of_instance.new.tokens c.take.new.tokens ns c.take.new.numbers.items) c.in_ok-push.ensures.items takes)))
    c.take.ensures.takes

pub take_oldest-requires : goal.take_oldest-requires
take_oldest-requires t c = slice_get_within c.id_of_instance.new.tokens.atoms c.in_ok-id.id (full_instance c.args.self.now.values.now (premise_of c.get-premise.result.now).atom) c.in_ok-id.ensures.met

pub returns-in_default-clause-takes : goal.returns-in_default-clause-takes
returns-in_default-clause-takes t c =
    subst (λ (premises : List PremiseTree). TakesFor c.args.self.now.signature.now c.args.self.now.values.now premises c.args.self.now.number c.args.tokens.now c.take_oldest.new.self c.args.numbers.now.items c.args.numbers.now.items) (sym (drop_next c.args.premises.now c.args.i (premise_of c.get-premise.result.now) c.get-premise.ensures))
    (none_takes c.bags_are_lawful.ensures c.args.self.now.signature.now c.args.self.now.values.now (premise_of c.get-premise.result.now) (drop (c.args.i + 1) c.args.premises.now) c.args.self.now.number c.args.tokens.now c.id_of_instance.new.tokens c.take_oldest.new.self c.in_ok-id.id c.args.numbers.now.items c.args.numbers.now.items (sym c.is_fact.ensures ∙ c.if-is_fact.false) c.in_ok-id.ensures (c.in_default.ensures.none (full_instance c.args.self.now.values.now (premise_of c.get-premise.result.now).atom) c.in_ok-id.ensures.met refl))

pub returns-then-not-premise-clause-takes : goal.returns-then-not-premise-clause-takes
returns-then-not-premise-clause-takes t c =
    on_ok_weaker c.take-then-not-premise.result (λ takes.
    subst (λ (premises : List PremiseTree). TakesFor c.args.self.now.signature.now c.args.self.now.values.now premises c.args.self.now.number c.args.tokens.now c.take-then-not-premise.new.tokens c.args.numbers.now.items c.take-then-not-premise.new.numbers.items) (sym (drop_next c.args.premises.now c.args.i (premise_of c.get-premise.result.now) c.get-premise.ensures))
    (gone_takes c.bags_are_lawful.ensures c.args.self.now.signature.now c.args.self.now.values.now (premise_of c.get-premise.result.now) (drop (c.args.i + 1) c.args.premises.now) c.args.self.now.number c.args.tokens.now c.id_of_instance.new.tokens c.take_oldest.new.self c.take-then-not-premise.new.tokens c.in_ok-id.id c.in-Some.trace c.args.numbers.now.items c.add_all.new.numbers.items c.take-then-not-premise.new.numbers.items (sym c.is_fact.ensures ∙ c.if-is_fact.false) (cc) c.in_ok-id.ensures
    (c.in-Some.ensures.taken (full_instance c.args.self.now.values.now (premise_of c.get-premise.result.now).atom) c.in_ok-id.ensures.met)
    (subst (λ (ns : List ℕ). (n : ℕ) → (Contains c.add_all.new.numbers.items n ↔ (Contains ns n ⊎ Contains c.in-Some.trace.users n))) c.in_ok-push-2.ensures.items c.in_ok-add_all.ensures)
    takes))
    c.take-then-not-premise.ensures.takes

pub put_back-requires : goal.put_back-requires
put_back-requires t c =
    let met = c.in_ok-id.ensures.met in
    slice_get_within c.take-2.new.tokens.atoms c.in_ok-id.id (full_instance c.args.self.now.values.now (premise_of c.get-premise.result.now).atom) (c.in_ok-take.ensures.ids c.in_ok-id.id (full_instance c.args.self.now.values.now (premise_of c.get-premise.result.now).atom) (ap (λ (atoms : List AtomTree). slice_get atoms c.in_ok-id.id) (sym (c.in-Some.ensures.taken (full_instance c.args.self.now.values.now (premise_of c.get-premise.result.now).atom) met).atoms) ∙ met))

pub returns-clause-takes : goal.returns-clause-takes
returns-clause-takes t c =
    let met = c.in_ok-id.ensures.met in
    let later = c.in_ok-take.ensures.ids c.in_ok-id.id (full_instance c.args.self.now.values.now (premise_of c.get-premise.result.now).atom) (ap (λ (atoms : List AtomTree). slice_get atoms c.in_ok-id.id) (sym (c.in-Some.ensures.taken (full_instance c.args.self.now.values.now (premise_of c.get-premise.result.now).atom) met).atoms) ∙ met) in
    subst (λ (premises : List PremiseTree). TakesFor c.args.self.now.signature.now c.args.self.now.values.now premises c.args.self.now.number c.args.tokens.now c.put_back.new.self c.args.numbers.now.items c.take-2.new.numbers.items) (sym (drop_next c.args.premises.now c.args.i (premise_of c.get-premise.result.now) c.get-premise.ensures))
    (kept_takes c.bags_are_lawful.ensures c.args.self.now.signature.now c.args.self.now.values.now (premise_of c.get-premise.result.now) (drop (c.args.i + 1) c.args.premises.now) c.args.self.now.number c.args.tokens.now c.id_of_instance.new.tokens c.take_oldest.new.self c.take-2.new.tokens c.put_back.new.self c.in_ok-id.id c.in-Some.trace (record { maker = c.in-Some.trace.maker; users = c.push-3.new.self }) c.args.numbers.now.items c.take-2.new.numbers.items (sym c.is_fact.ensures ∙ c.if-is_fact.false) (cc) c.in_ok-id.ensures
    (c.in-Some.ensures.taken (full_instance c.args.self.now.values.now (premise_of c.get-premise.result.now).atom) met) refl c.in_ok-push-3.ensures.ok
    (subst (λ (ns : List ℕ). TakesFor c.args.self.now.signature.now c.args.self.now.values.now (drop (c.args.i + 1) c.args.premises.now) c.args.self.now.number c.take_oldest.new.self c.take-2.new.tokens ns c.take-2.new.numbers.items) c.in_ok-push-2.ensures.items c.in_ok-take.ensures.takes)
    (c.in_ok-put_back.ensures (full_instance c.args.self.now.values.now (premise_of c.get-premise.result.now).atom) later))

pub returns-then-is_fact-clause-ids : goal.returns-then-is_fact-clause-ids
returns-then-is_fact-clause-ids t c =
    on_ok_weaker c.take.result (λ keeps id a is. keeps id a (c.in_ok-id.ensures.ids id a is)) c.take.ensures.ids

pub returns-then-not-premise-clause-ids : goal.returns-then-not-premise-clause-ids
returns-then-not-premise-clause-ids t c =
    let taken = c.in-Some.ensures.taken (full_instance c.args.self.now.values.now (premise_of c.get-premise.result.now).atom) c.in_ok-id.ensures.met in
    on_ok_weaker c.take-then-not-premise.result (λ keeps id a is. keeps id a (ap (λ (atoms : List AtomTree). slice_get atoms id) (sym taken.atoms) ∙ c.in_ok-id.ensures.ids id a is)) c.take-then-not-premise.ensures.ids
