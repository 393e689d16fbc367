use Rattle.std.proofs.Common.{◌≡◌, ◌+◌, List, [], length, take, subst, sym, ap, ◌∙◌, arith}
use Rattle.std.proofs.lemmas.List.{take_all}
use Rattle.std.proofs.lemmas.Option.{slice_get_within}
use Rattle.std.specs.Prelude.{slice_get, Some}
use Rattle.std.specs.List.{AllByRecursion}
use Rattle.cep_term.specs.Tree.{atom_of, IsGround}
use Rattle.cep_term.specs.Values.{Values, atom_instance, HasValues}
use Rattle.cep_rule.specs.Instances.{given, full_instances}
use Rattle.cep_rule.specs.Derivations.{IsDerivable, ProofTree, proof_of}
use Rattle.cep_rule.specs.declared.rule.Rule.{Rule}
use Rattle.cep_rule.specs.declared.parts.Parts.{Parts}
use Rattle.cep_prove.specs.Answers.{IsGoal}
use Rattle.cep_rule.specs.Steps.{AreProofs}
use Rattle.cep_run.specs.Turn.{IsProofWithin}
use Rattle.cep_run.proofs.Backs.{ground_values, may_be_asked, valued, derivable_at, applied_values, applied_derivable, one_proof_more}
use Rattle.cep_base.proofs.Lists.{some_same}
use Rattle.cep_run.proofs.proving.prove_backs.Goals as goal

pub known_values-requires : goal.known_values-requires
known_values-requires g c =
    let applies = c.requires.applies.1 in
    subst (AllByRecursion IsGround) (sym c.as_slice.ensures) (ground_values _ _ _ applies.values)

pub prove-requires-clause-goal : goal.prove-requires-clause-goal
prove-requires-clause-goal g c =
    let program = c.args.program.now in
    let offer = c.args.offer.now in
    let rule = c.get-rule.result.now in
    let numbered : slice_get program.rules offer.rule ≡ Some rule = subst (λ (p : Parts). slice_get p.rules offer.rule ≡ Some rule) c.parts.ensures.parts c.get-rule.ensures in
    let values = applied_values program c.args.height c.requires.applies.0 offer rule c.requires.applies.1 numbered in
    let same : c.in_ok-known.known ≡ given offer.values = c.in_ok-known.ensures ∙ ap given c.as_slice.ensures in (
      rule.kinds,
      subst (λ (known : Values). IsGoal program rule.kinds (atom_of c.get-premise.result.now) known) (sym same)
          (may_be_asked c.types_are_lawful.ensures program c.args.height offer rule c.parts.ensures.kept numbered values c.more_positions_known_are_no_worse.ensures c.loop-i.i (atom_of c.get-premise.result.now) c.get-premise.ensures),
    )

pub prove-requires-clause-valued : goal.prove-requires-clause-valued
prove-requires-clause-valued g c =
    let program = c.args.program.now in
    let offer = c.args.offer.now in
    let rule = c.get-rule.result.now in
    let numbered : slice_get program.rules offer.rule ≡ Some rule = subst (λ (p : Parts). slice_get p.rules offer.rule ≡ Some rule) c.parts.ensures.parts c.get-rule.ensures in
    let values = applied_values program c.args.height c.requires.applies.0 offer rule c.requires.applies.1 numbered in
    let same : c.in_ok-known.known ≡ given offer.values = c.in_ok-known.ensures ∙ ap given c.as_slice.ensures in
    subst (λ (known : Values). HasValues known (atom_of c.get-premise.result.now)) (sym same)
    (valued c.types_are_lawful.ensures program c.args.height offer rule c.parts.ensures.kept numbered values c.loop-i.i (atom_of c.get-premise.result.now) c.get-premise.ensures)

pub prove-requires-clause-derivable : goal.prove-requires-clause-derivable
prove-requires-clause-derivable g c =
    let program = c.args.program.now in
    let offer = c.args.offer.now in
    let rule = c.get-rule.result.now in
    let numbered : slice_get program.rules offer.rule ≡ Some rule = subst (λ (p : Parts). slice_get p.rules offer.rule ≡ Some rule) c.parts.ensures.parts c.get-rule.ensures in
    let values = applied_values program c.args.height c.requires.applies.0 offer rule c.requires.applies.1 numbered in
    let derivable = applied_derivable program c.args.height c.requires.applies.0 offer rule c.requires.applies.1 numbered in
    let same : c.in_ok-known.known ≡ given offer.values = c.in_ok-known.ensures ∙ ap given c.as_slice.ensures in
    subst (λ (known : Values). IsDerivable program c.args.height (atom_instance known (atom_of c.get-premise.result.now))) (sym same)
    (derivable_at c.types_are_lawful.ensures program c.args.height offer rule c.parts.ensures.kept numbered values derivable c.loop-i.i (atom_of c.get-premise.result.now) c.get-premise.ensures)

pub loop-i-preserved : goal.loop-i-preserved
loop-i-preserved g c =
    let program = c.args.program.now in
    let offer = c.args.offer.now in
    let rule = c.get-rule.result.now in
    let same : c.in_ok-known.known ≡ given offer.values = c.in_ok-known.ensures ∙ ap given c.as_slice.ensures in
    let premise = atom_of c.get-premise.result.now in
    let one = subst (λ (known : Values). IsProofWithin program c.args.height (atom_instance known premise) (proof_of c.in_ok-prove.field-0)) same c.in_ok-prove.ensures.proved in
    let before = c.loop-i.invariant.ticked in
    let later = c.prove.ensures.ticked in
    record {
      proved = subst (λ (proofs : List ProofTree). AreProofs program c.args.height proofs (full_instances offer.values (take (c.loop-i.i + 1) rule.backs))) (sym c.in_ok-push.ensures.ok)
          (one_proof_more program c.args.height offer.values rule.backs c.loop-i.i premise c.loop-i.proofs (proof_of c.in_ok-prove.field-0) c.get-premise.ensures c.loop-i.invariant.proved one);
      ticked = omega (arith, before, later);
    }

pub returns-clause-proved : goal.returns-clause-proved
returns-clause-proved g c =
    let program = c.args.program.now in
    let offer = c.args.offer.now in
    let rule = c.get-rule.result.now in
    let numbered : slice_get program.rules offer.rule ≡ Some rule = subst (λ (p : Parts). slice_get p.rules offer.rule ≡ Some rule) c.parts.ensures.parts c.get-rule.ensures in
    let end = c.len-i-end.ensures in
    let done = c.loop-i-test.false in
    record {
      rule = rule;
      numbered = numbered;
      proved = subst (λ backs. AreProofs program c.args.height c.loop-i.proofs (full_instances offer.values backs)) (take_all c.loop-i.i rule.backs (omega (arith, end, done))) c.loop-i.invariant.proved;
    }

pub returns-clause-ticked : goal.returns-clause-ticked
returns-clause-ticked g c = λ rule is.
    let program = c.args.program.now in
    let numbered : slice_get program.rules c.args.offer.now.rule ≡ Some c.get-rule.result.now = subst (λ (p : Parts). slice_get p.rules c.args.offer.now.rule ≡ Some c.get-rule.result.now) c.parts.ensures.parts c.get-rule.ensures in
    let end = c.len-i-end.ensures in
    let done = c.loop-i-test.false in
    let ticked = c.loop-i.invariant.ticked in
    let all : c.loop-i.steps ≡ c.args.steps.now + length c.get-rule.result.now.backs = omega (arith, end, done, ticked) in
    subst (λ (one : Rule). c.loop-i.steps ≡ c.args.steps.now + length one.backs) (some_same c.get-rule.result.now rule (sym numbered ∙ is)) all

pub returns-then-is_empty-clause-proved : goal.returns-then-is_empty-clause-proved
returns-then-is_empty-clause-proved g c =
    let program = c.args.program.now in
    let offer = c.args.offer.now in
    let rule = c.get-rule.result.now in
    record {
      rule = rule;
      numbered = subst (λ (p : Parts). slice_get p.rules offer.rule ≡ Some rule) c.parts.ensures.parts c.get-rule.ensures;
      proved = subst (λ backs. AreProofs program c.args.height c.new-proofs.result (full_instances offer.values backs)) (sym (c.is_empty.ensures.0 c.if-is_empty.true)) (subst (λ proofs. AreProofs program c.args.height proofs []) (sym c.new-proofs.ensures) tt);
    }

pub returns-then-is_empty-clause-ticked : goal.returns-then-is_empty-clause-ticked
returns-then-is_empty-clause-ticked g c = λ rule is.
    let program = c.args.program.now in
    let numbered : slice_get program.rules c.args.offer.now.rule ≡ Some c.get-rule.result.now = subst (λ (p : Parts). slice_get p.rules c.args.offer.now.rule ≡ Some c.get-rule.result.now) c.parts.ensures.parts c.get-rule.ensures in
    let none : c.get-rule.result.now.backs ≡ [] = c.is_empty.ensures.0 c.if-is_empty.true in
    let same : c.get-rule.result.now ≡ rule = some_same c.get-rule.result.now rule (sym numbered ∙ is) in
    omega (arith, ap (λ (one : Rule). length one.backs) same, ap length none)

pub get-rule-requires : goal.get-rule-requires
get-rule-requires g c = rw c.parts.ensures.parts (slice_get_within _ _ c.requires.applies.1.rule c.requires.applies.1.numbered)
