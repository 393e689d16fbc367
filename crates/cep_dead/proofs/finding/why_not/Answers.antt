use Rattle.std.proofs.Common.{◌≡◌, true, map, ap, sym, subst, ◌∙◌, arith, rules}
use Rattle.std.proofs.lemmas.Grind.{common_steps}
use Rattle.std.specs.List.{AllByRecursion}
use Rattle.cep_base.proofs.Lists.{all_weaker}
use Rattle.cep_rule.specs.Typing.{IsTyped}
use Rattle.cep_reach.specs.Tables.{IsOpen}
use Rattle.cep_reach.specs.Rounds.{premises_of}
use Rattle.cep_reach.specs.Held.{is_held, HasFewArguments}
use Rattle.cep_reach.proofs.Additions.{few_premises, rule_premises}
use Rattle.cep_reach.proofs.Judgements.{tree_at, typed_short, alone_in_range}
use Rattle.cep_dead.proofs.Whys.{empty_told, rule_passes}
use Rattle.cep_dead.proofs.finding.why_not.Goals as goal

pub sets_of-requires-clause-short : goal.sets_of-requires-clause-short
sets_of-requires-clause-short c =
    let program = c.args.program.now in
    let are = rule_premises program c.requires.program c.args.rule.now c.requires.of_program in
    subst (AllByRecursion HasFewArguments) (sym (ap (map tree_at) c.deref-2.ensures.value ∙ c.in_ok-premises.ensures))
    (all_weaker (IsTyped program.signature c.args.rule.now.kinds) HasFewArguments (premises_of c.args.rule.now) (λ a typed. typed_short program.signature c.args.rule.now.kinds a are.small typed) are.typed)

pub overflow_cast-result-in-Some-first_empty : goal.overflow_cast-result-in-Some-first_empty
overflow_cast-result-in-Some-first_empty c =
    let program = c.args.program.now in
    let rule = c.args.rule.now in
    let are = rule_premises program c.requires.program rule c.requires.of_program in
    let is = empty_told program (λ item. is_held c.args.table.now item ≡ true) rule c.as_slice-kinds.result.now c.as_slice-kinds.ensures (map tree_at c.deref-3.result.now) c.in-Some-first_empty.v (ap (map tree_at) c.deref-3.ensures.value ∙ c.in_ok-premises.ensures) c.in-Some-first_empty.ensures in
    let low = alone_in_range program.signature rule.kinds (premises_of rule) c.in-Some-first_empty.v are.typed is.alone in
    omega (arith, low, are.few)

pub returns-in-Some-first_empty : goal.returns-in-Some-first_empty
returns-in-Some-first_empty c =
    let program = c.args.program.now in
    let rule = c.args.rule.now in
    let there : c.has_stage.result ≡ true = grind (arith, c.if-not-has_stage.false) in (
      sym c.has_stage.ensures ∙ there,
      subst (AllByRecursion (IsOpen (λ item. is_held c.args.table.now item ≡ true))) (ap (map tree_at) c.deref.ensures.value ∙ c.in_ok-premises.ensures) c.in_default.ensures,
      empty_told program (λ item. is_held c.args.table.now item ≡ true) rule c.as_slice-kinds.result.now c.as_slice-kinds.ensures (map tree_at c.deref-3.result.now) c.in-Some-first_empty.v (ap (map tree_at) c.deref-3.ensures.value ∙ c.in_ok-premises.ensures) c.in-Some-first_empty.ensures,
    )

pub returns : goal.returns
returns c =
    let there : c.has_stage.result ≡ true = grind (arith, c.if-not-has_stage.false) in
    rule_passes c.args.program.now (λ item. is_held c.args.table.now item ≡ true) c.args.rule.now c.as_slice-kinds.result.now c.as_slice-kinds.ensures (map tree_at c.deref.result.now) (map tree_at c.deref-3.result.now)
    (ap (map tree_at) c.deref.ensures.value ∙ c.in_ok-premises.ensures) (ap (map tree_at) c.deref-3.ensures.value ∙ c.in_ok-premises.ensures) (sym c.has_stage.ensures ∙ there) c.in_default.ensures c.in-None.ensures

pub first_shut-requires : goal.first_shut-requires
first_shut-requires c = grind (arith, common_steps)

pub sets_of-requires-clause-few_variables : goal.sets_of-requires-clause-few_variables
sets_of-requires-clause-few_variables c = grind (arith, common_steps)

pub first_empty-requires-clause-premises : goal.first_empty-requires-clause-premises
first_empty-requires-clause-premises c = grind (arith, common_steps)

pub returns-in-Some : goal.returns-in-Some
returns-in-Some c = search rules

pub overflow_add-result : goal.overflow_add-result
overflow_add-result c =
    omega (arith, few_premises c.args.program.now c.requires.program c.args.rule.now c.requires.of_program _ (map tree_at c.deref.result.now) _ (ap (map tree_at) c.deref.ensures.value ∙ c.in_ok-premises.ensures) c.in-Some.ensures)

pub overflow_cast-result : goal.overflow_cast-result
overflow_cast-result c =
    omega (arith, few_premises c.args.program.now c.requires.program c.args.rule.now c.requires.of_program _ (map tree_at c.deref.result.now) _ (ap (map tree_at) c.deref.ensures.value ∙ c.in_ok-premises.ensures) c.in-Some.ensures)
