-- The rules that are dead by the last table, and why.
use Rattle.std.proofs.Common.{◌≡◌, inl, inr, ℕ, suc, ◌+◌, List, [], ◌∷◌, ◌++◌, length, Contains, refl, sym, ap, subst, ◌∙◌, arith, ◌<◌, ◌≤◌, Bool, true, map}
use Rattle.std.specs.List.{AllByRecursion}
use Rattle.std.proofs.lemmas.Bool.{cases_lt}
use Rattle.cep_term.specs.Tree.{AtomTree}
use Rattle.cep_base.proofs.Elements.{contains_first, contains_right, contains_left}
use Rattle.cep_base.proofs.Lists.{some_same, map_last, all_pushed, all_weaker}
use Rattle.cep_rule.specs.declared.rule.Rule.{Rule}
use Rattle.cep_rule.specs.declared.parts.Parts.{Parts}
use Rattle.cep_rule.specs.declared.offer.Offer.{Offer}
use Rattle.cep_rule.specs.Offers.{Applies}
use Rattle.cep_rule.specs.Steps.{Spot}
use Rattle.cep_rule.specs.Program.{IsProgram}
use Rattle.cep_dead.specs.declared.dead_rule.DeadWhy.{DeadWhy}
use Rattle.cep_dead.specs.declared.dead_rule.DeadWhy.TheVariants.{Stage, Premise, Var}
use Rattle.cep_reach.specs.Shut.{IsFirstShut, IsFirstEmpty}
use Rattle.cep_dead.specs.Whys.{IsWhy}
use Rattle.cep_reach.specs.Tables.{Possibility, of_stage, IsOpen, StandsAlone, CanBegin}
use Rattle.cep_dead.specs.declared.dead_rule.DeadRule.{DeadRule}
use Rattle.cep_reach.specs.Rounds.{premises_of, RulePasses, stage_of, IsDead, IsInSomeRound}
use Rattle.std.specs.Prelude.{Option, Some, None, slice_get, MatchOption, Result, IfOk}
use Rattle.cep_base.proofs.Options.{within_got}
use Rattle.cep_reach.specs.Moves.{first_spot, AreMoves}
use Rattle.cep_dead.specs.Deads.{AreStrictlyIncreasing, NeverApplies, IsDeadFor, AreDeads}
use Rattle.cep_reach.specs.Adding.{IsLastTable}
use Rattle.cep_reach.proofs.Growing.{open_later, begin_later, rule_later, least, dead_in_all, dead_from_all}
use Rattle.cep_reach.proofs.Judgements.{shut_among}

-- A rule has one why.

module _ (table : Possibility → Type 0) where
  same_head : (x y : AtomTree) (xs ys : List AtomTree) → x ∷ xs ≡ y ∷ ys → x ≡ y
  same_head x y xs ys e = cc

  same_tail : (x y : AtomTree) (xs ys : List AtomTree) → x ∷ xs ≡ y ∷ ys → xs ≡ ys
  same_tail x y xs ys e = cc

  -- two prefixes of what is open, each before what is not, are as long
  as_long : (one other : List AtomTree) (x y : AtomTree) (xs ys : List AtomTree) → one ++ x ∷ xs ≡ other ++ y ∷ ys → AllByRecursion (IsOpen table) one → AllByRecursion (IsOpen table) other → ¬ IsOpen table x → ¬ IsOpen table y → length one ≡ length other
  as_long [] [] x y xs ys e all all' shut shut' = refl
  as_long (a ∷ one) (b ∷ other) x y xs ys e all all' shut shut' = ap suc (as_long one other x y xs ys (same_tail a b (one ++ x ∷ xs) (other ++ y ∷ ys) e) all.1 all'.1 shut shut')
  as_long one other x y xs ys e all all' shut shut' = grind (arith, same_head)

  one_place : (premises : List AtomTree) (n m : ℕ) → IsFirstShut table premises n → IsFirstShut table premises m → n ≡ m
  one_place premises n m is is' = cc (is.placed, as_long is.before is'.before is.shut is'.shut is.rest is'.rest (sym is.whole ∙ is'.whole) is.opened is'.opened is.is_shut is'.is_shut, is'.placed)

  module _ (program : Parts) (rule : Rule) where
    one_variable : (v w : ℕ) → IsFirstEmpty program.signature table rule.kinds (premises_of rule) v → IsFirstEmpty program.signature table rule.kinds (premises_of rule) w → v ≡ w
    one_variable v w is is' =
        elim (cases_lt v w) [
          | inl less ↦ (let begin = is'.first v less is.alone in absurd (is.none begin.0 begin.1))
          | inr no_less ↦ elim (cases_lt w v) [
            | inl less ↦ (let begin = is.first w less is'.alone in absurd (is'.none begin.0 begin.1))
            | inr no_greater ↦ omega arith
          ]
        ]

    pub does_not_pass : (why : DeadWhy) → IsWhy program table rule why → RulePasses program table rule → ⊥
    does_not_pass (Stage stage) is passes = is.1 (subst (λ k. table (of_stage k)) (sym is.0) passes.stage)
    does_not_pass (Premise place) is passes = shut_among table (premises_of rule) place is.1 passes.premises.opened
    does_not_pass (Var v) is passes = let begin = passes.premises.possible v is.2.alone in is.2.none begin.0 begin.1

    pub same_why : (why other : DeadWhy) → IsWhy program table rule why → IsWhy program table rule other → why ≡ other
    same_why (Stage stage) (Stage stage') is is' = ap Stage (is.0 ∙ sym is'.0)
    same_why (Premise place) (Stage stage) is is' = absurd (is'.1 (subst (λ k. table (of_stage k)) (sym is'.0) is.0))
    same_why (Premise place) (Premise place') is is' = ap Premise (one_place (premises_of rule) place place' is.1 is'.1)
    same_why (Premise place) (Var v) is is' = absurd (shut_among table (premises_of rule) place is.1 is'.1)
    same_why (Var v) (Stage stage) is is' = absurd (is'.1 (subst (λ k. table (of_stage k)) (sym is'.0) is.0))
    same_why (Var v) (Premise place) is is' = absurd (shut_among table (premises_of rule) place is'.1 is.1)
    same_why (Var v) (Var w) is is' = ap Var (one_variable v w is.2 is'.2)
    same_why why other is is' = absurd (is.1 (subst (λ k. table (of_stage k)) (sym is.0) is'.0))

-- The dead rules by the last table, and their whys.

-- a why by one table is one by another that has the same
module _ (program : Parts) (table other : Possibility → Type 0) (there : (item : Possibility) → table item → other item) (back : (item : Possibility) → other item → table item) (rule : Rule) where
  same_shut : (place : ℕ) → IsFirstShut table (premises_of rule) place → IsFirstShut other (premises_of rule) place
  same_shut place is = grind (arith, all_weaker, open_later, is.before, is.shut, is.rest, is.whole, is.opened, is.is_shut, is.placed)

  same_empty : (v : ℕ) → IsFirstEmpty program.signature table rule.kinds (premises_of rule) v → IsFirstEmpty program.signature other rule.kinds (premises_of rule) v
  same_empty v is = record {
    alone = is.alone;
    none = λ c begin. is.none c (begin_later other table back program.signature rule.kinds (premises_of rule) v c begin);
    first = λ w less alone. let begin = is.first w less alone in (begin.0, begin_later table other there program.signature rule.kinds (premises_of rule) w begin.0 begin.1);
  }

  pub why_stays : (why : DeadWhy) → IsWhy program table rule why → IsWhy program other rule why
  why_stays (Var v) is = (there (of_stage (stage_of rule)) is.0, all_weaker (IsOpen table) (IsOpen other) (premises_of rule) (open_later table other there) is.1, same_empty v is.2)
  why_stays why is = grind (arith, same_shut)

increasing_last : (numbers : List ℕ) (n : ℕ) → AllByRecursion (λ m. m < n) numbers → AreStrictlyIncreasing numbers → AreStrictlyIncreasing (numbers ++ n ∷ [])
increasing_last [] n below are = (tt, tt)
increasing_last (m ∷ numbers) n below are = (all_pushed (λ later. m < later) numbers n are.0 below.0, increasing_last numbers n below.1 are.1)

numbers_below : (deads : List DeadRule) (n : ℕ) → AllByRecursion (λ dead. dead.rule < n) deads → AllByRecursion (λ m. m < n) (map (λ dead. dead.rule) deads)
numbers_below [] n below = tt
numbers_below (dead ∷ deads) n below = (below.0, numbers_below deads n below.1)

-- These are the dead rules before a place.
pub record AreDeadsBelow (program : Parts) (i : ℕ) (deads : List DeadRule) : Type 0 where
  pub below : AllByRecursion (λ dead. dead.rule < i) deads
  pub in_order : AreStrictlyIncreasing (map (λ dead. dead.rule) deads)
  pub each : AllByRecursion (IsDeadFor program) deads
  pub all : (number : ℕ) (rule : Rule) → number < i → slice_get program.rules number ≡ Some rule → IsDead program rule → Contains (map (λ dead. dead.rule) deads) number

module _ (program : Parts) (has : Possibility → Bool) (last : IsLastTable program has) where
  abbrev table : Possibility → Type 0
  table item = has item ≡ true

  module _ (i : ℕ) (rule : Rule) (is : slice_get program.rules i ≡ Some rule) (deads : List DeadRule) (are : AreDeadsBelow program i deads) where
    pub passed_over : RulePasses program table rule → AreDeadsBelow program (i + 1) deads
    passed_over passes = record {
      below = all_weaker (λ (dead : DeadRule). dead.rule < i) (λ (dead : DeadRule). dead.rule < i + 1) deads (λ dead less. omega arith) are.below;
      in_order = are.in_order;
      each = are.each;
      all = λ number other less at dead. elim (cases_lt number i) [
        | inl before ↦ are.all number other before at dead
        | inr here ↦ (
            let same : other ≡ rule = some_same other rule (sym at ∙ ap (slice_get program.rules) (omega arith) ∙ is) in
            absurd (dead_in_all program other dead (rule_later program table (IsInSomeRound program) last.sound other (subst (RulePasses program table) (sym same) passes))))
      ];
    }

    pub found : (dead : DeadRule) → dead.rule ≡ i → IsWhy program table rule dead.why → AreDeadsBelow program (i + 1) (deads ++ dead ∷ [])
    found dead numbered why = record {
      below = all_pushed (λ (d : DeadRule). d.rule < i + 1) deads dead (all_weaker (λ (d : DeadRule). d.rule < i) (λ (d : DeadRule). d.rule < i + 1) deads (λ d less. omega arith) are.below) (omega arith);
      in_order = subst AreStrictlyIncreasing (sym (map_last (λ (d : DeadRule). d.rule) deads dead)) (increasing_last (map (λ (d : DeadRule). d.rule) deads) dead.rule (subst (λ n. AllByRecursion (λ m. m < n) (map (λ (d : DeadRule). d.rule) deads)) (sym numbered) (numbers_below deads i are.below)) are.in_order);
      each = all_pushed (IsDeadFor program) deads dead are.each (record {
        rule = rule;
        numbered = ap (slice_get program.rules) numbered ∙ is;
        why = why_stays program table (IsInSomeRound program) last.sound (λ item there. least program table last.closed there.0 item there.1) rule dead.why why;
      });
      all = λ number other less at is_dead. subst (λ (ns : List ℕ). Contains ns number) (sym (map_last (λ (d : DeadRule). d.rule) deads dead)) (elim (cases_lt number i) [
        | inl before ↦ contains_left (map (λ (d : DeadRule). d.rule) deads) (dead.rule ∷ []) number (are.all number other before at is_dead)
        | inr here ↦ (
            let same_number : dead.rule ≡ number = omega arith in
            contains_right (map (λ (d : DeadRule). d.rule) deads) (dead.rule ∷ []) number (subst (λ n. Contains (dead.rule ∷ []) n) same_number (contains_first dead.rule [])))
      ]);
    }

  pub all_found : (i : ℕ) (deads : List DeadRule) → length program.rules ≤ i → AreDeadsBelow program i deads → AreDeads program deads
  all_found i deads done are = grind (arith, within_got, are.in_order, are.each, program.rules, are.all)

-- a rule with a why by all that is in some round is dead
why_dead : (program : Parts) (rule : Rule) (why : DeadWhy) → IsWhy program (IsInSomeRound program) rule why → IsDead program rule
why_dead program rule why is = dead_from_all program rule (does_not_pass (IsInSomeRound program) program rule why is)

-- A dead rule never applies.
abbrev DeadNeverApply : Type 0
DeadNeverApply =
    (program : Parts) (height : ℕ) (moves : List Spot) (last : Spot) (rule : Rule) (offer : Offer) → IsProgram program → AreMoves program height (first_spot program) moves last → IsDead program rule → slice_get program.rules offer.rule ≡ Some rule → stage_of rule ≡ last.stage → ¬ Applies program height last.state offer

each_never : (program : Parts) → IsProgram program → DeadNeverApply → (deads : List DeadRule) → AllByRecursion (IsDeadFor program) deads → AllByRecursion (λ dead. NeverApplies program dead.rule) deads
each_never program kept never [] each = tt
each_never program kept never (dead ∷ deads) each = (one, each_never program kept never deads each.1)
  where
    one : NeverApplies program dead.rule
    one height moves last rule offer are numbered offered in_stage =
        let same : rule ≡ each.0.rule = some_same rule each.0.rule (sym numbered ∙ each.0.numbered) in
        never program height moves last rule offer kept are (subst (IsDead program) (sym same) (why_dead program each.0.rule dead.why each.0.why)) (ap (slice_get program.rules) offered ∙ numbered) in_stage

pub none_applies : {E : Type 0} (program parts : Parts) → parts ≡ program → IsProgram program → DeadNeverApply → (r : Result (List DeadRule) E) → IfOk r (AreDeads parts) → IfOk r (AllByRecursion (λ dead. NeverApplies program dead.rule))
none_applies program parts same kept never r are = grind (arith, each_never)

-- why a rule does not pass, from what was told of slices
module _ (program : Parts) (table : Possibility → Type 0) (rule : Rule) (kinds : List ℕ) (same_kinds : kinds ≡ rule.kinds) where
  pub empty_told : (premises : List AtomTree) (v : ℕ) → premises ≡ premises_of rule → IsFirstEmpty program.signature table kinds premises v → IsFirstEmpty program.signature table rule.kinds (premises_of rule) v
  empty_told premises v same is = subst (λ ps. IsFirstEmpty program.signature table rule.kinds ps v) same (subst (λ ks. IsFirstEmpty program.signature table ks premises v) same_kinds is)

  pub rule_passes : (opened possible : List AtomTree) → opened ≡ premises_of rule → possible ≡ premises_of rule → table (of_stage (stage_of rule)) → AllByRecursion (IsOpen table) opened → ((v : ℕ) → StandsAlone possible v → (c : ℕ) × CanBegin program.signature table kinds possible v c) → RulePasses program table rule
  rule_passes opened possible same_opened same_possible stage are can = record {
    stage = stage;
    premises = record {
      opened = subst (AllByRecursion (IsOpen table)) same_opened are;
      possible = subst (λ ps. (v : ℕ) → StandsAlone ps v → (c : ℕ) × CanBegin program.signature table rule.kinds ps v c) same_possible
          (subst (λ ks. (v : ℕ) → StandsAlone possible v → (c : ℕ) × CanBegin program.signature table ks possible v c) same_kinds can);
    };
  }

-- what the search for a why came to
pub why_told : (program : Parts) (table : Possibility → Type 0) (rule : Rule) (o : Option DeadWhy) (why : DeadWhy) → o ≡ Some why → MatchOption o (RulePasses program table rule) (IsWhy program table rule) → IsWhy program table rule why
why_told program table rule o why is told = subst (λ p. MatchOption p (RulePasses program table rule) (IsWhy program table rule)) is told

pub pass_told : (program : Parts) (table : Possibility → Type 0) (rule : Rule) (o : Option DeadWhy) → o ≡ None → MatchOption o (RulePasses program table rule) (IsWhy program table rule) → RulePasses program table rule
pass_told program table rule o is told = subst (λ p. MatchOption p (RulePasses program table rule) (IsWhy program table rule)) is told
