-- Tables grow from round to round, and each derivable atom is open in one.
use Rattle.std.proofs.Common.{◌≡◌, ⊎_elim, inl, inr, ℕ, zero, suc, ◌+◌, ◌-◌, ◌≤◌, List, refl, subst, arith, ◌⊎◌, [], ◌∷◌, Option, Some, unwrap_or, sym, ap, ◌∙◌, max, ◌↔◌, true, false, ◌==◌, Contains}
use Rattle.std.specs.List.{AllByRecursion}
use Rattle.std.specs.Prelude.{slice_get, IsSomeAnd}
use Rattle.std.proofs.lemmas.Bool.{eqb-true, eqb-false}
use Rattle.cep_base.proofs.Lists.{all_weaker, none_some, some_same, holds_at}
use Rattle.cep_rule.specs.Program.{IsTypedClause, IsProgram}
use Rattle.cep_term.specs.Tree.{AtomTree, Tree, Trees, variable, node, none, more}
use Rattle.cep_term.specs.Values.{Values, value_of, term_instance, argument_instances}
use Rattle.cep_rule.specs.declared.signature.Signature.{Signature}
use Rattle.cep_rule.specs.declared.signature.Con.{Con}
use Rattle.cep_rule.specs.declared.rule.Rule.{Rule}
use Rattle.cep_rule.specs.declared.parts.Parts.{Parts}
use Rattle.cep_rule.specs.Patterns.{ClauseTree}
use Rattle.cep_reach.specs.Tables.{Possibility, IsOpen, CanBegin, PremisesPass, AtomAdds, nth_argument, HasConAt, HasVarAt, of_con}
use Rattle.cep_reach.specs.Rounds.{RulePasses, IsAddedByRule, IsAddedByClause, IsInRound, IsDead, premises_of, IsMade, IsInSomeRound, IsClosedTable}
use Rattle.cep_base.proofs.Elements.{all_at, contains_map, contains_at, all_of, contains_none, contains_first, contains_behind, contains_cases}
use Rattle.cep_rule.specs.Typing.{HasSort, HaveSorts, IsTyped, IsValue, AreValues}
use Rattle.cep_rule.specs.Instances.{given, full_instance, full_instances}
use Rattle.cep_rule.specs.Derivations.{ProofTree, ProofTrees, by_clause, no_goal, goal_by, IsHeadBy, Proves, ProveAll, IsDerivable}
pub use Rattle.cep_base.proofs.Options.{from_some_is as from_some}

-- Tables grow from round to round, and what passes one passes each later one.

pub open_later : (table later : Possibility → Type 0) → ((item : Possibility) → table item → later item) → (a : AtomTree) → IsOpen table a → IsOpen later a
open_later table later grows a is = record { pred = grows _ is.pred; cons = λ i c has. grows _ (is.cons i c has) }

pub begin_later : (table later : Possibility → Type 0) → ((item : Possibility) → table item → later item) → (signature : Signature) (kinds : List ℕ) (premises : List AtomTree) (v c : ℕ) → CanBegin signature table kinds premises v c → CanBegin signature later kinds premises v c
begin_later table later grows signature kinds premises v c begin = record { at_each = λ a i there has. grows _ (begin.at_each a i there has); typed = begin.typed }

pub adds_later : (table later : Possibility → Type 0) → ((item : Possibility) → table item → later item) → (signature : Signature) (kinds : List ℕ) (premises : List AtomTree) (a : AtomTree) (item : Possibility) → AtomAdds signature table kinds premises a item → AtomAdds signature later kinds premises a item
adds_later table later grows signature kinds premises a item adds = grind (arith, begin_later)

pub pass_later : (table later : Possibility → Type 0) → ((item : Possibility) → table item → later item) → (signature : Signature) (kinds : List ℕ) (premises : List AtomTree) → PremisesPass signature table kinds premises → PremisesPass signature later kinds premises
pass_later table later grows signature kinds premises pass = record {
  opened = all_weaker (IsOpen table) (IsOpen later) premises (open_later table later grows) pass.opened;
  possible = λ v alone.
      let begin = pass.possible v alone in
      (begin.0, begin_later table later grows signature kinds premises v begin.0 begin.1);
}

module _ (program : Parts) where
  further : (n k m : ℕ) (item : Possibility) → m ≡ k + n → IsInRound program n item → IsInRound program m item
  further n zero m item e is = let same : n ≡ m = omega arith in subst (λ r. IsInRound program r item) same is
  further n (suc k) m item e is =
      let next : IsInRound program (suc (k + n)) item = inl (further n k (k + n) item refl is) in
      let same : suc (k + n) ≡ m = omega arith in
      subst (λ r. IsInRound program r item) same next

  pub later_item : (n m : ℕ) → n ≤ m → (item : Possibility) → IsInRound program n item → IsInRound program m item
  later_item n m within item is = further n (m - n) m item (omega arith) is

  pub later_open : (n m : ℕ) → n ≤ m → (a : AtomTree) → IsOpen (IsInRound program n) a → IsOpen (IsInRound program m) a
  later_open n m within = open_later (IsInRound program n) (IsInRound program m) (later_item n m within)

  pub later_all : (n m : ℕ) → n ≤ m → (atoms : List AtomTree) → AllByRecursion (IsOpen (IsInRound program n)) atoms → AllByRecursion (IsOpen (IsInRound program m)) atoms
  later_all n m within atoms all = all_weaker (IsOpen (IsInRound program n)) (IsOpen (IsInRound program m)) atoms (later_open n m within) all

  pub later_rule : (n m : ℕ) → n ≤ m → (rule : Rule) → RulePasses program (IsInRound program n) rule → RulePasses program (IsInRound program m) rule
  later_rule n m within rule passes = record {
    stage = later_item n m within _ passes.stage;
    premises = pass_later (IsInRound program n) (IsInRound program m) (later_item n m within) program.signature rule.kinds _ passes.premises;
  }

  pub rule_later : (table later : Possibility → Type 0) → ((item : Possibility) → table item → later item) → (rule : Rule) → RulePasses program table rule → RulePasses program later rule
  rule_later table later grows rule passes = record { stage = grows _ passes.stage; premises = pass_later table later grows program.signature rule.kinds _ passes.premises }

  pub by_rule_later : (table later : Possibility → Type 0) → ((item : Possibility) → table item → later item) → (item : Possibility) → IsAddedByRule program table item → IsAddedByRule program later item
  by_rule_later table later grows item added = grind (arith, rule_later table later grows added.rule added.passes, adds_later, added.rule, added.of_program, added.passes, program.signature, added.rule.kinds, added.made)

  pub by_clause_later : (table later : Possibility → Type 0) → ((item : Possibility) → table item → later item) → (item : Possibility) → IsAddedByClause program table item → IsAddedByClause program later item
  by_clause_later table later grows item added = record {
    clause = added.clause;
    of_program = added.of_program;
    passes = pass_later table later grows program.signature added.clause.kinds added.clause.goals added.passes;
    made = adds_later table later grows program.signature added.clause.kinds added.clause.goals added.clause.head item added.made;
  }

  -- a round after which nothing is added is the last
  module _ (n : ℕ) (closed : (item : Possibility) → IsInRound program (suc n) item → IsInRound program n item) where
    pub in_last : (m : ℕ) (item : Possibility) → IsInRound program m item → IsInRound program n item
    in_last zero item is = later_item 0 n (omega arith) item is
    in_last (suc m) item is =
        let grows = in_last m in
        ⊎_elim (grows item) (λ added. closed item (inr (⊎_elim (λ by. inl (by_rule_later (IsInRound program m) (IsInRound program n) grows item by)) (λ by. inr (by_clause_later (IsInRound program m) (IsInRound program n) grows item by)) added))) is

    pub dead_by_last : (rule : Rule) → ¬ RulePasses program (IsInRound program n) rule → IsDead program rule
    dead_by_last rule passes_not round passes = passes_not (rule_later (IsInRound program round) (IsInRound program n) (in_last round) rule passes)

-- Instances that are open in a table: their patterns pass it, and what these add opens the instances of what they make.

to_some : {X : Type 0} (found : Option X) (P : X → Type 0) (x : X) → found ≡ Some x → P x → IsSomeAnd found P
to_some found P x is h = subst (λ o. IsSomeAnd o P) (sym is) h

-- the argument of an instance is the instance of the argument
instance_at : (values : Values) (args : Trees) (i : ℕ) (t : Tree) → nth_argument args i ≡ Some t → nth_argument (argument_instances values args) i ≡ Some (term_instance values t)
instance_at values (more u rest) (suc i) t is = instance_at values rest i t is
instance_at values args i t is = grind (arith, none_some, some_same)

record ArgumentOf (values : Values) (args : Trees) (i : ℕ) (u : Tree) : Type 0 where
  from : Tree
  there : nth_argument args i ≡ Some from
  same : term_instance values from ≡ u

argument_of : (values : Values) (args : Trees) (i : ℕ) (u : Tree) → nth_argument (argument_instances values args) i ≡ Some u → ArgumentOf values args i u
argument_of values (more t rest) (suc i) u is = grind (arith, argument_of values rest i u is)
argument_of values args i u is = grind (arith, none_some, some_same)

-- a pattern is open where an instance is
pattern_open : (table : Possibility → Type 0) (values : List Tree) (a : AtomTree) → IsOpen table (full_instance values a) → IsOpen table a
pattern_open table values a is = record {
  pred = is.pred;
  cons = λ i c has. is.cons i c (argument_instances (given values) has.0, instance_at (given values) a.args i (node c has.0) has.1);
}

patterns_open : (table : Possibility → Type 0) (values : List Tree) (atoms : List AtomTree) → AllByRecursion (IsOpen table) (full_instances values atoms) → AllByRecursion (IsOpen table) atoms
patterns_open table values [] all = tt
patterns_open table values (a ∷ atoms) all = (pattern_open table values a all.0, patterns_open table values atoms all.1)

-- the type of a variable that stands by itself
argument_sort : (cons : List Con) (kinds sorts : List ℕ) (args : Trees) (i v : ℕ) → HaveSorts cons kinds sorts args → nth_argument args i ≡ Some (variable v) → (sort : ℕ) × (slice_get kinds v ≡ Some sort)
argument_sort cons kinds sorts none i v typed is = none_some (variable v) is
argument_sort cons kinds [] (more t rest) i v typed is = absurd typed
argument_sort cons kinds (sort ∷ sorts) (more t rest) zero v typed is = (sort, subst (HasSort cons kinds sort) (some_same t (variable v) is) typed.0)
argument_sort cons kinds (sort ∷ sorts) (more t rest) (suc i) v typed is = argument_sort cons kinds sorts rest i v typed.1 is

variable_sort : (signature : Signature) (kinds : List ℕ) (a : AtomTree) (i v : ℕ) → IsTyped signature kinds a → HasVarAt a i v → (sort : ℕ) × (slice_get kinds v ≡ Some sort)
variable_sort signature kinds a i v typed is = from_some (slice_get signature.preds a.pred) _ _ (λ pred found sorts. argument_sort signature.cons kinds pred.args a.args i v sorts is) typed

-- The value of a variable begins with a constructor of its type.
pub record Begins (cons : List Con) (kinds : List ℕ) (values : List Tree) (v : ℕ) : Type 0 where
  pub con : ℕ
  pub args : Trees
  pub value : value_of (given values) v ≡ Some (node con args)
  pub typed : IsSomeAnd (slice_get cons con) (λ c. slice_get kinds v ≡ Some c.sort)

begins_with : (cons : List Con) (kinds : List ℕ) (values : List Tree) (v sort : ℕ) (t : Tree) → slice_get kinds v ≡ Some sort → value_of (given values) v ≡ Some t → IsValue cons sort t → Begins cons kinds values v
begins_with cons kinds values v sort (variable w) kind is value = absurd value.ground
begins_with cons kinds values v sort (node c args) kind is value = record {
  con = c;
  args = args;
  value = is;
  typed = from_some (slice_get cons c) _ _ (λ con found h. to_some (slice_get cons c) _ con found (kind ∙ ap Some (sym h.0))) value.typed;
}

value_at : (cons : List Con) (kinds : List ℕ) (values : List Tree) (v sort : ℕ) → AreValues cons kinds values → slice_get kinds v ≡ Some sort → (t : Tree) × ((value_of (given values) v ≡ Some t) × IsValue cons sort t)
value_at cons (kind ∷ kinds) (t ∷ values) (suc v) sort are is = value_at cons kinds values v sort are.1 is
value_at cons kinds values v sort are is = grind (arith, none_some, some_same)

module _ (signature : Signature) (table : Possibility → Type 0) (kinds : List ℕ) (values : List Tree) (premises : List AtomTree) (are : AreValues signature.cons kinds values) (typed : AllByRecursion (IsTyped signature kinds) premises) (opened : AllByRecursion (IsOpen table) (full_instances values premises)) where
  begins : (a : AtomTree) (i v : ℕ) → IsTyped signature kinds a → HasVarAt a i v → Begins signature.cons kinds values v
  begins a i v of_type has =
      let sort = variable_sort signature kinds a i v of_type has in
      let value = value_at signature.cons kinds values v sort.0 are sort.1 in
      begins_with signature.cons kinds values v sort.0 value.0 sort.1 value.1.0 value.1.1

  can_begin : (v : ℕ) (b : Begins signature.cons kinds values v) → CanBegin signature table kinds premises v b.con
  can_begin v b = record {
    typed = λ nowhere. b.typed;
    at_each = λ a i there has.
        let is = all_at (IsOpen table) (full_instances values premises) (full_instance values a) opened (contains_map (full_instance values) premises a there) in
        is.cons i b.con (b.args, (instance_at (given values) a.args i (variable v) has ∙ ap (λ o. Some (unwrap_or o (variable v))) b.value));
  }

  pub instances_pass : PremisesPass signature table kinds premises
  instances_pass = record {
    opened = patterns_open table values premises opened;
    possible = λ v alone.
        let b = begins alone.0 alone.2.0 v (all_at (IsTyped signature kinds) premises alone.0 typed alone.1) alone.2.1 in
        (b.con, can_begin v b);
  }

  -- what is added opens the instance of what is made
  pub instance_opened : (a : AtomTree) → IsTyped signature kinds a → IsOpen (AtomAdds signature table kinds premises a) (full_instance values a)
  instance_opened a of_type = record {
    pred = refl;
    cons = λ i c has.
        let from = argument_of (given values) a.args i (node c has.0) has.1 in
        (refl, by i c has.0 from.from from.there from.same);
  }
    where
      same_con : (c d : ℕ) (args args' : Trees) → node c args ≡ node d args' → c ≡ d
      same_con c d args args' e = cc

      by : (i c : ℕ) (args : Trees) (t : Tree) → nth_argument a.args i ≡ Some t → term_instance (given values) t ≡ node c args → HasConAt a i c ⊎ ((v : ℕ) × HasVarAt a i v × CanBegin signature table kinds premises v c)
      by i c args (variable v) there same =
          let b = begins a i v of_type there in
          let is : node b.con b.args ≡ node c args = sym (ap (λ o. unwrap_or o (variable v)) b.value) ∙ same in
          inr (v, there, subst (CanBegin signature table kinds premises v) (same_con b.con c b.args args is) (can_begin v b))
      by i c args (node d args') there same = inl (args', there ∙ ap (λ x. Some (node x args')) (same_con d c (argument_instances (given values) args') args same))

-- Each derivable atom is open in the table of some round.

-- Open in the table of some round.
pub record OpenSometime (program : Parts) (a : AtomTree) : Type 0 where
  pub round : ℕ
  pub opened : IsOpen (IsInRound program round) a

-- All open in the table of one round.
pub record AllOpenSometime (program : Parts) (atoms : List AtomTree) : Type 0 where
  pub round : ℕ
  pub opened : AllByRecursion (IsOpen (IsInRound program round)) atoms

pub first_too : (program : Parts) (a : AtomTree) (atoms : List AtomTree) → OpenSometime program a → AllOpenSometime program atoms → AllOpenSometime program (a ∷ atoms)
first_too program a atoms one rest = record {
  round = max one.round rest.round;
  opened = (later_open program one.round (max one.round rest.round) (omega arith) a one.opened, later_all program rest.round (max one.round rest.round) (omega arith) atoms rest.opened);
}

module _ (program : Parts) (kept : IsProgram program) where
  head_open : (number : ℕ) (clause : ClauseTree) (values : List Tree) (a : AtomTree) → slice_get program.clauses number ≡ Some clause → IsHeadBy program clause values a → AllOpenSometime program (full_instances values clause.goals) → OpenSometime program a
  head_open number clause values a numbered head goals =
      let typed = holds_at (IsTypedClause program.signature) program.clauses number clause kept.typed_clauses numbered in
      let table = IsInRound program goals.round in
      record {
        round = suc goals.round;
        opened = subst (IsOpen (IsInRound program (suc goals.round))) (sym head.head)
            (open_later _ (IsInRound program (suc goals.round))
            (λ item made. inr (inr (record {
              clause = clause;
              of_program = contains_at program.clauses number clause numbered;
              passes = instances_pass program.signature table clause.kinds values clause.goals head.given typed.goals goals.opened;
              made = made;
            })))
            (full_instance values clause.head)
            (instance_opened program.signature table clause.kinds values clause.goals head.given typed.goals goals.opened clause.head typed.head));
      }

  mutual
    pub proved_open : (proof : ProofTree) (a : AtomTree) → Proves program proof a → OpenSometime program a
    proved_open (by_clause number values subs) a proves =
        from_some (slice_get program.clauses number) _ (OpenSometime program a)
        (λ clause numbered h. head_open number clause values a numbered h.0 (goals_open subs (full_instances values clause.goals) h.1)) proves.1

    goals_open : (proofs : ProofTrees) (goals : List AtomTree) → ProveAll program proofs goals → AllOpenSometime program goals
    goals_open no_goal [] all = record { round = 0; opened = tt }
    goals_open no_goal (goal ∷ goals) all = absurd all
    goals_open (goal_by proof proofs) [] all = absurd all
    goals_open (goal_by proof proofs) (goal ∷ goals) all = first_too program goal goals (proved_open proof goal all.0) (goals_open proofs goals all.1)

  pub all_derived_open : (height : ℕ) (atoms : List AtomTree) → AllByRecursion (IsDerivable program height) atoms → AllOpenSometime program atoms
  all_derived_open height [] all = record { round = 0; opened = tt }
  all_derived_open height (a ∷ atoms) all = first_too program a atoms (proved_open all.0.proof a all.0.proves) (all_derived_open height atoms all.1)

-- What passes all rounds together passes one of them: so these together are closed.

-- What holds of each argument from some round on holds of all from one round on.
module _ (Q : ℕ → ℕ → Tree → Type 0) (grows : (n m i : ℕ) (t : Tree) → n ≤ m → Q n i t → Q m i t) where
  -- of the arguments that stand from a position on
  all_arguments : (args : Trees) (from : ℕ → ℕ) → ((i : ℕ) (t : Tree) → nth_argument args i ≡ Some t → (n : ℕ) × Q n (from i) t) → (n : ℕ) × ((i : ℕ) (t : Tree) → nth_argument args i ≡ Some t → Q n (from i) t)
  all_arguments none from each = (0, (λ i t is. none_some t is))
  all_arguments (more u rest) from each =
      let first = each zero u refl in
      let later = all_arguments rest (λ i. from (suc i)) (λ i t is. each (suc i) t is) in
      (max first.0 later.0, by first.0 later.0 first.1 later.1)
    where
      by : (n m : ℕ) → Q n (from zero) u → ((i : ℕ) (t : Tree) → nth_argument rest i ≡ Some t → Q m (from (suc i)) t) → (i : ℕ) (t : Tree) → nth_argument (more u rest) i ≡ Some t → Q (max n m) (from i) t
      by n m here there zero t is = subst (λ x. Q (max n m) (from zero) x) (some_same u t is) (grows n (max n m) (from zero) u (omega arith) here)
      by n m here there (suc i) t is = grows m (max n m) (from (suc i)) t (omega arith) (there i t is)

module _ (Q : ℕ → AtomTree → Type 0) (grows : (n m : ℕ) (a : AtomTree) → n ≤ m → Q n a → Q m a) where
  -- the same of the atoms of a list
  all_atoms : (atoms : List AtomTree) → ((a : AtomTree) → Contains atoms a → (n : ℕ) × Q n a) → (n : ℕ) × ((a : AtomTree) → Contains atoms a → Q n a)
  all_atoms [] each = (0, (λ a there. absurd (contains_none a there)))
  all_atoms (b ∷ atoms) each =
      let first = each b (contains_first b atoms) in
      let later = all_atoms atoms (λ a there. each a (contains_behind b atoms a there)) in
      let both = max first.0 later.0 in (
        both,
        λ a there. ⊎_elim
            (λ (same : b ≡ a). subst (Q both) same (grows first.0 both b (omega arith) first.1))
            (λ behind. grows later.0 both a (omega arith) (later.1 a behind))
            (contains_cases b atoms a there),
      )

module _ (program : Parts) where
  abbrev all_rounds : Possibility → Type 0
  all_rounds = IsInSomeRound program

  abbrev in_round : ℕ → Possibility → Type 0
  in_round n = IsInRound program n

  open_once : (a : AtomTree) → IsOpen all_rounds a → (n : ℕ) × IsOpen (in_round n) a
  open_once a is =
      let Q = λ (n i : ℕ) (t : Tree). (c : ℕ) (args : Trees) → t ≡ node c args → in_round n (of_con a.pred i c) in
      let pred = is.pred in
      let cons = all_arguments Q (λ n m i t within holds c args e. later_item program n m within _ (holds c args e)) a.args (λ i. i)
      (λ i t there. one i t there) in
      let both = max pred.0 cons.0 in (
        both,
        record {
          pred = later_item program pred.0 both (omega arith) _ pred.1;
          cons = λ i c has. later_item program cons.0 both (omega arith) _ (cons.1 i (node c has.0) has.1 c has.0 refl);
        },
      )
    where
      same_con : (c d : ℕ) (args args' : Trees) → node c args ≡ node d args' → c ≡ d
      same_con c d args args' e = cc

      no_con : (v c : ℕ) (args : Trees) → variable v ≡ node c args → ⊥
      no_con v c args e = cc

      one : (i : ℕ) (t : Tree) → nth_argument a.args i ≡ Some t → (n : ℕ) × ((c : ℕ) (args : Trees) → t ≡ node c args → in_round n (of_con a.pred i c))
      one i (variable v) there = (0, (λ c args e. absurd (no_con v c args e)))
      one i (node d args') there =
          let at = is.cons i d (args', there) in
          (at.0, (λ c args e. subst (λ k. in_round at.0 (of_con a.pred i k)) (same_con d c args' args e) at.1))

  module _ (kinds : List ℕ) (premises : List AtomTree) where
    begin_once : (v c : ℕ) → CanBegin program.signature all_rounds kinds premises v c → (n : ℕ) × CanBegin program.signature (in_round n) kinds premises v c
    begin_once v c begin =
        let Q = λ (n : ℕ) (a : AtomTree). (i : ℕ) → HasVarAt a i v → in_round n (of_con a.pred i c) in
        let all = all_atoms Q (λ n m a within holds i has. later_item program n m within _ (holds i has)) premises (λ a there. of_atom a there) in
        (all.0, record { at_each = λ a i there has. all.1 a there i has; typed = begin.typed })
      where
        other_var : (d w : ℕ) (args : Trees) → node d args ≡ variable w → ⊥
        other_var d w args e = cc

        same_var : (w u : ℕ) → variable w ≡ variable u → w ≡ u
        same_var w u e = cc

        of_argument : (a : AtomTree) → Contains premises a → (i : ℕ) (t : Tree) → nth_argument a.args i ≡ Some t → (n : ℕ) × (t ≡ variable v → in_round n (of_con a.pred i c))
        of_argument a there i (node d args) is = (0, (λ e. absurd (other_var d v args e)))
        of_argument a there i (variable w) is =
            elim (w == v) as (λ t. (w == v) ≡ t → (n : ℕ) × (variable w ≡ variable v → in_round n (of_con a.pred i c))) [
              | true ↦ λ e. let at = begin.at_each a i there (is ∙ ap (λ x. Some (variable x)) (eqb-true w v e)) in (at.0, (λ _. at.1))
              | false ↦ λ e. (0, (λ same. absurd (eqb-false w v e (same_var w v same))))
            ] refl

        of_atom : (a : AtomTree) → Contains premises a → (n : ℕ) × ((i : ℕ) → HasVarAt a i v → in_round n (of_con a.pred i c))
        of_atom a there =
            let all = all_arguments (λ (n i : ℕ) (t : Tree). t ≡ variable v → in_round n (of_con a.pred i c)) (λ n m i t within holds e. later_item program n m within _ (holds e)) a.args (λ i. i) (of_argument a there) in
            (all.0, (λ i has. all.1 i (variable v) has refl))

    pass_once : PremisesPass program.signature all_rounds kinds premises → (n : ℕ) × PremisesPass program.signature (in_round n) kinds premises
    pass_once pass =
        let opened = all_atoms (λ n a. IsOpen (in_round n) a) (λ n m a within is. open_later (in_round n) (in_round m) (later_item program n m within) a is) premises
        (λ a there. open_once a (all_at (IsOpen all_rounds) premises a pass.opened there)) in
        let possible = all_atoms CanBeginEach (λ n m a within each i v has. begin_from n m v within (each i v has)) premises of_atom in
        let both = max opened.0 possible.0 in (
          both,
          record {
            opened = all_of (IsOpen (in_round both)) premises (λ a there. open_later (in_round opened.0) (in_round both) (later_item program opened.0 both (omega arith)) a (opened.1 a there));
            possible = λ v alone. begin_from possible.0 both v (omega arith) (possible.1 alone.0 alone.1 alone.2.0 v alone.2.1);
          },
        )
      where
        CanBeginEach : ℕ → AtomTree → Type 0
        CanBeginEach n a = (i v : ℕ) → HasVarAt a i v → (c : ℕ) × CanBegin program.signature (in_round n) kinds premises v c

        begin_from : (n m v : ℕ) → n ≤ m → (c : ℕ) × CanBegin program.signature (in_round n) kinds premises v c → (c : ℕ) × CanBegin program.signature (in_round m) kinds premises v c
        begin_from n m v within begin = (begin.0, begin_later (in_round n) (in_round m) (later_item program n m within) program.signature kinds premises v begin.0 begin.1)

        other_var : (d w : ℕ) (args : Trees) → node d args ≡ variable w → ⊥
        other_var d w args e = cc

        same_var : (w u : ℕ) → variable w ≡ variable u → w ≡ u
        same_var w u e = cc

        of_argument : (a : AtomTree) → Contains premises a → (i : ℕ) (t : Tree) → nth_argument a.args i ≡ Some t → (n : ℕ) × ((v : ℕ) → t ≡ variable v → (c : ℕ) × CanBegin program.signature (in_round n) kinds premises v c)
        of_argument a there i (node d args) is = (0, (λ v e. absurd (other_var d v args e)))
        of_argument a there i (variable w) is =
            let begin = pass.possible w (a, there, (i, is)) in
            let sooner = begin_once w begin.0 begin.1 in
            (sooner.0, (λ v e. subst (λ u. (c : ℕ) × CanBegin program.signature (in_round sooner.0) kinds premises u c) (same_var w v e) (begin.0, sooner.1)))

        of_atom : (a : AtomTree) → Contains premises a → (n : ℕ) × CanBeginEach n a
        of_atom a there =
            let all = all_arguments (λ (n i : ℕ) (t : Tree). (v : ℕ) → t ≡ variable v → (c : ℕ) × CanBegin program.signature (in_round n) kinds premises v c) (λ n m i t within each v e. begin_from n m v within (each v e)) a.args (λ i. i) (of_argument a there) in
            (all.0, (λ i v has. all.1 i (variable v) has v refl))

    adds_once : (a : AtomTree) (item : Possibility) → AtomAdds program.signature all_rounds kinds premises a item → (n : ℕ) × AtomAdds program.signature (in_round n) kinds premises a item
    adds_once a item adds = grind (arith, begin_once)

  rule_once : (rule : Rule) → RulePasses program all_rounds rule → (n : ℕ) × RulePasses program (in_round n) rule
  rule_once rule passes =
      let stage = passes.stage in
      let premises = pass_once rule.kinds (premises_of rule) passes.premises in
      let both = max stage.0 premises.0 in (
        both,
        record {
          stage = later_item program stage.0 both (omega arith) _ stage.1;
          premises = pass_later (in_round premises.0) (in_round both) (later_item program premises.0 both (omega arith)) program.signature rule.kinds (premises_of rule) premises.1;
        },
      )

  made_once : (rule : Rule) (item : Possibility) → IsMade program all_rounds rule item → (n : ℕ) × IsMade program (in_round n) rule item
  made_once rule item made = grind (arith, adds_once, rule.kinds)

  made_from : (n m : ℕ) → n ≤ m → (rule : Rule) (item : Possibility) → IsMade program (in_round n) rule item → IsMade program (in_round m) rule item
  made_from n m within rule item made = grind (arith, adds_later, later_item, program.signature, rule.kinds)

  pub rounds_closed : IsClosedTable program all_rounds
  rounds_closed = record {
    start = λ item is. (0, is);
    rules = λ item added.
        let passes = rule_once added.rule added.passes in
        let made = made_once added.rule item added.made in
        let both = max passes.0 made.0 in (
          suc both,
          inr (inl (record {
            rule = added.rule;
            of_program = added.of_program;
            passes = rule_later program (in_round passes.0) (in_round both) (later_item program passes.0 both (omega arith)) added.rule passes.1;
            made = made_from made.0 both (omega arith) added.rule item made.1;
          })),
        );
    clauses = λ item added.
        let clause = added.clause in
        let passes = pass_once clause.kinds clause.goals added.passes in
        let made = adds_once clause.kinds clause.goals clause.head item added.made in
        let both = max passes.0 made.0 in (
          suc both,
          inr (inr (record {
            clause = clause;
            of_program = added.of_program;
            passes = pass_later (in_round passes.0) (in_round both) (later_item program passes.0 both (omega arith)) program.signature clause.kinds clause.goals passes.1;
            made = adds_later (in_round made.0) (in_round both) (later_item program made.0 both (omega arith)) program.signature clause.kinds clause.goals clause.head item made.1;
          })),
        );
  }

  pub least : (table : Possibility → Type 0) → IsClosedTable program table → (n : ℕ) (item : Possibility) → in_round n item → table item
  least table closed zero item is = closed.start item is
  least table closed (suc n) item is =
      let grows = least table closed n in
      ⊎_elim (grows item) (λ added. ⊎_elim
      (λ by. closed.rules item (by_rule_later program (in_round n) table grows item by))
      (λ by. closed.clauses item (by_clause_later program (in_round n) table grows item by))
      added) is

  pub dead_in_all : (rule : Rule) → IsDead program rule → ¬ RulePasses program all_rounds rule
  dead_in_all rule dead passes = let once = rule_once rule passes in dead once.0 once.1

  pub dead_from_all : (rule : Rule) → ¬ RulePasses program all_rounds rule → IsDead program rule
  dead_from_all rule passes_not n passes = passes_not (rule_later program (in_round n) all_rounds (λ item is. (n, is)) rule passes)

  pub dead_by_table : (table : Possibility → Type 0) (rule : Rule) → IsClosedTable program table → ((item : Possibility) → table item → all_rounds item) → IsDead program rule ↔ ¬ RulePasses program table rule
  dead_by_table table rule closed within = (
    (λ dead passes. dead_in_all rule dead (rule_later program table all_rounds within rule passes)),
    (λ passes_not. dead_from_all rule (λ passes. passes_not (rule_later program all_rounds table (λ item is. least table closed is.0 item is.1) rule passes))),
  )
