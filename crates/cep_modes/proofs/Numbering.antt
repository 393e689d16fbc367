-- What is known after one thing and another was learnt.
use Rattle.std.proofs.Common.{◌≡◌, ◌/◌, ℕ, suc, ◌&&◌, ◌||◌, Bool, true, false, List, [], ◌∷◌, ap, sym, ◌∙◌, arith, ◌<◌, ◌+◌, ◌*◌, ◌%◌, ◌==◌, zero, cond, refl, ◌⊎◌, inl, inr, ⊎_elim, ◌++◌, slice_get, Some, subst, eq-eqb, length, map, take, drop, ◌≤◌, Option, None}
use Rattle.cep_term.specs.Tree.{Tree, Trees, node, more, AtomTree, none, variable, Occurs, OccursAmong, IsInRange, AreInRange}
use Rattle.cep_rule.specs.Groundness.{Known, nothing, occurs, occurs_among, known_at, is_known, positions_known, are_known, known_after, known_after_all, CallsAt, Calls, LeavesUnknown, SomeFails, IsBad}
use Rattle.cep_modes.specs.Places.{holds, either, positions_of, set_number, room, IsPlain, pair_place, IsAmong, IsPlainClause, places_of, zero_unless, clause_callees, callees_of, rule_places, all_places, callees}
use Rattle.std.specs.List.{AllByRecursion, Contains}
use Rattle.std.proofs.lemmas.Bool.{eqb-true}
use Rattle.std.proofs.lemmas.Option.{slice_get-get_or, slice_get_within}
use Rattle.cep_base.proofs.Lists.{none_some, some_same, take_next, get_mapped, holds_at, all_weaker, all_from_places}
use Rattle.cep_base.proofs.Elements.{contains_none, contains_first, contains_at, contains_left, contains_right, contains_either, all_at, all_of, both_all}
use Rattle.cep_rule.specs.Patterns.{ClauseTree}
use Rattle.std.proofs.lemmas.List.{append-nil, drop_all, take_all, length-map}
use Rattle.cep_rule.specs.declared.rule.Rule.{Rule}
use Rattle.cep_rule.specs.Binding.{needed_of}
use Rattle.cep_modes.specs.Grounding.{AreMarks, AreAllMarks, AreInOrder}
use Rattle.cep_rule.specs.declared.parts.Parts.{Parts}
use Rattle.cep_modes.specs.Leading.{TellsBad}
use Rattle.std.specs.Prelude.{IsSomeAnd}
use Rattle.cep_rule.specs.declared.signature.Signature.{Signature}
use Rattle.cep_rule.specs.declared.signature.PredDecl.{PredDecl}
use Rattle.cep_rule.specs.declared.signature.Con.{Con}
use Rattle.cep_rule.specs.Limits.{IsSmallSignature, IsSmallRule, IsSmallClause}
use Rattle.cep_rule.specs.Typing.{HaveSorts, IsTyped}
use Rattle.cep_rule.specs.Program.{IsTypedRule, IsTypedClause}
use Rattle.cep_rule.specs.TypeLaws.{TypeLaws}

or_assoc : (a b c : Bool) → ((a || b) || c) ≡ (a || (b || c))
or_assoc a b c = grind arith

-- two things that are learnt one after the other are one thing
pub either_both : (old middle new one other : Known) → middle ≡ either old one → new ≡ either middle other → new ≡ either old (either one other)
either_both old middle new one other first second = grind (arith, or_assoc)

pub learnt_node : (old new : Known) (t : Tree) (c : ℕ) (args : Trees) → t ≡ node c args → new ≡ either old (occurs_among args) → new ≡ either old (occurs t)
learnt_node old new t c args is learnt = learnt ∙ ap (λ tree. either old (occurs tree)) (sym is)

pub learnt_args : (old middle new : Known) (args : Trees) (t : Tree) (rest : Trees) → args ≡ more t rest
    → middle ≡ either old (occurs t) → new ≡ either middle (occurs_among rest) → new ≡ either old (occurs_among args)
learnt_args old middle new args t rest is first second = grind (arith, either_both)

pub learnt_where : (old new : Known) (is_so : Bool) (t : Tree) → is_so ≡ true → new ≡ either old (occurs t) → new ≡ either old (λ v. is_so && occurs t v)
learnt_where old new is_so t e learnt = learnt ∙ ap (λ b. either old (λ v. b && occurs t v)) (sym e)

pub learnt_at : (old middle new : Known) (n : ℕ) (args : Trees) (t : Tree) (rest : Trees) → args ≡ more t rest
    → middle ≡ either old (λ v. positions_of n 0 && occurs t v)
    → new ≡ either middle (known_at (positions_of (n / 2)) rest)
    → new ≡ either old (known_at (positions_of n) args)
learnt_at old middle new n args t rest is first second = grind (arith, either_both)

-- whether no flag is set
abbrev pub none_set : List Bool → Bool
none_set [] = true
none_set (true ∷ flags) = false
none_set (false ∷ flags) = none_set flags

none_holds : (flags : List Bool) → none_set flags ≡ true → (v : ℕ) → holds flags v ≡ false
none_holds (false ∷ flags) e (suc v) = none_holds flags e v
none_holds flags e v = grind arith

pub none_known : (flags : List Bool) → none_set flags ≡ true → holds flags ≡ nothing
none_known flags e = λ i v. none_holds flags e v i

-- The numbers of pairs, and the clauses and premises that call bad ones.

-- The numbers of pairs: they are in range, and they tell the predicate and the positions.

pub number_low : (known : Known) (args : Trees) → set_number known args < room args
number_low known none = omega arith
number_low known (more t rest) = grind (arith, number_low known rest)

nothing_at : (i : ℕ) → positions_of 0 i ≡ false
nothing_at zero = refl
nothing_at (suc i) = nothing_at i

odd : (n : ℕ) (b : Bool) → ((2 * n + cond b 1 0) % 2 == 1) ≡ b
odd n b = grind arith

half : (n : ℕ) (b : Bool) → (2 * n + cond b 1 0) / 2 ≡ n
half n b = grind arith

told_at : (known : Known) (args : Trees) (i : ℕ) → positions_of (set_number known args) i ≡ positions_known known args i
told_at known (more t rest) (suc i) = ap (λ n. positions_of n i) (half (set_number known rest) (is_known known t)) ∙ told_at known rest i
told_at known args i = grind (arith, nothing_at, odd)

-- the number of known positions tells them
pub positions_told : (known : Known) (args : Trees) → positions_of (set_number known args) ≡ positions_known known args
positions_told known args = λ j i. told_at known args i j

first_part : (pred n : ℕ) → n < 256 → (pred * 256 + n) / 256 ≡ pred
first_part pred n low = omega arith

second_part : (pred n : ℕ) → n < 256 → (pred * 256 + n) % 256 ≡ n
second_part pred n low = omega arith

pub place_low : (preds : ℕ) (known : Known) (goal : AtomTree) → IsPlain 32 goal → goal.pred < preds → pair_place known goal < preds * 256 + 1
place_low preds known goal plain low = let few : set_number known goal.args < room goal.args = number_low known goal.args in omega (arith, plain.few)

number_small : (known : Known) (goal : AtomTree) → IsPlain 32 goal → set_number known goal.args < 256
number_small known goal plain = let few : set_number known goal.args < room goal.args = number_low known goal.args in omega (arith, plain.few)

-- the pair of a place is that of the predicate with the positions that are known
pub from_place : (pairs : ℕ → Known → Type 0) (known : Known) (goal : AtomTree) → IsPlain 32 goal → IsAmong pairs (pair_place known goal) → pairs goal.pred (positions_known known goal.args)
from_place pairs known goal plain among = grind (arith, number_small known goal plain, second_part, positions_told known goal.args, first_part, goal.args, goal.pred)

pub to_place : (pairs : ℕ → Known → Type 0) (known : Known) (goal : AtomTree) → IsPlain 32 goal → pairs goal.pred (positions_known known goal.args) → IsAmong pairs (pair_place known goal)
to_place pairs known goal plain pair = grind (arith, number_small known goal plain, first_part, second_part, positions_told known goal.args, goal.args, goal.pred)

-- A clause fails by a set of pairs if and only if it calls the number of one, or 0.

-- an unknown variable makes a term unknown
mutual
  unknown_term : (known : Known) (v : ℕ) (t : Tree) → Occurs v t → known v ≡ false → is_known known t ≡ false
  unknown_term known v (variable w) e h = ap known (sym e) ∙ h
  unknown_term known v (node c args) among h = unknown_args known v args among h

  unknown_args : (known : Known) (v : ℕ) (args : Trees) → OccursAmong v args → known v ≡ false → are_known known args ≡ false
  unknown_args known v none among h = absurd among
  unknown_args known v (more t rest) among h =
      let here : Occurs v t → is_known known t ≡ false = λ e. unknown_term known v t e h in
      let later : OccursAmong v rest → are_known known rest ≡ false = λ e. unknown_args known v rest e h in
      grind arith

-- where not all is known, some variable is unknown
record Unknown (known : Known) (P : ℕ → Type 0) : Type 0 where
  variable_of : ℕ
  occurs_there : P variable_of
  unknown : known variable_of ≡ false

mutual
  some_unknown : (known : Known) (t : Tree) → is_known known t ≡ false → Unknown known (λ v. Occurs v t)
  some_unknown known (variable w) e = record { variable_of = w; occurs_there = refl; unknown = e }
  some_unknown known (node c args) e = some_unknown_among known args e

  some_unknown_among : (known : Known) (args : Trees) → are_known known args ≡ false → Unknown known (λ v. OccursAmong v args)
  some_unknown_among known none e = absurd (cc)
  some_unknown_among known (more t rest) e =
      by known (λ v. Occurs v t) (λ v. OccursAmong v rest) (is_known known t) (are_known known rest) (some_unknown known t) (some_unknown_among known rest) e
    where
      by : (known : Known) (P Q : ℕ → Type 0) (a b : Bool) → (a ≡ false → Unknown known P) → (b ≡ false → Unknown known Q) → (a && b) ≡ false → Unknown known (λ v. P v ⊎ Q v)
      by known P Q true b first second e = let it = second e in record { variable_of = it.variable_of; occurs_there = inr it.occurs_there; unknown = it.unknown }
      by known P Q false b first second e = let it = first refl in record { variable_of = it.variable_of; occurs_there = inl it.occurs_there; unknown = it.unknown }

-- the number of a pair of the set stands at a place
pub record AmongAt (pairs : ℕ → Known → Type 0) (numbers : List ℕ) (i : ℕ) : Type 0 where
  pub number : ℕ
  pub at : slice_get numbers i ≡ Some number
  pub among : IsAmong pairs number

pub calls_to : (pairs : ℕ → Known → Type 0) (known : Known) (goals : List AtomTree) (i : ℕ) → AllByRecursion (IsPlain 32) goals → CallsAt pairs known goals i → AmongAt pairs (places_of known goals) i
calls_to pairs known [] i plain calls = absurd calls
calls_to pairs known (goal ∷ goals) zero plain calls = record { number = pair_place known goal; at = refl; among = to_place pairs known goal plain.0 calls }
calls_to pairs known (goal ∷ goals) (suc i) plain calls = let it = calls_to pairs (known_after known goal) goals i plain.1 calls in record { number = it.number; at = it.at; among = it.among }

pub calls_from : (pairs : ℕ → Known → Type 0) (known : Known) (goals : List AtomTree) (i n : ℕ) → AllByRecursion (IsPlain 32) goals → slice_get (places_of known goals) i ≡ Some n → IsAmong pairs n → CallsAt pairs known goals i
calls_from pairs known [] i n plain at among = none_some n at
calls_from pairs known (goal ∷ goals) zero n plain at among = from_place pairs known goal plain.0 (subst (IsAmong pairs) (sym (some_same (pair_place known goal) n at)) among)
calls_from pairs known (goal ∷ goals) (suc i) n plain at among = calls_from pairs (known_after known goal) goals i n plain.1 at among

-- the number of a pair of the set is called
pub record CallsAmong (pairs : ℕ → Known → Type 0) (numbers : List ℕ) : Type 0 where
  pub number : ℕ
  pub called : Contains numbers number
  pub among : IsAmong pairs number

clause_to : (pairs : ℕ → Known → Type 0) (positions : Known) (clause : ClauseTree) → IsPlainClause 32 clause
    → Calls pairs (known_at positions clause.head.args) clause.goals ⊎ LeavesUnknown (known_at positions clause.head.args) clause → CallsAmong pairs (clause_callees positions clause)
clause_to pairs positions clause plain fails =
    let known : Known = known_at positions clause.head.args in
    let numbers : List ℕ = places_of known clause.goals in
    let all : Bool = are_known (known_after_all known clause.goals) clause.head.args in
    ⊎_elim
    (λ calls.
    let it = calls_to pairs known clause.goals calls.0 plain.goals calls.1 in
    record {
      number = it.number;
      called = contains_left numbers (zero_unless all) it.number (contains_at numbers calls.0 it.number it.at);
      among = it.among;
    })
    (λ leaves.
    let unknown : all ≡ false = unknown_args (known_after_all known clause.goals) leaves.0 clause.head.args leaves.1 leaves.2 in
    record {
      number = 0;
      called = contains_right numbers (zero_unless all) 0 (subst (λ b. Contains (zero_unless b) 0) (sym unknown) (contains_first 0 []));
      among = tt;
    })
    fails

clause_from : (pairs : ℕ → Known → Type 0) (positions : Known) (clause : ClauseTree) (m : ℕ) → IsPlainClause 32 clause → Contains (clause_callees positions clause) m → IsAmong pairs m
    → Calls pairs (known_at positions clause.head.args) clause.goals ⊎ LeavesUnknown (known_at positions clause.head.args) clause
clause_from pairs positions clause m plain called among =
    let known : Known = known_at positions clause.head.args in
    let numbers : List ℕ = places_of known clause.goals in
    let all : Bool = are_known (known_after_all known clause.goals) clause.head.args in
    ⊎_elim
    (λ there. inl (there.0, calls_from pairs known clause.goals there.0 m plain.goals (slice_get-get_or numbers there.0 m there.1 ∙ ap Some there.2) among))
    (λ there. let it = some_unknown_among (known_after_all known clause.goals) clause.head.args (not_all all there) in inr (it.variable_of, it.occurs_there, it.unknown))
    (contains_either numbers (zero_unless all) m called)
  where
    not_all : (b : Bool) → Contains (zero_unless b) m → b ≡ false
    not_all b there = grind arith

behind : (b : Bool) (xs ys : List ℕ) (m : ℕ) → Contains ys m → Contains (cond b (xs ++ ys) ys) m
behind true xs ys m there = contains_right xs ys m there
behind false xs ys m there = there

pub fails_to : (pairs : ℕ → Known → Type 0) (pred : ℕ) (positions : Known) (clauses : List ClauseTree) → AllByRecursion (IsPlainClause 32) clauses
    → SomeFails clauses pairs pred positions → CallsAmong pairs (callees_of pred positions clauses)
fails_to pairs pred positions [] plain fails = absurd fails
fails_to pairs pred positions (clause ∷ clauses) plain fails =
    ⊎_elim
    (λ here.
    let it = clause_to pairs positions clause plain.0 here.1 in
    record { number = it.number; called = rw (eq-eqb clause.head.pred pred here.0) (contains_left (clause_callees positions clause) (callees_of pred positions clauses) it.number it.called); among = it.among })
    (λ later.
    let it = fails_to pairs pred positions clauses plain.1 later in
    record { number = it.number; called = behind (clause.head.pred == pred) (clause_callees positions clause) (callees_of pred positions clauses) it.number it.called; among = it.among })
    fails

cond_cases : (b : Bool) (P : Type 0) (xs ys : List ℕ) (m : ℕ) → (b ≡ true → P) → Contains (cond b (xs ++ ys) ys) m → (P × Contains xs m) ⊎ Contains ys m
cond_cases true P xs ys m so there = ⊎_elim (λ here. inl (so refl, here)) (λ later. inr later) (contains_either xs ys m there)
cond_cases false P xs ys m so there = inr there

pub fails_from : (pairs : ℕ → Known → Type 0) (pred : ℕ) (positions : Known) (clauses : List ClauseTree) (m : ℕ) → AllByRecursion (IsPlainClause 32) clauses
    → Contains (callees_of pred positions clauses) m → IsAmong pairs m → SomeFails clauses pairs pred positions
fails_from pairs pred positions [] m plain called among = absurd (contains_none m called)
fails_from pairs pred positions (clause ∷ clauses) m plain called among =
    ⊎_elim (λ here. inl (here.0, clause_from pairs positions clause m plain.0 here.1 among)) (λ later. inr (fails_from pairs pred positions clauses m plain.1 later among)) (cond_cases (clause.head.pred == pred) _ (clause_callees positions clause) (callees_of pred positions clauses) m (eqb-true clause.head.pred pred) called)

-- The premises that are marked are those that call bad pairs.

-- all that is written into a whole slice stands there
pub written : (n : ℕ) (new old : List Bool) → length new ≡ length old → n ≡ length old → take n (new ++ drop (length new) old) ≡ new
written n new old same long = grind (arith, drop_all, append-nil, take_all)

among_all : (rules : List Rule) (r : ℕ) (rule : Rule) (n : ℕ) → slice_get rules r ≡ Some rule → Contains (rule_places rule) n → Contains (all_places rules) n
among_all (one ∷ rules) (suc r) rule n at here = contains_right (rule_places one) (all_places rules) n (among_all rules r rule n at here)
among_all rules r rule n given here = grind (arith, none_some, contains_left, some_same)

-- the numbers of a rule are in range
pub rule_within : (clauses : List ClauseTree) (rules : List Rule) (marked : List Bool) (r : ℕ) (rule : Rule) → TellsBad clauses (all_places rules) marked → slice_get rules r ≡ Some rule
    → AllByRecursion (λ n. n < length marked) (rule_places rule)
rule_within clauses rules marked r rule tells at =
    all_of (λ n. n < length marked) (rule_places rule) (λ n here. all_at (λ m. m < length marked) (all_places rules) n tells.within (among_all rules r rule n at here))

-- what is marked at a place of an image
mapped_true : (marked : List Bool) (numbers : List ℕ) (i : ℕ) → slice_get (map (holds marked) numbers) i ≡ Some true → (n : ℕ) × (slice_get numbers i ≡ Some n) × (holds marked n ≡ true)
mapped_true marked (n ∷ numbers) (suc i) is = mapped_true marked numbers i is
mapped_true marked numbers i is = grind (arith, none_some, some_same)

places_size : (known : Known) (goals : List AtomTree) → length (places_of known goals) ≡ length goals
places_size known [] = refl
places_size known (goal ∷ goals) = ap suc (places_size (known_after known goal) goals)

-- the marks of a rule say which of its backward premises call bad pairs
pub marks_say : (clauses : List ClauseTree) (rules : List Rule) (marked : List Bool) (r : ℕ) (rule : Rule) (marks : List Bool) → TellsBad clauses (all_places rules) marked → slice_get rules r ≡ Some rule
    → AllByRecursion (IsPlain 32) rule.backs → marks ≡ map (holds marked) (rule_places rule) → AreMarks clauses rule marks
marks_say clauses rules marked r rule marks tells at plain same = record {
  as_many = ap length same ∙ length-map (rule_places rule) (holds marked) ∙ places_size (known_after_all nothing (needed_of rule)) rule.backs;
  each = λ i within. (
    (λ yes_.
        let it = mapped_true marked (rule_places rule) i (ap (λ ms. slice_get ms i) (sym same) ∙ yes_) in
        calls_from (IsBad clauses) (known_after_all nothing (needed_of rule)) rule.backs i it.0 plain it.1
        ((tells.told it.0 (among_all rules r rule it.0 at (contains_at (rule_places rule) i it.0 it.1))).0 it.2)),
    (λ bad.
        let it = calls_to (IsBad clauses) (known_after_all nothing (needed_of rule)) rule.backs i plain bad in
        let yes_ : holds marked it.number ≡ true = (tells.told it.number (among_all rules r rule it.number at (contains_at (rule_places rule) i it.number it.at))).1 it.among in
        ap (λ ms. slice_get ms i) same ∙ get_mapped (holds marked) (rule_places rule) i it.number it.at ∙ ap Some yes_),
  );
}

-- the marks of one rule more
both_marks : (clauses : List ClauseTree) (rules : List Rule) (lists : List (List Bool)) (rule : Rule) (marks : List Bool) → AreAllMarks clauses rules lists → AreMarks clauses rule marks → AreAllMarks clauses (rules ++ rule ∷ []) (lists ++ marks ∷ [])
both_marks clauses (q ∷ rules) (ms ∷ lists) rule marks are now = (are.0, both_marks clauses rules lists rule marks are.1 now)
both_marks clauses rules lists rule marks are now = grind arith

pub one_more_marked : (clauses : List ClauseTree) (rules : List Rule) (r : ℕ) (rule : Rule) (old new : List (List Bool)) (marks : List Bool) → slice_get rules r ≡ Some rule
    → AreAllMarks clauses (take r rules) old → AreMarks clauses rule marks → new ≡ old ++ marks ∷ [] → AreAllMarks clauses (take (r + 1) rules) new
one_more_marked clauses rules r rule old new marks at before now same = grind (arith, take_next rules r rule, both_marks clauses (take r rules) old rule marks before now)

-- What parts that are in order keep: their atoms are plain, and all numbers of pairs are in range.

-- so many things that each are or are not
doubled : ℕ → ℕ
doubled zero = 1
doubled (suc k) = 2 * doubled k

room_low : (cons : List Con) (kinds sorts : List ℕ) (args : Trees) (k : ℕ) → HaveSorts cons kinds sorts args → length sorts ≤ k → room args ≤ doubled k
unfolding doubled
room_low cons kinds [] none zero typed few = omega arith
room_low cons kinds [] none (suc k) typed few = let rest : 1 ≤ doubled k = room_low cons kinds [] none k tt (omega arith) in omega arith
room_low cons kinds [] (more t args) k typed few = absurd typed
room_low cons kinds (sort ∷ sorts) none k typed few = absurd typed
room_low cons kinds (sort ∷ sorts) (more t args) zero typed few = absurd (omega arith)
room_low cons kinds (sort ∷ sorts) (more t args) (suc k) typed few = let rest : room args ≤ doubled k = room_low cons kinds sorts args k typed.1 (omega arith) in omega arith

sets_of_eight : (n : ℕ) → n ≤ doubled 8 → n ≤ 256
unfolding doubled
sets_of_eight n low = low

mutual
  term_in_more : (few many : ℕ) → few ≤ many → (t : Tree) → IsInRange few t → IsInRange many t
  term_in_more few many le (variable v) low = omega arith
  term_in_more few many le (node c args) low = in_more few many le args low

  in_more : (few many : ℕ) → few ≤ many → (args : Trees) → AreInRange few args → AreInRange many args
  in_more few many le none low = tt
  in_more few many le (more t rest) low = (term_in_more few many le t low.0, in_more few many le rest low.1)

-- An atom is plain, and its predicate is one of so many.
pub record IsFine (preds : ℕ) (a : AtomTree) : Type 0 where
  pub plain : IsPlain 32 a
  pub declared : a.pred < preds

fine : TypeLaws → (signature : Signature) → IsSmallSignature signature → (kinds : List ℕ) (a : AtomTree) → length kinds ≤ 32 → IsTyped signature kinds a → IsFine (length signature.preds) a
fine laws signature small kinds a few typed =
    by (slice_get signature.preds a.pred) refl typed
  where
    by : (found : Option PredDecl) → slice_get signature.preds a.pred ≡ found → IsSomeAnd found (λ pred. HaveSorts signature.cons kinds pred.args a.args) → IsFine (length signature.preds) a
    by None at sorts = absurd sorts
    by (Some pred) at sorts = record {
      plain = record {
        few = sets_of_eight (room a.args) (room_low signature.cons kinds pred.args a.args 8 sorts (holds_at (λ (p : PredDecl). length p.args ≤ 8) signature.preds a.pred pred small.pred_args at));
        in_range = in_more (length kinds) 32 few a.args (laws.in_range signature kinds a typed);
      };
      declared = slice_get_within signature.preds a.pred pred at;
    }

-- the numbers that goals call are in range
places_low : (preds : ℕ) (known : Known) (goals : List AtomTree) → AllByRecursion (IsFine preds) goals → AllByRecursion (λ n. n < preds * 256 + 1) (places_of known goals)
places_low preds known [] all = tt
places_low preds known (goal ∷ goals) all = (place_low preds known goal all.0.plain all.0.declared, places_low preds (known_after known goal) goals all.1)

zero_low : (size : ℕ) → 0 < size → (b : Bool) → AllByRecursion (λ n. n < size) (zero_unless b)
zero_low size low b = grind arith

callees_of_low : (preds pred : ℕ) (positions : Known) (clauses : List ClauseTree) → AllByRecursion (λ clause. AllByRecursion (IsFine preds) (clause.head ∷ clause.goals)) clauses → AllByRecursion (λ n. n < preds * 256 + 1) (callees_of pred positions clauses)
callees_of_low preds pred positions [] all = tt
callees_of_low preds pred positions (clause ∷ clauses) all = grind (arith, both_all, places_low, zero_low, clause.head.args, clause.head.pred, clause.goals, all.0.1, callees_of_low preds pred positions clauses all.1, all.1)

callees_low : (preds : ℕ) (clauses : List ClauseTree) → AllByRecursion (λ clause. AllByRecursion (IsFine preds) (clause.head ∷ clause.goals)) clauses → (n : ℕ) → AllByRecursion (λ m. m < preds * 256 + 1) (callees clauses n)
callees_low preds clauses all n = grind (arith, callees_of_low)

all_low : (preds : ℕ) (rules : List Rule) → AllByRecursion (λ rule. AllByRecursion (IsFine preds) (needed_of rule) × AllByRecursion (IsFine preds) rule.backs) rules → AllByRecursion (λ n. n < preds * 256 + 1) (all_places rules)
all_low preds [] all = tt
all_low preds (rule ∷ rules) all = grind (arith, both_all, places_low, rule.backs, all.0.1, all_low preds rules all.1, all.1)

-- The atoms of parts that are in order are plain, and the numbers of pairs that are called are in range.
pub record AreFine (parts : Parts) : Type 0 where
  pub clauses : AllByRecursion (IsPlainClause 32) parts.clauses
  pub premises : AllByRecursion (λ rule. AllByRecursion (IsPlain 32) (needed_of rule)) parts.rules
  pub backs : AllByRecursion (λ rule. AllByRecursion (IsPlain 32) rule.backs) parts.rules
  pub callees : (n : ℕ) → AllByRecursion (λ m. m < length parts.signature.preds * 256 + 1) (callees parts.clauses n)
  pub places : AllByRecursion (λ n. n < length parts.signature.preds * 256 + 1) (all_places parts.rules)

pub are_fine : TypeLaws → (parts : Parts) → AreInOrder parts → AreFine parts
are_fine laws parts order =
    let preds : ℕ = length parts.signature.preds in
    let fine_all = λ (kinds : List ℕ) (atoms : List AtomTree) (few : length kinds ≤ 32) (typed : AllByRecursion (IsTyped parts.signature kinds) atoms).
    all_weaker (IsTyped parts.signature kinds) (IsFine preds) atoms (λ a. fine laws parts.signature order.small.signature kinds a few) typed
    in
    let plain = λ (atoms : List AtomTree). all_weaker (IsFine preds) (IsPlain 32) atoms (λ a it. it.plain) in
    let clauses : AllByRecursion (λ (clause : ClauseTree). AllByRecursion (IsFine preds) (clause.head ∷ clause.goals)) parts.clauses = all_from_places _ parts.clauses (λ n clause at.
    let typed = holds_at (IsTypedClause parts.signature) parts.clauses n clause order.typed_clauses at in
    fine_all clause.kinds (clause.head ∷ clause.goals) (omega (arith, typed.kinds, (holds_at IsSmallClause parts.clauses n clause order.small.each_clause at).vars)) (typed.head, typed.goals))
    in
    let rules : AllByRecursion (λ (rule : Rule). AllByRecursion (IsFine preds) (needed_of rule) × AllByRecursion (IsFine preds) rule.backs) parts.rules = all_from_places _ parts.rules (λ n rule at.
    let typed = holds_at (IsTypedRule parts.signature) parts.rules n rule order.typed_rules at in
    let few : length rule.kinds ≤ 32 = omega (arith, typed.kinds, (holds_at IsSmallRule parts.rules n rule order.small.each_rule at).vars) in
    (fine_all rule.kinds (needed_of rule) few typed.premises, fine_all rule.kinds rule.backs few typed.backs))
    in
    record {
      clauses = all_weaker _ (IsPlainClause 32) parts.clauses (λ clause it. record { head = it.0.plain; goals = plain clause.goals it.1 }) clauses;
      premises = all_weaker _ _ parts.rules (λ rule it. plain (needed_of rule) it.0) rules;
      backs = all_weaker _ _ parts.rules (λ rule it. plain rule.backs it.1) rules;
      callees = callees_low preds parts.clauses clauses;
      places = all_low preds parts.rules rules;
    }
