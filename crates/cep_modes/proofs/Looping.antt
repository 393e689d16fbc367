-- Numbers are gathered, and clauses stand by their predicates.
use Rattle.std.proofs.Common.{◌≡◌, ◌≤◌, ◌+◌, ℕ, suc, ◌==◌, Bool, true, false, cond, List, [], ◌∷◌, ◌++◌, length, drop, slice_get, Some, ap, sym, ◌∙◌, append_assoc, ◌<◌, ◌-◌, ◌*◌, ◌/◌, ◌%◌, map, slice_index_or, Vec, Global, refl, add-zero, zero-add, arith}
use Rattle.std.proofs.lemmas.List.{append-nil, drop_all}
use Rattle.cep_term.specs.Tree.{AtomTree}
use Rattle.cep_rule.specs.Patterns.{ClauseTree}
use Rattle.cep_rule.specs.Groundness.{Known, nothing, are_known, known_at, known_after, known_after_all}
use Rattle.cep_modes.specs.Places.{either, pair_place, places_of, zero_unless, clause_callees, numbers_of, callees_by, positions_of, IsClauseTable, some_callees, callees_of, callees}
pub use Rattle.cep_base.proofs.Drops.{drop_at as drop_got}
use Rattle.std.specs.List.{AllByRecursion}
use Rattle.cep_base.proofs.Lists.{holds_at, get_mapped, all_weaker}
use Rattle.std.proofs.lemmas.Option.{slice_get_read}

-- The loops that gather numbers: what is found already, and what is still to come, are all.

-- one more stands at the end, and all else after it
pub one_more : {X : Type 0} (found : List X) (x : X) (left : List X) → (found ++ x ∷ []) ++ left ≡ found ++ x ∷ left
one_more found x left = append_assoc found (x ∷ []) left

pub call_found : (goals : List AtomTree) (i : ℕ) (goal : AtomTree) (known after : Known) (found new whole : List ℕ)
    → slice_get goals i ≡ Some goal → new ≡ found ++ pair_place known goal ∷ [] → after ≡ known_after known goal
    → found ++ places_of known (drop i goals) ≡ whole
    → new ++ places_of after (drop (i + 1) goals) ≡ whole
call_found goals i goal known after found new whole got is learnt all = cc (is, one_more found (pair_place known goal) (places_of after (drop (i + 1) goals)), learnt, drop_got goals i goal got, all)

pub goal_learnt : (goals : List AtomTree) (i : ℕ) (goal : AtomTree) (known after whole : Known)
    → slice_get goals i ≡ Some goal → after ≡ known_after known goal
    → known_after_all known (drop i goals) ≡ whole
    → known_after_all after (drop (i + 1) goals) ≡ whole
goal_learnt goals i goal known after whole got learnt all = ap (λ now. known_after_all now (drop (i + 1) goals)) learnt ∙ ap (known_after_all known) (sym (drop_got goals i goal got)) ∙ all

pub clause_called : (clause : ClauseTree) (positions first then_known last : Known) (all : Bool) (old middle new : List ℕ)
    → first ≡ nothing → then_known ≡ either first (known_at positions clause.head.args)
    → middle ≡ old ++ places_of then_known clause.goals → last ≡ known_after_all then_known clause.goals
    → all ≡ are_known last clause.head.args → new ≡ middle ++ zero_unless all
    → new ≡ old ++ clause_callees positions clause
clause_called clause positions first then_known last all old middle new none learnt called after tells is = grind (arith, append_assoc)

pub callees_ended : (positions : Known) (clauses : List ClauseTree) (numbers : List ℕ) (i : ℕ) (found whole : List ℕ)
    → length numbers ≤ i → found ++ callees_by positions clauses (drop i numbers) ≡ whole → found ≡ whole
callees_ended positions clauses numbers i found whole past all = grind (arith, append-nil, drop_all)

-- Clauses by the numbers of those of one predicate.

pub table_more : (clauses : List ClauseTree) (pred : ℕ) (table : List (List ℕ)) (numbers : List ℕ)
    → IsClauseTable clauses pred table → numbers ≡ numbers_of (pred + length table) 0 clauses → IsClauseTable clauses pred (table ++ numbers ∷ [])
table_more clauses pred [] numbers is e = (e ∙ ap (λ p. numbers_of p 0 clauses) (add-zero pred), tt)
table_more clauses pred (one ∷ table) numbers is e =
    (is.0, table_more clauses (suc pred) table numbers is.1 (e ∙ ap (λ p. numbers_of p 0 clauses) (omega arith)))

pub table_at : (clauses : List ClauseTree) (pred : ℕ) (table : List (List ℕ)) (k : ℕ) (numbers : List ℕ)
    → IsClauseTable clauses pred table → slice_get table k ≡ Some numbers → numbers ≡ numbers_of (pred + k) 0 clauses
table_at clauses pred (one ∷ table) (suc k) numbers is got = grind (arith, table_at clauses (suc pred) table k numbers is.1 got, is.1)
table_at clauses pred table k numbers is got = grind (arith, add-zero)

-- numbers of clauses are those of clauses that are there
pub numbers_there : (pred i : ℕ) (clauses : List ClauseTree) → AllByRecursion (λ n. n < i + length clauses) (numbers_of pred i clauses)
numbers_there pred i [] = tt
numbers_there pred i (clause ∷ clauses) = grind (arith, all_weaker, clause.head.pred, numbers_there pred (suc i) clauses)

by_numbers : (positions : Known) (all : List ClauseTree) (pred i : ℕ) (clauses : List ClauseTree)
    → ((k : ℕ) → slice_get clauses k ≡ slice_get all (i + k))
    → callees_by positions all (numbers_of pred i clauses) ≡ callees_of pred positions clauses
by_numbers positions all pred i [] same = refl
by_numbers positions all pred i (clause ∷ clauses) same =
    by (clause.head.pred == pred) (sym (same 0 ∙ ap (slice_get all) (add-zero i))) (by_numbers positions all pred (suc i) clauses (λ k. next k))
  where
    next : (k : ℕ) → slice_get clauses k ≡ slice_get all (suc i + k)
    next k = let e : i + suc k ≡ suc i + k = omega arith in same (suc k) ∙ ap (slice_get all) e

    by : (b : Bool) → slice_get all i ≡ Some clause → callees_by positions all (numbers_of pred (suc i) clauses) ≡ callees_of pred positions clauses
        → callees_by positions all (cond b (i ∷ numbers_of pred (suc i) clauses) (numbers_of pred (suc i) clauses))
        ≡ cond b (clause_callees positions clause ++ callees_of pred positions clauses) (callees_of pred positions clauses)
    by true got rest = ap (λ there. some_callees positions there ++ callees_by positions all (numbers_of pred (suc i) clauses)) got ∙ ap (λ more. clause_callees positions clause ++ more) rest
    by false got rest = rest

told_at : (clauses : List ClauseTree) (table : List (List ℕ)) (n : ℕ) (numbers : List ℕ)
    → IsClauseTable clauses 0 table → slice_get table (n / 256) ≡ Some numbers
    → callees_by (positions_of (n % 256)) clauses numbers ≡ callees clauses (suc n)
told_at clauses table n numbers is got = grind (arith, table_at clauses 0 table (n / 256) numbers is got, zero-add (n / 256), by_numbers, zero-add)

-- a pair calls what the clauses with the numbers of its predicate call
pub callees_told : (clauses : List ClauseTree) (table : List (List ℕ)) (n m : ℕ) (numbers : List ℕ)
    → IsClauseTable clauses 0 table → slice_get table (m / 256) ≡ Some numbers → ((n ≡ 0) → ⊥) → m ≡ n - 1
    → callees_by (positions_of (m % 256)) clauses numbers ≡ callees clauses n
callees_told clauses table n m numbers is got some less = grind (arith, told_at)

-- the number of a clause that is called is one of a clause
pub number_there : (clauses : List ClauseTree) (table : List (List ℕ)) (k j number : ℕ) (numbers : List ℕ)
    → IsClauseTable clauses 0 table → slice_get table k ≡ Some numbers → slice_get numbers j ≡ Some number → number < length clauses
number_there clauses table k j number numbers is got there = grind (arith, table_at clauses 0 table k numbers is got, zero-add k, holds_at, numbers_there k 0 clauses)

-- the list of numbers that is read from a table is there
pub listed : (table : List (Vec ℕ Global)) (n m : ℕ) (numbers : Vec ℕ Global) (list : List ℕ)
    → n < length table * 256 + 1 → ((n ≡ 0) → ⊥) → m ≡ n - 1 → numbers ≡ slice_index_or table (m / 256) numbers → list ≡ numbers.items
    → slice_get (map (λ (v : Vec ℕ Global). v.items) table) (m / 256) ≡ Some list
listed table n m numbers list low some less read same = grind (arith, get_mapped, slice_get_read)
