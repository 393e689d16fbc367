-- Where more positions are known, no more pairs are bad; and bad pairs are those that fail by the bad pairs.
use Rattle.std.proofs.Common.{◌≡◌, arith, inl, inr, ℕ, zero, suc, true, List, [], ◌∷◌, refl}
use Rattle.cep_term.specs.Tree.{Tree, Trees, AtomTree, variable, node, none, more}
use Rattle.cep_rule.specs.Patterns.{ClauseTree}
use Rattle.cep_rule.specs.Groundness.{Known, is_known, are_known, positions_known, known_at, known_after, known_after_all, CallsAt, Calls, LeavesUnknown, SomeFails, IsBadInRound, IsBad}

-- What is known by the one is known by the other.
abbrev IsWithin : Known → Known → Type 0
IsWithin few many = (v : ℕ) → few v ≡ true → many v ≡ true

mutual
  known_within : (few many : Known) → IsWithin few many → (t : Tree) → is_known few t ≡ true → is_known many t ≡ true
  known_within few many within (variable v) e = within v e
  known_within few many within (node c args) e = all_within few many within args e

  all_within : (few many : Known) → IsWithin few many → (args : Trees) → are_known few args ≡ true → are_known many args ≡ true
  all_within few many within none e = refl
  all_within few many within (more t rest) e = grind (arith, known_within few many within t, all_within few many within rest)

positions_within : (few many : Known) → IsWithin few many → (args : Trees) → IsWithin (positions_known few args) (positions_known many args)
positions_within few many within none i e = e
positions_within few many within (more t rest) zero e = known_within few many within t e
positions_within few many within (more t rest) (suc i) e = positions_within few many within rest i e

at_within : (args : Trees) (few many : Known) → IsWithin few many → IsWithin (known_at few args) (known_at many args)
at_within none few many within v e = e
at_within (more t rest) few many within v e = grind (arith, within 0, at_within rest (λ i. few (suc i)) (λ i. many (suc i)) (λ i. within (suc i)) v)

after_within : (few many : Known) (goal : AtomTree) → IsWithin few many → IsWithin (known_after few goal) (known_after many goal)
after_within few many goal within v e = grind (arith, within v)

after_all_within : (goals : List AtomTree) (few many : Known) → IsWithin few many → IsWithin (known_after_all few goals) (known_after_all many goals)
after_all_within [] few many within = within
after_all_within (goal ∷ goals) few many within = after_all_within goals (known_after few goal) (known_after many goal) (after_within few many goal within)

-- The set has each pair of the same predicate where fewer positions are known.
abbrev IsDownward : (ℕ → Known → Type 0) → Type 0
IsDownward pairs = (pred : ℕ) (few many : Known) → IsWithin few many → pairs pred many → pairs pred few

calls_at_within : (pairs : ℕ → Known → Type 0) → IsDownward pairs → (goals : List AtomTree) (few many : Known) (i : ℕ) → IsWithin few many → CallsAt pairs many goals i → CallsAt pairs few goals i
calls_at_within pairs down (goal ∷ goals) few many (suc i) within calls = grind (arith, after_within, calls_at_within pairs down goals (known_after few goal) (known_after many goal) i (after_within few many goal within) calls)
calls_at_within pairs down goals few many i within calls = grind (arith, positions_within)

calls_within : (pairs : ℕ → Known → Type 0) → IsDownward pairs → (goals : List AtomTree) (few many : Known) → IsWithin few many → Calls pairs many goals → Calls pairs few goals
calls_within pairs down goals few many within calls = (calls.0, calls_at_within pairs down goals few many calls.0 within calls.1)

leaves_within : (clause : ClauseTree) (few many : Known) → IsWithin few many → LeavesUnknown many clause → LeavesUnknown few clause
leaves_within clause few many within leaves = grind (arith, after_all_within, leaves.0, leaves.1, clause.goals, leaves.2)

fails_within : (pairs : ℕ → Known → Type 0) → IsDownward pairs → (clauses : List ClauseTree) (pred : ℕ) (few many : Known) → IsWithin few many → SomeFails clauses pairs pred many → SomeFails clauses pairs pred few
fails_within pairs down [] pred few many within fails = fails
fails_within pairs down (clause ∷ clauses) pred few many within (inl (same, inl calls)) = inl (same, inl (calls_within pairs down clause.goals (known_at few clause.head.args) (known_at many clause.head.args) (at_within clause.head.args few many within) calls))
fails_within pairs down (clause ∷ clauses) pred few many within (inl (same, inr leaves)) = inl (same, inr (leaves_within clause (known_at few clause.head.args) (known_at many clause.head.args) (at_within clause.head.args few many within) leaves))
fails_within pairs down (clause ∷ clauses) pred few many within (inr later) = inr (fails_within pairs down clauses pred few many within later)

round_within : (clauses : List ClauseTree) (round : ℕ) → IsDownward (IsBadInRound clauses round)
round_within clauses zero pred few many within bad = bad
round_within clauses (suc round) pred few many within bad = fails_within (IsBadInRound clauses round) (round_within clauses round) clauses pred few many within bad

pub bad_within : (clauses : List ClauseTree) (pred : ℕ) (few many : Known) → ((i : ℕ) → few i ≡ true → many i ≡ true) → IsBad clauses pred many → IsBad clauses pred few
bad_within clauses pred few many within bad = (bad.0, round_within clauses bad.0 pred few many within bad.1)

-- what calls pairs of one set calls those of a set that has them
calls_at_weaker : (one other : ℕ → Known → Type 0) → ((pred : ℕ) (positions : Known) → one pred positions → other pred positions) → (goals : List AtomTree) (known : Known) (i : ℕ) → CallsAt one known goals i → CallsAt other known goals i
calls_at_weaker one other weaker (goal ∷ goals) known (suc i) calls = calls_at_weaker one other weaker goals (known_after known goal) i calls
calls_at_weaker one other weaker goals known i calls = grind arith

fails_weaker : (one other : ℕ → Known → Type 0) → ((pred : ℕ) (positions : Known) → one pred positions → other pred positions) → (clauses : List ClauseTree) (pred : ℕ) (positions : Known) → SomeFails clauses one pred positions → SomeFails clauses other pred positions
fails_weaker one other weaker [] pred positions fails = fails
fails_weaker one other weaker (clause ∷ clauses) pred positions (inl (same, inl calls)) = inl (same, inl (calls.0, calls_at_weaker one other weaker clause.goals (known_at positions clause.head.args) calls.0 calls.1))
fails_weaker one other weaker (clause ∷ clauses) pred positions (inl (same, inr leaves)) = inl (same, inr leaves)
fails_weaker one other weaker (clause ∷ clauses) pred positions (inr later) = inr (fails_weaker one other weaker clauses pred positions later)

-- a bad pair that is called is bad in some round
calls_in_round : (clauses : List ClauseTree) (goals : List AtomTree) (known : Known) (i : ℕ) → CallsAt (IsBad clauses) known goals i → (round : ℕ) × CallsAt (IsBadInRound clauses round) known goals i
calls_in_round clauses (goal ∷ goals) known (suc i) calls = calls_in_round clauses goals (known_after known goal) i calls
calls_in_round clauses goals known i calls = grind arith

fails_in_round : (clauses some : List ClauseTree) (pred : ℕ) (positions : Known) → SomeFails some (IsBad clauses) pred positions → (round : ℕ) × SomeFails some (IsBadInRound clauses round) pred positions
fails_in_round clauses [] pred positions fails = absurd fails
fails_in_round clauses (clause ∷ some) pred positions (inl (same, inl calls)) = let found = calls_in_round clauses clause.goals (known_at positions clause.head.args) calls.0 calls.1 in (found.0, inl (same, inl (calls.0, found.1)))
fails_in_round clauses (clause ∷ some) pred positions (inl (same, inr leaves)) = (0, inl (same, inr leaves))
fails_in_round clauses (clause ∷ some) pred positions (inr later) = let found = fails_in_round clauses some pred positions later in (found.0, inr found.1)

pub bad_fails : (clauses : List ClauseTree) (pred : ℕ) (positions : Known) → IsBad clauses pred positions → SomeFails clauses (IsBad clauses) pred positions
bad_fails clauses pred positions bad = grind (arith, fails_weaker, bad.0, bad.1)

pub fails_bad : (clauses : List ClauseTree) (pred : ℕ) (positions : Known) → SomeFails clauses (IsBad clauses) pred positions → IsBad clauses pred positions
fails_bad clauses pred positions fails = let found = fails_in_round clauses clauses pred positions fails in (suc found.0, found.1)
