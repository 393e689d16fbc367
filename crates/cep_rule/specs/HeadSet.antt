-- Private.
-- The set in which clauses are found by how their heads begin.
use Rattle.std.specs.Prelude.{ℕ, List, Option, IsTrue, slice_get, IfSome}
use Rattle.std.specs.declared.cmp.Ordering.{Ordering}
use Rattle.std.specs.Ordering.{nat_cmp, ordering_then}
use Rattle.std.specs.Option.{option_cmp}
use Rattle.std.specs.BTreeSet.{BTreeSet, contains}
use Rattle.cep_rule.specs.Patterns.{ClauseTree}
use Rattle.cep_rule.specs.Heads.{first_constructor}

-- a predicate, a constructor at the first argument if there is one, and the number of a clause
abbrev pub HeadKey : Type 0
HeadKey = ℕ × Option ℕ × ℕ

-- Keys go by their parts.
abbrev pub head_cmp : HeadKey → HeadKey → Ordering
head_cmp one other = ordering_then (ordering_then (nat_cmp one.0 other.0) (option_cmp nat_cmp one.1 other.1)) (nat_cmp one.2 other.2)

-- the key of the clause with this number
abbrev pub head_key : ℕ → ClauseTree → HeadKey
head_key n clause = (clause.head.pred, first_constructor clause.head.args, n)

-- The set has the key of each clause.
abbrev pub HaveHeads : List ClauseTree → BTreeSet HeadKey → Type 0
HaveHeads clauses heads = (n : ℕ) → IfSome (slice_get clauses n) (λ clause. IsTrue (contains head_cmp heads (head_key n clause)))
