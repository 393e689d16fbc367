-- How the heads of clauses begin.
use Rattle.std.specs.Prelude.{◌≡◌, ℕ, Option, Some, None}
use Rattle.cep_term.specs.Tree.{Trees, variable, node, none, more}
use Rattle.cep_rule.specs.Patterns.{ClauseTree}

-- the constructor of the first argument, if there is one that has a constructor
abbrev pub first_constructor : Trees → Option ℕ
first_constructor none = None
first_constructor (more (variable v) rest) = None
first_constructor (more (node c args) rest) = Some c

-- The head of the clause has another predicate, or another constructor at its first argument.
pub record BeginsOtherwise (pred con : ℕ) (clause : ClauseTree) : Type 0 where
  pub other : clause.head.pred ≡ pred → (c : ℕ) × (first_constructor clause.head.args ≡ Some c) × (c ≡ con → ⊥)
