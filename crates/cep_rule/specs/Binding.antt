-- Where the variables of a rule or a clause get their values from.
use Rattle.std.specs.Prelude.{◌⊎◌, ℕ, ◌<◌, List, [], ◌∷◌, ◌++◌, length, map}
use Rattle.cep_term.specs.Tree.{AtomTree, OccursIn}
use Rattle.cep_rule.specs.declared.rule.Rule.{Rule}
use Rattle.cep_rule.specs.Patterns.{ClauseTree}

-- The variable occurs in some atom of the list.
abbrev pub OccursInSome : ℕ → List AtomTree → Type 0
OccursInSome v [] = ⊥
OccursInSome v (a ∷ atoms) = OccursIn v a ⊎ OccursInSome v atoms

-- the atoms of the premises that a state has to meet, those that are kept included
abbrev pub needed_of : Rule → List AtomTree
needed_of rule = map (λ premise. premise.atom) rule.premises

-- Each variable of the rule occurs on its left side, in a premise that a state has to meet or in a backward one.
abbrev pub IsBoundRule : Rule → Type 0
IsBoundRule rule = (v : ℕ) → v < length rule.vars → OccursInSome v (needed_of rule ++ rule.backs)

-- Each variable of the clause occurs in its head or in a goal.
abbrev pub IsBoundClause : ClauseTree → Type 0
IsBoundClause clause = (v : ℕ) → v < length clause.vars → OccursInSome v (clause.head ∷ clause.goals)
