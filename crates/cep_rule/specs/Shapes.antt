-- Offers and derivations of a program's shape, whatever applies or is proved, and which values are small.
use Rattle.std.specs.Prelude.{ℕ, ◌≤◌, List, [], ◌∷◌, slice_get, IsSomeAnd}
use Rattle.std.specs.List.{AllByRecursion}
use Rattle.cep_base.specs.declared.limits.TheConstants.{MOST_DEPTH, MOST_NODES}
use Rattle.cep_term.specs.Tree.{Tree, term_nodes, term_depth}
use Rattle.cep_rule.specs.declared.parts.Parts.{Parts}
use Rattle.cep_rule.specs.declared.offer.Offer.{Offer}
use Rattle.cep_rule.specs.Typing.{AreValues}
use Rattle.cep_rule.specs.Derivations.{ProofTree, ProofTrees, by_clause, no_goal, goal_by}

-- The offer has a rule of the program, and one value for each variable of the rule, of its type.
abbrev pub IsOfferOf : Parts → Offer → Type 0
IsOfferOf program offer = IsSomeAnd (slice_get program.rules offer.rule) (λ rule. AreValues program.signature.cons rule.kinds offer.values)

-- There is one derivation for each goal.
abbrev pub AreAsMany : {A : Type 0} → ProofTrees → List A → Type 0
AreAsMany no_goal [] = Unit {0}
AreAsMany no_goal (goal ∷ goals) = ⊥
AreAsMany (goal_by proof proofs) [] = ⊥
AreAsMany (goal_by proof proofs) (goal ∷ goals) = AreAsMany proofs goals

-- The clause is one of the program, and there is one value for each variable of the clause, of its type.
abbrev pub IsNodeOf : Parts → ℕ → List Tree → Type 0
IsNodeOf program number values = IsSomeAnd (slice_get program.clauses number) (λ clause. AreValues program.signature.cons clause.kinds values)

-- A derivation has the program's shape: each node has a clause of the program with values for its variables, and one derivation for each goal. What the derivations of the goals prove is left open.
abbrev mutual
  pub IsProofOf : Parts → ProofTree → Type 0
  IsProofOf program (by_clause number values subs) =
      IsNodeOf program number values
      × IsSomeAnd (slice_get program.clauses number) (λ clause. AreAsMany subs clause.goals)
      × AreProofsOf program subs

  pub AreProofsOf : Parts → ProofTrees → Type 0
  AreProofsOf program no_goal = Unit {0}
  AreProofsOf program (goal_by proof proofs) = IsProofOf program proof × AreProofsOf program proofs

-- A term is small: within the limits of an atom that is kept.
pub record IsSmallTerm (t : Tree) : Type 0 where
  pub nodes : term_nodes t ≤ MOST_NODES
  pub depth : term_depth t ≤ MOST_DEPTH

-- All values of a derivation, and of derivations, are small enough.
abbrev mutual
  pub HasSmallValues : ProofTree → Type 0
  HasSmallValues (by_clause number values subs) = AllByRecursion IsSmallTerm values × HaveSmallValues subs

  pub HaveSmallValues : ProofTrees → Type 0
  HaveSmallValues no_goal = Unit {0}
  HaveSmallValues (goal_by proof proofs) = HasSmallValues proof × HaveSmallValues proofs
