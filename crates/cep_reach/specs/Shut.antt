-- What keeps premises from passing a table: the first that is not open, or the first variable whose set is empty.
use Rattle.std.specs.Prelude.{◌≡◌, ℕ, ◌+◌, ◌<◌, List, ◌∷◌, ◌++◌, length}
use Rattle.std.specs.List.{AllByRecursion}
use Rattle.cep_term.specs.Tree.{AtomTree}
use Rattle.cep_rule.specs.declared.signature.Signature.{Signature}
use Rattle.cep_reach.specs.Tables.{Possibility, IsOpen, StandsAlone, CanBegin}

-- The premise at the place, counted from 1, is the first that is not open.
pub record IsFirstShut (table : Possibility → Type 0) (premises : List AtomTree) (place : ℕ) : Type 0 where
  pub before : List AtomTree
  pub shut : AtomTree
  pub rest : List AtomTree
  pub whole : premises ≡ before ++ shut ∷ rest
  pub opened : AllByRecursion (IsOpen table) before
  pub is_shut : ¬ IsOpen table shut
  pub placed : place ≡ length before + 1

-- The variable is the first whose set is empty, among those that stand by themselves at a position of a premise.
pub record IsFirstEmpty (signature : Signature) (table : Possibility → Type 0) (kinds : List ℕ) (premises : List AtomTree) (v : ℕ) : Type 0 where
  pub alone : StandsAlone premises v
  pub none : (c : ℕ) → ¬ CanBegin signature table kinds premises v c
  pub first : (w : ℕ) → w < v → StandsAlone premises w → (c : ℕ) × CanBegin signature table kinds premises w c
