-- Tables by rounds, and which rules are dead.
use Rattle.std.specs.Prelude.{◌≡◌, ◌⊎◌, ℕ, zero, suc, ◌/◌, ◌<◌, ◌++◌, List, Some, Contains}
use Rattle.cep_term.specs.Tree.{AtomTree}
use Rattle.cep_term.specs.Multiset.{count_of}
use Rattle.cep_rule.specs.declared.rule.Rule.{Rule}
use Rattle.cep_rule.specs.declared.parts.Parts.{Parts}
use Rattle.cep_rule.specs.Patterns.{ClauseTree}
use Rattle.cep_rule.specs.Binding.{needed_of}
use Rattle.cep_reach.specs.Tables.{Possibility, of_stage, of_pred, of_con, HasConAt, PremisesPass, AtomAdds}

-- the stage of a rule: the one whose own it is, or that it leaves
abbrev pub stage_of : Rule → ℕ
stage_of rule = rule.group / 2

-- the premises of a rule, those that a state has to meet and then the backward ones
abbrev pub premises_of : Rule → List AtomTree
premises_of rule = needed_of rule ++ rule.backs

-- A rule passes a table: its stage is there, and its premises pass.
pub record RulePasses (program : Parts) (table : Possibility → Type 0) (rule : Rule) : Type 0 where
  pub stage : table (of_stage (stage_of rule))
  pub premises : PremisesPass program.signature table rule.kinds (premises_of rule)

-- The item is of a right atom of the rule, or it is the stage that the rule names.
abbrev pub IsMade : Parts → (Possibility → Type 0) → Rule → Possibility → Type 0
IsMade program table rule item =
    ((a : AtomTree) × Contains rule.right a × AtomAdds program.signature table rule.kinds (premises_of rule) a item)
    ⊎ ((stage : ℕ) × (rule.next ≡ Some stage) × (item ≡ of_stage stage))

-- Some rule passes the table and adds the item.
pub record IsAddedByRule (program : Parts) (table : Possibility → Type 0) (item : Possibility) : Type 0 where
  pub rule : Rule
  pub of_program : Contains program.rules rule
  pub passes : RulePasses program table rule
  pub made : IsMade program table rule item

-- Some clause passes the table and adds the item, by its head.
pub record IsAddedByClause (program : Parts) (table : Possibility → Type 0) (item : Possibility) : Type 0 where
  pub clause : ClauseTree
  pub of_program : Contains program.clauses clause
  pub passes : PremisesPass program.signature table clause.kinds clause.goals
  pub made : AtomAdds program.signature table clause.kinds clause.goals clause.head item

-- The item is of the start: its stage, the predicates of its atoms, and the constructors that these have at their positions.
abbrev pub IsOfStart : Parts → Possibility → Type 0
IsOfStart program (of_stage k) = k ≡ program.start_stage
IsOfStart program (of_pred p) = (a : AtomTree) × (0 < count_of program.start a) × (p ≡ a.pred)
IsOfStart program (of_con p i c) = (a : AtomTree) × (0 < count_of program.start a) × (p ≡ a.pred) × HasConAt a i c

-- The item is in the table of a round: of round 0 are the items of the start; of each later one those of the round before, and what rules and clauses add that pass its table.
abbrev pub IsInRound : Parts → ℕ → Possibility → Type 0
IsInRound program zero item = IsOfStart program item
IsInRound program (suc round) item =
    IsInRound program round item ⊎ (IsAddedByRule program (IsInRound program round) item ⊎ IsAddedByClause program (IsInRound program round) item)

-- A rule is dead: it passes the table of no round.
abbrev pub IsDead : Parts → Rule → Type 0
IsDead program rule = (round : ℕ) → ¬ RulePasses program (IsInRound program round) rule

-- The item is in the table of some round.
abbrev pub IsInSomeRound : Parts → Possibility → Type 0
IsInSomeRound program item = (round : ℕ) × IsInRound program round item

-- A table is closed: it has all of the start, and what rules and clauses add that pass it.
pub record IsClosedTable (program : Parts) (table : Possibility → Type 0) : Type 0 where
  pub start : (item : Possibility) → IsOfStart program item → table item
  pub rules : (item : Possibility) → IsAddedByRule program table item → table item
  pub clauses : (item : Possibility) → IsAddedByClause program table item → table item
