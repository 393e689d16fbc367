-- What rules and clauses add to a table, and what a pass over all of them comes to.
use Rattle.std.specs.Prelude.{◌≡◌, ℕ, Bool, true, false, List, Option, Some, Contains}
use Rattle.cep_term.specs.Tree.{AtomTree}
use Rattle.cep_rule.specs.declared.rule.Rule.{Rule}
use Rattle.cep_rule.specs.declared.parts.Parts.{Parts}
use Rattle.cep_rule.specs.Patterns.{ClauseTree}
use Rattle.cep_reach.specs.Tables.{Possibility, of_stage, PremisesPass, AtomAdds}
use Rattle.cep_reach.specs.Rounds.{RulePasses, IsMade, IsOfStart, IsInSomeRound, IsClosedTable}
use Rattle.cep_reach.specs.Held.{is_added, HasMoreNow}

-- Some atom of the list adds the possibility, where each variable has the set with its number.
abbrev pub IsAddedByAtom : (ℕ → ℕ → Bool) → List AtomTree → Possibility → Type 0
IsAddedByAtom sets atoms item = (a : AtomTree) × Contains atoms a × (is_added sets a item ≡ true)

-- The possibility is the stage that is named.
abbrev pub IsNamedStage : Option ℕ → Possibility → Type 0
IsNamedStage next item = (stage : ℕ) × (next ≡ Some stage) × (item ≡ of_stage stage)

-- The rule passes the table and adds the possibility.
abbrev pub RuleAdds : Parts → Rule → (Possibility → Bool) → Possibility → Type 0
RuleAdds program rule has item = RulePasses program (λ it. has it ≡ true) rule × IsMade program (λ it. has it ≡ true) rule item

-- The clause passes the table and adds the possibility.
abbrev pub ClauseAdds : Parts → ClauseTree → (Possibility → Bool) → Possibility → Type 0
ClauseAdds program clause has item =
    PremisesPass program.signature (λ it. has it ≡ true) clause.kinds clause.goals × AtomAdds program.signature (λ it. has it ≡ true) clause.kinds clause.goals clause.head item

-- A table became a later one: it has nothing that is in no round if the earlier one had not; and if nothing is new, the earlier one has what was to be added to it.
pub record IsPass (program : Parts) (Added : Possibility → Type 0) (earlier later : Possibility → Bool) (new : Bool) : Type 0 where
  pub keeps : (item : Possibility) → earlier item ≡ true → later item ≡ true
  pub sound : ((item : Possibility) → earlier item ≡ true → IsInSomeRound program item) → (item : Possibility) → later item ≡ true → IsInSomeRound program item
  pub grown : new ≡ true → HasMoreNow earlier later
  pub same : new ≡ false → (item : Possibility) → later item ≡ true → earlier item ≡ true
  pub closed : new ≡ false → (item : Possibility) → Added item → earlier item ≡ true

-- The table has all of the start, and nothing that is in no round.
pub record IsUnderway (program : Parts) (has : Possibility → Bool) : Type 0 where
  pub start : (item : Possibility) → IsOfStart program item → has item ≡ true
  pub sound : (item : Possibility) → has item ≡ true → IsInSomeRound program item

-- The table is closed, and it has nothing that is in no round.
pub record IsLastTable (program : Parts) (has : Possibility → Bool) : Type 0 where
  pub closed : IsClosedTable program (λ item. has item ≡ true)
  pub sound : (item : Possibility) → has item ≡ true → IsInSomeRound program item
