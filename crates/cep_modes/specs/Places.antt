-- Private. Pairs of a predicate and known positions as numbers, and the numbers that a pair calls.
use Rattle.std.specs.Prelude.{◌≡◌, ℕ, zero, suc, ◌+◌, ◌*◌, ◌/◌, ◌%◌, ◌≤◌, ◌==◌, ◌||◌, Bool, true, false, cond, List, [], ◌∷◌, ◌++◌, slice_get, slice_index_or, Option, Some, None}
use Rattle.std.specs.List.{AllByRecursion}
use Rattle.cep_term.specs.Tree.{Trees, AtomTree, none, more, AreInRange}
use Rattle.cep_rule.specs.declared.rule.Rule.{Rule}
use Rattle.cep_rule.specs.Patterns.{ClauseTree}
use Rattle.cep_rule.specs.Binding.{needed_of}
use Rattle.cep_rule.specs.Groundness.{Known, nothing, is_known, are_known, known_at, known_after, known_after_all}

-- which flags are set; past the end none is
abbrev pub holds : List Bool → Known
holds flags i = slice_index_or flags i false

-- what is known by the one or the other
abbrev pub either : Known → Known → Known
either one other v = one v || other v

-- the positions that a number tells: it is odd where the first is known, and its half tells the others
abbrev pub positions_of : ℕ → Known
positions_of n zero = (n % 2) == 1
positions_of n (suc i) = positions_of (n / 2) i

-- the number of the positions of the arguments that are known
abbrev pub set_number : Known → Trees → ℕ
set_number known none = 0
set_number known (more t rest) = 2 * set_number known rest + cond (is_known known t) 1 0

-- how many numbers there are for the positions of so many arguments
abbrev pub room : Trees → ℕ
room none = 1
room (more t rest) = 2 * room rest

-- An atom has few arguments, and its variables are some of so many.
pub record IsPlain (vars : ℕ) (a : AtomTree) : Type 0 where
  pub few : room a.args ≤ 256
  pub in_range : AreInRange vars a.args

-- The atoms of a clause are plain.
pub record IsPlainClause (vars : ℕ) (clause : ClauseTree) : Type 0 where
  pub head : IsPlain vars clause.head
  pub goals : AllByRecursion (IsPlain vars) clause.goals

-- the number of the pair that a goal calls; 0 is left for a variable that stays unknown
abbrev pub pair_place : Known → AtomTree → ℕ
pair_place known goal = suc (goal.pred * 256 + set_number known goal.args)

-- the numbers of the pairs that goals call which are called in order
abbrev pub places_of : Known → List AtomTree → List ℕ
places_of known [] = []
places_of known (goal ∷ goals) = pair_place known goal ∷ places_of (known_after known goal) goals

-- 0, unless all is known
abbrev pub zero_unless : Bool → List ℕ
zero_unless true = []
zero_unless false = 0 ∷ []

-- the numbers that a clause calls whose head is known at these positions
abbrev pub clause_callees : Known → ClauseTree → List ℕ
clause_callees positions clause =
    places_of (known_at positions clause.head.args) clause.goals
    ++ zero_unless (are_known (known_after_all (known_at positions clause.head.args) clause.goals) clause.head.args)

-- the numbers of the clauses of the predicate, the first of these having this number
abbrev pub numbers_of : ℕ → ℕ → List ClauseTree → List ℕ
numbers_of pred i [] = []
numbers_of pred i (clause ∷ clauses) = cond (clause.head.pred == pred) (i ∷ numbers_of pred (suc i) clauses) (numbers_of pred (suc i) clauses)

-- For each predicate, the first of them having this number, the list of the numbers of its clauses.
abbrev pub IsClauseTable : List ClauseTree → ℕ → List (List ℕ) → Type 0
IsClauseTable clauses pred [] = Unit {0}
IsClauseTable clauses pred (numbers ∷ table) = (numbers ≡ numbers_of pred 0 clauses) × IsClauseTable clauses (suc pred) table

-- what a clause calls, if there is one
abbrev pub some_callees : Known → Option ClauseTree → List ℕ
some_callees positions None = []
some_callees positions (Some clause) = clause_callees positions clause

-- what the clauses with these numbers call
abbrev pub callees_by : Known → List ClauseTree → List ℕ → List ℕ
callees_by positions clauses [] = []
callees_by positions clauses (i ∷ numbers) = some_callees positions (slice_get clauses i) ++ callees_by positions clauses numbers

-- what the clauses of the predicate call
abbrev pub callees_of : ℕ → Known → List ClauseTree → List ℕ
callees_of pred positions [] = []
callees_of pred positions (clause ∷ clauses) = cond (clause.head.pred == pred) (clause_callees positions clause ++ callees_of pred positions clauses) (callees_of pred positions clauses)

-- what the pair with this number calls
abbrev pub callees : List ClauseTree → ℕ → List ℕ
callees clauses zero = []
callees clauses (suc n) = callees_of (n / 256) (positions_of (n % 256)) clauses

-- the numbers of the pairs that the backward premises of a rule call
abbrev pub rule_places : Rule → List ℕ
rule_places rule = places_of (known_after_all nothing (needed_of rule)) rule.backs

-- those of all rules
abbrev pub all_places : List Rule → List ℕ
all_places [] = []
all_places (rule ∷ rules) = rule_places rule ++ all_places rules

-- The pair with this number is in the set, and 0 is.
abbrev pub IsAmong : (ℕ → Known → Type 0) → ℕ → Type 0
IsAmong pairs zero = Unit {0}
IsAmong pairs (suc n) = pairs (n / 256) (positions_of (n % 256))
