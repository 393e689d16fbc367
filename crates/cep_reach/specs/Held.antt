-- What a table of bits holds, and the definitions as tests of what it holds.
use Rattle.std.specs.Prelude.{◌≡◌, ◌⊎◌, ℕ, ◌+◌, ◌*◌, ◌<◌, ◌≤◌, ◌^◌, ◌==◌, nat_lt, Bool, true, false, not, ◌&&◌, ◌||◌, if◌then◌else◌, List, [], map, Option, Some, None, option_map, unwrap_or, slice_get, slice_index_or, length}
use Rattle.std.specs.List.{list_any, list_all}
use Rattle.cep_base.specs.declared.limits.TheConstants.{MOST_ARGUMENTS}
use Rattle.cep_term.specs.Tree.{Tree, Trees, AtomTree, variable, node, none, more}
use Rattle.cep_rule.specs.declared.signature.Con.{Con}
use Rattle.cep_rule.specs.declared.signature.Signature.{Signature}
use Rattle.cep_reach.specs.declared.bits.Bits.{Bits}
use Rattle.cep_reach.specs.declared.table.Table.{Table}
use Rattle.cep_reach.specs.Sets.{has_bit}
use Rattle.cep_reach.specs.Tables.{Possibility, of_stage, of_pred, of_con}

-- the words of the set at a place, and none where there is no set
abbrev pub words_at : List Bits → ℕ → List ℕ
words_at sets place = slice_index_or (map (λ set. set.words.items) sets) place []

-- whether the number is in the set at the place
abbrev pub is_in_set : List Bits → ℕ → ℕ → Bool
is_in_set sets place n = has_bit (words_at sets place) n

-- whether the possibility stands in the table
abbrev pub is_held : Table → Possibility → Bool
is_held table (of_stage k) = has_bit table.stages.words.items k
is_held table (of_pred p) = has_bit table.preds.words.items p
is_held table (of_con p i c) = nat_lt i MOST_ARGUMENTS && is_in_set table.rows.items (p * MOST_ARGUMENTS + i) c

-- how many arguments there are
abbrev pub arguments_in : Trees → ℕ
arguments_in none = 0
arguments_in (more t rest) = arguments_in rest + 1

-- The atom has no more arguments than a predicate may have.
abbrev pub HasFewArguments : AtomTree → Type 0
HasFewArguments a = arguments_in a.args ≤ MOST_ARGUMENTS

-- whether the constructor of the argument at the position, if it has one, is there
abbrev pub is_term_open : (Possibility → Bool) → ℕ → ℕ → Tree → Bool
is_term_open has p i (variable v) = true
is_term_open has p i (node c args) = has (of_con p i c)

-- whether the constructors of the arguments, from this position on, are there
abbrev pub are_args_open : (Possibility → Bool) → ℕ → ℕ → Trees → Bool
are_args_open has p i none = true
are_args_open has p i (more t rest) = is_term_open has p i t && are_args_open has p (i + 1) rest

-- whether the atom is open
abbrev pub is_open : (Possibility → Bool) → AtomTree → Bool
is_open has a = has (of_pred a.pred) && are_args_open has a.pred 0 a.args

-- whether the term is the variable
abbrev pub is_variable : ℕ → Tree → Bool
is_variable v (variable w) = w == v
is_variable v (node c args) = false

-- whether the variable is one of the arguments
abbrev pub is_among : ℕ → Trees → Bool
is_among v none = false
is_among v (more t rest) = is_variable v t || is_among v rest

-- whether the variable stands by itself at some position of some atom
abbrev pub stands_alone : List AtomTree → ℕ → Bool
stands_alone atoms v = list_any (λ a. is_among v a.args) atoms

-- whether the constructor is there for each argument, from this position on, that is the variable
abbrev pub is_kept_among : (Possibility → Bool) → ℕ → ℕ → Trees → ℕ → ℕ → Bool
is_kept_among has p i none v c = true
is_kept_among has p i (more t rest) v c = (not (is_variable v t) || has (of_con p i c)) && is_kept_among has p (i + 1) rest v c

-- whether the constructor is there for each position of an atom where the variable stands by itself
abbrev pub is_kept : (Possibility → Bool) → List AtomTree → ℕ → ℕ → Bool
is_kept has atoms v c = list_all (λ a. is_kept_among has a.pred 0 a.args v c) atoms

-- whether the constructor is of the type
abbrev pub is_of_sort : List Con → ℕ → ℕ → Bool
is_of_sort cons sort c = unwrap_or (option_map (λ con. con.sort == sort) (slice_get cons c)) false

-- whether the constructor is in the set of the variable
abbrev pub can_begin : Signature → (Possibility → Bool) → List ℕ → List AtomTree → ℕ → ℕ → Bool
can_begin signature has kinds premises v c =
    if stands_alone premises v then is_kept has premises v c else unwrap_or (option_map (λ sort. is_of_sort signature.cons sort c) (slice_get kinds v)) false

-- whether the constructor is that of the term, or in the set of the variable
abbrev pub is_begun : (ℕ → ℕ → Bool) → Tree → ℕ → Bool
is_begun sets (variable v) c = sets v c
is_begun sets (node d args) c = c == d

-- whether the possibility is a constructor that the term adds at the position
abbrev pub is_added_at : (ℕ → ℕ → Bool) → ℕ → ℕ → Tree → Possibility → Bool
is_added_at sets p i t (of_stage k) = false
is_added_at sets p i t (of_pred q) = false
is_added_at sets p i t (of_con q j c) = (q == p) && (j == i) && is_begun sets t c

-- whether the arguments add the possibility, from this position on
abbrev pub is_added_among : (ℕ → ℕ → Bool) → ℕ → ℕ → Trees → Possibility → Bool
is_added_among sets p i none item = false
is_added_among sets p i (more t rest) item = is_added_at sets p i t item || is_added_among sets p (i + 1) rest item

-- whether the possibility is the predicate
abbrev pub is_pred : ℕ → Possibility → Bool
is_pred p (of_stage k) = false
is_pred p (of_pred q) = q == p
is_pred p (of_con q j c) = false

-- whether the possibility is the stage
abbrev pub names_stage : ℕ → Possibility → Bool
names_stage stage (of_stage k) = k == stage
names_stage stage (of_pred q) = false
names_stage stage (of_con q j c) = false

-- whether the atom adds the possibility, where each variable has the set with its number
abbrev pub is_added : (ℕ → ℕ → Bool) → AtomTree → Possibility → Bool
is_added sets a item = is_pred a.pred item || is_added_among sets a.pred 0 a.args item

-- The numbers are those that memory may hold.
abbrev pub IsInMemory : Possibility → Type 0
IsInMemory (of_stage k) = k < 2 ^ 70
IsInMemory (of_pred p) = p < 2 ^ 70
IsInMemory (of_con p i c) = (p < 2 ^ 70) × (i < MOST_ARGUMENTS) × (c < 2 ^ 70)

-- Something stands in the later table that does not stand in the earlier one.
pub record HasMoreNow (earlier later : Possibility → Bool) : Type 0 where
  pub item : Possibility
  pub in_memory : IsInMemory item
  pub not_before : earlier item ≡ false
  pub now : later item ≡ true

-- What was to be added was added and nothing else, and this tells whether something is new.
pub record Growth (earlier later : Possibility → Bool) (Added : Possibility → Type 0) (new : Bool) : Type 0 where
  pub keeps : (item : Possibility) → earlier item ≡ true → later item ≡ true
  pub has : (item : Possibility) → Added item → later item ≡ true
  pub only : (item : Possibility) → later item ≡ true → (earlier item ≡ true) ⊎ Added item
  pub grown : new ≡ true → HasMoreNow earlier later
  pub same : new ≡ false → (item : Possibility) → later item ≡ true → earlier item ≡ true

-- whether the number is in the set, where no set stands for all numbers
abbrev pub has_all : Option Bits → ℕ → Bool
has_all None n = true
has_all (Some set) n = has_bit set.words.items n

-- The sets are those of the variables, in order.
pub record AreSets (sets : List Bits) (signature : Signature) (has : Possibility → Bool) (kinds : List ℕ) (premises : List AtomTree) : Type 0 where
  pub as_many : length sets ≡ length kinds
  pub each : (v c : ℕ) → v < length kinds → is_in_set sets v c ≡ can_begin signature has kinds premises v c
