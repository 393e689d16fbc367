-- What the words of a command ask for.
use Rattle.std.specs.Prelude.{◌≡◌, ℕ, ◌<◌, ◌≤◌, ◌^◌, List, [], ◌∷◌, ◌++◌, map, codes, decimal, Option, None, Some}
use Rattle.std.specs.List.{AllByRecursion}
use Rattle.std.specs.List.Sorted.{IsPermutation}
use Rattle.cep_base.specs.declared.limits.TheConstants.{MOST_HEIGHT, MOST_TURNS, MOST_WORLD}
use Rattle.cep_round.specs.declared.limits.TheConstants.{MOST_PLAYERS}
use Rattle.cep_words.specs.declared.run_option.RunOption.{RunOption}
use Rattle.cep_words.specs.declared.run_option.RunOption.TheVariants.{Seed, Height, Turns, Players}
use Rattle.cep_words.specs.declared.options.Options.{Options}
use Rattle.cep_words.specs.declared.request.Task.{Task}
use Rattle.cep_words.specs.declared.request.Task.TheVariants.{Check, Renew, Cause, Again, Weigh}

-- the word that asks one thing of a run: its name, `=`, and the number in decimal without leading zeros
abbrev pub option_text : RunOption → List ℕ
option_text (Seed seed) = codes "seed=" ++ decimal seed
option_text (Height levels) = codes "height=" ++ decimal levels
option_text (Turns turns) = codes "turns=" ++ decimal turns
option_text (Players players) = codes "players=" ++ decimal players

-- a number from the least to the most
abbrev pub IsFromTo : ℕ → ℕ → ℕ → Type 0
IsFromTo least most n = (least ≤ n) × (n ≤ most)

-- a number from 1 to the most
abbrev pub IsUpTo : ℕ → ℕ → Type 0
IsUpTo most n = IsFromTo 1 most n

-- what is asked is within its bounds
abbrev pub IsInBounds : RunOption → Type 0
IsInBounds (Seed seed) = seed < 2 ^ 64
IsInBounds (Height levels) = IsUpTo MOST_HEIGHT levels
IsInBounds (Turns turns) = IsUpTo MOST_TURNS turns
IsInBounds (Players players) = IsFromTo 2 MOST_PLAYERS players

-- one thing that is asked, or none
abbrev pub asked_if : (ℕ → RunOption) → Option ℕ → List RunOption
asked_if kind None = []
asked_if kind (Some n) = kind n ∷ []

-- all that options ask
abbrev pub all_asked : Options → List RunOption
all_asked options = asked_if Seed options.seed ++ (asked_if Height options.height ++ (asked_if Turns options.turns ++ asked_if Players options.players))

-- The options are within their bounds.
abbrev pub AreWithin : Options → Type 0
AreWithin options = AllByRecursion IsInBounds (all_asked options)

-- These words give these options: each word asks one thing, in any order, each at most once, and each within its bounds.
abbrev pub Give : List (List ℕ) → Options → Type 0
Give words options = AreWithin options × IsPermutation (map option_text (all_asked options)) words

-- the word that names a task
abbrev pub task_word : Task → List ℕ
task_word Check = codes "check"
task_word Renew = codes "renew"
task_word Cause = codes "cause"
task_word (Again seed) = codes "again"
task_word Weigh = codes "weigh"

-- what is asked besides, after the files
abbrev pub options_of : Task → List RunOption
options_of Check = []
options_of Renew = []
options_of Cause = []
options_of (Again seed) = asked_if Seed seed
options_of Weigh = []

-- the word that asks for a program to be played: by one player, or by several in rounds
abbrev pub play_word : Option ℕ → List ℕ
play_word None = codes "play"
play_word (Some players) = codes "rounds"

-- What words may ask for: that the program in a file is played, with options, by one player, or by several in rounds where the options say how many; that another file is examined against it, for a task; that its dead rules are reported; or that the generated world of so many rooms is run, with options, in which nobody plays.
pub data Request : Type 0 where
  Play : (file : List ℕ) → (options : Options) → Request
  Examine : (task : Task) → (file : List ℕ) → (second : List ℕ) → Request
  Dead : (file : List ℕ) → Request
  World : (rooms : ℕ) → (options : Options) → Request

-- These words ask for this.
abbrev pub AskFor : List (List ℕ) → Request → Type 0
AskFor words (Play file options) = (others : List (List ℕ)) × (words ≡ play_word options.players ∷ file ∷ others) × Give others options
AskFor words (Examine task file second) =
    AllByRecursion IsInBounds (options_of task) × (words ≡ task_word task ∷ file ∷ second ∷ map option_text (options_of task))
AskFor words (Dead file) = words ≡ codes "dead" ∷ file ∷ []
AskFor words (World rooms options) = IsUpTo MOST_WORLD rooms × (options.players ≡ None) × ((others : List (List ℕ)) × (words ≡ codes "world" ∷ decimal rooms ∷ others) × Give others options)

-- the words are malformed: they ask for nothing
abbrev pub HaveNoForm : List (List ℕ) → Type 0
HaveNoForm words = (request : Request) → AskFor words request → ⊥
