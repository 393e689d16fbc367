-- The words of the command: what they speak of, what is asked of the shelf for them, and the lines that it writes of its own.
use Rattle.std.specs.Prelude.{◌⊎◌, ℕ, List, [], ◌∷◌, codes, unwrap_or}
use Rattle.cep_base.specs.declared.limits.TheConstants.{DEFAULT_HEIGHT, DEFAULT_SEED, DEFAULT_TURNS}
use Rattle.cep_rule.specs.declared.parts.Parts.{Parts}
use Rattle.cep_words.specs.declared.options.Options.{Options}
use Rattle.cep_words.specs.Words.{Request, Play, Examine, Dead, World, AskFor}
use Rattle.cep_run.specs.declared.settings.Settings.{Settings}
use Rattle.cep_examine.specs.Exchange.{Loaded, IsUnread, AskedFor}
use Rattle.cep_examine.specs.Loading.{OfFile, IsProgramText}

-- P holds of what the words ask for
abbrev pub OfRequest : List (List ℕ) → (Request → Type 0) → Type 0
OfRequest words P = (request : Request) × AskFor words request × P request

-- The names that are asked of the shelf for a request: the program's file; where a second file is examined, that after it if the program's was read and spells one; and none for a generated world.
abbrev pub AsksFor : Loaded → Request → Type 0
AsksFor loads (Play file options) = AskedFor loads (file ∷ [])
AsksFor loads (Examine task file log) =
    (OfFile loads.files file IsProgramText × AskedFor loads (file ∷ log ∷ []))
    ⊎ ((OfFile loads.files file (λ text. ¬ (IsProgramText text)) ⊎ IsUnread loads) × AskedFor loads (file ∷ []))
AsksFor loads (Dead file) = AskedFor loads (file ∷ [])
AsksFor loads (World rooms options) = AskedFor loads []

-- Where memory ran out after names were asked of the shelf: these are not more than are asked for the request.
abbrev pub AsksUpTo : Loaded → Request → Type 0
AsksUpTo loads (Play file options) = AskedFor loads (file ∷ [])
AsksUpTo loads (Examine task file log) =
    (OfFile loads.files file IsProgramText × AskedFor loads (file ∷ log ∷ [])) ⊎ AskedFor loads (file ∷ [])
AsksUpTo loads (Dead file) = AskedFor loads (file ∷ [])
AsksUpTo loads (World rooms options) = AskedFor loads []

abbrev pub usage : List ℕ
usage = codes "usage: play FILE [seed=N] [height=N] [turns=N] | check FILE LOG | world N [seed=N] [height=N] [turns=N] | renew FILE LOG | cause FILE LOG | again FILE LOG [seed=N] | rounds FILE players=N [seed=N] [height=N] [turns=N] | weigh FILE KEEPS | dead FILE"

-- what holds for a run of the program with these options: where they say nothing of the turns the program does, and where nothing is said there are defaults
abbrev pub settings_of : Parts → Options → Settings
settings_of program options = record { height = unwrap_or options.height DEFAULT_HEIGHT; limit = unwrap_or options.turns (unwrap_or program.turns DEFAULT_TURNS); seed = unwrap_or options.seed DEFAULT_SEED }
