-- How the counter of matching steps rises where a program is played to an end: by no more than what the network may tick for the very turns that were done, and by one for each backward premise of what was done in them.
use Rattle.std.specs.Prelude.{ℕ, List, [], Option, None, Some}
use Rattle.cep_base.specs.declared.console.Event.{Event}
use Rattle.cep_base.specs.Files.{Files}
use Rattle.cep_rule.specs.declared.parts.Parts.{Parts}
use Rattle.cep_rule.specs.Matching.{RoseBy}
use Rattle.cep_world.specs.World.{world}
use Rattle.cep_words.specs.Words.{Request, Play, Examine, Dead, World, AskFor}
use Rattle.cep_run.specs.declared.settings.Settings.{Settings}
use Rattle.cep_run.specs.Costs.{Beginnings, Edits, IsRunCost}
use Rattle.cep_run.specs.Run.{Turn, Ending, deeds_of}
use Rattle.cep_run.specs.Dialogue.{Dialogue}
use Rattle.cep_run.specs.Said.{IsSaid}
use Rattle.cep_net.specs.Cost.{IsFirstCost, IsCost}
use Rattle.cep_examine.specs.Exchange.{Talked, Went}
use Rattle.cep_examine.specs.Loading.{OfFile, IsSpelledBy}
use Rattle.cep_play.specs.Command.{settings_of}

-- what the network may tick to begin, and for an edit
abbrev pub NetBegins : Beginnings
NetBegins program state height ticks = IsFirstCost program height state ticks

abbrev pub NetEdits : Edits
NetEdits program state height taken added ticks = IsCost program height state taken added ticks

-- the counter rose by what a run over the network with these turns costs
abbrev pub RoseByRun : Parts → Settings → ℕ → ℕ → List Turn → Ending → Type 0
RoseByRun program settings old new turns ending = RoseBy (IsRunCost NetBegins NetEdits program settings.height (deeds_of turns)) old new

-- P holds of the turns and the end of a dialogue of the program with nothing typed
abbrev pub OfTour : Parts → Settings → (List Turn → Ending → Type 0) → Type 0
OfTour program settings P =
    (turns : List Turn) × (ending : Ending) × (events : List Event) × (rest : List ℕ)
    × Dialogue program settings [] turns ending events rest × P turns ending

-- The counter rose by what was done where a program was played: by the run of one player whose dialogue was said; and of rounds nothing is said.
abbrev pub RoseByPlay : Option ℕ → Talked → Parts → Settings → ℕ → ℕ → Type 0
RoseByPlay None talk program settings ticks ticks' = Went talk (IsSaid program settings (RoseByRun program settings ticks ticks'))
RoseByPlay (Some players) talk program settings ticks ticks' = Unit {0}

-- The counter rose by what was done of a request: where a program was to be played, by that; where a world was to be run, by its run; and of all others nothing is said.
abbrev pub RoseByRequest : Talked → Option Files → ℕ → ℕ → Request → Type 0
RoseByRequest talk files ticks ticks' (Play file options) =
    (program : Parts) × OfFile files file (IsSpelledBy program)
    × RoseByPlay options.players talk program (settings_of program options) ticks ticks'
RoseByRequest talk files ticks ticks' (Examine task file log) = Unit {0}
RoseByRequest talk files ticks ticks' (Dead file) = Unit {0}
RoseByRequest talk files ticks ticks' (World rooms options) =
    (program : Parts) × IsSpelledBy program (world rooms)
    × OfTour program (settings_of program options) (RoseByRun program (settings_of program options) ticks ticks')

-- whatever the words ask for, the counter rose by what was done of it
abbrev pub RoseByAll : Talked → Option Files → ℕ → ℕ → List (List ℕ) → Type 0
RoseByAll talk files ticks ticks' words = (request : Request) → AskFor words request → RoseByRequest talk files ticks ticks' request
