-- What is due where a generated world is to be run.
use Rattle.std.specs.Prelude.{◌≡◌, ℕ, List, [], ◌++◌, codes, decimal, unwrap_or}
use Rattle.cep_base.specs.declared.limits.TheConstants.{DEFAULT_SEED}
use Rattle.cep_base.specs.declared.console.Event.{Event}
use Rattle.cep_rule.specs.declared.parts.Parts.{Parts}
use Rattle.cep_lines.specs.Lines.{line, ending_word}
use Rattle.cep_world.specs.World.{world}
use Rattle.cep_words.specs.declared.options.Options.{Options}
use Rattle.cep_run.specs.declared.tally.Tally.{Tally}
use Rattle.cep_run.specs.Run.{Turn, Ending}
use Rattle.cep_run.specs.Dialogue.{Dialogue}
use Rattle.cep_run.specs.Said.{IsSaid, IsTally}
use Rattle.cep_play.specs.Command.{settings_of}
use Rattle.cep_play.specs.Outside.{Outside, Due, IsReportDue, OfText}
use Rattle.cep_examine.specs.Report.{Report, code_told}

-- the line of a count, as `turns 10`
abbrev pub count_line : List ℕ → ℕ → List ℕ
count_line name count = line (name ++ (codes " " ++ decimal count))

-- the summary of a run of the world of so many rooms with this seed: six lines
unfoldable pub summary : ℕ → ℕ → Tally → List ℕ
summary rooms seed tally =
    count_line (codes "world") rooms
    ++ (count_line (codes "seed") seed
    ++ (count_line (codes "turns") tally.turns
    ++ (count_line (codes "offers") tally.offers
    ++ (count_line (codes "copies") tally.copies
    ++ line (codes "end " ++ ending_word tally.word)))))

-- The tally of the run of a program with these options and nothing typed: that of one dialogue, and of each other.
pub record IsTallied (program : Parts) (options : Options) (tally : Tally) : Type 0 where
  pub events : List Event
  pub rest : List ℕ
  pub said : IsSaid program (settings_of program options) (λ turns ending. IsTally turns ending tally) [] events rest
  pub alone : (turns : List Turn) (ending : Ending) (events' : List Event) (rest' : List ℕ) → Dialogue program (settings_of program options) [] turns ending events' rest' → IsTally turns ending tally

-- the report of the run of the world of so many rooms: its summary, with the status that says how it ended
abbrev pub ReportsWorld : ℕ → Options → Parts → Report → Type 0
ReportsWorld rooms options program report =
    (tally : Tally) × IsTallied program options tally
    × (report ≡ record { written = summary rooms (unwrap_or options.seed DEFAULT_SEED) tally; code = code_told tally.word })

-- this is due where the world of so many rooms is to be run with options
abbrev pub IsWorldDue : ℕ → Options → Outside → Due → Type 0
IsWorldDue rooms options outside due =
    OfText (world rooms) [] outside.come (λ program. IsReportDue (ReportsWorld rooms options program) [] outside.come due) due
