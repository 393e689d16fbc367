-- The dialogue of a run: the text of its turns and of its end, with what was heard.
use Rattle.std.specs.Prelude.{◌≡◌, ℕ, List, [], ◌∷◌, ◌++◌, codes, Option, None, Some}
use Rattle.std.specs.List.{flat_map}
use Rattle.cep_base.specs.declared.console.Event.{Event}
use Rattle.cep_base.specs.declared.console.Event.TheVariants.{Out, In, End}
use Rattle.cep_base.specs.Talk.{outs}
use Rattle.cep_rule.specs.declared.parts.Parts.{Parts}
use Rattle.cep_rule.specs.declared.offer.Offer.{Offer}
use Rattle.cep_run.specs.declared.settings.Settings.{Settings}
use Rattle.cep_run.specs.Deciding.{Supply, How, Heard, Lone, Drawn}
use Rattle.cep_step.specs.Deeds.{start_of}
use Rattle.cep_log.specs.Holding.{lines_of_deed}
use Rattle.cep_run.specs.Run.{whole_supply, Question, Turn, Ending, Run}
use Rattle.cep_lines.specs.Lines.{line, offer_lines, end_lines, header}

-- `? choose`, the line that asks for a choice where one player plays
abbrev pub asking_line : List ℕ
asking_line = line (codes "? choose")

-- the events of a question that is asked with a line: its offers, and where the player decides that
-- line, and what was heard
abbrev pub asked_events : List ℕ → Parts → List Offer → How → List Event
asked_events asking program offers (Heard events) =
    outs (offer_lines program 1 offers ++ asking) ++ events
asked_events asking program offers Lone = outs (offer_lines program 1 offers)
asked_events asking program offers Drawn = outs (offer_lines program 1 offers)

-- the events of a last question that is asked with a line, if there is one
abbrev pub last_asked : List ℕ → Parts → Option Question → List Event
last_asked asking program None = []
last_asked asking program (Some asked) = asked_events asking program asked.offers asked.how

-- the events of questions of one player
abbrev pub question_events : Parts → Question → List Event
question_events program asked = asked_events asking_line program asked.offers asked.how

abbrev pub last_events : Parts → Option Question → List Event
last_events program asked = last_asked asking_line program asked

-- the events of a turn
abbrev pub turn_events : Parts → Turn → List Event
turn_events program turn =
    question_events program turn.question ++ outs (lines_of_deed program turn.deed)

-- the events of a run: those of its turns, and of its end
abbrev pub events_of : Parts → List Turn → Ending → List Event
events_of program turns ending =
    flat_map (turn_events program) turns ++ (last_events program ending.question ++ outs
    (end_lines program.signature ending.word ending.state))

-- A dialogue: the header, and the events of a run from the start, which may take from all bytes to
-- come and leaves a rest of them.
pub record Dialogue (program : Parts) (settings : Settings) (come : List ℕ) (turns : List Turn)
    (ending : Ending) (events : List Event) (rest : List ℕ) : Type 0 where
  pub left : Supply
  pub run : Run program settings (start_of program) (whole_supply come) turns ending left
  pub whole : events ≡ outs (header program settings.height) ++ events_of program turns ending
  pub rest_is : rest ≡ left.come

-- the bytes that are written among events
abbrev pub written_bytes : List Event → List ℕ
written_bytes [] = []
written_bytes (Out byte ∷ events) = byte ∷ written_bytes events
written_bytes (In byte ∷ events) = written_bytes events
written_bytes (End ∷ events) = written_bytes events
