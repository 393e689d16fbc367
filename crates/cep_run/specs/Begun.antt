-- Wholes of which a part of a run that is refused says a front.
use Rattle.std.specs.Prelude.{◌≡◌, ◌⊎◌, ℕ, ◌+◌, List, [], ◌++◌, take}
use Rattle.cep_base.specs.declared.console.Event.{Event}
use Rattle.cep_base.specs.Talk.{outs}
use Rattle.cep_rule.specs.declared.parts.Parts.{Parts}
use Rattle.cep_rule.specs.declared.offer.Offer.{Offer}
use Rattle.cep_run.specs.declared.choice.Choice.{Choice}
use Rattle.cep_run.specs.declared.deciding.Spent.{Spent}
use Rattle.cep_run.specs.declared.settings.Settings.{Settings}
use Rattle.cep_run.specs.Choice.{Hears}
use Rattle.cep_run.specs.Deciding.{Supply}
use Rattle.cep_run.specs.Run.{Question, Turn, IsQuestion, IsTurn}
use Rattle.cep_run.specs.Dialogue.{asked_events}
use Rattle.cep_log.specs.Holding.{lines_of_deed}
use Rattle.cep_step.specs.Deeds.{Position}
use Rattle.cep_run.specs.Turn.{AsksPlayer, Settles, Acts}

-- A prefix of the text was written, and nothing was taken.
pub record PutsFront (text come : List ℕ) (events : List Event) (rest : List ℕ) : Type 0 where
  pub size : ℕ
  pub said : events ≡ outs (take size text)
  pub untaken : rest ≡ come

-- some choice is heard
abbrev pub HearsSome : ℕ → ℕ → List ℕ → List Event → List ℕ → Type 0
HearsSome n taken come events rest =
    (choice : Choice) × (all : ℕ) × Hears n come taken events choice rest all

-- a text is written, and some choice is heard
abbrev pub AsksSome : List ℕ → ℕ → ℕ → List ℕ → List Event → List ℕ → Type 0
AsksSome text n taken come events rest =
    (choice : Choice) × (all : ℕ) × AsksPlayer text n taken choice all come events rest

-- some choice is decided
abbrev pub SettlesSome : List ℕ → Parts → ℕ → ℕ → ℕ → List Offer → Spent → List ℕ → List Event
    → List ℕ → Type 0
SettlesSome asking program seed stage group offers old come events rest =
    (choice : Choice) × (new : Spent)
    × Settles asking program seed stage group offers old choice new come events rest

-- The step by the offer at a place leads on, and further events complete what was said of it.
pub record ActsOn (program : Parts) (height : ℕ) (offers : List Offer) (place : ℕ) (old : Position)
    (come : List ℕ) (events : List Event) (rest : List ℕ) : Type 0 where
  pub next : Position
  pub counted : next.turns ≡ old.turns + 1
  pub more : List Event
  pub acts : Acts program height offers place old next come (events ++ more) rest

-- Nothing was said of a step, or a prefix of its lines.
abbrev pub BeginsAct : Parts → ℕ → List Offer → ℕ → Position → List ℕ → List Event → List ℕ → Type 0
BeginsAct program height offers place old come events rest =
    ((events ≡ []) × (rest ≡ come)) ⊎ ActsOn program height offers place old come events rest

-- a question is asked here with a line, or a turn is done that is asked so
abbrev pub IsQuestionOrTurn : List ℕ → Parts → Settings → Position → Supply → List Event → Supply
    → Type 0
IsQuestionOrTurn asking program settings at from events to =
    ((question : Question) × IsQuestion program settings at from question to
    × (events ≡ asked_events asking program question.offers question.how))
    ⊎ ((turn : Turn) × IsTurn program settings at from turn
    × (events ≡ asked_events asking program turn.question.offers turn.question.how
    ++ outs (lines_of_deed program turn.deed)))
