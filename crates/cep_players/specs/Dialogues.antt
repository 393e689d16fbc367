-- The dialogue of a run in rounds: the text of its turns and rounds and of its end, with what was
-- heard.
use Rattle.std.specs.Prelude.{◌≡◌, ℕ, ◌+◌, Bool, true, false, List, [], ◌∷◌, ◌++◌, codes, decimal, length}
use Rattle.std.specs.List.{flat_map}
use Rattle.cep_base.specs.declared.console.Event.{Event}
use Rattle.cep_base.specs.Talk.{outs}
use Rattle.cep_rule.specs.declared.parts.Parts.{Parts}
use Rattle.cep_rule.specs.declared.offer.Offer.{Offer}
use Rattle.cep_text.specs.Texts.{offer_text}
use Rattle.cep_lines.specs.declared.end_word.EndWord.{EndWord}
use Rattle.cep_lines.specs.Lines.{line, offer_lines, end_lines, header}
use Rattle.cep_log.specs.Holding.{lines_of_deed}
use Rattle.cep_run.specs.declared.settings.Settings.{Settings}
use Rattle.cep_run.specs.Deciding.{Supply, How}
use Rattle.cep_run.specs.Dialogue.{asked_events, last_asked}
use Rattle.cep_run.specs.Run.{whole_supply}
use Rattle.cep_step.specs.Deeds.{Position, start_of}
use Rattle.cep_players.specs.Runs.{Hearing, Round, TurnOrRound, a_turn, a_round, EndOfRounds, of_turn, of_player, of_offer, RunsInRounds}

-- `? choose J`, the line that asks a player
unfoldable pub choose_line : ℕ → List ℕ
choose_line player = line (codes "? choose " ++ decimal player)

-- `? blocked J OFFER`, the line of an offer of a player that is blocked
unfoldable pub blocked_line : Parts → ℕ → Offer → List ℕ
blocked_line program player offer =
    line (codes "? blocked " ++ decimal player ++ codes " " ++ offer_text program offer)

-- the events of a question of a turn: its offers, and where the player decides the line that asks
-- the first player, and what was heard
abbrev pub turn_question_events : Parts → List Offer → How → List Event
turn_question_events program offers how = asked_events (choose_line 1) program offers how

-- each player, from this one on, is asked and heard
abbrev pub hearing_events : ℕ → List Hearing → List Event
hearing_events player [] = []
hearing_events player (hearing ∷ hearings) =
    outs (choose_line player) ++ (hearing.events ++ hearing_events (player + 1) hearings)

-- the lines of the offers that are blocked, the players numbered from this one on
abbrev pub blocked_lines : Parts → ℕ → List Offer → List Bool → List ℕ
blocked_lines program player [] flags = []
blocked_lines program player (offer ∷ offers) [] = []
blocked_lines program player (offer ∷ offers) (true ∷ flags) =
    blocked_lines program (player + 1) offers flags
blocked_lines program player (offer ∷ offers) (false ∷ flags) =
    blocked_line program player offer ++ blocked_lines program (player + 1) offers flags

-- the events of a round before anything is done: the offers, each player asked and heard, and the
-- lines of offers that are blocked
abbrev pub round_question_events : Parts → Round → List Event
round_question_events program round =
    outs (offer_lines program 1 round.offers)
    ++ (hearing_events 1 round.hearings ++ outs (blocked_lines program 1 round.chosen round.flags))

-- the events of a round, or of as much of it as was done
abbrev pub round_events : Parts → Round → List Event
round_events program round =
    round_question_events program round ++ outs (flat_map (lines_of_deed program) round.deeds)

-- the events of a turn or a round
abbrev pub part_events : Parts → TurnOrRound → List Event
part_events program (a_turn turn) =
    turn_question_events program turn.question.offers turn.question.how
    ++ outs (lines_of_deed program turn.deed)
part_events program (a_round round last to) = round_events program round

-- the events before the end of a run
abbrev pub last_part_events : Parts → EndOfRounds → List Event
last_part_events program (of_turn asked) = last_asked (choose_line 1) program asked
last_part_events program (of_player offers hearings events choice) =
    outs (offer_lines program 1 offers)
    ++ (hearing_events 1 hearings ++ (outs (choose_line (length hearings + 1)) ++ events))
last_part_events program (of_offer round) = round_events program round

-- A dialogue in rounds: the header, and the events of a run in rounds from the start, which may take
-- from all bytes to come and leaves a rest of them.
pub record DialogueInRounds (program : Parts) (settings : Settings) (players : ℕ)
    (come : List ℕ) (parts : List TurnOrRound) (end : EndOfRounds) (word : EndWord)
    (last : Position) (events : List Event) (rest : List ℕ) : Type 0 where
  pub left : Supply
  pub run : RunsInRounds program settings players (start_of program) (whole_supply come) parts end
      word last left
  pub whole : events ≡ outs (header program settings.height)
      ++ (flat_map (part_events program) parts
      ++ (last_part_events program end ++ outs (end_lines program.signature word last.spot.state)))
  pub rest_is : rest ≡ left.come
