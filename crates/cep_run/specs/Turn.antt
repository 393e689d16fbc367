-- What a part of a run does: words for the functions that do it.
use Rattle.std.specs.Prelude.{◌≡◌, ℕ, ◌+◌, ◌<◌, ◌≤◌, List, [], ◌++◌, Option, Some, length, slice_get, MatchOption}
use Rattle.std.specs.List.{flat_map}
use Rattle.cep_base.specs.declared.console.Event.{Event}
use Rattle.cep_base.specs.declared.limits.TheConstants.{MOST_OFFERS, MOST_TYPED}
use Rattle.cep_base.specs.Talk.{outs, Did}
use Rattle.cep_choice.specs.Draws.{generator_behind}
use Rattle.cep_term.specs.Tree.{AtomTree}
use Rattle.cep_rule.specs.declared.parts.Parts.{Parts}
use Rattle.cep_rule.specs.declared.offer.Offer.{Offer}
use Rattle.cep_rule.specs.declared.rule.Rule.{Rule}
use Rattle.cep_rule.specs.Instances.{full_instances}
use Rattle.cep_rule.specs.Offers.{AreOffers}
use Rattle.cep_rule.specs.Stages.{IsAsked}
use Rattle.cep_rule.specs.Derivations.{ProofTree, Proves, proof_height}
use Rattle.cep_rule.specs.Steps.{StepsTo, AreProofs}
use Rattle.cep_step.specs.declared.limit.Limit.{Limit}
use Rattle.cep_step.specs.declared.limit.Limit.TheVariants as limit
use Rattle.cep_machine.specs.Configuration.{Configuration, spot_of, IsConfigurationOf}
use Rattle.cep_run.specs.declared.choice.Choice.{Choice}
use Rattle.cep_lines.specs.declared.end_word.EndWord.{EndWord}
use Rattle.cep_lines.specs.declared.end_word.EndWord.TheVariants.{Atom, State}
use Rattle.cep_run.specs.declared.settings.Settings.{Settings}
use Rattle.cep_run.specs.declared.turn.Turned.{Turned}
use Rattle.cep_run.specs.declared.turn.Turned.TheVariants.{Done, Over}
use Rattle.cep_run.specs.Choice.{Hears}
use Rattle.cep_run.specs.declared.deciding.Spent.{Spent}
use Rattle.cep_run.specs.Deciding.{Supply, How, Decides}
use Rattle.cep_lines.specs.Lines.{step_lines, deed_lines}
use Rattle.cep_log.specs.Holding.{lines_of_deed}
use Rattle.cep_rule.specs.Matching.{RoseBy}
use Rattle.cep_step.specs.Deeds.{Position, Deed}
use Rattle.cep_step.specs.Passing.{Passes}
use Rattle.cep_run.specs.Costs.{Edits, IsStepCost}
use Rattle.cep_run.specs.Run.{Question, Turn, IsTurn, AreTurns, deeds_of, offers_listed, EndsAt, whole_supply}
use Rattle.cep_run.specs.Dialogue.{asked_events, last_asked, turn_events, last_events}

-- where a configuration stands
abbrev pub position_of : {M : Type 0} → Configuration M → Position
position_of config = record { spot = spot_of config; turns = config.turns }

-- what is left of the supply, where these bytes are to come and this was spent
abbrev pub supply_with : List ℕ → Spent → Supply
supply_with come spent = record { come = come; taken = spent.taken; drawn = spent.drawn }

-- What was spent in so many turns of a run with this seed: no more bytes than may be taken, no more
-- words than turns, and the next words are those after them.
pub record HasSpent (seed turns : ℕ) (spent : Spent) : Type 0 where
  pub taken : spent.taken ≤ MOST_TYPED
  pub drawn : spent.drawn ≤ turns
  pub draw : spent.draw ≡ generator_behind seed spent.drawn

-- The configuration is one of the program, at the height of the run.
pub record IsPlayed {M : Type 0} (is_of : Parts → M → Type 0) (height_held : M → ℕ)
    (program : Parts) (settings : Settings) (config : Configuration M) : Type 0 where
  pub of_program : IsConfigurationOf is_of program config
  pub height : height_held config.matcher ≡ settings.height

-- A text is written, and a choice among n is heard.
pub record AsksPlayer (text : List ℕ) (n : ℕ) (taken : ℕ) (choice : Choice) (taken' : ℕ)
    (come : List ℕ) (events : List Event) (rest : List ℕ) : Type 0 where
  pub heard : List Event
  pub hears : Hears n come taken heard choice rest taken'
  pub whole : events ≡ outs text ++ heard

-- A group is asked here, and turns remain; these are its offers, and they are not too many.
pub record IsOfferedHere (program : Parts) (settings : Settings) (at : Position) (group : ℕ)
    (offers : List Offer) : Type 0 where
  pub remain : at.turns < settings.limit
  pub asked : IsAsked program settings.height at.spot.state at.spot.stage group
  pub offered : AreOffers program settings.height at.spot.state group offers
  pub few : length offers ≤ MOST_OFFERS

-- A choice among the offers of a group that a stage asks is decided, and what is said of it, with
-- the line that asks, is said.
pub record Settles (asking : List ℕ) (program : Parts) (seed stage group : ℕ) (offers : List Offer)
    (old : Spent) (choice : Choice) (new : Spent) (come : List ℕ) (events : List Event)
    (rest : List ℕ) : Type 0 where
  pub how : How
  pub decides : Decides program seed stage group (length offers) (supply_with come old) how choice
      (supply_with rest new)
  pub whole : events ≡ asked_events asking program offers how

-- The offer at a place, counted from 0, with its rule.
pub record IsPlaced (program : Parts) (offers : List Offer) (place : ℕ) (offer : Offer)
    (rule : Rule) : Type 0 where
  pub at_place : slice_get offers place ≡ Some offer
  pub of_rule : slice_get program.rules offer.rule ≡ Some rule

-- The derivation proves the atom within the height.
pub record IsProofWithin (program : Parts) (height : ℕ) (a : AtomTree)
    (proof : ProofTree) : Type 0 where
  pub proves : Proves program proof a
  pub low : proof_height proof ≤ height

-- The derivations prove the backward premises of the offer's rule within the height, one each in
-- order.
pub record ProveBacks (program : Parts) (height : ℕ) (offer : Offer)
    (proofs : List ProofTree) : Type 0 where
  pub rule : Rule
  pub numbered : slice_get program.rules offer.rule ≡ Some rule
  pub proved : AreProofs program height proofs (full_instances offer.values rule.backs)

-- The lines of the step by an offer, with derivations that prove its backward premises within the
-- height; or there are none, and nobody reads them.
pub record AreStepLines (program : Parts) (height : ℕ) (offer : Offer) (unread : Type 0)
    (lines : Option (List ℕ)) : Type 0 where
  pub rule : Rule
  pub proofs : List ProofTree
  pub numbered : slice_get program.rules offer.rule ≡ Some rule
  pub proved : AreProofs program height proofs (full_instances offer.values rule.backs)
  pub written : MatchOption lines unread (λ text. text
      ≡ step_lines program offer proofs rule.next)

-- The step by the offer at a place leads from one position to the other, its backward premises are
-- proved within the height, and its lines are written.
pub record Acts (program : Parts) (height : ℕ) (offers : List Offer) (place : ℕ)
    (old new : Position) (come : List ℕ) (events : List Event) (rest : List ℕ) : Type 0 where
  pub offer : Offer
  pub rule : Rule
  pub proofs : List ProofTree
  pub placed : IsPlaced program offers place offer rule
  pub proved : AreProofs program height proofs (full_instances offer.values rule.backs)
  pub steps : StepsTo program rule offer.values old.spot new.spot
  pub written : events ≡ outs (deed_lines program offer proofs rule.next new.turns new.spot.state)
  pub untaken : rest ≡ come

-- the word for a limit that a step would pass
abbrev pub limit_word : Limit → EndWord
limit_word limit.Atom = Atom
limit_word limit.State = State

-- The step by the offer at a place would pass a limit, which the word names, and nothing is
-- written.
pub record WouldPass (program : Parts) (offers : List Offer) (place : ℕ) (word : EndWord)
    (at : Position) (come : List ℕ) (events : List Event) (rest : List ℕ) : Type 0 where
  pub offer : Offer
  pub rule : Rule
  pub placed : IsPlaced program offers place offer rule
  pub passed : Limit
  pub named : word ≡ limit_word passed
  pub passes : Passes program.signature rule offer.values at.spot.state passed
  pub unwritten : events ≡ []
  pub untaken : rest ≡ come

-- How the counter rises with the choice of a place: by what the step by its offer costs where it is
-- done, and else not.
abbrev pub RoseByAct : {M : Type 0} → Edits → Parts → ℕ → List Offer → ℕ → Configuration M
    → Turned M → ℕ → ℕ → Type 0
RoseByAct may_edit program height offers place config (Done next) ticks ticks' =
    (offer : Offer) (rule : Rule) → IsPlaced program offers place offer rule
    → RoseBy (IsStepCost may_edit program height config.state rule offer.values) ticks ticks'
RoseByAct may_edit program height offers place config (Over last) ticks ticks' = ticks' ≡ ticks

-- where the choice of a place leads: where a step is done, it is by the offer there, and leads from
-- one spot to the other
abbrev pub IsMoved : {M : Type 0} → Parts → List Offer → ℕ → Configuration M → Turned M → Type 0
IsMoved program offers place config (Done next) =
    (offer : Offer) × (rule : Rule) × IsPlaced program offers place offer rule
    × StepsTo program rule offer.values (spot_of config) (spot_of next)
IsMoved program offers place config (Over last) = Unit {0}

-- What the choice of a place comes to, in a configuration: the step is done, or it would pass a
-- limit and the run ends here.
abbrev pub IsActed : {C M : Type 0} → (C → Option (List Event)) → (C → Option (List ℕ)) → C → C
    → Parts → ℕ → List Offer → ℕ → Configuration M → Turned M → Type 0
IsActed talk left old new program height offers place config (Done next) =
    Did talk left old new (Acts program height offers place (position_of config)
    (position_of next)) × (next.turns ≡ config.turns + 1)
IsActed talk left old new program height offers place config (Over last) =
    Did talk left old new (WouldPass program offers place last.word (position_of config))
    × (last.config ≡ config)

-- These events do a turn that is asked with a line, in which these offers are listed, and whose deed
-- is counted so.
pub record DoesTurn (asking : List ℕ) (program : Parts) (settings : Settings)
    (counts : Deed → Type 0) (offers : List Offer) (at : Position) (spent : Spent)
    (next : Position) (spent' : Spent) (come : List ℕ) (events : List Event)
    (rest : List ℕ) : Type 0 where
  pub turn : Turn
  pub is : IsTurn program settings at (supply_with come spent) turn
  pub after : turn.deed.after ≡ next
  pub left : turn.left ≡ supply_with rest spent'
  pub listed : turn.question.offers ≡ offers
  pub counted : counts turn.deed
  pub written : events ≡ asked_events asking program turn.question.offers turn.question.how
      ++ outs (lines_of_deed program turn.deed)

-- These events come before the end of a run at this position, maybe after a question that is asked
-- with a line.
pub record Stops (asking : List ℕ) (program : Parts) (settings : Settings) (at : Position)
    (spent : Spent) (word : EndWord) (spent' : Spent) (come : List ℕ) (events : List Event)
    (rest : List ℕ) : Type 0 where
  pub asked : Option Question
  pub ends : EndsAt program settings at (supply_with come spent) word asked
      (supply_with rest spent')
  pub written : events ≡ last_asked asking program asked

-- What a turn from a position comes to: it was done, its deed was counted, one more turn is done
-- and not too many offers were listed; or the run ends here, and nothing was counted.
abbrev pub IsTurned : {C M : Type 0} → (C → Option (List Event)) → (C → Option (List ℕ)) → C → C
    → List ℕ → Parts → Settings → (Deed → Type 0) → Type 0 → List Offer → Configuration M → Spent
    → Spent → Turned M → Type 0
IsTurned talk left old new asking program settings counts uncounted offers config spent spent'
    (Done next) =
    Did talk left old new (DoesTurn asking program settings counts offers (position_of config) spent
    (position_of next) spent') × (next.turns ≡ config.turns + 1) × (length offers ≤ MOST_OFFERS)
IsTurned talk left old new asking program settings counts uncounted offers config spent spent'
    (Over last) =
    Did talk left old new (Stops asking program settings (position_of config) spent last.word
    spent') × (last.config ≡ config) × uncounted

-- the configuration that is there after a turn
abbrev pub config_left : {M : Type 0} → Turned M → Configuration M
config_left (Done config) = config
config_left (Over last) = last.config

-- Some turns are done from the start to here, in which so many offers were listed, what was said is
-- their events, and their deeds are counted so.
pub record SoFar (program : Parts) (settings : Settings) (counts : List Deed → Type 0)
    (start here : Position) (spent : Spent) (offers : ℕ) (come : List ℕ) (events : List Event)
    (rest : List ℕ) : Type 0 where
  pub turns : List Turn
  pub done : AreTurns program settings start (whole_supply come) turns here (supply_with rest spent)
  pub listed : offers ≡ offers_listed turns
  pub counted : counts (deeds_of turns)
  pub written : events ≡ flat_map (turn_events program) turns

-- All turns of a run are done from the start to here, in which so many offers were listed, what was
-- said is their events and what comes before the end, and their deeds are counted so.
pub record IsWholeRun (program : Parts) (settings : Settings) (counts : List Deed → Type 0)
    (word : EndWord) (start last : Position) (offers : ℕ) (come : List ℕ) (events : List Event)
    (rest : List ℕ) : Type 0 where
  pub turns : List Turn
  pub between : Supply
  pub left : Supply
  pub asked : Option Question
  pub done : AreTurns program settings start (whole_supply come) turns last between
  pub ends : EndsAt program settings last between word asked left
  pub listed : offers ≡ offers_listed turns
  pub counted : counts (deeds_of turns)
  pub written : events ≡ flat_map (turn_events program) turns ++ last_events program asked
  pub rest_is : rest ≡ left.come
