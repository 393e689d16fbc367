-- Turn after turn, what was said so far is the events of the turns that are done, by the laws of dialogues.
use Rattle.std.proofs.Common.{◌≡◌, ℕ, ◌+◌, List, [], ◌∷◌, ◌++◌, length, refl, sym, ap, ◌∙◌, subst, append_assoc, arith, Option, None, ◌≤◌, map}
use Rattle.std.specs.List.{flat_map, AllByRecursion}
use Rattle.std.proofs.lemmas.Grind.{flat_map-append}
use Rattle.std.proofs.lemmas.List.{append-nil, length-map}
use Rattle.cep_base.specs.declared.console.Event.{Event}
use Rattle.cep_base.specs.declared.limits.TheConstants.{MOST_LOG}
use Rattle.cep_base.specs.Talk.{outs, Did}
use Rattle.cep_base.proofs.Did.{did_then}
use Rattle.cep_machine.specs.Configuration.{Configuration}
use Rattle.cep_lines.specs.declared.end_word.EndWord.{EndWord}
use Rattle.cep_lines.specs.Lines.{end_lines, header}
use Rattle.cep_rule.specs.declared.parts.Parts.{Parts}
use Rattle.cep_rule.specs.declared.offer.Offer.{Offer}
use Rattle.cep_rule.specs.declared.rule.Rule.{Rule}
use Rattle.cep_rule.specs.Limits.{IsHeight}
use Rattle.cep_rule.specs.Program.{IsProgram}
use Rattle.cep_run.specs.declared.settings.Settings.{Settings}
use Rattle.cep_run.specs.declared.deciding.Spent.{Spent}
use Rattle.cep_run.specs.declared.turn.Ended.{Ended}
use Rattle.cep_run.specs.Deciding.{Supply}
use Rattle.cep_run.specs.Fronts.{IsRunOf}
use Rattle.cep_step.specs.Deeds.{Position, Deed, start_of, AreDeeds}
use Rattle.cep_term.specs.Multiset.{copies_in}
use Rattle.cep_run.specs.Run.{whole_supply, Turn, Ending, IsTurn, AreTurns, deeds_of, offers_listed, EndsAt, unproved}
use Rattle.cep_run.specs.declared.turn.Turned.{Turned}
use Rattle.cep_run.specs.Dialogue.{asking_line, turn_events, last_events, events_of, Dialogue, written_bytes}
use Rattle.cep_run.specs.declared.turn.Turned.TheVariants.{Over}
use Rattle.cep_run.specs.Turn.{position_of, supply_with, DoesTurn, Stops, IsTurned, SoFar, IsWholeRun}
use Rattle.cep_run.specs.declared.tally.Tally.{Tally}
use Rattle.cep_run.proofs.Framed.{Short, Joins, Maps, left_then, so_left}
use Rattle.cep_run.specs.Said.{IsSaid, IsTally, IsSomeSaid}
use Rattle.cep_log.specs.Holding.{HoldsDeeds}
use Rattle.cep_log.specs.declared.log.Log.{Log}
use Rattle.cep_log.specs.Legal.{IsLegal}
use Rattle.cep_log.specs.Transcript.{HasLog}

-- Turn after turn, what was said so far is the events of the turns that are done.

-- one more turn after others
turns_behind : (program : Parts) (settings : Settings) (at : Position) (from : Supply) (turns : List Turn) (last : Position) (between : Supply) (turn : Turn) → AreTurns program settings at from turns last between → IsTurn program settings last between turn → AreTurns program settings at from (turns ++ turn ∷ []) turn.deed.after turn.left
turns_behind program settings at from [] last between turn done is = (subst (λ place. IsTurn program settings place from turn) done.0 (subst (λ supply. IsTurn program settings last supply turn) done.1 is), (refl, refl))
turns_behind program settings at from (first ∷ turns) last between turn done is = (done.0, turns_behind program settings first.deed.after first.left turns last between turn done.1 is)

-- and its offers after those that were listed
listed_behind : (turns : List Turn) (turn : Turn) → offers_listed (turns ++ turn ∷ []) ≡ offers_listed turns + length turn.question.offers
listed_behind [] turn = omega arith
listed_behind (first ∷ turns) turn = let more = listed_behind turns turn in omega (arith, more)

module _ (program : Parts) (settings : Settings) (start : Position) where
  -- nothing was said yet
  pub run_begins : (counts : List Deed → Type 0) → counts [] → (spent : Spent) → spent.taken ≡ 0 → spent.drawn ≡ 0 → (come : List ℕ) (events : List Event) (rest : List ℕ) → (events ≡ []) × (rest ≡ come) → SoFar program settings counts start start spent 0 come events rest
  run_begins counts nothing spent untaken undrawn come events rest same = record { turns = []; listed = refl; counted = nothing; done = (refl, λ i. record { come = same.1 i; taken = untaken i; drawn = undrawn i }); written = same.0 }

  module _ (at : Position) (spent : Spent) (offers : ℕ) where
    -- one more turn
    pub run_goes_on : (counts : List Deed → Type 0) (counts_one : Deed → Type 0) (counts' : List Deed → Type 0) → ((turns : List Turn) (turn : Turn) → counts (deeds_of turns) → counts_one turn.deed → counts' (deeds_of (turns ++ turn ∷ [])))
        → (new : Position) (spent' : Spent) (listing : List Offer) (come : List ℕ) (first : List Event) (between : List ℕ) (second : List Event) (rest : List ℕ) → SoFar program settings counts start at spent offers come first between → DoesTurn asking_line program settings counts_one listing at spent new spent' between second rest → SoFar program settings counts' start new spent' (offers + length listing) come (first ++ second) rest
    run_goes_on counts counts_one counts' behind new spent' listing come first between second rest so does = record {
      turns = so.turns ++ does.turn ∷ [];
      done = subst (λ supply. AreTurns program settings start (whole_supply come) (so.turns ++ does.turn ∷ []) new supply) does.left
          (subst (λ place. AreTurns program settings start (whole_supply come) (so.turns ++ does.turn ∷ []) place does.turn.left) does.after
          (turns_behind program settings start (whole_supply come) so.turns at (supply_with between spent) does.turn so.done does.is));
      listed = ap (λ n. n + length listing) so.listed ∙ ap (λ xs. offers_listed so.turns + length xs) (sym does.listed) ∙ sym (listed_behind so.turns does.turn);
      counted = behind so.turns does.turn so.counted does.counted;
      written = ap (λ es. es ++ second) so.written ∙ ap (λ es. flat_map (turn_events program) so.turns ++ es) (does.written ∙ sym (append-nil (turn_events program does.turn))) ∙ sym (flat_map-append (turn_events program) so.turns (does.turn ∷ []));
    }

    -- the run ends within a turn
    pub run_stops : (counts : List Deed → Type 0) (word : EndWord) (spent' : Spent) (come : List ℕ) (first : List Event) (between : List ℕ) (second : List Event) (rest : List ℕ) → SoFar program settings counts start at spent offers come first between → Stops asking_line program settings at spent word spent' between second rest → IsWholeRun program settings counts word start at offers come (first ++ second) rest
    run_stops counts word spent' come first between second rest so stop = grind arith

    -- or after its last turn
    pub run_over : (counts : List Deed → Type 0) (word : EndWord) → ((from : Supply) → EndsAt program settings at from word None from) → Maps (SoFar program settings counts start at spent offers) (IsWholeRun program settings counts word start at offers)
    run_over counts word ends come events rest so = record {
      turns = so.turns;
      between = supply_with rest spent;
      left = supply_with rest spent;
      asked = None;
      done = so.done;
      ends = ends (supply_with rest spent);
      listed = so.listed;
      counted = so.counted;
      written = so.written ∙ sym (append-nil (flat_map (turn_events program) so.turns));
      rest_is = refl;
    }

-- what is counted otherwise, where that comes to the same
pub still_counted : (program : Parts) (settings : Settings) (start at : Position) (spent : Spent) (offers : ℕ) (counts counts' : List Deed → Type 0) → ((deeds : List Deed) → counts deeds → counts' deeds)
    → (come : List ℕ) (events : List Event) (rest : List ℕ) → SoFar program settings counts start at spent offers come events rest → SoFar program settings counts' start at spent offers come events rest
still_counted program settings start at spent offers counts counts' same come events rest so = grind (arith, so.turns, so.done, so.listed, so.counted, so.written)

-- the run ends where its last turn does
pub turn_stops : {C M : Type 0} (talk : C → Option (List Event)) (left : C → Option (List ℕ)) (old between new : C) (program : Parts) (settings : Settings) (start : Position) (config : Configuration M) (spent spent' : Spent) (offers : ℕ) (listing : List Offer)
    (counts counts' : List Deed → Type 0) (counts_one : Deed → Type 0) (uncounted : Type 0) → (uncounted → (deeds : List Deed) → counts deeds → counts' deeds)
    → (turned : Turned M) (end : Ended M) → turned ≡ Over end → IsTurned talk left between new asking_line program settings counts_one uncounted listing config spent spent' turned → Did talk left old between (SoFar program settings counts start (position_of config) spent offers)
    → Did talk left old new (IsWholeRun program settings counts' end.word start (position_of end.config) offers)
turn_stops talk left old between new program settings start config spent spent' offers listing counts counts' counts_one uncounted still turned end is comes so_far =
    let over = subst (IsTurned talk left between new asking_line program settings counts_one uncounted listing config spent spent') is comes in
    did_then talk left old between new _ _ _ (λ come first middle second rest so stop.
    subst (λ last. IsWholeRun program settings counts' end.word start (position_of last) offers come (first ++ second) rest) (sym over.1)
    (run_stops program settings start (position_of config) spent offers counts' end.word spent' come first middle second rest (still_counted program settings start (position_of config) spent offers counts counts' (still over.2) come first middle so) stop))
    so_far over.0

-- a run goes on after turns that are done
turns_join : (program : Parts) (settings : Settings) (at : Position) (from : Supply) (turns : List Turn) (middle : Position) (between : Supply) (others : List Turn) (last : Position) (to : Supply) → AreTurns program settings at from turns middle between → AreTurns program settings middle between others last to → AreTurns program settings at from (turns ++ others) last to
turns_join program settings at from [] middle between others last to done more = subst (λ place. AreTurns program settings place from others last to) done.0 (subst (λ supply. AreTurns program settings middle supply others last to) done.1 more)
turns_join program settings at from (turn ∷ turns) middle between others last to done more = (done.0, turns_join program settings turn.deed.after turn.left turns middle between others last to done.1 more)

-- a turn was refused: what was said begins some run from the start
pub turns_begin : (program : Parts) (settings : Settings) (counts : List Deed → Type 0) (start at : Position) (spent : Spent) (offers : ℕ) → Joins (SoFar program settings counts start at spent offers) (Short (λ come. supply_with come spent) (IsRunOf program settings at)) (Short whole_supply (IsRunOf program settings start))
turns_begin program settings counts start at spent offers come first between second rest so (begun, left) =
    let (turns, ending, run, said) = begun.whole in
    let done = turns_join program settings start (whole_supply come) so.turns at (supply_with between spent) turns run.last run.between so.done run.done in
    let end = last_events program ending.question ++ outs (end_lines program.signature ending.word ending.state) in
    let whole : (first ++ second) ++ begun.more ≡ events_of program (so.turns ++ turns) ending = rw (append_assoc first second begun.more, so.written, said, flat_map-append (turn_events program) so.turns turns, append_assoc (flat_map (turn_events program) so.turns) (flat_map (turn_events program) turns) end) refl in (
      record { more = begun.more; left = begun.left; whole = (so.turns ++ turns, ending, record { last = run.last; between = run.between; done = done; ends = run.ends; state = run.state }, whole) },
      left_then come first between second rest (so_left program settings counts start at spent offers come first between so) left,
    )

-- a dialogue with its end word, its last position and how many offers were listed in it, whose deeds are counted so
pub record IsTold (program : Parts) (settings : Settings) (counts : List Deed → Type 0) (word : EndWord) (last : Position) (offers : ℕ) (come : List ℕ) (events : List Event) (rest : List ℕ) : Type 0 where
  pub turns : List Turn
  pub ending : Ending
  pub dialogue : Dialogue program settings come turns ending events rest
  pub word_is : ending.word ≡ word
  pub last_is : dialogue.run.last ≡ last
  pub listed : offers ≡ offers_listed turns
  pub counted : counts (deeds_of turns)

-- The header, all turns and the end are a dialogue.
pub told_made : (program : Parts) (settings : Settings) (counts : List Deed → Type 0) (word : EndWord) (start last : Position) (offers : ℕ) → start ≡ start_of program → (come : List ℕ) (run : List Event) (rest : List ℕ) → IsWholeRun program settings counts word start last offers come run rest
    → IsTold program settings counts word last offers come (outs (header program settings.height) ++ (run ++ outs (end_lines program.signature word last.spot.state))) rest
told_made program settings counts word start last offers begun come run rest runs = record {
  turns = runs.turns;
  ending = record { word = word; state = last.spot.state; question = runs.asked };
  dialogue = record {
    left = runs.left;
    run = record { last = last; between = runs.between; done = rw (sym begun) runs.done; ends = runs.ends; state = refl };
    whole = rw (runs.written, append_assoc (flat_map (turn_events program) runs.turns) (last_events program runs.asked) (outs (end_lines program.signature word last.spot.state))) refl;
    rest_is = runs.rest_is;
  };
  word_is = refl;
  last_is = refl;
  listed = runs.listed;
  counted = runs.counted;
}

-- what is counted otherwise, where that follows
pub told_otherwise : (program : Parts) (settings : Settings) (counts counts' : List Deed → Type 0) (word : EndWord) (last : Position) (offers : ℕ) → ((deeds : List Deed) → counts deeds → counts' deeds)
    → (come : List ℕ) (events : List Event) (rest : List ℕ) → IsTold program settings counts word last offers come events rest → IsTold program settings counts' word last offers come events rest
told_otherwise program settings counts counts' word last offers follows come events rest told =
    record { turns = told.turns; ending = told.ending; dialogue = told.dialogue; word_is = told.word_is; last_is = told.last_is; listed = told.listed; counted = follows (deeds_of told.turns) told.counted }

-- a configuration in which the program begins
pub started_at : {M : Type 0} (program : Parts) (config : Configuration M) → config.stage ≡ program.start_stage → config.state ≡ program.start → config.turns ≡ 0 → position_of config ≡ start_of program
started_at program config stage state turns = λ i. record { spot = record { stage = stage i; state = state i }; turns = turns i }

-- these are the events of a dialogue of the program
abbrev pub IsDialogueOf : Parts → Settings → List ℕ → List Event → List ℕ → Type 0
IsDialogueOf program settings come events rest = (turns : List Turn) × (ending : Ending) × Dialogue program settings come turns ending events rest

-- some dialogue is there, from its header on
pub dialogue_from : (program : Parts) (settings : Settings) (come : List ℕ) → (turns : List Turn) × (ending : Ending) × (events : List Event) × (rest : List ℕ) × Dialogue program settings come turns ending events rest
    → (run : List Event) × (rest : List ℕ) × IsDialogueOf program settings come (outs (header program settings.height) ++ run) rest
dialogue_from program settings come (turns, ending, events, rest, is) = (events_of program turns ending, rest, (turns, ending, rw (sym is.whole) is))

-- the header and a run from the start are a dialogue
pub run_dialogue : (program : Parts) (settings : Settings) (start : Position) → start ≡ start_of program → (come : List ℕ) (run : List Event) (left : Supply) → IsRunOf program settings start (whole_supply come) run left → IsDialogueOf program settings come (outs (header program settings.height) ++ run) left.come
run_dialogue program settings start begun come run left (turns, ending, is, said) = (turns, ending, record { left = left; run = rw (sym begun) is; whole = rw said refl; rest_is = refl })

-- What is told of a run is what is said of it, by the laws of dialogues.

-- that one dialogue is there but for derivations, told for any two
abbrev pub IsOneDialogue : Type 0
IsOneDialogue =
    (program : Parts) (settings : Settings) (come : List ℕ) (turns turns' : List Turn) (ending ending' : Ending) (events events' : List Event) (rest rest' : List ℕ)
    → Dialogue program settings come turns ending events rest → Dialogue program settings come turns' ending' events' rest'
    → (map unproved turns ≡ map unproved turns') × (ending ≡ ending') × (rest ≡ rest')

-- and that it is one to the byte where no rule has a backward premise
abbrev pub IsOneToTheByte : Type 0
IsOneToTheByte =
    (program : Parts) (settings : Settings) (come : List ℕ) (turns turns' : List Turn) (ending ending' : Ending) (events events' : List Event) (rest rest' : List ℕ)
    → AllByRecursion (λ (rule : Rule). rule.backs ≡ []) program.rules
    → Dialogue program settings come turns ending events rest → Dialogue program settings come turns' ending' events' rest'
    → events ≡ events'

-- that turns are lawful deeds, and that these are counted, told for any
abbrev pub AreAllDeeds : Type 0
AreAllDeeds =
    (program : Parts) (settings : Settings) (at : Position) (from : Supply) (turns : List Turn) (last : Position) (to : Supply) → AreTurns program settings at from turns last to → AreDeeds program settings.height at (deeds_of turns) last

abbrev pub AreAllCounted : Type 0
AreAllCounted =
    (program : Parts) (height : ℕ) (at : Position) (deeds : List Deed) (last : Position) → AreDeeds program height at deeds last → last.turns ≡ at.turns + length deeds

-- that what is written of dialogues is a transcript, told for any
abbrev pub HaveLogs : Type 0
HaveLogs =
    (program : Parts) (settings : Settings) (come : List ℕ) (turns : List Turn) (ending : Ending) (events : List Event) (rest : List ℕ)
    → IsProgram program → IsHeight settings.height → Dialogue program settings come turns ending events rest → length (written_bytes events) ≤ MOST_LOG
    → (log : Log) × HasLog program (written_bytes events) log × HoldsDeeds program settings.height (deeds_of turns) ending.word ending.state log × IsLegal program log × (length log.steps ≡ length turns)

module _ (program : Parts) (settings : Settings) (one : IsOneDialogue) (to_the_byte : IsOneToTheByte) (deeds : AreAllDeeds) (counted : AreAllCounted) (logs : HaveLogs) (kept : IsProgram program) (height : IsHeight settings.height) where
  -- a dialogue is what is said, and what is typed allows no other
  pub dialogue_said : (P : List Turn → Ending → Type 0) (turns : List Turn) (ending : Ending) (come : List ℕ) (events : List Event) (rest : List ℕ) → Dialogue program settings come turns ending events rest → P turns ending → IsSaid program settings P come events rest
  dialogue_said P turns ending come events rest dialogue holds =
      let run = dialogue.run in
      let done = deeds program settings (start_of program) (whole_supply come) turns run.last run.between run.done in
      record {
        turns = turns;
        ending = ending;
        dialogue = dialogue;
        holds = holds;
        deeds = done;
        counted = omega (arith, (counted program settings.height (start_of program) (deeds_of turns) run.last done), (length-map turns (λ (turn : Turn). turn.deed)));
        logged = λ short. let has = logs program settings come turns ending events rest kept height dialogue short in (has.0, has.1, has.3, has.4);
        only = λ turns' ending' events' rest' other. one program settings come turns' turns ending' ending events' events rest' rest other dialogue;
        to_the_byte = λ plain turns' ending' events' rest' other. to_the_byte program settings come turns' turns ending' ending events' events rest' rest plain other dialogue;
      }

  pub some_said : (come : List ℕ) (events : List Event) (rest : List ℕ) → IsDialogueOf program settings come events rest → IsSomeSaid program settings come events rest
  some_said come events rest (turns, ending, dialogue) = dialogue_said (λ turns ending. Unit {0}) turns ending come events rest dialogue tt

-- what is told is what is said, with its tally
pub is_said : (program : Parts) (settings : Settings) (counts : List Deed → Type 0) (tally : Tally) (last : Position) → IsOneDialogue → IsOneToTheByte → AreAllDeeds → AreAllCounted → HaveLogs → IsProgram program → IsHeight settings.height
    → tally.turns ≡ last.turns → tally.copies ≡ copies_in last.spot.state
    → (come : List ℕ) (events : List Event) (rest : List ℕ) → IsTold program settings counts tally.word last tally.offers come events rest → IsSaid program settings (λ turns ending. IsTally turns ending tally × counts (deeds_of turns)) come events rest
is_said program settings counts tally last one to_the_byte deeds counted logs kept height turns copies come events rest told =
    let run = told.dialogue.run in
    let done = deeds program settings (start_of program) (whole_supply come) told.turns run.last run.between run.done in
    let many = counted program settings.height (start_of program) (deeds_of told.turns) run.last done in
    dialogue_said program settings one to_the_byte deeds counted logs kept height (λ turns ending. IsTally turns ending tally × counts (deeds_of turns)) told.turns told.ending come events rest told.dialogue (
      record {
        word = sym told.word_is;
        turns = omega (arith, turns, many, (length-map told.turns (λ (turn : Turn). turn.deed)), (ap (λ (at : Position). at.turns) told.last_is));
        offers = told.listed;
        copies = copies ∙ ap (λ (at : Position). copies_in at.spot.state) (sym told.last_is) ∙ ap copies_in (sym run.state);
      },
      told.counted,
    )
