-- What is said between a header and last lines, what begins such a whole, and what is heard of it.
use Rattle.std.proofs.Common.{◌≡◌, ℕ, List, [], ◌∷◌, ◌++◌, length, take, append_assoc, append-nil, Option, refl, sym, ap, ◌∙◌, subst, arith, ◌+◌, ◌<◌, ◌≤◌, inl, inr, zero, suc}
use Rattle.std.specs.List.{flat_map}
use Rattle.std.specs.Prelude.{Bool, false, IsTrue, ◌↔◌, drop}
use Rattle.std.proofs.lemmas.Bool.{cases_lt}
use Rattle.cep_log.specs.Holding.{lines_of_deed}
use Rattle.cep_base.specs.declared.console.Event.{Event}
use Rattle.cep_base.specs.declared.console.Event.TheVariants.{Out, In, End}
use Rattle.cep_base.specs.Talk.{outs, ins, GoesOn, Did}
use Rattle.cep_base.specs.Spelling.{IsUnbroken}
use Rattle.cep_rule.specs.declared.parts.Parts.{Parts}
use Rattle.cep_rule.specs.declared.offer.Offer.{Offer}
use Rattle.cep_lines.specs.declared.end_word.EndWord.{EndWord}
use Rattle.cep_lines.specs.Lines.{offer_lines}
use Rattle.cep_choice.specs.TypedLine.{Cut, Ended, Last, Nothing, Full, ReadsLine, IsLine, IsCutShort}
use Rattle.cep_choice.specs.Draws.{generator_behind, place_drawn}
use Rattle.cep_step.specs.Deeds.{Position, Deed}
use Rattle.cep_run.specs.Run.{whole_supply, Question, Turn, IsQuestion, IsTurn, AreTurns}
use Rattle.cep_run.specs.declared.choice.Choice.{Choice}
use Rattle.cep_run.specs.declared.deciding.Spent.{Spent}
use Rattle.cep_run.specs.declared.settings.Settings.{Settings}
use Rattle.cep_run.proofs.TurnSteps.{LeftBy, left_by}
use Rattle.cep_run.specs.Choice.{room_after, no_line, Hears, chosen, again, no_more, no_room}
use Rattle.cep_run.specs.Fronts.{BeginsSome, heard_bytes, LeavesUnheard}
use Rattle.cep_run.specs.Deciding.{Supply, How, Heard, Lone, Drawn, Decides, IsPlayers}
use Rattle.cep_run.specs.declared.choice.Choice.TheVariants.{Place, NoMore, NoRoom}
use Rattle.cep_run.specs.Dialogue.{asking_line, asked_events, last_asked, last_events, turn_events}
use Rattle.cep_run.specs.Begun.{PutsFront, BeginsAct, HearsSome, AsksSome, SettlesSome}
use Rattle.cep_run.specs.Turn.{Settles, SoFar, IsWholeRun, AsksPlayer, HasSpent, supply_with}
use Rattle.cep_run.proofs.Hearing.{HearsFront, line_cut, answer_cut, behind_bad}
use Rattle.cep_base.specs.declared.limits.TheConstants.{MOST_TYPED}
use Rattle.cep_base.proofs.Did.{did_same, did_put, did_map, did_then, outs_cut}
use Rattle.cep_run.proofs.HearsThere.{chooses_or_not, HasLine, one_more, one_more-says, line_there, hears_there}

-- What is heard of a choice, a turn and a run is gone from the bytes to come.

-- What is said: a text; a prefix of what P tells of, after which nothing that was heard is left; and one thing after another.
abbrev pub IsPut : List ℕ → List ℕ → List Event → List ℕ → Type 0
IsPut text come events rest = (events ≡ outs text) × (rest ≡ come)

abbrev pub Short : {A B : Type 0} → (List ℕ → A) → (A → List Event → B → Type 0) → List ℕ → List Event → List ℕ → Type 0
Short from P come events rest = BeginsSome P (from come) events × LeavesUnheard come events rest

abbrev pub Joins : (P Q R : List ℕ → List Event → List ℕ → Type 0) → Type 0
Joins P Q R = (come : List ℕ) (first : List Event) (middle : List ℕ) (second : List Event) (rest : List ℕ) → P come first middle → Q middle second rest → R come (first ++ second) rest

abbrev pub Maps : (P Q : List ℕ → List Event → List ℕ → Type 0) → Type 0
Maps P Q = (come : List ℕ) (events : List Event) (rest : List ℕ) → P come events rest → Q come events rest

pub heard_append : (first others : List Event) → heard_bytes (first ++ others) ≡ heard_bytes first ++ heard_bytes others
heard_append [] others = refl
heard_append (Out byte ∷ first) others = heard_append first others
heard_append (In byte ∷ first) others = ap (λ bytes. byte ∷ bytes) (heard_append first others)
heard_append (End ∷ first) others = heard_append first others

pub outs_unheard : (bytes : List ℕ) → heard_bytes (outs bytes) ≡ []
outs_unheard [] = refl
outs_unheard (byte ∷ bytes) = outs_unheard bytes

pub ins_heard : (bytes : List ℕ) → heard_bytes (ins bytes) ≡ bytes
ins_heard [] = refl
ins_heard (byte ∷ bytes) = ap (λ all. byte ∷ all) (ins_heard bytes)

front_nil : (first others : List ℕ) → first ++ others ≡ [] → first ≡ []
front_nil [] others e = refl
front_nil (byte ∷ first) others e = absurd (cc)

-- one stretch after another
pub left_then : (come : List ℕ) (first : List Event) (middle : List ℕ) (others : List Event) (rest : List ℕ) → LeavesUnheard come first middle → LeavesUnheard middle others rest → LeavesUnheard come (first ++ others) rest
left_then come first middle others rest one two = grind (arith, append_assoc, heard_append)

-- nothing was heard
pub unheard_left : (come : List ℕ) (events : List Event) (rest : List ℕ) → heard_bytes events ≡ [] → rest ≡ come → LeavesUnheard come events rest
unheard_left come events rest none same = sym (ap (λ bytes. bytes ++ rest) none ∙ same)

pub outs_left : (bytes come : List ℕ) (events : List Event) (rest : List ℕ) → (events ≡ outs bytes) × (rest ≡ come) → LeavesUnheard come events rest
outs_left bytes come events rest put = unheard_left come events rest (ap heard_bytes put.0 ∙ outs_unheard bytes) put.1

-- what is heard after a text is gone, as the text takes nothing
pub text_then : (text : List ℕ) → Joins (IsPut text) LeavesUnheard LeavesUnheard
text_then text come first middle second rest put left = left_then come first middle second rest (outs_left text come first middle put) left

-- a prefix of what is written was written
pub prefix_left : (text come : List ℕ) (events more : List Event) (rest : List ℕ) → events ++ more ≡ outs text → rest ≡ come → LeavesUnheard come events rest
prefix_left text come events more rest written same = unheard_left come events rest (front_nil (heard_bytes events) (heard_bytes more) (sym (heard_append events more) ∙ ap heard_bytes written ∙ outs_unheard text)) same

pub put_left : (text come : List ℕ) (events : List Event) (rest : List ℕ) → PutsFront text come events rest → LeavesUnheard come events rest
put_left text come events rest put = outs_left (take put.size text) come events rest (put.said, put.untaken)

-- these bytes were heard
bytes_left : (bytes come : List ℕ) (events : List Event) (rest : List ℕ) → heard_bytes events ≡ bytes → come ≡ bytes ++ rest → LeavesUnheard come events rest
bytes_left bytes come events rest heard first = first ∙ ap (λ all. all ++ rest) (sym heard)

line_left : (room : ℕ) (come : List ℕ) (events : List Event) (cut : Cut) (rest : List ℕ) (taken : ℕ) → ReadsLine room come events cut rest taken → LeavesUnheard come events rest
line_left room come events cut rest taken is = grind (arith, bytes_left, ins_heard, append_assoc, heard_append, append-nil)

-- a line that chose nothing, its answer, and what was heard after it
bad_left : (come between rest : List ℕ) (first others events : List Event) → LeavesUnheard come first between → LeavesUnheard between others rest → events ≡ first ++ (outs no_line ++ others) → LeavesUnheard come events rest
bad_left come between rest first others events line behind whole =
    let answered = left_then between (outs no_line) between others rest (outs_left no_line between (outs no_line) between (refl, refl)) behind in
    subst (λ es. LeavesUnheard come es rest) (sym whole) (left_then come first between (outs no_line ++ others) rest line answered)

module _ (n : ℕ) where
  pub hears_left : {come : List ℕ} {taken : ℕ} {events : List Event} {choice : Choice} {rest : List ℕ} {all : ℕ} → Hears n come taken events choice rest all → LeavesUnheard come events rest
  hears_left {come} {taken} {events} {choice} {rest} (chosen cut line more reads is chooses same) = line_left (room_after taken) come events cut rest more reads
  hears_left {come} {taken} {events} {choice} {rest} (again cut line between more first others reads is none later whole) =
      bad_left come between rest first others events (line_left (room_after taken) come first cut between more reads) (hears_left later) whole
  hears_left {come} {taken} {events} {choice} {rest} (no_more more reads same) = line_left (room_after taken) come events Nothing rest more reads
  hears_left {come} {taken} {events} {choice} {rest} (no_room bytes more reads same) = line_left (room_after taken) come events (Full bytes) rest more reads

  pub front_left : {come : List ℕ} {taken : ℕ} {events : List Event} {rest : List ℕ} → HearsFront n come taken events rest → LeavesUnheard come events rest
  front_left {come} {taken} {events} {rest} (line_cut short) = bytes_left short.bytes come events rest (ap heard_bytes short.said ∙ ins_heard short.bytes) short.first
  front_left {come} {taken} {events} {rest} (answer_cut cut line more size first reads is none whole) =
      let answer = outs_left (take size no_line) rest (outs (take size no_line)) rest (refl, refl) in
      subst (λ es. LeavesUnheard come es rest) (sym whole) (left_then come first rest (outs (take size no_line)) rest (line_left (room_after taken) come first cut rest more reads) answer)
  front_left {come} {taken} {events} {rest} (behind_bad cut line between more first others reads is none behind whole) =
      bad_left come between rest first others events (line_left (room_after taken) come first cut between more reads) (front_left behind) whole

module _ (asking : List ℕ) (program : Parts) (seed stage group : ℕ) (offers : List Offer) where
  pub decides_left : (from : Supply) (how : How) (choice : Choice) (to : Supply) → Decides program seed stage group (length offers) from how choice to → LeavesUnheard from.come (asked_events asking program offers how) to.come
  decides_left from (Heard events) choice to decides = text_then (offer_lines program 1 offers ++ asking) from.come _ from.come events to.come (refl, refl) (hears_left (length offers) decides.1)
  decides_left from how choice to decides = outs_left (offer_lines program 1 offers) from.come (outs (offer_lines program 1 offers)) to.come (refl, ap (λ (supply : Supply). supply.come) decides.3)

  pub settles_left : (old : Spent) (choice : Choice) (new : Spent) → Maps (Settles asking program seed stage group offers old choice new) LeavesUnheard
  settles_left old choice new come events rest settles = rw settles.whole (decides_left _ settles.how choice _ settles.decides)

-- nothing was said of a step, or a prefix of its lines
pub act_left : (program : Parts) (height : ℕ) (offers : List Offer) (place : ℕ) (old : Position) (come : List ℕ) (events : List Event) (rest : List ℕ) → BeginsAct program height offers place old come events rest → LeavesUnheard come events rest
act_left program height offers place old come events rest arg8 = grind (arith, outs_left, prefix_left)

module _ (asking : List ℕ) (program : Parts) (settings : Settings) where
  question_left : (at : Position) (from : Supply) (asked : Question) (to : Supply) → IsQuestion program settings at from asked to → LeavesUnheard from.come (asked_events asking program asked.offers asked.how) to.come
  question_left at from asked to asks = decides_left asking program settings.seed at.spot.stage asked.group asked.offers from asked.how asked.choice to asks.decided

  pub turn_left : (at : Position) (from : Supply) (turn : Turn) → IsTurn program settings at from turn → LeavesUnheard from.come (asked_events asking program turn.question.offers turn.question.how ++ outs (lines_of_deed program turn.deed)) turn.left.come
  turn_left at from turn is =
      let lines = lines_of_deed program turn.deed in
      left_then from.come (asked_events asking program turn.question.offers turn.question.how) turn.left.come (outs lines) turn.left.come (question_left at from turn.question turn.left is.asks) (outs_left lines turn.left.come (outs lines) turn.left.come (refl, refl))

  pub last_left : (at : Position) (from : Supply) (asked : Option Question) (to : Supply) → LeftBy program settings at from asked to → LeavesUnheard from.come (last_asked asking program asked) to.come
  last_left at from asked to asks = grind (arith, question_left)

module _ (program : Parts) (settings : Settings) where
  turns_left : (at : Position) (from : Supply) (turns : List Turn) (last : Position) (to : Supply) → AreTurns program settings at from turns last to → LeavesUnheard from.come (flat_map (turn_events program) turns) to.come
  turns_left at from [] last to done = ap (λ (supply : Supply). supply.come) (sym done.1)
  turns_left at from (turn ∷ turns) last to done =
      left_then from.come (turn_events program turn) turn.left.come (flat_map (turn_events program) turns) to.come (turn_left asking_line program settings at from turn done.0) (turns_left turn.deed.after turn.left turns last to done.1)

  -- some turns were done
  pub so_left : (counts : List Deed → Type 0) (start here : Position) (spent : Spent) (offers : ℕ) → Maps (SoFar program settings counts start here spent offers) LeavesUnheard
  so_left counts start here spent offers come events rest so = rw so.written (turns_left start (whole_supply come) so.turns here _ so.done)

  -- all turns were done
  pub whole_left : (counts : List Deed → Type 0) (word : EndWord) (start last : Position) (offers : ℕ) → Maps (IsWholeRun program settings counts word start last offers) LeavesUnheard
  whole_left counts word start last offers come events rest runs =
      rw (runs.written, runs.rest_is) (left_then come (flat_map (turn_events program) runs.turns) runs.between.come (last_events program runs.asked) runs.left.come
      (turns_left start (whole_supply come) runs.turns last runs.between runs.done) (last_left asking_line program settings last runs.between runs.asked runs.left (left_by program settings last runs.between runs.ends)))

-- A choice is decided by the player, as a lone one, or by a word of the seed.

module _ (asking : List ℕ) (program : Parts) (seed stage group : ℕ) (offers : List Offer) where
  -- the player chose
  pub player_settles : (old : Spent) (taken' : ℕ) (choice : Choice) → IsPlayers program stage group (length offers) → Maps (AsksPlayer (offer_lines program 1 offers ++ asking) (length offers) old.taken choice taken') (Settles asking program seed stage group offers old choice (record old { taken = taken' }))
  player_settles old taken' choice players come events rest asks = record { how = Heard asks.heard; decides = (players, asks.hears, refl); whole = asks.whole }

  -- there was one offer
  pub lone_settles : (old new : Spent) (place : ℕ) → ¬ IsPlayers program stage group (length offers) → length offers ≡ 1 → place ≡ 1 → new ≡ old → Maps (IsPut (offer_lines program 1 offers)) (Settles asking program seed stage group offers old (Place place) new)
  lone_settles old new place others one first same come events rest told = record { how = Lone; decides = (others, one, ap Place first, λ i. supply_with (told.1 i) (same i)); whole = told.0 }

  -- a word was drawn
  pub drawn_settles : (old new : Spent) (place : ℕ) → ¬ IsPlayers program stage group (length offers) → 1 < length offers → place ≡ place_drawn seed old.drawn (length offers)
      → new ≡ record { taken = old.taken; drawn = old.drawn + 1; draw = generator_behind seed (old.drawn + 1) } → Maps (IsPut (offer_lines program 1 offers)) (Settles asking program seed stage group offers old (Place place) new)
  drawn_settles old new place others several is same come events rest told = record { how = Drawn; decides = (others, several, ap Place is, λ i. supply_with (told.1 i) (same i)); whole = told.0 }

  -- nobody was asked
  pub unasked_settles : (old new : Spent) (place n turns : ℕ) → n ≡ length offers → 0 < n → HasSpent seed turns old
      → (n ≡ 1 → (place ≡ 1) × (new ≡ old))
      → (1 < n → (seed : ℕ) → old.draw ≡ generator_behind seed old.drawn → (place ≡ place_drawn seed old.drawn n) × (new ≡ record { taken = old.taken; drawn = old.drawn + 1; draw = generator_behind seed (old.drawn + 1) }))
      → ¬ IsPlayers program stage group (length offers) → Maps (IsPut (offer_lines program 1 offers)) (Settles asking program seed stage group offers old (Place place) new)
  unasked_settles old new place n turns many some spent lone drawn others = grind (arith, cases_lt, drawn_settles, lone_settles, spent.draw, old.drawn)

-- nobody decides, by the code's test
pub nobody : (P : Type 0) (asked : Bool) → (IsTrue asked ↔ P) → asked ≡ false → ¬ P
nobody P asked iff is p = let set = iff.1 p in cc

-- what was spent after a choice that the player made, and after one that nobody did
pub player_spends : (seed turns : ℕ) (old : Spent) (taken : ℕ) → HasSpent seed turns old → taken ≤ MOST_TYPED → HasSpent seed (turns + 1) (record old { taken = taken })
player_spends seed turns old taken spent within = record { taken = within; drawn = let few = spent.drawn in omega (arith, few); draw = spent.draw }

pub unasked_spends : (seed turns n place : ℕ) (old new : Spent) → 0 < n → HasSpent seed turns old → (n ≡ 1 → (place ≡ 1) × (new ≡ old))
    → (1 < n → (seed : ℕ) → old.draw ≡ generator_behind seed old.drawn → (place ≡ place_drawn seed old.drawn n) × (new ≡ record { taken = old.taken; drawn = old.drawn + 1; draw = generator_behind seed (old.drawn + 1) }))
    → HasSpent seed (turns + 1) new
unasked_spends seed turns n place old new some spent lone drawn = grind (arith, cases_lt, spent.draw, spent.taken, spent.drawn)

-- nothing was spent yet
pub nothing_spent : (seed turns : ℕ) (spent : Spent) → spent.taken ≡ 0 → spent.drawn ≡ 0 → spent.draw ≡ generator_behind seed 0 → HasSpent seed turns spent
nothing_spent seed turns spent untaken undrawn fresh = grind (arith, untaken, undrawn, fresh)

-- What was said before a part of a run was refused is a prefix of a whole.

-- what further events complete to a front is a front
pub front_of_front : {A B : Type 0} (P : A → List Event → B → Type 0) (from : A) (events more : List Event) → BeginsSome P from (events ++ more) → BeginsSome P from events
front_of_front P from events more front = record { more = more ++ front.more; left = front.left; whole = subst (λ es. P from es front.left) (append_assoc events more front.more) front.whole }

pub put_on : (text come : List ℕ) (events : List Event) (rest : List ℕ) → PutsFront text come events rest → (more : List Event) × (events ++ more ≡ outs text)
put_on text come events rest put = (outs (drop put.size text), ap (λ es. es ++ outs (drop put.size text)) put.said ∙ outs_cut put.size text)

module _ {C : Type 0} (talk : C → Option (List Event)) (left : C → Option (List ℕ)) where
  -- a prefix of a text was put
  pub did_part : (old new : C) (bytes text : List ℕ) (size : ℕ) → bytes ≡ text → GoesOn (talk old) (outs (take size bytes)) (talk new) → left new ≡ left old → Did talk left old new (PutsFront text)
  did_part old new bytes text size is went kept =
      did_map talk left old new _ (PutsFront text) (λ come events rest put. record { size = size; said = put.0 ∙ ap (λ all. outs (take size all)) is; untaken = put.1 }) (did_put talk left old new (take size bytes) went kept)

  -- nothing was put
  pub did_nothing : (console : C) (text : List ℕ) → Did talk left console console (PutsFront text)
  did_nothing console text = did_map talk left console console _ (PutsFront text) (λ come events rest same. record { size = 0; said = same.0; untaken = same.1 }) (did_same talk left console console refl refl)

-- A line is read whose first bytes are these.
record ReadsOn (room : ℕ) (bytes come : List ℕ) : Type 0 where
  line : HasLine room come
  more : List Event
  says : line.events ≡ ins bytes ++ more

reads_on : (room : ℕ) (bytes rest : List ℕ) → IsUnbroken bytes → length bytes < room → ReadsOn room bytes (bytes ++ rest)
reads_on room [] rest unbroken short = record { line = line_there room rest; more = (line_there room rest).events; says = refl }
reads_on zero (byte ∷ bytes) rest unbroken short = absurd (omega (arith, short))
reads_on (suc room) (byte ∷ bytes) rest unbroken short =
    let later = reads_on room bytes rest unbroken.1 (omega (arith, short)) in
    let line = later.line in
    record {
      line = one_more room byte (bytes ++ rest) unbroken.0 line.cut line.events line.rest line.taken line.reads;
      more = later.more;
      says = one_more-says room byte (bytes ++ rest) unbroken.0 line.cut line.events line.rest line.taken line.reads ∙ ap (λ es. In byte ∷ es) later.says;
    }

module _ (n : ℕ) where
  -- some choice is heard after a line
  line_on : (come : List ℕ) (taken : ℕ) (cut : Cut) (line : List ℕ) (events : List Event) (rest : List ℕ) (more : ℕ) → ReadsLine (room_after taken) come events cut rest more → IsLine cut line → BeginsSome (HearsSome n taken) come events
  line_on come taken cut line events rest more reads is = elim (chooses_or_not n line) [
    | inl some ↦ record { more = []; left = rest; whole = (Place some.0, taken + more, subst (λ es. Hears n come taken es (Place some.0) rest (taken + more)) (sym (append-nil events)) (chosen cut line more reads is some.1 refl)) }
    | inr none ↦ (
        let later = hears_there n rest (taken + more) in
        record { more = outs no_line ++ later.events; left = later.rest; whole = (later.choice, later.all, again cut line rest more events later.events reads is none later.hears refl) }
        )
  ]

  cut_on : (come : List ℕ) (taken : ℕ) (cut : Cut) (events : List Event) (rest : List ℕ) (more : ℕ) → ReadsLine (room_after taken) come events cut rest more → BeginsSome (HearsSome n taken) come events
  cut_on come taken (Ended line) events rest more reads = line_on come taken (Ended line) line events rest more reads (inl refl)
  cut_on come taken (Last line) events rest more reads = line_on come taken (Last line) line events rest more reads (inr refl)
  cut_on come taken Nothing events rest more reads = record { more = []; left = rest; whole = (NoMore, taken + more, subst (λ es. Hears n come taken es NoMore rest (taken + more)) (sym (append-nil events)) (no_more more reads refl)) }
  cut_on come taken (Full bytes) events rest more reads = record { more = []; left = rest; whole = (NoRoom, taken + more, subst (λ es. Hears n come taken es NoRoom rest (taken + more)) (sym (append-nil events)) (no_room bytes more reads refl)) }

  short_on : (come : List ℕ) (taken : ℕ) (events : List Event) (rest : List ℕ) → IsCutShort (room_after taken) come events rest → BeginsSome (HearsSome n taken) come events
  short_on come taken events rest short = grind (arith, reads_on (room_after taken) short.bytes rest short.unbroken short.short, cut_on, append_assoc)

  -- a choice that was cut short is a prefix of one that is heard
  pub hears_on : {come : List ℕ} {taken : ℕ} {events : List Event} {rest : List ℕ} → HearsFront n come taken events rest → BeginsSome (HearsSome n taken) come events
  hears_on {come} {taken} {events} {rest} (line_cut short) = short_on come taken events rest short
  hears_on {come} {taken} {events} {rest} (answer_cut cut line more size first reads is none whole) =
      let later = hears_there n rest (taken + more) in
      let said : events ++ (outs (drop size no_line) ++ later.events) ≡ first ++ (outs no_line ++ later.events) = rw (whole, append_assoc first (outs (take size no_line)), ← append_assoc (outs (take size no_line)) (outs (drop size no_line)) later.events, outs_cut size no_line) refl in
      record { more = outs (drop size no_line) ++ later.events; left = later.rest; whole = (later.choice, later.all, again cut line rest more first later.events reads is none later.hears said) }
  hears_on {come} {taken} {events} {rest} (behind_bad cut line between more first others reads is none behind whole) =
      let later = hears_on behind in
      record { more = later.more; left = later.left; whole = (later.whole.0, later.whole.1, again cut line between more first (others ++ later.more) reads is none later.whole.2 (rw (whole, append_assoc first (outs no_line ++ others), append_assoc (outs no_line) others) refl)) }

module _ (text : List ℕ) (n taken : ℕ) where
  -- the text was put, and a choice was heard
  pub asks_after : (choice : Choice) (taken' : ℕ) → Joins (IsPut text) (λ come events rest. Hears n come taken events choice rest taken') (AsksPlayer text n taken choice taken')
  asks_after choice taken' come first middle others rest put hears = record { heard = others; hears = rw (sym put.1) hears; whole = rw put.0 refl }

  -- a prefix of the text was put
  pub asks_on : Maps (PutsFront text) (Short (λ come. come) (AsksSome text n taken))
  asks_on come events rest put =
      let (more, written) = put_on text come events rest put in
      let later = hears_there n come taken in
      (record { more = more ++ later.events; left = later.rest; whole = (later.choice, later.all, record { heard = later.events; hears = later.hears; whole = rw (sym (append_assoc events more later.events), written) refl }) }, put_left text come events rest put)

  -- the text was put, and a prefix of a choice was heard
  pub hears_behind : Joins (IsPut text) (Short (λ come. come) (HearsSome n taken)) (Short (λ come. come) (AsksSome text n taken))
  hears_behind come first middle others rest put (begun, left) = grind (arith, append_assoc first others begun.more, asks_after, text_then text come first middle others rest put left, begun.whole, begun.more, begun.left)

module _ (asking : List ℕ) (program : Parts) (seed stage group : ℕ) (offers : List Offer) (old : Spent) where
  -- the player was asked
  pub player_on : IsPlayers program stage group (length offers) → Maps (Short (λ come. come) (AsksSome (offer_lines program 1 offers ++ asking) (length offers) old.taken)) (Short (λ come. come) (SettlesSome asking program seed stage group offers old))
  player_on players come events rest (begun, left) =
      let (choice, all, asks) = begun.whole in
      (record { more = begun.more; left = begun.left; whole = (choice, record old { taken = all }, player_settles asking program seed stage group offers old all choice players come (events ++ begun.more) begun.left asks) }, left)

  -- nobody was asked
  pub unasked_on : ¬ IsPlayers program stage group (length offers) → 0 < length offers → Maps (PutsFront (offer_lines program 1 offers)) (Short (λ come. come) (SettlesSome asking program seed stage group offers old))
  unasked_on others some come events rest put =
      let (more, written) = put_on (offer_lines program 1 offers) come events rest put in (
        elim (cases_lt 1 (length offers)) [
          | inl several ↦ (
              let place = place_drawn seed old.drawn (length offers) in
              let new : Spent = record { taken = old.taken; drawn = old.drawn + 1; draw = generator_behind seed (old.drawn + 1) } in
              record { more = more; left = come; whole = (Place place, new, drawn_settles asking program seed stage group offers old new place others several refl refl come (events ++ more) come (written, refl)) }
              )
          | inr few ↦ record { more = more; left = come; whole = (Place 1, old, lone_settles asking program seed stage group offers old old 1 others (omega (arith, some, few)) refl refl come (events ++ more) come (written, refl)) }
        ],
        put_left (offer_lines program 1 offers) come events rest put,
      )

-- What is said between a header and last lines, and what begins such a whole.

module _ (head : List ℕ) (Whole : List ℕ → List Event → List ℕ → Type 0) where
  -- a prefix of the header was put
  pub head_refused : ((come : List ℕ) → (run : List Event) × (rest : List ℕ) × Whole come (outs head ++ run) rest) → Maps (PutsFront head) (Short (λ come. come) Whole)
  head_refused there come events rest put =
      let (run, left, said) = there come in
      let (more, written) = put_on head come events rest put in
      (record { more = more ++ run; left = left; whole = rw (sym (append_assoc events more run), written) said }, put_left head come events rest put)

  -- the header was put, and what comes after it was refused
  pub run_refused : {A B : Type 0} (from : List ℕ → A) (P : A → List Event → B → Type 0) (rest_of : B → List ℕ) → ((come : List ℕ) (run : List Event) (left : B) → P (from come) run left → Whole come (outs head ++ run) (rest_of left)) → Joins (IsPut head) (Short from P) (Short (λ come. come) Whole)
  run_refused from P rest_of made come first middle second rest put (begun, left) = grind (arith, append_assoc first second begun.more, text_then head come first middle second rest put left, begun.more, begun.left, put.0, put.1, begun.whole)

  module _ (tail : List ℕ) (Run : List ℕ → List Event → List ℕ → Type 0) (made : (come : List ℕ) (run : List Event) (rest : List ℕ) → Run come run rest → Whole come (outs head ++ (run ++ outs tail)) rest) where
    -- a run, and then the last lines
    abbrev RunEnds : List ℕ → List Event → List ℕ → Type 0
    RunEnds come events rest = (run : List Event) × Run come run rest × (events ≡ run ++ outs tail)

    module _ {C : Type 0} (talk : C → Option (List Event)) (left : C → Option (List ℕ)) (old one two new : C) (begins : Did talk left old one (IsPut head)) (runs : Did talk left one two Run) where
      pub whole_said : Did talk left two new (IsPut tail) → Did talk left old new Whole
      whole_said ends = did_then talk left old one new (IsPut head) RunEnds Whole (λ come first middle second rest put (run, is, said). rw (put.0, said) (made come run rest (rw (sym put.1) is))) begins
          (did_then talk left one two new Run (IsPut tail) RunEnds (λ come first middle second rest is put. (first, rw put.1 is, rw put.0 refl)) runs ends)

      -- a prefix of the last lines was put
      pub tail_refused : Maps Run LeavesUnheard → Did talk left two new (PutsFront tail) → Did talk left old new (Short (λ come. come) Whole)
      tail_refused gone ends = did_then talk left old one new (IsPut head) (Short (λ come. come) RunEnds) _ (run_refused (λ come. come) RunEnds (λ rest. rest) (λ come events rest (run, is, said). rw said (made come run rest is))) begins
          (did_then talk left one two new Run (PutsFront tail) (Short (λ come. come) RunEnds) (λ come first middle second rest is put.
          let (more, written) = put_on tail middle second rest put in
          (record { more = more; left = middle; whole = (first, is, rw (append_assoc first second more, written) refl) }, left_then come first middle second rest (gone come first middle is) (put_left tail middle second rest put))) runs ends)
