-- Lines that are read until one chooses a place.
use Rattle.std.proofs.Common.{◌≡◌, ℕ, ◌+◌, List, [], ◌∷◌, ◌++◌, append_assoc, take, Option, refl, sym, ap, ◌∙◌, subst}
use Rattle.cep_base.specs.declared.console.Event.{Event}
use Rattle.cep_base.specs.Talk.{outs, GoesOn, Did}
use Rattle.cep_base.proofs.Did.{did_same, did_put, did_then, did_map}
use Rattle.cep_choice.specs.declared.reading.Said.{Said}
use Rattle.cep_choice.specs.TypedLine.{Cut, ReadsLine, IsLine, ChoosesNone, IsHeardAs, IsCutShort}
use Rattle.cep_run.specs.declared.choice.Choice.{Choice}
use Rattle.cep_run.specs.Choice.{Hears, chosen, again, no_more, no_room, room_after, no_line}
use Rattle.cep_choice.specs.declared.reading.Said.TheVariants as said
use Rattle.cep_run.specs.declared.choice.Choice.TheVariants as choice

-- The events of one choice among n that was cut short: in the reading of a line, or in the answer to a line that chooses nothing.
pub data HearsFront (n : ℕ) : List ℕ → ℕ → List Event → List ℕ → Type 0 where
  line_cut : {come rest : List ℕ} {taken : ℕ} {events : List Event} → IsCutShort (room_after taken) come events rest → HearsFront n come taken events rest
  answer_cut : {come rest : List ℕ} {taken : ℕ} {events : List Event} (cut : Cut) (line : List ℕ) (more size : ℕ) (first : List Event)
      → ReadsLine (room_after taken) come first cut rest more → IsLine cut line → ChoosesNone n line → events ≡ first ++ outs (take size no_line)
      → HearsFront n come taken events rest
  -- before that a line chose nothing, and was answered
  behind_bad : {come rest : List ℕ} {taken : ℕ} {events : List Event} (cut : Cut) (line : List ℕ) (between : List ℕ) (more : ℕ) (first others : List Event)
      → ReadsLine (room_after taken) come first cut between more → IsLine cut line → ChoosesNone n line
      → HearsFront n between (taken + more) others rest → events ≡ first ++ (outs no_line ++ others)
      → HearsFront n come taken events rest

-- one reading of a line, and what it says
abbrev ReadsSaid : ℕ → ℕ → Said → ℕ → List ℕ → List Event → List ℕ → Type 0
ReadsSaid n room said taken come events rest = (cut : Cut) × ReadsLine room come events cut rest taken × IsHeardAs n cut said

-- whatever comes of the choice from now on comes of it from the start, after what was said so far
pub record Awaits (n start taken : ℕ) (come : List ℕ) (events : List Event) (rest : List ℕ) : Type 0 where
  pub goes_on : {later : List Event} {result : Choice} {end : List ℕ} {all : ℕ} → Hears n rest taken later result end all → Hears n come start (events ++ later) result end all
  pub goes_short : {later : List Event} {end : List ℕ} → HearsFront n rest taken later end → HearsFront n come start (events ++ later) end

-- a line was read that chooses nothing, and that was said
record AfterBad (n room more : ℕ) (come : List ℕ) (events : List Event) (rest : List ℕ) : Type 0 where
  first : List Event
  read : ReadsSaid n room said.Bad more come first rest
  answered : events ≡ first ++ outs no_line

-- the same, but the answer was cut short
record AnsweredShort (n room more size : ℕ) (come : List ℕ) (events : List Event) (rest : List ℕ) : Type 0 where
  first : List Event
  read : ReadsSaid n room said.Bad more come first rest
  answered : events ≡ first ++ outs (take size no_line)

no_line-bytes : no_line ≡ 63 ∷ 32 ∷ 110 ∷ 111 ∷ 10 ∷ []
unfolding no_line
no_line-bytes = refl

written_behind : {n room more : ℕ} {come : List ℕ} {first : List Event} {middle : List ℕ} {others : List Event} {rest : List ℕ}
    → ReadsSaid n room said.Bad more come first middle
    → (others ≡ outs (63 ∷ 32 ∷ 110 ∷ 111 ∷ 10 ∷ [])) × (rest ≡ middle) → AfterBad n room more come (first ++ others) rest
written_behind {n} {room} {more} {come} {first} bad put = record {
  first = first;
  read = subst (ReadsSaid n room said.Bad more come first) (sym put.1) bad;
  answered = ap (λ written. first ++ written) (put.0 ∙ ap outs (sym no_line-bytes));
}

written_short : {n room more size : ℕ} {come : List ℕ} {first : List Event} {middle : List ℕ} {others : List Event} {rest : List ℕ}
    → ReadsSaid n room said.Bad more come first middle
    → (others ≡ outs (take size (63 ∷ 32 ∷ 110 ∷ 111 ∷ 10 ∷ []))) × (rest ≡ middle) → AnsweredShort n room more size come (first ++ others) rest
written_short {n} {room} {more} {size} {come} {first} bad put = record {
  first = first;
  read = subst (ReadsSaid n room said.Bad more come first) (sym put.1) bad;
  answered = ap (λ written. first ++ written) (put.0 ∙ ap (λ bytes. outs (take size bytes)) (sym no_line-bytes));
}

-- One line after what was said

module _ {n start taken : ℕ} {come : List ℕ} {first : List Event} {middle : List ℕ} (before : Awaits n start taken come first middle) where
  bad_behind : {more : ℕ} {others : List Event} {rest : List ℕ} → AfterBad n (room_after taken) more middle others rest → Awaits n start (taken + more) come (first ++ others) rest
  bad_behind {more} {others} {rest} bad = record {
    goes_on = λ {later} {result} {end} {all} hears. rw append_assoc (before.goes_on (again bad.read.0 bad.read.2.0 rest more bad.first later bad.read.1 bad.read.2.1 bad.read.2.2 hears (ap (λ said. said ++ later) bad.answered ∙ append_assoc bad.first (outs no_line) later)));
    goes_short = λ {later} {end} hears. rw append_assoc (before.goes_short (behind_bad bad.read.0 bad.read.2.0 rest more bad.first later bad.read.1 bad.read.2.1 bad.read.2.2 hears (ap (λ said. said ++ later) bad.answered ∙ append_assoc bad.first (outs no_line) later)));
  }

  -- the reading of a further line is cut short, or its answer is
  short_behind : {others : List Event} {rest : List ℕ} → IsCutShort (room_after taken) middle others rest → HearsFront n come start (first ++ others) rest
  short_behind short = before.goes_short (line_cut short)

  answer_behind : {more size : ℕ} {others : List Event} {rest : List ℕ} → AnsweredShort n (room_after taken) more size middle others rest → HearsFront n come start (first ++ others) rest
  answer_behind {more} {size} bad =
      let line = bad.read in
      before.goes_short (answer_cut line.0 line.2.0 more size bad.first line.1 line.2.1 line.2.2 bad.answered)

  place_behind : {more place : ℕ} {others : List Event} {rest : List ℕ} → ReadsSaid n (room_after taken) (said.Number place) more middle others rest
      → Hears n come start (first ++ others) (choice.Place place) rest (taken + more)
  place_behind {more} line = before.goes_on (chosen line.0 line.2.0 more line.1 line.2.1 line.2.2 refl)

  end_behind : {more : ℕ} {others : List Event} {rest : List ℕ} → ReadsSaid n (room_after taken) said.End more middle others rest
      → Hears n come start (first ++ others) choice.NoMore rest (taken + more)
  end_behind {more} {others} {rest} line = before.goes_on (no_more more (subst (λ cut. ReadsLine (room_after taken) middle others cut rest more) line.2 line.1) refl)

  limit_behind : {more : ℕ} {others : List Event} {rest : List ℕ} → ReadsSaid n (room_after taken) said.Limit more middle others rest
      → Hears n come start (first ++ others) choice.NoRoom rest (taken + more)
  limit_behind {more} {others} {rest} line = before.goes_on (no_room line.2.0 more (subst (λ cut. ReadsLine (room_after taken) middle others cut rest more) line.2.1 line.1) refl)

nothing_before : (n start : ℕ) (come : List ℕ) (events : List Event) (rest : List ℕ) → (events ≡ []) × (rest ≡ come) → Awaits n start start come events rest
nothing_before n start come events rest same = record {
  goes_on = λ {later} {result} {end} {all} hears. rw same.0 (rw same.1 at hears);
  goes_short = λ {later} {end} hears. rw same.0 (rw same.1 at hears);
}

module _ {C : Type 0} (talk : C → Option (List Event)) (left : C → Option (List ℕ)) where
  pub await_first : (n start : ℕ) (old : C) → Did talk left old old (Awaits n start start)
  await_first n start old = did_map talk left old old _ (Awaits n start start) (nothing_before n start) (did_same talk left old old refl refl)

  module _ (n start taken more : ℕ) (old between new : C) (so_far : Did talk left old between (Awaits n start taken)) where
    pub await_next : (middle : C) → Did talk left between middle (ReadsSaid n (room_after taken) said.Bad more)
        → GoesOn (talk middle) (outs (63 ∷ 32 ∷ 110 ∷ 111 ∷ 10 ∷ [])) (talk new) → left new ≡ left middle
        → Did talk left old new (Awaits n start (taken + more))
    await_next middle read went kept =
        let put = did_put talk left middle new (63 ∷ 32 ∷ 110 ∷ 111 ∷ 10 ∷ []) went kept in
        let bad = did_then talk left between middle new (ReadsSaid n (room_after taken) said.Bad more) _ (AfterBad n (room_after taken) more) (λ come first middle others rest bad put. written_behind bad put) read put in
        did_then talk left old between new (Awaits n start taken) (AfterBad n (room_after taken) more) (Awaits n start (taken + more)) (λ come first middle others rest before one. bad_behind before one) so_far bad

    pub end_chosen : (place : ℕ) → Did talk left between new (ReadsSaid n (room_after taken) (said.Number place) more)
        → Did talk left old new (λ come events rest. Hears n come start events (choice.Place place) rest (taken + more))
    end_chosen place read =
        did_then talk left old between new (Awaits n start taken) (ReadsSaid n (room_after taken) (said.Number place) more) _ (λ come first middle others rest before one. place_behind before one) so_far read

    pub end_no_more : Did talk left between new (ReadsSaid n (room_after taken) said.End more)
        → Did talk left old new (λ come events rest. Hears n come start events choice.NoMore rest (taken + more))
    end_no_more read =
        did_then talk left old between new (Awaits n start taken) (ReadsSaid n (room_after taken) said.End more) _ (λ come first middle others rest before one. end_behind before one) so_far read

    pub end_no_room : Did talk left between new (ReadsSaid n (room_after taken) said.Limit more)
        → Did talk left old new (λ come events rest. Hears n come start events choice.NoRoom rest (taken + more))
    end_no_room read =
        did_then talk left old between new (Awaits n start taken) (ReadsSaid n (room_after taken) said.Limit more) _ (λ come first middle others rest before one. limit_behind before one) so_far read

    pub end_short : Did talk left between new (IsCutShort (room_after taken)) → Did talk left old new (λ come events rest. HearsFront n come start events rest)
    end_short read = did_then talk left old between new (Awaits n start taken) (IsCutShort (room_after taken)) _ (λ come first middle others rest before short. short_behind before short) so_far read

    pub end_answer_short : (middle : C) (size : ℕ) → Did talk left between middle (ReadsSaid n (room_after taken) said.Bad more)
        → GoesOn (talk middle) (outs (take size (63 ∷ 32 ∷ 110 ∷ 111 ∷ 10 ∷ []))) (talk new) → left new ≡ left middle
        → Did talk left old new (λ come events rest. HearsFront n come start events rest)
    end_answer_short middle size read went kept =
        let put = did_put talk left middle new (take size (63 ∷ 32 ∷ 110 ∷ 111 ∷ 10 ∷ [])) went kept in
        let bad = did_then talk left between middle new (ReadsSaid n (room_after taken) said.Bad more) _ (AnsweredShort n (room_after taken) more size) (λ come first middle others rest bad put. written_short bad put) read put in
        did_then talk left old between new (Awaits n start taken) (AnsweredShort n (room_after taken) more size) _ (λ come first middle others rest before one. answer_behind before one) so_far bad
