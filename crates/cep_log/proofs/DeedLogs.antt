-- What is written of deeds is a transcript, and its log holds them.
use Rattle.std.proofs.Common.{◌≡◌, ℕ, Bool, true, false, List, [], ◌∷◌, ◌++◌, map, append_assoc, append-nil, refl, sym, ap, ◌∙◌, Option, None, Some, ◌+◌, ◌≤◌, length, subst, arith}
use Rattle.std.proofs.lemmas.Grind.{flat_map-append}
use Rattle.std.proofs.lemmas.List.Folds.{flat_map-map}
use Rattle.std.proofs.lemmas.Slice.Zip.{AllZip-long}
use Rattle.std.specs.List.{flat_map, AllZip}
use Rattle.std.specs.FinMap as finite
use Rattle.cep_term.specs.Multiset.{Multiset}
use Rattle.cep_rule.specs.Derivations.{ProofTree}
use Rattle.cep_rule.specs.Limits.{IsHeight}
use Rattle.cep_rule.specs.Program.{IsProgram}
use Rattle.cep_rule.specs.declared.offer.Offer.{Offer}
use Rattle.cep_rule.specs.declared.parts.Parts.{Parts}
use Rattle.cep_rule.specs.Stages.{IsQuiet}
use Rattle.cep_step.specs.Deeds.{Deed, Position, start_of, AreDeeds}
use Rattle.cep_lines.specs.Lines.{line, has_listing, have_text, have_line, listing, stage_text, stage_line, next_line, step_text, step_line, by_text, by_line, by_lines, step_lines, mid_lines, expected_listing, deed_lines, end_lines, header}
use Rattle.cep_lines.specs.declared.end_word.EndWord.{EndWord}
use Rattle.cep_lines.specs.declared.end_word.EndWord.TheVariants.{Quiet}
use Rattle.cep_lines.specs.declared.version.Version.TheVariants.{Two}
use Rattle.cep_log.proofs.LegalLogs.{LeadToStates, AreListings, legal_log}
use Rattle.cep_log.proofs.WrittenLogs.{IsReadBack, few_lines, log_long}
use Rattle.cep_log.specs.Holding.{lines_of_deed, TellDeeds, TellRun, HoldsDeed, HoldsDeeds}
use Rattle.cep_log.specs.Transcript.{stage_texts, HasLog}
use Rattle.cep_log.specs.Legal.{HaveListings, IsLegal}
use Rattle.cep_log.specs.declared.log.LogEnd.{LogEnd}
use Rattle.cep_log.specs.declared.log.LogMid.{LogMid}
use Rattle.cep_log.specs.declared.log.LogStep.{LogStep}
use Rattle.cep_log.specs.Written.{start_texts, mid_texts, step_texts, end_texts, TellSteps, TellLog, SayTheSame}
use Rattle.cep_log.specs.declared.log.Log.{Log}
use Rattle.cep_base.specs.declared.limits.TheConstants.{MOST_LOG}

-- What is written of deeds, line by line.

-- The log of what was done, in which no line has its number yet

-- a listing of the state, where one is expected
abbrev pub mid_if : Bool → Multiset → Option LogMid
mid_if true state = Some (record { line = 0; state = finite.entries state })
mid_if false state = None

-- the step of a deed
abbrev pub step_of : Deed → LogStep
step_of deed = record {
  line = 0;
  offer = deed.offer;
  proofs = deed.proofs;
  stage = deed.rule.next;
  mid = mid_if (has_listing Two deed.after.turns) deed.after.spot.state;
}

-- the end with a word at a state
abbrev pub end_of : EndWord → Multiset → LogEnd
end_of word state = record { line = 0; word = word; state = finite.entries state }

-- the log of deeds that are done from where the program begins
abbrev pub log_of : Parts → ℕ → List Deed → EndWord → Multiset → ℕ → Log
log_of program height deeds word state lines = record {
  version = Two;
  height = height;
  stage_line = 0;
  stage = program.start_stage;
  start = finite.entries program.start;
  steps = map step_of deeds;
  end = Some (end_of word state);
  lines = lines;
}

-- Its lines

module _ (program : Parts) where
  listing_written : (state : Multiset) → listing program.signature state ≡ flat_map line (map (have_text program.signature) (finite.entries state))
  unfolding listing have_line
  listing_written state = sym (flat_map-map line (have_text program.signature) (finite.entries state))

  next_written : (next : Option ℕ) → next_line program next ≡ flat_map line (stage_texts program next)
  unfolding stage_line
  next_written None = refl
  next_written (Some stage) = sym (append-nil (line (stage_text program stage)))

  step_written : (offer : Offer) (proofs : List ProofTree) (next : Option ℕ) → step_lines program offer proofs next ≡ flat_map line (step_text program offer ∷ (map (by_text program) proofs ++ stage_texts program next))
  unfolding step_lines step_line by_lines by_line
  step_written offer proofs next = rw (← flat_map-map line (by_text program) proofs, next_written next, flat_map-append line (map (by_text program) proofs) (stage_texts program next)) refl

  expected_written : (number : ℕ) (state : Multiset) → expected_listing program.signature number state ≡ flat_map line (mid_texts program number (mid_if (has_listing Two number) state))
  unfolding expected_listing mid_lines
  expected_written number state = grind (arith, listing_written state)

  pub deed_written : (deed : Deed) → lines_of_deed program deed ≡ flat_map line (step_texts program deed.after.turns (step_of deed))
  unfolding deed_lines
  deed_written deed =
      let number = deed.after.turns in
      let stages = stage_texts program deed.rule.next in
      let mids = mid_texts program number (mid_if (has_listing Two number) deed.after.spot.state) in
      rw (step_written deed.offer deed.proofs deed.rule.next, expected_written number deed.after.spot.state, ← flat_map-append line (step_text program deed.offer ∷ (map (by_text program) deed.proofs ++ stages)) mids, append_assoc (map (by_text program) deed.proofs) stages mids) refl

  pub header_written : (height : ℕ) (deeds : List Deed) (word : EndWord) (state : Multiset) (lines : ℕ) → header program height ≡ flat_map line (start_texts program (log_of program height deeds word state lines))
  unfolding header stage_line
  header_written height deeds word state lines = rw (listing_written program.start) refl

  pub end_written : (word : EndWord) (state : Multiset) → end_lines program.signature word state ≡ flat_map line (end_texts program (Some (end_of word state)))
  unfolding end_lines
  end_written word state = rw (listing_written state) refl

-- lines after lines
both_written : (one other : List ℕ) (lines others : List (List ℕ)) → one ≡ flat_map line lines → other ≡ flat_map line others → one ++ other ≡ flat_map line (lines ++ others)
both_written one other lines others here there = rw (here, there, flat_map-append line lines others) refl

-- Steps hold the deeds that they are of.

held : (deeds : List Deed) → AllZip HoldsDeed deeds (map step_of deeds)
held [] = tt
held (deed ∷ deeds) = grind (arith, deed.after.turns, deed.after.spot.state, held deeds)

-- A log that says the same holds the same.

held_too : (deeds : List Deed) (steps others : List LogStep) → AllZip HoldsDeed deeds steps → AllZip SayTheSame steps others → AllZip HoldsDeed deeds others
held_too (deed ∷ deeds) (step ∷ steps) (other ∷ others) hold same =
    let does = same.0.does in (
      record {
        offer = sym does.offer ∙ hold.0.offer;
        proofs = sym does.proofs ∙ hold.0.proofs;
        stage = sym does.stage ∙ hold.0.stage;
        mid = grind arith;
      },
      held_too deeds steps others hold.1 same.1,
    )
held_too deeds steps others hold same = grind arith

module _ (program : Parts) (height : ℕ) where
  -- Bytes that tell deeds, line by line, where the first deed has this number.
  record TellLines (number : ℕ) (deeds : List Deed) (bytes : List ℕ) : Type 0 where
    lines : List (List ℕ)
    whole : bytes ≡ flat_map line lines
    tell : TellSteps program number (map step_of deeds) lines
    listed : HaveListings Two number (map step_of deeds)

  deeds_told : (at : Position) (deeds : List Deed) (last : Position) (bytes : List ℕ) → AreDeeds program height at deeds last → TellDeeds program deeds bytes → TellLines (at.turns + 1) deeds bytes
  deeds_told at [] last bytes done told = record { lines = []; whole = told; tell = refl; listed = tt }
  deeds_told at (deed ∷ deeds) last bytes done (remarks, later, passed, told, whole) =
      let rest = deeds_told deed.after deeds last later done.2 told in
      let number = deed.after.turns in
      let here = step_texts program number (step_of deed) in
      let lines = passed.lines ++ (here ++ rest.lines) in
      let counted : number ≡ at.turns + 1 = done.1.counted ∙ ap (λ (p : Position). p.turns + 1) done.0 in
      record {
        lines = lines;
        whole = whole
            ∙ both_written remarks (lines_of_deed program deed ++ later) passed.lines (here ++ rest.lines) passed.written
            (both_written (lines_of_deed program deed) later here rest.lines (deed_written program deed) rest.whole);
        tell = subst (λ n. TellSteps program n (map step_of (deed ∷ deeds)) lines) counted (passed.lines, rest.lines, passed.passed, rest.tell, refl);
        listed = subst (λ n. HaveListings Two n (map step_of (deed ∷ deeds))) counted (grind arith, rest.listed);
      }

  module _ (lead : LeadToStates) (kept : IsProgram program) (height_is : IsHeight height) (listing_of : AreListings program)
      (read : (log : Log) (lines : List (List ℕ)) → IsLegal program log → TellLog program lines log → length (flat_map line lines) ≤ MOST_LOG → IsReadBack program log lines)
      (deeds : List Deed) (last : Position) (word : EndWord) (done : AreDeeds program height (start_of program) deeds last) (quiet : word ≡ Quiet → IsQuiet program height last.spot.state last.spot.stage) where
    pub log_there : (bytes : List ℕ) → TellRun program height deeds word last.spot.state bytes → length bytes ≤ MOST_LOG
        → (log : Log) × HasLog program bytes log × HoldsDeeds program height deeds word last.spot.state log × IsLegal program log × (length log.steps ≡ length deeds)
    log_there bytes run short =
        let state = last.spot.state in
        let steps = deeds_told (start_of program) deeds last run.told done run.tell in
        let start = start_texts program (log_of program height deeds word state 0) in
        let end = end_of word state in
        let ends = end_texts program (Some end) in
        let lines = start ++ (steps.lines ++ (run.passed.lines ++ ends)) in
        let log = log_of program height deeds word state (length lines) in
        let tell : TellLog program lines log = record { steps = steps.lines; remarks = run.passed.lines; tell = steps.tell; passed = run.passed.passed; whole = refl } in
        let last_lines = end_lines program.signature word state in
        let is : bytes ≡ flat_map line lines = run.whole
        ∙ both_written (header program height) (run.told ++ (run.remarks ++ last_lines)) start (steps.lines ++ (run.passed.lines ++ ends)) (header_written program height deeds word state 0)
        (both_written run.told (run.remarks ++ last_lines) steps.lines (run.passed.lines ++ ends) steps.whole
        (both_written run.remarks last_lines run.passed.lines ends run.passed.written (end_written program word state))) in
        let holds : HoldsDeeds program height deeds word state log = record { height_is = refl; stage = refl; start = refl; steps = held deeds; listed = steps.listed; ended = record { word_is = refl; state_is = refl } } in
        let low : length lines ≤ MOST_LOG = let few = few_lines lines in omega (arith, short, few, ap length is) in
        let found = read log lines (legal_log lead program kept height height_is listing_of deeds last word log done quiet holds low (log_long program log lines tell)) tell (subst (λ (all : List ℕ). length all ≤ MOST_LOG) is short) in
        let same = found.4 in
        let hold = held_too deeds (map step_of deeds) found.0.steps (held deeds) same.steps in (
          found.0,
          subst (λ (all : List ℕ). HasLog program all found.0) (sym is) found.1,
          record {
            height_is = sym same.height;
            stage = sym same.stage;
            start = sym same.start;
            steps = hold;
            listed = found.2.of_program.listed;
            ended = grind arith;
          },
          found.2,
          AllZip-long HoldsDeed deeds found.0.steps hold,
        )
