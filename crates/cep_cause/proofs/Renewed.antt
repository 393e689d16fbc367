-- The steps of a legal log are renewed one after another, in any order, and what is written is the new log's text.
use Rattle.std.proofs.Common.{◌≡◌, ℕ, cond, List, [], ◌∷◌, ◌++◌, map, append_assoc, append-nil, Bool, true, false, Option, Some, None, refl, sym, ap, ◌∙◌, ◌+◌, ◌<◌, ◌≤◌, length, length-append, subst, arith, ◌⊎◌, inl, inr, ⊎_elim}
use Rattle.std.specs.List.{flat_map, AllZip, AllByRecursion}
use Rattle.std.specs.Prelude.{IfSome, IsSomeAnd, is_some}
use Rattle.std.proofs.lemmas.Grind.{flat_map-append}
use Rattle.cep_term.specs.Tree.{AtomTree}
use Rattle.cep_term.specs.Multiset.{Multiset}
use Rattle.cep_lines.specs.declared.version.Version.TheVariants.{Two, One}
use Rattle.cep_rule.specs.declared.parts.Parts.{Parts}
use Rattle.cep_rule.specs.declared.rule.Rule.{Rule}
use Rattle.cep_rule.specs.Derivations.{ProofTree}
use Rattle.cep_rule.specs.Steps.{Spot, StepsTo, AreProofs, start_spot}
use Rattle.cep_lines.specs.Lines.{line, has_listing, have_text, have_line, listing, stage_text, stage_line, next_line, step_text, step_line, by_text, by_line, by_lines, state_text, step_lines, mid_lines, expected_listing, deed_lines, end_text, end_lines, version_text, height_text, header}
use Rattle.cep_log.specs.declared.log.LogStep.{LogStep}
use Rattle.cep_log.specs.declared.log.LogMid.{LogMid}
use Rattle.cep_log.specs.declared.log.LogEnd.{LogEnd}
use Rattle.cep_log.specs.declared.log.Log.{Log}
use Rattle.cep_log.specs.Transcript.{stage_texts, HasLog}
use Rattle.cep_log.specs.Written.{mid_texts, step_texts, end_texts, start_texts, steps_texts, text_of, TellSteps, TellLog, DoTheSame, SayTheSame, EndTheSame, TellTheSame, IsRenewal}
use Rattle.cep_cause.specs.Renewing.{renewed_lines, last_lines, AreAllRenewed, AreRenewedOrLong, CanBePut, LeadsTo, AreRenewedLines, IsRenewingAt}
use Rattle.std.proofs.lemmas.Slice.Zip.{AllZip-long}
use Rattle.cep_base.specs.declared.limits.TheConstants.{MOST_LOG}
use Rattle.cep_base.proofs.Lists.{holds_at}
use Rattle.cep_rule.specs.Program.{IsProgram, IsTypedRule, IsDividedRule}
use Rattle.cep_rule.specs.State.{IsState}
use Rattle.cep_rule.specs.Shapes.{IsProofOf}
use Rattle.cep_step.specs.Spots.{IsSpotOf}
use Rattle.cep_log.specs.Legal.{IsListing, IsLegalEnd, IsLegal, IsStepOf, IsLegalStep, AreLegalSteps}
use Rattle.cep_cause.specs.Renewed.{IsRenewedText, IsTooLongRenewed}
use Rattle.cep_cause.specs.CauseLaws.{CauseLaws}
use Rattle.cep_cause.specs.Tokens.{start_tokens}
use Rattle.cep_cause.specs.Touches.{Touch, AreTouchesOf}
use Rattle.cep_cause.specs.Reorderings.{IsReordering}
use Rattle.cep_cause.specs.Reordered.{unlisted, IsInOrder, IsUnfitIn, IsRenewalIn}
use Rattle.cep_cause.proofs.StatesAfter.{as_many}
use Rattle.cep_cause.proofs.Walked.{run_of}
use Rattle.cep_cause.proofs.Central.{stand}
use Rattle.cep_cause.proofs.WrittenOrder.{legal_in_order, renewed_in_order}
use Rattle.std.specs.FinMap as finite
use Rattle.cep_cause.proofs.Walked as law

-- What is written of a log renewed is its text.

-- the listing of a state, with no line of its own yet
abbrev pub listed : Multiset → LogMid
listed state = record { line = 0; state = finite.entries state }

-- the listing that is due after the step of a number
abbrev pub due_mid : ℕ → Multiset → Option LogMid
due_mid number state = cond (has_listing Two number) (Some (listed state)) None

-- the end where a state stands, with no line of its own yet
abbrev pub end_at : Option LogEnd → Multiset → Option LogEnd
end_at None state = None
end_at (Some end) state = Some (record { line = 0; word = end.word; state = finite.entries state })

module _ (program : Parts) where
  haves_written : (entries : List (AtomTree × ℕ)) → flat_map (have_line program.signature) entries ≡ flat_map line (map (have_text program.signature) entries)
  unfolding have_line
  haves_written [] = refl
  haves_written (entry ∷ entries) = ap (λ rest. line (have_text program.signature entry) ++ rest) (haves_written entries)

  listing_written : (state : Multiset) → listing program.signature state ≡ flat_map line (map (have_text program.signature) (finite.entries state))
  unfolding listing
  listing_written state = haves_written (finite.entries state)

  bys_written : (proofs : List ProofTree) → flat_map (by_line program) proofs ≡ flat_map line (map (by_text program) proofs)
  unfolding by_line
  bys_written [] = refl
  bys_written (proof ∷ proofs) = ap (λ rest. line (by_text program proof) ++ rest) (bys_written proofs)

  next_written : (next : Option ℕ) → next_line program next ≡ flat_map line (stage_texts program next)
  unfolding stage_line
  next_written None = refl
  next_written (Some stage) = sym (append-nil (line (stage_text program stage)))

  own_written : (step : LogStep) → step_lines program step.offer step.proofs step.stage ≡ flat_map line (step_text program step.offer ∷ (map (by_text program) step.proofs ++ stage_texts program step.stage))
  unfolding step_lines step_line by_lines
  own_written step =
      let first = line (step_text program step.offer) in
      let bys = map (by_text program) step.proofs in
      let stages = stage_texts program step.stage in
      ap (λ rest. first ++ (rest ++ next_line program step.stage)) (bys_written step.proofs)
      ∙ ap (λ rest. first ++ (flat_map line bys ++ rest)) (next_written step.stage)
      ∙ ap (λ rest. first ++ rest) (sym (flat_map-append line bys stages))

  due_written : (number : ℕ) (state : Multiset) → expected_listing program.signature number state ≡ flat_map line (mid_texts program number (due_mid number state))
  unfolding expected_listing mid_lines
  due_written number state = cases (has_listing Two number) where
    cases : (is : Bool) → cond is (mid_lines program.signature number state) [] ≡ flat_map line (mid_texts program number (cond is (Some (listed state)) None))
    cases true = ap (λ rest. line (state_text number) ++ rest) (listing_written state)
    cases false = refl

  -- the lines of a step
  pub step_written : (number : ℕ) (step : LogStep) (state : Multiset) → renewed_lines program number step state ≡ flat_map line (step_texts program number (record step { mid = due_mid number state }))
  unfolding deed_lines
  step_written number step state =
      let first = step_text program step.offer in
      let bys = map (by_text program) step.proofs in
      let stages = stage_texts program step.stage in
      let mids = mid_texts program number (due_mid number state) in
      ap (λ own. own ++ expected_listing program.signature number state) (own_written step)
      ∙ ap (λ due. flat_map line (first ∷ (bys ++ stages)) ++ due) (due_written number state)
      ∙ sym (flat_map-append line (first ∷ (bys ++ stages)) mids)
      ∙ ap (λ lines. flat_map line (first ∷ lines)) (append_assoc bys stages mids)

  -- the lines of the start
  pub header_written : (height : ℕ) → header program height ≡ flat_map line (version_text Two ∷ (height_text height ∷ (stage_text program program.start_stage ∷ map (have_text program.signature) (finite.entries program.start))))
  unfolding header stage_line
  header_written height = ap (λ rest. line (version_text Two) ++ (line (height_text height) ++ (line (stage_text program program.start_stage) ++ rest))) (listing_written program.start)

  -- the lines of the end
  pub last_written : (end : Option LogEnd) (state : Multiset) → last_lines program.signature end state ≡ flat_map line (end_texts program (end_at end state))
  unfolding end_lines
  last_written None state = refl
  last_written (Some end) state = ap (λ rest. line (end_text end.word) ++ rest) (listing_written state)

-- A log whose steps are renewed is renewed, and its text is what is written.

-- A log renewed, and its text.
pub record IsRenewedAs (program : Parts) (old : Log) (text : List ℕ) : Type 0 where
  pub new : Log
  pub renews : IsRenewal program old new
  pub written : text ≡ text_of program new

same_end : (program : Parts) (height : ℕ) (last : Spot) (end : Option LogEnd) → IsSomeAnd end (IsLegalEnd program height last) → EndTheSame end (end_at end last.state)
same_end program height last end legal = grind arith

legal_end : (program : Parts) (height : ℕ) (last : Spot) (end : Option LogEnd) → IsSomeAnd end (IsLegalEnd program height last) → IsSomeAnd (end_at end last.state) (IsLegalEnd program height last)
legal_end program height last end legal = grind arith

listed_end : (program : Parts) (height : ℕ) (last : Spot) (end : Option LogEnd) → IsSomeAnd end (IsLegalEnd program height last) → IfSome end (λ end. IsListing program.signature end.state) → IfSome (end_at end last.state) (λ end. IsListing program.signature end.state)
listed_end program height last end legal is = grind arith

does_both : (one other last : LogStep) → DoTheSame one other → DoTheSame other last → DoTheSame one last
does_both one other last a b = record { offer = a.offer ∙ b.offer; proofs = a.proofs ∙ b.proofs; stage = a.stage ∙ b.stage }

do_both : (steps others lasts : List LogStep) → AllZip DoTheSame steps others → AllZip SayTheSame others lasts → AllZip DoTheSame steps lasts
do_both (step ∷ steps) (other ∷ others) (last ∷ lasts) a b = (does_both step other last a.0 b.0.does, do_both steps others lasts a.1 b.1)
do_both steps others lasts a b = grind arith

ends_both : (one other last : Option LogEnd) → EndTheSame one other → EndTheSame other last → EndTheSame one last
ends_both one other last a b = grind arith

steps_told : (program : Parts) (number : ℕ) (steps : List LogStep) → TellSteps program number steps (steps_texts program number steps)
steps_told program number [] = refl
steps_told program number (step ∷ steps) = ([], steps_texts program (number + 1) steps, tt, steps_told program (number + 1) steps, refl)

log_told : (program : Parts) (log : Log) → TellLog program (start_texts program log ++ (steps_texts program 1 log.steps ++ end_texts program log.end)) log
log_told program log = record { steps = steps_texts program 1 log.steps; remarks = []; tell = steps_told program 1 log.steps; passed = tt; whole = refl }

module _ (program : Parts) (is : IsProgram program) (log : Log) (legal : IsLegal program log) where
  -- A log whose steps are renewed is renewed.
  pub all_renewed : (last : Spot) (bytes text : List ℕ) → AreAllRenewed program log last bytes → text ≡ header program log.height ++ (bytes ++ last_lines program.signature log.end last.state) → IsRenewedAs program log text
  all_renewed last bytes text are is_text =
      let of = legal.of_program in
      let lines = are.lines in
      let end = end_at log.end last.state in
      let new : Log = record log { version = Two; stage = program.start_stage; start = finite.entries program.start; steps = lines.new; end = end } in
      let few = of.few in
      let many = AllZip-long DoTheSame log.steps lines.new lines.does in
      let start = start_texts program new in
      let steps = steps_texts program 1 lines.new in
      let ends = end_texts program end in
      record {
        new = new;
        renews = record {
          version = refl;
          does = record { height = refl; stage = legal.stage; start = legal.start; steps = lines.does; ends = same_end program log.height last log.end are.ending };
          legal = record {
            of_program = record {
              height = of.height;
              stage = subst (λ (stage : ℕ). stage < length program.stages) legal.stage of.stage;
              start = subst (IsListing program.signature) legal.start of.start;
              steps = lines.of_program;
              listed = lines.listed;
              ending = listed_end program log.height last log.end are.ending of.ending;
              lines = of.lines;
              few = omega arith;
            };
            stage = refl;
            start = refl;
            last = last;
            steps = lines.legal;
            ending = legal_end program log.height last log.end are.ending;
          };
        };
        written = is_text ∙ ap (λ front. front ++ (bytes ++ last_lines program.signature log.end last.state)) (header_written program log.height)
            ∙ ap (λ front. flat_map line start ++ (front ++ last_lines program.signature log.end last.state)) lines.written
            ∙ ap (λ behind. flat_map line start ++ (flat_map line steps ++ behind)) (last_written program log.end last.state)
            ∙ ap (λ behind. flat_map line start ++ behind) (sym (flat_map-append line steps ends))
            ∙ sym (flat_map-append line start (steps ++ ends));
      }

  -- Its text, if it is not too long, is read back.
  pub short_enough : (read : (log : Log) (lines : List (List ℕ)) → IsLegal program log → TellLog program lines log → length (flat_map line lines) ≤ MOST_LOG
      → (read : Log) × HasLog program (flat_map line lines) read × IsLegal program read × (read.version ≡ log.version) × TellTheSame SayTheSame log read)
      → (same : (one other : Log) → one.version ≡ other.version → TellTheSame SayTheSame one other → text_of program one ≡ text_of program other)
      → (text : List ℕ) → IsRenewedAs program log text → length text ≤ MOST_LOG → IsRenewedText program log text
  short_enough read same text renewed short =
      let new = renewed.new in
      let renews = renewed.renews in
      let lines = start_texts program new ++ (steps_texts program 1 new.steps ++ end_texts program new.end) in
      let back = read new lines renews.legal (log_told program new) (subst (λ (text : List ℕ). length text ≤ MOST_LOG) renewed.written short) in
      let does = renews.does in
      let says = back.4 in
      record {
        new = back.0;
        renews = record {
          version = back.3 ∙ renews.version;
          does = record {
            height = does.height ∙ says.height;
            stage = does.stage ∙ says.stage;
            start = does.start ∙ says.start;
            steps = do_both log.steps new.steps back.0.steps does.steps says.steps;
            ends = ends_both log.end new.end back.0.end does.ends says.ends;
          };
          legal = back.2;
        };
        read = subst (λ (text : List ℕ). HasLog program text back.0) (sym renewed.written) back.1;
        written = renewed.written ∙ same new back.0 (sym back.3) says;
      }

  -- What is longer than a transcript may be, is too long.
  pub too_long : (text : List ℕ) → IsRenewedAs program log text → MOST_LOG < length text → IsTooLongRenewed program log
  too_long text renewed long = record { new = renewed.new; renews = renewed.renews; long = subst (λ (text : List ℕ). MOST_LOG < length text) renewed.written long }

  -- What is written after all steps is the text of the log renewed.
  pub whole_written : (before after : List ℕ) (last : Spot) (text : List ℕ) → before ≡ header program log.height → AreRenewedOrLong program log before after (Some last)
      → text ≡ after ++ last_lines program.signature log.end last.state → IsRenewedAs program log text
  whole_written before after last text begins comes is_text =
      let bytes = comes.1.0 in
      let end = last_lines program.signature log.end last.state in
      all_renewed last bytes text comes.1.1
      (is_text ∙ ap (λ front. front ++ end) comes.1.2 ∙ append_assoc before bytes end ∙ ap (λ front. front ++ (bytes ++ end)) begins)

  -- A prefix that is too long makes all too long.
  pub front_too_long : (before after : List ℕ) → before ≡ header program log.height → AreRenewedOrLong program log before after None → IsTooLongRenewed program log
  front_too_long before after begins comes =
      let head = header program log.height in
      let bytes = comes.1 in
      let end = last_lines program.signature log.end comes.0.state in
      let long : MOST_LOG < length (head ++ bytes) = subst (λ (front : List ℕ). MOST_LOG < length (front ++ bytes)) begins comes.3 in
      too_long (head ++ (bytes ++ end)) (all_renewed comes.0 bytes (head ++ (bytes ++ end)) comes.2 refl) (omega (arith, long, length-append head bytes, length-append head (bytes ++ end), length-append bytes end))

-- The steps of a legal log are renewed one after another.

module _ (laws : CauseLaws) (program : Parts) (is : IsProgram program) (height : ℕ) where
  all_of_shape : (proofs : List ProofTree) (atoms : List AtomTree) → AreProofs program height proofs atoms → AllByRecursion (IsProofOf program) proofs
  all_of_shape (proof ∷ proofs) (a ∷ atoms) are = (laws.shapes program proof a are.0, all_of_shape proofs atoms are.2)
  all_of_shape proofs atoms are = grind arith

  -- a legal step can be put
  pub legal_put : (old new : Spot) (step : LogStep) → IsStepOf program step → IsLegalStep program height old new step → CanBePut program step
  legal_put old new step of legal = grind (arith, all_of_shape, program.signature.cons, step.offer.values, legal.machine.numbered, legal.machine.values, step.proofs, legal.rule.backs, legal.machine.proved, of.in_range)

  -- it leads to one spot
  legal_leads : (old one other : Spot) (step : LogStep) → IsLegalStep program height old one step → LeadsTo program step old other → one ≡ other
  legal_leads old one other step legal leads =
      let rule : legal.rule ≡ leads.rule = cc (legal.machine.numbered, leads.numbered) in
      let steps = subst (λ (rule : Rule). StepsTo program rule step.offer.values old one) rule legal.machine.steps in
      let state = laws.one_state program.signature leads.rule step.offer.values old.state one.state other.state steps.step leads.steps.step in
      let stage = steps.stage ∙ sym leads.steps.stage in
      λ i. record { stage = stage i; state = state i }

  state_after : (old new : Spot) (step : LogStep) → IsState program.signature old.state → IsLegalStep program height old new step → IsState program.signature new.state
  state_after old new step before legal =
      let machine = legal.machine in
      let rule = legal.rule in
      laws.lead program.signature rule step.offer.values old.state new.state (holds_at (IsTypedRule program.signature) program.rules step.offer.rule rule is.typed_rules machine.numbered)
      (holds_at (IsDividedRule program.signature) program.rules step.offer.rule rule is.divided_rules machine.numbered) machine.values before machine.steps.fit machine.steps.step

  due_holds : (P : List (AtomTree × ℕ) → Type 0) (number : ℕ) (state : Multiset) → P (finite.entries state) → IfSome (due_mid number state) (λ mid. P mid.state)
  due_holds P number state holds = grind (arith, listed)

  due_wanted : (number : ℕ) (state : Multiset) → is_some (due_mid number state) ≡ has_listing Two number
  due_wanted number state = grind (arith, listed)

  -- one step more in front
  lines_more : (number : ℕ) (step : LogStep) (steps : List LogStep) (old new last : Spot) → IsStepOf program step → IsLegalStep program height old new step → IsState program.signature new.state
      → (rest : List ℕ) → AreRenewedLines program height (number + 1) steps new last rest → AreRenewedLines program height number (step ∷ steps) old last (renewed_lines program number step new.state ++ rest)
  lines_more number step steps old new last of legal after rest are =
      let mid = due_mid number new.state in
      let renewed : LogStep = record step { mid = mid } in
      record {
        new = renewed ∷ are.new;
        does = (record { offer = refl; proofs = refl; stage = refl }, are.does);
        of_program = (
          record {
            rule = of.rule;
            numbered = of.numbered;
            values = of.values;
            as_many = of.as_many;
            low = of.low;
            stage = of.stage;
            in_range = of.in_range;
            listing = due_holds (IsListing program.signature) number new.state (laws.listing program.signature new.state after legal.machine.steps.fits);
          },
          are.of_program,
        );
        listed = (due_wanted number new.state, are.listed);
        legal = (new, record { rule = legal.rule; machine = legal.machine; stage = legal.stage; mid = due_holds (λ entries. entries ≡ finite.entries new.state) number new.state refl }, are.legal);
        written = ap (λ front. front ++ rest) (step_written program number step new.state) ∙ ap (λ behind. flat_map line (step_texts program number renewed) ++ behind) are.written
            ∙ sym (flat_map-append line (step_texts program number renewed) (steps_texts program (number + 1) are.new));
      }

  -- all legal steps have lines
  pub lines_there : (number : ℕ) (steps : List LogStep) (old last : Spot) → IsState program.signature old.state → AllByRecursion (IsStepOf program) steps → AreLegalSteps program height steps old last
      → (bytes : List ℕ) × AreRenewedLines program height number steps old last bytes
  lines_there number [] old last before of legal = ([], record { new = []; does = tt; of_program = tt; listed = tt; legal = legal; written = refl })
  lines_there number (step ∷ steps) old last before of legal =
      let after = state_after old legal.0 step before legal.1 in
      let later = lines_there (number + 1) steps legal.0 last after of.1 legal.2 in
      (renewed_lines program number step legal.0.state ++ later.0, lines_more number step steps old legal.0 last of.0 legal.1 after later.0 later.1)

module _ (laws : CauseLaws) (program : Parts) (is : IsProgram program) (log : Log) where
  -- Nothing is renewed yet.
  pub renewing_begins : (before : List ℕ) (spot : Spot) → IsLegal program log → spot ≡ start_spot program → IsSpotOf program spot → IsRenewingAt program log 1 log.steps before before spot
  renewing_begins before spot legal starts here = record {
    here = here;
    last = legal.last;
    of_program = legal.of_program.steps;
    legal = rw starts legal.steps;
    ending = legal.ending;
    whole = λ rest are. (rest, subst (λ (at : Spot). AreRenewedLines program log.height 1 log.steps at legal.last rest) starts are, refl);
  }

  module _ (number : ℕ) (before text : List ℕ) (spot : Spot) where
    -- One step more is renewed.
    pub one_more_renewed : (step : LogStep) (left : List LogStep) → IsRenewingAt program log number (step ∷ left) before text spot → (new : Spot) → LeadsTo program step spot new → IsSpotOf program new
        → IsRenewingAt program log (number + 1) left before (text ++ renewed_lines program number step new.state) new
    one_more_renewed step left at new leads of_program =
        let same : at.legal.0 ≡ new = legal_leads laws program is log.height spot at.legal.0 new step at.legal.1 leads in
        let legal = subst (λ (here : Spot). IsLegalStep program log.height spot here step) same at.legal.1 in
        let lines = renewed_lines program number step new.state in
        record {
          here = of_program;
          last = at.last;
          of_program = at.of_program.1;
          legal = subst (λ (here : Spot). AreLegalSteps program log.height left here at.last) same at.legal.2;
          ending = at.ending;
          whole = λ rest are.
              let more = at.whole (lines ++ rest) (lines_more laws program is log.height number step left spot new at.last at.of_program.0 legal of_program.is_state rest are) in
              (more.0, more.1, more.2 ∙ sym (append_assoc text lines rest));
        }

    -- All steps are renewed.
    pub renewing_ends : (left : List LogStep) → left ≡ [] → IsRenewingAt program log number left before text spot → AreRenewedOrLong program log before text (Some spot)
    renewing_ends [] none at =
        let more = at.whole [] (record { new = []; does = tt; of_program = tt; listed = tt; legal = at.legal; written = refl }) in
        let same : at.last ≡ spot = at.legal in (
          at.here,
          (more.0, subst (λ (last : Spot). AreAllRenewed program log last more.0) same (record { ending = at.ending; lines = more.1 }), sym (more.2 ∙ append-nil text)),
        )
    renewing_ends (step ∷ left) none at = absurd cc

    -- A text that is too long so far is too long with all steps.
    pub renewing_too_long : (left : List LogStep) → IsRenewingAt program log number left before text spot → MOST_LOG < length text → AreRenewedOrLong program log before text None
    renewing_too_long left at long =
        let rest = lines_there laws program is log.height number left spot at.last at.here.is_state at.of_program at.legal in
        let more = at.whole rest.0 rest.1 in
        (at.last, more.0, record { ending = at.ending; lines = more.1 }, omega (arith, long, ap length more.2, length-append text rest.0))

-- A legal log can be renewed in each order.

-- A legal log can be renewed.
renewal : (laws : CauseLaws) (program : Parts) → IsProgram program → (log : Log) → IsLegal program log → (new : Log) × IsRenewal program log new
renewal laws program is log legal =
    let lines = lines_there laws program is log.height 1 log.steps (start_spot program) legal.last is.start legal.of_program.steps legal.steps in
    let renewed = all_renewed program is log legal legal.last lines.0 (header program log.height ++ (lines.0 ++ last_lines program.signature log.end legal.last.state)) (record { ending = legal.ending; lines = lines.1 }) refl in
    (renewed.new, renewed.renews)

-- It can be renewed in an order, or a step of it leads to a state that does not fit.
pub renewal_in_order : (laws : CauseLaws) (program : Parts) (log : Log) (touches : List Touch) (order : List ℕ) → IsProgram program → IsLegal program log → AreTouchesOf program log touches → IsReordering touches order
    → ((new : Log) × IsRenewalIn program order log new) ⊎ ((number : ℕ) × IsUnfitIn program log order number)
renewal_in_order laws program log touches order is legal are reorders =
    let as_long = as_many program (length (start_tokens program.start)) (start_tokens program.start) log.steps touches are in
    let ordered = stand log.steps order (λ place there. let less = (reorders.steps place).0 there in omega arith) in
    ⊎_elim
    (λ (goes : AreLegalSteps program log.height (map unlisted ordered.0) (start_spot program) legal.last).
    let other : Log = record log { version = One; steps = map unlisted ordered.0 } in
    let is_other : IsInOrder log order other = record { steps = record { listed = ordered.0; stand = ordered.1; unlist = refl }; rest = refl } in
    let legal_other = legal_in_order program log touches order other legal are reorders (record { steps = map unlisted ordered.0; last = legal.last; are = is_other.steps; legal = goes; ending = legal.ending }) is_other in
    let renewed = renewal laws program is other legal_other in
    inl (renewed.0, renewed_in_order program log order other renewed.0 is_other renewed.1))
    (λ unfit. inr (unfit.0, record { steps = map unlisted ordered.0; are = record { listed = ordered.0; stand = ordered.1; unlist = refl }; unfit = unfit.1 }))
    (law.legal_in_order (run_of laws program is log legal touches are) order reorders ordered.0 ordered.1)
