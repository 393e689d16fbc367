-- A legal log can be written, and is read as a log that says the same.
use Rattle.std.proofs.Common.{◌≡◌, ℕ, ◌<◌, ◌≤◌, List, [], ◌∷◌, length, Option, Some, sym, ap, ◌∙◌, subst, arith, inl, inr, ◌+◌, cond, ◌++◌, map, Bool, true, false, None, refl, append_assoc, length-append}
use Rattle.std.proofs.lemmas.Bool.{le-leb}
use Rattle.std.proofs.lemmas.List.{append-nil}
use Rattle.std.proofs.lemmas.Slice.Zip.{AllZip-long}
use Rattle.std.specs.List.{AllByRecursion, AllZip, flat_map}
use Rattle.std.specs.Prelude.{slice_get, IfSome, IsSomeAnd, is_some}
use Rattle.cep_base.proofs.Elements.{both_all}
use Rattle.cep_base.proofs.Options.{some_there}
use Rattle.cep_base.proofs.Lists.{all_weaker, some_same, holds_at, none_some}
use Rattle.cep_base.specs.declared.limits.TheConstants.{MOST_HEIGHT, MOST_LOG}
use Rattle.cep_term.specs.Multiset.{Multiset, IsContained}
use Rattle.cep_term.specs.Tree.{Tree, AtomTree}
use Rattle.cep_rule.specs.Derivations.{ProofTree, Proves, IsDerivable}
use Rattle.cep_rule.specs.Steps.{Spot, MakesFit, AreProofs, start_spot}
use Rattle.cep_rule.specs.declared.offer.Offer.{Offer}
use Rattle.cep_rule.specs.Instances.{full_instances, left_of}
use Rattle.cep_rule.specs.Typing.{AreValues}
use Rattle.cep_rule.specs.declared.parts.Parts.{Parts}
use Rattle.cep_rule.specs.declared.signature.Signature.{Signature}
use Rattle.cep_rule.specs.Limits.{IsHeight}
use Rattle.cep_rule.specs.Offers.{Applies}
use Rattle.cep_rule.specs.Step.{Step}
use Rattle.cep_rule.specs.declared.rule.Rule.{Rule}
use Rattle.cep_rule.specs.Program.{IsTypedRule, IsDividedRule, IsProgram}
use Rattle.cep_rule.specs.Shapes.{IsOfferOf, IsProofOf, IsSmallTerm, HasSmallValues}
use Rattle.cep_rule.specs.State.{IsState}
use Rattle.cep_log.proofs.LegalLogs.{listing_read, ways_join}
use Rattle.cep_log.proofs.SameLogs.{written_lines, legal_too}
use Rattle.cep_log.proofs.LineTexts.{version_one, height_one, stage_text_one, step_text_one, haves_one, bys_one, stages_one, mids_one, ends_one}
use Rattle.cep_log.specs.Legal.{IsListing, IsStepOf, IsLegalStep, AreLegalSteps, HaveListings, IsLegal}
use Rattle.cep_log.specs.declared.so_far.SoFar.{SoFar}
use Rattle.cep_log.specs.Transcript.{IsReadable, IsByLine, MovesOn, Leads, stage_texts, has_own_lines, with_own, with_step, step_begun, log_listed, IsOneLine, HasLog, log_begun, mid_begun, end_begun, next_number, log_with}
use Rattle.cep_log.specs.Written.{start_texts, mid_texts, step_texts, end_texts, IsRemark, TellSteps, TellLog, ListTheSame, SayTheSame, EndTheSame, TellTheSame}
use Rattle.cep_log.specs.declared.log.Log.{Log}
use Rattle.cep_log.specs.declared.log.LogEnd.{LogEnd}
use Rattle.cep_log.specs.declared.log.LogMid.{LogMid}
use Rattle.cep_log.specs.declared.log.LogStep.{LogStep}
use Rattle.cep_log.specs.declared.so_far.SoFar.TheVariants.{Nothing, Begun, Height, Whole, Within, Unlisted, Listed, Ended}
use Rattle.cep_lines.specs.Lines.{step_text, by_text, line, has_listing, height_text, stage_text, have_text, state_text, end_text}
use Rattle.cep_text.specs.Texts.{proof_text}

-- The steps of a legal log can be written and read back.

-- A step can be written and read back.
pub record IsWritable (program : Parts) (step : LogStep) : Type 0 where
  pub rule : Rule
  pub numbered : slice_get program.rules step.offer.rule ≡ Some rule
  pub of_rule : IsOfferOf program step.offer
  pub small : AllByRecursion IsSmallTerm step.offer.values
  pub as_many : length step.proofs ≡ length rule.backs
  pub readable : AllByRecursion (IsReadable program) step.proofs
  pub stage : step.stage ≡ rule.next
  pub in_range : IfSome step.stage (λ stage. stage < length program.stages)
  pub listing : IfSome step.mid (λ mid. IsListing program.signature mid.state)

-- Steps lead from states to states and take what is there, derivations have the program's shape, and values are small.
pub record StepLaws : Type 0 where
  pub lead : (signature : Signature) (rule : Rule) (values : List Tree) (old new : Multiset) → IsTypedRule signature rule → IsDividedRule signature rule → AreValues signature.cons rule.kinds values
      → IsState signature old → MakesFit rule values → Step signature rule values old new → IsState signature new
  pub contained : (signature : Signature) (rule : Rule) (values : List Tree) (old new : Multiset) → Step signature rule values old new → IsContained (left_of signature rule values) old
  pub shapes : (program : Parts) (proof : ProofTree) (a : AtomTree) → Proves program proof a → IsProofOf program proof
  pub small_offers : (program : Parts) (height : ℕ) (state : Multiset) (offer : Offer) → IsProgram program → IsState program.signature state → Applies program height state offer → AllByRecursion IsSmallTerm offer.values
  pub small_proofs : (program : Parts) (proof : ProofTree) (a : AtomTree) → IsProgram program → Proves program proof a → HasSmallValues proof

module _ (laws : StepLaws) (program : Parts) (is : IsProgram program) (height : ℕ) (low : height ≤ MOST_HEIGHT) where
  all_readable : (proofs : List ProofTree) (atoms : List AtomTree) → AreProofs program height proofs atoms → AllByRecursion (IsReadable program) proofs
  all_readable (proof ∷ proofs) (a ∷ atoms) are = grind (arith, laws.shapes, are.0, laws.small_proofs, are.1, all_readable proofs atoms are.2, are.2)
  all_readable proofs atoms are = grind arith

  all_derivable : (proofs : List ProofTree) (atoms : List AtomTree) → AreProofs program height proofs atoms → AllByRecursion (IsDerivable program height) atoms
  all_derivable (proof ∷ proofs) (a ∷ atoms) are = (record { proof = proof; proves = are.0; low = are.1 }, all_derivable proofs atoms are.2)
  all_derivable proofs atoms are = grind arith

  writable : (old new : Spot) (step : LogStep) → IsState program.signature old.state → IsStepOf program step → IsLegalStep program height old new step → IsWritable program step
  writable old new step before of legal =
      let machine = legal.machine in
      let rule = legal.rule in
      let backs = full_instances step.offer.values rule.backs in
      let applies : Applies program height old.state step.offer = record {
        rule = rule;
        numbered = machine.numbered;
        values = machine.values;
        contained = laws.contained program.signature rule step.offer.values old.state new.state machine.steps.step;
        derivable = all_derivable step.proofs backs machine.proved;
      } in
      record {
        rule = rule;
        numbered = machine.numbered;
        of_rule = subst (λ (found : Option Rule). IsSomeAnd found (λ rule. AreValues program.signature.cons rule.kinds step.offer.values)) (sym machine.numbered) machine.values;
        small = laws.small_offers program height old.state step.offer is before applies;
        as_many = of.as_many ∙ ap (λ (rule : Rule). length rule.backs) (some_same of.rule rule (sym of.numbered ∙ machine.numbered));
        readable = all_readable step.proofs backs machine.proved;
        stage = legal.stage;
        in_range = of.in_range;
        listing = of.listing;
      }

  state_after : (old new : Spot) (step : LogStep) → IsState program.signature old.state → IsLegalStep program height old new step → IsState program.signature new.state
  state_after old new step before legal =
      let machine = legal.machine in
      let rule = legal.rule in
      laws.lead program.signature rule step.offer.values old.state new.state (holds_at (IsTypedRule program.signature) program.rules step.offer.rule rule is.typed_rules machine.numbered)
      (holds_at (IsDividedRule program.signature) program.rules step.offer.rule rule is.divided_rules machine.numbered) machine.values before machine.steps.fit machine.steps.step

  -- All legal steps from a state can be written and read back.
  pub all_writable : (steps : List LogStep) (old last : Spot) → IsState program.signature old.state → AllByRecursion (IsStepOf program) steps → AreLegalSteps program height steps old last → AllByRecursion (IsWritable program) steps
  all_writable [] old last before of legal = tt
  all_writable (step ∷ steps) old last before of legal = grind (arith, writable old legal.0 step before of.0 legal.1, state_after old legal.0 step before legal.1, legal.0, of.0, legal.1, all_writable steps legal.0 last (state_after old legal.0 step before legal.1) of.1 legal.2, of.1, legal.2)

-- The lines of a step, as they are written, are read as the step.

-- the log after which a step or the end is next
abbrev pub whole_log : SoFar → Option Log
whole_log Nothing = None
whole_log (Begun version) = None
whole_log (Height version height) = None
whole_log (Whole log) = Some log
whole_log (Within log step) = None
whole_log (Unlisted log step) = None
whole_log (Listed log step mid) = Some (log_listed log step mid)
whole_log (Ended log end) = None

-- What begins after the log may stand next.

module _ (program : Parts) (log : Log) (rule : Rule) where
  joined_own : (step : LogStep) → has_own_lines rule step ≡ true → with_step rule log step ≡ with_own log step
  joined_own step own = ap (λ (is : Bool). cond is (with_own log step) (Within log step)) own

  joined_within : (step : LogStep) → has_own_lines rule step ≡ false → with_step rule log step ≡ Within log step
  joined_within step own = ap (λ (is : Bool). cond is (with_own log step) (Within log step)) own

  -- the stage after all derivations
  stage_read : (n : ℕ) (step : LogStep) (next : Option ℕ) → rule.next ≡ next → slice_get program.rules step.offer.rule ≡ Some rule → step.stage ≡ None → length step.proofs ≡ length rule.backs
      → ((stage : ℕ) → next ≡ Some stage → stage < length program.stages)
      → Leads program n (stage_texts program next) (with_step rule log step) (with_own log (record step { stage = next }))
  stage_read n step None is numbered no_stage all within = grind (arith, le-leb, joined_own, rule.backs, step.proofs, rule.next, step.stage)
  stage_read n step (Some stage) is numbered no_stage all within = grind (arith, le-leb, joined_within, joined_own, rule.backs, step.proofs, rule.next, step.stage)

  -- the derivations that are left, and the stage
  own_read : (n : ℕ) (step : LogStep) (left : List ProofTree) → slice_get program.rules step.offer.rule ≡ Some rule → step.stage ≡ None → length step.proofs + length left ≡ length rule.backs
      → AllByRecursion (IsReadable program) left → ((stage : ℕ) → rule.next ≡ Some stage → stage < length program.stages)
      → Leads program n (map (by_text program) left ++ stage_texts program rule.next) (with_step rule log step)
      (with_own log (record step { proofs = step.proofs ++ left; stage = rule.next }))
  own_read n step [] numbered no_stage all readable within = grind (arith, append-nil, stage_read, rule.next, step.proofs)
  own_read n step (proof ∷ left) numbered no_stage all readable within =
      let few : length step.proofs < length rule.backs = omega arith in
      let lacks : has_own_lines rule step ≡ false = grind arith in
      let longer = length-append step.proofs (proof ∷ []) in
      let said : IsByLine program (by_text program proof) proof = record { text = proof_text program proof; proof_is = record { of_clauses = readable.0.of_clauses; small = readable.0.small; low = readable.0.low; text = refl }; written = refl } in (
        with_step rule log (record step { proofs = step.proofs ++ proof ∷ [] }),
        subst (λ so_far. MovesOn program n (by_text program proof) so_far (with_step rule log (record step { proofs = step.proofs ++ proof ∷ [] }))) (sym (joined_within step lacks))
            (inr ((λ e. omega arith), record { rule = rule; numbered = numbered; own = inl (proof, few, said, refl) })),
        subst (λ proofs. Leads program (n + 1) (map (by_text program) left ++ stage_texts program rule.next) (with_step rule log (record step { proofs = step.proofs ++ proof ∷ [] })) (with_own log (record step { proofs = proofs; stage = rule.next }))) (append_assoc step.proofs (proof ∷ []) left)
            (own_read (n + 1) (record step { proofs = step.proofs ++ proof ∷ [] }) left numbered no_stage (omega arith) readable.1 within),
      )

  -- A step, whole.
  pub step_read : (n : ℕ) (so_far : SoFar) → whole_log so_far ≡ Some log → (offer : Offer) (proofs : List ProofTree) → slice_get program.rules offer.rule ≡ Some rule → IsOfferOf program offer → AllByRecursion IsSmallTerm offer.values → length proofs ≡ length rule.backs
      → AllByRecursion (IsReadable program) proofs → ((stage : ℕ) → rule.next ≡ Some stage → stage < length program.stages)
      → Leads program n (step_text program offer ∷ (map (by_text program) proofs ++ stage_texts program rule.next)) so_far
      (with_own log (record { line = n; offer = offer; proofs = proofs; stage = rule.next; mid = None }))
  step_read n so_far whole offer proofs numbered of small all readable within = (
    with_step rule log (step_begun n offer),
    inr (
      (λ e. omega arith),
      (grind (arith, none_some, some_same)),
    ),
    own_read (n + 1) (step_begun n offer) proofs numbered refl (omega arith) readable within,
  )

-- A legal log, as it is written line by line, is read as a log that says the same.

-- Numbers of lines

-- each line has its LF
pub few_lines : (lines : List (List ℕ)) → length lines ≤ length (flat_map line lines)
few_lines [] = omega arith
few_lines (text ∷ lines) = omega (arith, few_lines lines, length-append (text ++ 10 ∷ []) (flat_map line lines), length-append text (10 ∷ []))

steps_long : (program : Parts) (number : ℕ) (steps : List LogStep) (lines : List (List ℕ)) → TellSteps program number steps lines → length steps ≤ length lines
steps_long program number [] lines told = omega arith
steps_long program number (step ∷ steps) lines told = grind (arith, length-append, told.0, step.proofs, step.stage, step.mid, steps_long program (number + 1) steps told.1 told.3, told.1, told.3, told.4)

-- Each step has a line of its own.
pub log_long : (program : Parts) (log : Log) (lines : List (List ℕ)) → TellLog program lines log → length log.steps ≤ length lines
log_long program log lines tells = grind (arith, steps_long, length-append, tells.remarks, log.end, log.steps, tells.steps, tells.tell, tells.whole)

-- Remarks

remarks_over : (program : Parts) (number : ℕ) (lines : List (List ℕ)) (so_far : SoFar) → AllByRecursion IsRemark lines → Leads program number lines so_far so_far
remarks_over program number [] so_far all = refl
remarks_over program number (remark ∷ lines) so_far all = (so_far, inl (all.0.passed, refl), remarks_over program (number + 1) lines so_far all.1)

remarks_one : (lines : List (List ℕ)) → AllByRecursion IsRemark lines → AllByRecursion IsOneLine lines
remarks_one lines all = all_weaker IsRemark IsOneLine lines (λ remark is. is.one) all

-- Listings after steps

-- The lines are read as the step's listing, after which all of the log stands.
record ReadsMid (program : Parts) (number : ℕ) (lines : List (List ℕ)) (log : Log) (own : LogStep) (mid : Option LogMid) : Type 0 where
  read : Option LogMid
  lists : ListTheSame mid read
  front : SoFar
  whole : whole_log front ≡ Some (log_with log (record own { mid = read }))
  leads : Leads program number lines (with_own log own) front

mid_told : (program : Parts) (number : ℕ) (log : Log) (own : LogStep) (mid : Option LogMid) → own.mid ≡ None → IfSome mid (λ mid. IsListing program.signature mid.state)
    → is_some mid ≡ has_listing log.version (next_number log) → ReadsMid program number (mid_texts program (next_number log) mid) log own mid
mid_told program number log own None unlisted listing wants = grind arith
mid_told program number log own (Some mid) unlisted listing wants =
    let front = Listed log own (record { line = number; state = mid.state }) in
    let lines = state_text (next_number log) ∷ map (have_text program.signature) mid.state in
    record {
      read = Some (record { line = number; state = mid.state });
      lists = refl;
      front = front;
      whole = refl;
      leads = subst (λ old. Leads program number lines old front) (ap (λ (is : Bool). cond is (Unlisted log own) (Whole (log_with log own))) wants)
          (Listed log own (mid_begun number), inr ((λ over. omega (arith, over)), (refl, refl)), listing_read program (λ state. Listed log own (record { line = number; state = state })) (λ n line old new goes. inl (record { state = new; listed = goes; more = refl })) (number + 1) [] mid.state listing);
    }

-- Steps

-- The lines are read as the step, after which all of the log stands.
record ReadsStep (program : Parts) (number : ℕ) (lines : List (List ℕ)) (old : SoFar) (log : Log) (step : LogStep) : Type 0 where
  read : LogStep
  says : SayTheSame step read
  front : SoFar
  whole : whole_log front ≡ Some (log_with log read)
  leads : Leads program number lines old front

-- The lines are read as the steps, one after another.
record ReadsSteps (program : Parts) (number : ℕ) (lines : List (List ℕ)) (old : SoFar) (log : Log) (steps : List LogStep) : Type 0 where
  read : List LogStep
  say : AllZip SayTheSame steps read
  front : SoFar
  whole : whole_log front ≡ Some (record log { steps = log.steps ++ read })
  leads : Leads program number lines old front

module _ (program : Parts) where
  step_told : (number : ℕ) (old : SoFar) (log : Log) → whole_log old ≡ Some log → (step : LogStep) → IsWritable program step → is_some step.mid ≡ has_listing log.version (next_number log)
      → ReadsStep program number (step_texts program (next_number log) step) old log step
  step_told number old log whole step is wants =
      let bys = map (by_text program) step.proofs in
      let stages = stage_texts program step.stage in
      let mids = mid_texts program (next_number log) step.mid in
      let own : LogStep = record { line = number; offer = step.offer; proofs = step.proofs; stage = step.stage; mid = None } in
      let own_lines = step_text program step.offer ∷ (bys ++ stages) in
      let first : Leads program number own_lines old (with_own log own) =
      subst (λ (stage : Option ℕ). Leads program number (step_text program step.offer ∷ (bys ++ stage_texts program stage)) old (with_own log (record { line = number; offer = step.offer; proofs = step.proofs; stage = stage; mid = None }))) (sym is.stage)
      (step_read program log is.rule number old whole step.offer step.proofs is.numbered is.of_rule is.small is.as_many is.readable
      (λ stage same. subst (λ (found : Option ℕ). IfSome found (λ stage. stage < length program.stages)) (is.stage ∙ same) is.in_range)) in
      let second = mid_told program (number + length own_lines) log own step.mid refl is.listing wants in
      record {
        read = record own { mid = second.read };
        says = record { does = record { offer = refl; proofs = refl; stage = refl }; lists = second.lists };
        front = second.front;
        whole = second.whole;
        leads = subst (λ lines. Leads program number (step_text program step.offer ∷ lines) old second.front) (append_assoc bys stages mids)
            (ways_join program number own_lines mids old (with_own log own) second.front first second.leads);
      }

  steps_told : (number : ℕ) (old : SoFar) (log : Log) → whole_log old ≡ Some log → (steps : List LogStep) (lines : List (List ℕ)) → AllByRecursion (IsWritable program) steps
      → HaveListings log.version (next_number log) steps → TellSteps program (next_number log) steps lines → ReadsSteps program number lines old log steps
  steps_told number old log whole [] lines are listed told = grind (arith, whole_log old, append-nil log.steps, log.steps)
  steps_told number old log whole (step ∷ steps) lines are listed told =
      let remarks = told.0 in
      let later = told.1 in
      let own = step_texts program (next_number log) step in
      let n = number + length remarks in
      let first = step_told n old log whole step are.0 listed.0 in
      let numbered : next_number log + 1 ≡ next_number (log_with log first.read) = omega (arith, (length-append log.steps (first.read ∷ []))) in
      let rest = steps_told (n + length own) first.front (log_with log first.read) first.whole steps later are.1
      (subst (λ (k : ℕ). HaveListings log.version k steps) numbered listed.1) (subst (λ (k : ℕ). TellSteps program k steps later) numbered told.3) in
      record {
        read = first.read ∷ rest.read;
        say = (first.says, rest.say);
        front = rest.front;
        whole = subst (λ read. whole_log rest.front ≡ Some (record log { steps = read })) (append_assoc log.steps (first.read ∷ []) rest.read) rest.whole;
        leads = subst (λ lines. Leads program number lines old rest.front) (sym told.4)
            (ways_join program number remarks (own ++ later) old old rest.front (remarks_over program number remarks old told.2)
            (ways_join program n own later old first.front rest.front first.leads rest.leads));
      }

  steps_one : IsProgram program → (number : ℕ) (steps : List LogStep) (lines : List (List ℕ)) → AllByRecursion (IsWritable program) steps → TellSteps program number steps lines → AllByRecursion IsOneLine lines
  steps_one is number [] lines are told = rw told tt
  steps_one is number (step ∷ steps) lines are told =
      let stages = stage_texts program step.stage in
      let mids = mid_texts program number step.mid in
      let own : AllByRecursion IsOneLine (step_texts program number step) = (
        step_text_one program is step.offer are.0.of_rule,
        both_all IsOneLine (map (by_text program) step.proofs) (stages ++ mids) (bys_one program is step.proofs are.0.readable)
            (both_all IsOneLine stages mids (stages_one program is step.stage are.0.in_range) (mids_one program is number step.mid are.0.listing)),
      ) in
      rw told.4 (both_all IsOneLine told.0 (step_texts program number step ++ told.1) (remarks_one told.0 told.2)
      (both_all IsOneLine (step_texts program number step) told.1 own (steps_one is (number + 1) steps told.1 are.1 told.3)))

-- The header and the end

-- the log with its start listing, as it is read
abbrev log_started : Log → Log
log_started log = record (log_begun log.version log.height 3 log.stage) { start = log.start }

-- The lines are read as the end, after which nothing is left.
record ReadsEnd (program : Parts) (number : ℕ) (lines : List (List ℕ)) (old : SoFar) (log : Log) (end : LogEnd) : Type 0 where
  read : LogEnd
  word : end.word ≡ read.word
  state : end.state ≡ read.state
  leads : Leads program number lines old (Ended log read)

module _ (program : Parts) where
  start_told : (log : Log) → IsHeight log.height → log.stage < length program.stages → IsListing program.signature log.start → Leads program 1 (start_texts program log) Nothing (Whole (log_started log))
  start_told log height stage start =
      let begun = log_begun log.version log.height 3 log.stage in
      let third : Leads program 3 (stage_text program log.stage ∷ map (have_text program.signature) log.start) (Height log.version log.height) (Whole (log_started log)) =
      (Whole begun, inr ((λ over. omega (arith, over)), (log.stage, record { in_range = stage; written = refl }, refl)), listing_read program (λ start. Whole (record begun { start = start })) (λ n line old new goes. inl (record { first = refl; start = new; listed = goes; whole = refl })) 4 [] log.start start) in
      let second : Leads program 2 (height_text log.height ∷ (stage_text program log.stage ∷ map (have_text program.signature) log.start)) (Begun log.version) (Whole (log_started log)) =
      (Height log.version log.height, inr ((λ over. omega (arith, over)), (log.height, height, refl, refl)), third) in
      (Begun log.version, inr (grind arith, (log.version, refl, refl)), second)

  end_told : (number : ℕ) (old : SoFar) (log : Log) → whole_log old ≡ Some log → (end : LogEnd) → IsListing program.signature end.state → ReadsEnd program number (end_text end.word ∷ map (have_text program.signature) end.state) old log end
  end_told number old log whole end listing = grind (arith, listing_read program (λ state. Ended log (record (end_begun number end.word) { state = state })) (λ n line old new goes. record { state = new; listed = goes; ended = refl }) (number + 1) [] end.state listing)

-- Logs

-- What is read of a text: a legal log that says the same.
abbrev pub IsReadBack : Parts → Log → List (List ℕ) → Type 0
IsReadBack program log lines = (read : Log) × HasLog program (flat_map line lines) read × IsLegal program read × (read.version ≡ log.version) × TellTheSame SayTheSame log read

module _ (laws : StepLaws) (program : Parts) (is : IsProgram program) where
  log_one : (log : Log) (lines : List (List ℕ)) → IsLegal program log → TellLog program lines log → AllByRecursion (IsWritable program) log.steps → AllByRecursion IsOneLine lines
  log_one log lines legal tells are = grind (arith, version_one log.version, height_one log.height, stage_text_one, haves_one, both_all, steps_one program is 1 log.steps tells.steps are tells.tell, remarks_one tells.remarks tells.passed, ends_one)

  read_ended : (log : Log) (lines : List (List ℕ)) (end : LogEnd) → log.end ≡ Some end → IsLegal program log → TellLog program lines log → length (flat_map line lines) ≤ MOST_LOG → IsReadBack program log lines
  read_ended log lines end ended legal tells short =
      let of = legal.of_program in
      let are = all_writable laws program is log.height of.height.low log.steps (start_spot program) legal.last is.start of.steps legal.steps in
      let begun = log_started log in
      let head = start_texts program log in
      let ends = end_text end.word ∷ map (have_text program.signature) end.state in
      let first = start_told program log of.height of.stage of.start in
      let n = 1 + length head in
      let second = steps_told program n (Whole begun) begun refl log.steps tells.steps are of.listed tells.tell in
      let m = n + length tells.steps in
      let over = remarks_over program m tells.remarks second.front tells.passed in
      let listing : IsListing program.signature end.state = subst (λ (end : Option LogEnd). IfSome end (λ end. IsListing program.signature end.state)) ended of.ending in
      let last = end_told program (m + length tells.remarks) second.front (record begun { steps = second.read }) second.whole end listing in
      let new = Ended (record begun { steps = second.read }) last.read in
      let whole : lines ≡ head ++ (tells.steps ++ (tells.remarks ++ ends)) = tells.whole ∙ ap (λ (end : Option LogEnd). head ++ (tells.steps ++ (tells.remarks ++ end_texts program end))) ended in
      let leads : Leads program 1 lines Nothing new = subst (λ lines. Leads program 1 lines Nothing new) (sym whole)
      (ways_join program 1 head (tells.steps ++ (tells.remarks ++ ends)) Nothing (Whole begun) new first
      (ways_join program n tells.steps (tells.remarks ++ ends) (Whole begun) second.front new second.leads
      (ways_join program m tells.remarks ends second.front second.front new over last.leads))) in
      let read : Log = record begun { steps = second.read; end = Some last.read; lines = length lines } in
      let same : TellTheSame SayTheSame log read = record {
        height = refl;
        stage = refl;
        start = refl;
        steps = second.say;
        ends = subst (λ (one : Option LogEnd). EndTheSame one (Some last.read)) (sym ended) (last.word, last.state);
      } in
      let few : length lines ≤ MOST_LOG = omega (arith, short, few_lines lines) in
      let long : length second.read ≤ length lines = omega (arith, AllZip-long SayTheSame log.steps second.read second.say, log_long program log lines tells) in (
        read,
        record { short = short; lines = lines; cut = written_lines lines (log_one log lines legal tells are); last = new; leads = leads; said = refl },
        legal_too program log read legal refl same few long,
        refl,
        same,
      )

  -- A legal log has an end, so all of it is read back.
  pub log_read : (log : Log) (lines : List (List ℕ)) → IsLegal program log → TellLog program lines log → length (flat_map line lines) ≤ MOST_LOG → IsReadBack program log lines
  log_read log lines legal tells short =
      let end = some_there log.end _ legal.ending in
      read_ended log lines end.0 end.1 legal tells short
