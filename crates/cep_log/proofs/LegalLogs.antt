-- A log that holds lawful deeds is legal, and the listing of a state is read as its entries.
use Rattle.std.proofs.Common.{◌≡◌, ◌↔◌, ℕ, ◌<◌, ◌≤◌, List, ◌∷◌, length, sym, ◌∙◌, subst, arith, Option, None, Some, IfSome, IsSome, IsSomeAnd, inr, suc, ◌+◌, [], ◌++◌, map, refl, ap, append_assoc}
use Rattle.std.proofs.lemmas.List.{length-map, append-nil}
use Rattle.std.specs.List.{AllByRecursion, AllZip}
use Rattle.std.specs.declared.cmp.Ordering.TheVariants.{Less}
use Rattle.std.specs.Prelude.{slice_get}
use Rattle.std.specs.FinMap as finite
use Rattle.cep_base.proofs.Lists.{holds_at, all_from_places}
use Rattle.cep_base.specs.declared.limits.TheConstants.{MOST_HEIGHT, MOST_LOG}
use Rattle.cep_term.specs.BagLaws.{BagLaws}
use Rattle.cep_term.specs.Multiset.{Multiset, IsEntry, count_of}
use Rattle.cep_term.specs.Order.{atom_cmp}
use Rattle.cep_term.specs.Tree.{AtomTree, Tree}
use Rattle.cep_rule.specs.Derivations.{ProofTree, proof_height}
use Rattle.cep_rule.specs.Instances.{full_instance, full_instances}
use Rattle.cep_rule.specs.declared.signature.Signature.{Signature}
use Rattle.cep_rule.specs.Limits.{IsHeight}
use Rattle.cep_rule.specs.Stages.{IsQuiet}
use Rattle.cep_rule.specs.Program.{IsTypedRule, IsDividedRule, IsProgram}
use Rattle.cep_rule.specs.Step.{Step}
use Rattle.cep_rule.specs.Steps.{Spot, AreProofs, IsMachineStep, start_spot, MakesFit}
use Rattle.cep_rule.specs.State.{IsState, Fits}
use Rattle.cep_rule.specs.Typing.{AreValues}
use Rattle.cep_rule.specs.declared.offer.Offer.{Offer}
use Rattle.cep_rule.specs.declared.parts.Parts.{Parts}
use Rattle.cep_rule.specs.declared.rule.Rule.{Rule}
use Rattle.cep_log.specs.Holding.{HoldsDeed, HoldsEnd, HoldsDeeds}
use Rattle.cep_log.specs.declared.log.Log.{Log}
use Rattle.cep_log.specs.declared.log.LogEnd.{LogEnd}
use Rattle.cep_log.specs.declared.so_far.SoFar.{SoFar}
use Rattle.cep_log.specs.Legal.{IsListing, IsStepOf, AreLegalSteps, IsLegalEnd, IsLegal, IsHave, AtomsRise}
use Rattle.cep_log.specs.declared.log.LogStep.{LogStep}
use Rattle.cep_log.specs.Transcript.{IsPassedOver, IsBehind, GoesOnListing, Becomes, Leads}
use Rattle.cep_log.specs.declared.log.LogMid.{LogMid}
use Rattle.cep_lines.specs.Lines.{have_text}
use Rattle.cep_lines.specs.declared.end_word.EndWord.{EndWord}
use Rattle.cep_lines.specs.declared.end_word.EndWord.TheVariants.{Quiet}
use Rattle.cep_step.specs.Deeds.{Position, start_of, Deed, IsDeed, AreDeeds}

-- A log that holds lawful deeds is legal.

-- Steps

-- as many are proved as there are derivations
pub as_many_proofs : (program : Parts) (height : ℕ) (proofs : List ProofTree) (atoms : List AtomTree) → AreProofs program height proofs atoms → length proofs ≡ length atoms
as_many_proofs program height (proof ∷ proofs) (a ∷ atoms) are = omega (arith, as_many_proofs program height proofs atoms are.2)
as_many_proofs program height proofs atoms are = grind arith

low_proofs : (program : Parts) (height most : ℕ) → height ≤ most → (proofs : List ProofTree) (atoms : List AtomTree) → AreProofs program height proofs atoms → AllByRecursion (λ proof. proof_height proof ≤ most) proofs
low_proofs program height most low (proof ∷ proofs) (a ∷ atoms) are = ((let here = are.1 in omega (arith, low, here)), (low_proofs program height most low proofs atoms are.2))
low_proofs program height most low proofs atoms are = grind arith

-- Where a spot stands, its state is one of the program's, and fits.
pub record IsKept (program : Parts) (spot : Spot) : Type 0 where
  pub is_state : IsState program.signature spot.state
  pub fits : Fits spot.state

-- The entries of states that fit are listings.
abbrev pub AreListings : Parts → Type 0
AreListings program = (state : Multiset) → IsState program.signature state → Fits state → IsListing program.signature (finite.entries state)

-- Steps that make fit atoms lead from states to states.
abbrev pub LeadToStates : Type 0
LeadToStates =
    (signature : Signature) (rule : Rule) (values : List Tree) (old new : Multiset) → IsTypedRule signature rule → IsDividedRule signature rule → AreValues signature.cons rule.kinds values
    → IsState signature old → MakesFit rule values → Step signature rule values old new → IsState signature new

module _ (lead : LeadToStates) (program : Parts) (kept : IsProgram program) (height : ℕ) (height_is : IsHeight height) where
  -- a step of the machine leads from a state to a state
  pub step_keeps : (old new : Spot) (offer : Offer) (rule : Rule) (proofs : List ProofTree) → IsMachineStep program height old new offer rule proofs → IsKept program old → IsKept program new
  step_keeps old new offer rule proofs is before =
      let typed = holds_at (IsTypedRule program.signature) program.rules offer.rule rule kept.typed_rules is.numbered in
      let divided = holds_at (IsDividedRule program.signature) program.rules offer.rule rule kept.divided_rules is.numbered in
      record {
        is_state = lead program.signature rule offer.values old.state new.state typed divided is.values before.is_state is.steps.fit is.steps.step;
        fits = is.steps.fits;
      }

  -- the step of a deed is one of the program
  step_of : AreListings program → (old new : Spot) (rule : Rule) (step : LogStep) → IsMachineStep program height old new step.offer rule step.proofs → IsKept program new → step.stage ≡ rule.next → IfSome step.mid (λ (mid : LogMid). mid.state ≡ finite.entries new.state) → IsStepOf program step
  step_of listing_of old new rule step is after stage mid = record {
    rule = rule;
    numbered = is.numbered;
    values = is.values;
    as_many = as_many_proofs program height step.proofs (full_instances step.offer.values rule.backs) is.proved ∙ length-map rule.backs (full_instance step.offer.values);
    low = low_proofs program height MOST_HEIGHT height_is.low step.proofs (full_instances step.offer.values rule.backs) is.proved;
    stage = subst (λ (named : Option ℕ). IsSome named ↔ IsSome rule.next) (sym stage) ((λ some. some), (λ some. some));
    in_range = rw stage (holds_at (λ (r : Rule). IfSome r.next (λ other. other < length program.stages)) program.rules step.offer.rule rule kept.in_range.next_stages is.numbered);
    listing = grind arith;
  }

  -- the step of a deed, as the log holds it
  pub held_step : (deed : Deed) (step : LogStep) → IsDeed program height deed → HoldsDeed deed step → IsMachineStep program height deed.before.spot deed.after.spot step.offer deed.rule step.proofs
  held_step deed step is holds = grind (arith, deed.before.spot, deed.after.spot, step.offer, deed.rule, holds.proofs, deed.proofs, holds.offer, is.step)

  -- what holds of steps that hold deeds, one after another
  record AreHeld (steps : List LogStep) (old last : Spot) : Type 0 where
    of_program : AllByRecursion (IsStepOf program) steps
    legal : AreLegalSteps program height steps old last
    kept_last : IsKept program last

  held_steps : AreListings program → (at : Position) (deeds : List Deed) (last : Position) (steps : List LogStep) → AreDeeds program height at deeds last → AllZip HoldsDeed deeds steps → IsKept program at.spot → AreHeld steps at.spot last.spot
  held_steps listing_of at (deed ∷ deeds) last (step ∷ steps) done all before =
      let machine = subst (λ (here : Position). IsMachineStep program height here.spot deed.after.spot step.offer deed.rule step.proofs) done.0 (held_step deed step done.1 all.0) in
      let after = step_keeps at.spot deed.after.spot step.offer deed.rule step.proofs machine before in
      let later = held_steps listing_of deed.after deeds last steps done.2 all.1 after in
      record {
        of_program = ((step_of listing_of at.spot deed.after.spot deed.rule step machine after all.0.stage all.0.mid), later.of_program);
        legal = (deed.after.spot, (record { rule = deed.rule; machine = machine; stage = all.0.stage; mid = all.0.mid }), later.legal);
        kept_last = later.kept_last;
      }
  held_steps listing_of at deeds last steps done all before = grind arith

  -- Ends

  module _ (listing_of : AreListings program) (deeds : List Deed) (last : Position) (word : EndWord) (log : Log)
      (done : AreDeeds program height (start_of program) deeds last) (quiet : word ≡ Quiet → IsQuiet program height last.spot.state last.spot.stage) (holds : HoldsDeeds program height deeds word last.spot.state log) where
    held : AreHeld log.steps (start_spot program) last.spot
    held = held_steps listing_of (start_of program) deeds last log.steps done holds.steps (record { is_state = kept.start; fits = kept.start_fits })

    legal_end : (end : LogEnd) → HoldsEnd word last.spot.state end → IsLegalEnd program height last.spot end
    legal_end end held_end = record { quiet = λ same. quiet (sym held_end.word_is ∙ same); state = held_end.state_is }

    listed_end : (end : LogEnd) → HoldsEnd word last.spot.state end → IsListing program.signature end.state
    listed_end end held_end = subst (IsListing program.signature) (sym held_end.state_is) (listing_of last.spot.state held.kept_last.is_state held.kept_last.fits)

    ends_listed : (end : Option LogEnd) → IsSomeAnd end (HoldsEnd word last.spot.state) → IfSome end (λ it. IsListing program.signature it.state)
    ends_listed None ended = absurd ended
    ends_listed (Some end) ended = listed_end end ended

    pub legal_log : log.lines ≤ MOST_LOG → length log.steps ≤ log.lines → IsLegal program log
    legal_log lines few = record {
      of_program = record {
        height = subst IsHeight (sym holds.height_is) height_is;
        stage = subst (λ stage. stage < length program.stages) (sym holds.stage) kept.in_range.start_stage;
        start = subst (IsListing program.signature) (sym holds.start) (listing_of program.start kept.start kept.start_fits);
        steps = held.of_program;
        listed = holds.listed;
        ending = ends_listed log.end holds.ended;
        lines = lines;
        few = few;
      };
      stage = holds.stage;
      start = holds.start;
      last = last.spot;
      steps = subst (λ height. AreLegalSteps program height log.steps (start_spot program) last.spot) (sym holds.height_is) held.legal;
      ending = subst (λ height. IsSomeAnd log.end (IsLegalEnd program height last.spot)) (sym holds.height_is) (grind (arith, legal_end));
    }

-- The listing of a state, as it is written, is read as its entries.

-- The entries of a state that fits are a listing.

rise_by_places : (entries : List (AtomTree × ℕ)) → ((i j : ℕ) (e f : AtomTree × ℕ) → i < j → slice_get entries i ≡ Some e → slice_get entries j ≡ Some f → atom_cmp e.0 f.0 ≡ Less) → AtomsRise entries
rise_by_places [] each = tt
rise_by_places (entry ∷ entries) each = (
  all_from_places (λ later. atom_cmp entry.0 later.0 ≡ Less) entries (λ n later at. each 0 (suc n) entry later (omega arith) refl at),
  rise_by_places entries (λ i j e f h at at'. each (suc i) (suc j) e f (omega arith) at at'),
)

pub state_listing : (laws : BagLaws) (signature : Signature) (state : Multiset) → IsState signature state → Fits state → IsListing signature (finite.entries state)
state_listing laws signature state is fits = record {
  each = all_from_places (IsHave signature) (finite.entries state) (λ n entry at.
      let there = holds_at IsEntry (finite.entries state) n entry is.bag at in
      let counted : count_of state entry.0 ≡ entry.1 = laws.entry_counted state n entry.0 entry.1 at in
      let atom = is.each entry.0 (subst (λ m. 0 < m) (sym counted) there.0) in
      let some = there.0 in
      let few = laws.within state entry.0 in
      let copies = fits.copies in
      record { atom = record { is_ground = there.1; typed = atom.typed }; fit = atom.fit; some = omega arith; few = omega arith });
  rising = rise_by_places (finite.entries state) (λ i j e f h at at'. laws.earlier_is_less state i j e.0 f.0 e.1 f.1 h at at');
}

-- Its lines are read one after another.

behind_others : (old : List (AtomTree × ℕ)) (entry : AtomTree × ℕ) (later : List (AtomTree × ℕ)) → AtomsRise (old ++ entry ∷ later) → IsBehind old entry.0
behind_others (first ∷ next ∷ old) entry later rise = grind (arith, entry.0, behind_others (next ∷ old) entry later rise.1, rise.1)
behind_others old entry later rise = grind arith

have_at : (signature : Signature) (old : List (AtomTree × ℕ)) (entry : AtomTree × ℕ) (later : List (AtomTree × ℕ)) → AllByRecursion (IsHave signature) (old ++ entry ∷ later) → IsHave signature entry
have_at signature [] entry later all = all.0
have_at signature (first ∷ old) entry later all = have_at signature old entry later all.1

not_over : (signature : Signature) (entry : AtomTree × ℕ) → ¬ (IsPassedOver (have_text signature entry))
not_over signature entry e = omega arith

goes_on : (program : Parts) (old : List (AtomTree × ℕ)) (entry : AtomTree × ℕ) (later : List (AtomTree × ℕ)) → IsListing program.signature (old ++ entry ∷ later) → GoesOnListing program (have_text program.signature entry) old (old ++ entry ∷ [])
goes_on program old entry later is = grind (arith, have_at, behind_others, program.signature, is.each, entry.0, is.rising)

-- entry after entry, wherever a listing is gone on with
pub listing_read : (program : Parts) (place : List (AtomTree × ℕ) → SoFar) → ((number : ℕ) (line : List ℕ) (old new : List (AtomTree × ℕ)) → GoesOnListing program line old new → Becomes program number line (place old) (place new))
    → (number : ℕ) (old entries : List (AtomTree × ℕ)) → IsListing program.signature (old ++ entries) → Leads program number (map (have_text program.signature) entries) (place old) (place (old ++ entries))
listing_read program place next number old [] is = ap place (append-nil old)
listing_read program place next number old (entry ∷ entries) is =
    let whole = append_assoc old (entry ∷ []) entries in (
      place (old ++ entry ∷ []),
      inr (not_over program.signature entry, next number (have_text program.signature entry) old (old ++ entry ∷ []) (goes_on program old entry entries is)),
      rw whole at (listing_read program place next (number + 1) (old ++ entry ∷ []) entries (rw whole is)),
    )

-- Ways are joined.
pub ways_join : (program : Parts) (number : ℕ) (lines later : List (List ℕ)) (one mid last : SoFar) → Leads program number lines one mid → Leads program (number + length lines) later mid last → Leads program number (lines ++ later) one last
ways_join program number [] later one mid last a b = grind arith
ways_join program number (line ∷ lines) later one mid last a b = (a.0, a.1, ways_join program (number + 1) lines later a.0 mid last a.2 (subst (λ (n : ℕ). Leads program n later mid last) (omega arith) b))
