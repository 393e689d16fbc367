-- A legal log in an order is a legal log and comes to one answer; the written order, in which it is renewed, is one of the orders.
use Rattle.std.proofs.Common.{◌≡◌, ◌⊎◌, ⊎_elim, ℕ, suc, ◌+◌, ◌-◌, ◌<◌, ◌≤◌, List, [], ◌∷◌, ◌++◌, map, length, take, refl, sym, ap, ◌∙◌, subst, arith, Contains, inl, inr, Bool, false, drop, length-append, Some, zero}
use Rattle.std.proofs.lemmas.Grind.{common_steps}
use Rattle.std.specs.Prelude.{slice_get, ◌↔◌, IsTrue}
use Rattle.std.specs.List.{AllByRecursion, AllZip, range_with_len}
use Rattle.cep_base.proofs.Lists.{some_same, all_mapped, all_from_places, holds_at, get_mapped, none_some}
use Rattle.cep_base.proofs.Drops.{drop_at}
use Rattle.cep_base.proofs.Elements.{contains_none, contains_cases, contains_same, contains_behind, contains_at, all_of}
use Rattle.cep_rule.specs.declared.parts.Parts.{Parts}
use Rattle.cep_rule.specs.Steps.{start_spot, Spot}
use Rattle.cep_rule.specs.Program.{IsProgram}
use Rattle.cep_step.specs.Spots.{IsSpotOf}
use Rattle.cep_lines.specs.declared.version.Version.TheVariants.{One}
use Rattle.cep_lines.specs.Lines.{header}
use Rattle.std.proofs.lemmas.Bool.{false≢true}
use Rattle.std.proofs.lemmas.List.{drop_all}
use Rattle.cep_log.specs.declared.log.Log.{Log}
use Rattle.cep_log.specs.declared.log.LogStep.{LogStep}
use Rattle.cep_log.specs.Legal.{IsStepOf, HaveListings, AreLegalSteps, IsLegal, IsLegalStep}
use Rattle.cep_log.specs.Written.{DoTheSame, EndTheSame, IsRenewal, text_of}
use Rattle.cep_base.specs.declared.limits.TheConstants.{MOST_LOG}
use Rattle.cep_cause.specs.Touches.{Touch, AreTouchesOf}
use Rattle.cep_cause.specs.Tokens.{start_tokens}
use Rattle.cep_cause.specs.Renewed.{IsRenewedText, IsTooLongRenewed}
use Rattle.cep_cause.specs.CauseLaws.{CauseLaws}
use Rattle.cep_cause.specs.Reorderings.{Precedes, Respects, IsReordering, step_places, IsOrder, AreNumbersWithin}
use Rattle.cep_cause.proofs.StatesAfter.{as_many}
use Rattle.cep_cause.specs.Reordered.{StandAt, written_places, unlisted, AreUnlistedSteps, IsInOrder, AreLegalIn, IsRenewalIn, IsTextIn, IsTooLongIn, with_steps, IsUnfitAt, IsUnfitIn, ComesTo, IsWrittenOrder}
use Rattle.cep_cause.proofs.Central.{stand_all, stand_long, not_longer, legal_or_unfit, one_unfit}
use Rattle.cep_cause.specs.declared.reordered.Reordered.{Reordered}
use Rattle.cep_cause.specs.declared.reordered.Reordered.TheVariants.{Done, Unfit, TooLong}
use Rattle.cep_cause.specs.StepwiseLaws.{StepwiseLaws}
use Rattle.cep_cause.specs.Renewing.{renewed_lines, last_lines, LeadsTo, IsRenewingAt}
use Rattle.cep_cause.specs.Walking.{GoesTo, WritesUnlessLong, log_of, IsToldAt, IsToldIn}

-- A legal log in an order is a legal log; what it is renewed to is the old one renewed in the order; and the written order is one of the orders.

no_listings : (number : ℕ) (steps : List LogStep) → HaveListings One number (map unlisted steps)
no_listings number [] = tt
no_listings number (step ∷ steps) = (refl, no_listings (number + 1) steps)

unlisted_of : (program : Parts) (step : LogStep) → IsStepOf program step → IsStepOf program (unlisted step)
unlisted_of program step of = record { rule = of.rule; numbered = of.numbered; values = of.values; as_many = of.as_many; low = of.low; stage = of.stage; in_range = of.in_range; listing = tt }

pub length_map : {X Y : Type 0} (f : X → Y) (xs : List X) → length (map f xs) ≡ length xs
length_map f xs = grind (arith, common_steps)

pub stand_once : {X : Type 0} (all : List X) (places : List ℕ) (xs ys : List X) → StandAt all places xs → StandAt all places ys → xs ≡ ys
stand_once all [] [] [] at at' = refl
stand_once all [] [] (y ∷ ys) at at' = absurd at'
stand_once all [] (x ∷ xs) ys at at' = absurd at
stand_once all (place ∷ places) [] ys at at' = absurd at
stand_once all (place ∷ places) (x ∷ xs) [] at at' = absurd at'
stand_once all (place ∷ places) (x ∷ xs) (y ∷ ys) at at' = grind (arith, some_same, at.0, at'.0, stand_once all places xs ys at.1 at'.1, at.1, at'.1)

-- The steps at these places are determined.
pub unlisted_once : (all : List LogStep) (places : List ℕ) (one other : List LogStep) → AreUnlistedSteps all places one → AreUnlistedSteps all places other → one ≡ other
unlisted_once all places one other is is' = is.unlist ∙ ap (map unlisted) (stand_once all places is.listed is'.listed is.stand is'.stand) ∙ sym is'.unlist

-- If no state on the way passes a limit, the log in the order is legal.
pub legal_in_order : (program : Parts) (log : Log) (touches : List Touch) (places : List ℕ) (other : Log) → IsLegal program log → AreTouchesOf program log touches → IsReordering touches places → AreLegalIn program log places → IsInOrder log places other → IsLegal program other
legal_in_order program log touches places other legal are reorders comes is =
    let bares = is.steps in
    let of = legal.of_program in
    let as_long = as_many program (length (start_tokens program.start)) (start_tokens program.start) log.steps touches are in
    let same = unlisted_once log.steps places comes.steps other.steps comes.are bares in
    let few : length other.steps ≤ log.lines =
    let a = ap length bares.unlist in let b = length_map unlisted bares.listed in let d = stand_long log.steps places bares.listed bares.stand in let e = not_longer touches places reorders in let f = of.few in omega arith in
    let steps_of : AllByRecursion (IsStepOf program) other.steps =
    subst (AllByRecursion (IsStepOf program)) (sym bares.unlist) (all_mapped (IsStepOf program) (IsStepOf program) unlisted bares.listed (unlisted_of program) (stand_all (IsStepOf program) log.steps places bares.listed of.steps bares.stand)) in
    subst (IsLegal program) (sym is.rest) (record {
      of_program = record {
        height = of.height;
        stage = of.stage;
        start = of.start;
        steps = steps_of;
        listed = subst (HaveListings One 1) (sym bares.unlist) (no_listings 1 bares.listed);
        ending = of.ending;
        lines = of.lines;
        few = few;
      };
      stage = legal.stage;
      start = legal.start;
      last = comes.last;
      steps = subst (λ (steps : List LogStep). AreLegalSteps program log.height steps (start_spot program) comes.last) same comes.legal;
      ending = comes.ending;
    })

same_done : (steps others : List LogStep) → AllZip DoTheSame (map unlisted steps) others → AllZip DoTheSame steps others
same_done [] [] all = tt
same_done [] (other ∷ others) all = absurd all
same_done (step ∷ steps) [] all = absurd all
same_done (step ∷ steps) (other ∷ others) all = (record { offer = all.0.offer; proofs = all.0.proofs; stage = all.0.stage }, same_done steps others all.1)

-- What the log in the order is renewed to, is the old one renewed in the order.
pub renewed_in_order : (program : Parts) (log : Log) (order : List ℕ) (other new : Log) → IsInOrder log order other → IsRenewal program other new → IsRenewalIn program order log new
renewed_in_order program log order other new is renews =
    let bares = is.steps in
    record {
      steps = bares.listed;
      stand = bares.stand;
      renews = record {
        version = renews.version;
        does = record {
          height = sym (ap (λ (l : Log). l.height) is.rest) ∙ renews.does.height;
          stage = sym (ap (λ (l : Log). l.stage) is.rest) ∙ renews.does.stage;
          start = sym (ap (λ (l : Log). l.start) is.rest) ∙ renews.does.start;
          steps = same_done bares.listed new.steps (subst (λ (steps : List LogStep). AllZip DoTheSame steps new.steps) bares.unlist renews.does.steps);
          ends = subst (λ (l : Log). EndTheSame l.end new.end) is.rest renews.does.ends;
        };
        legal = renews.legal;
      };
    }

-- Each number of an order is that of a step.
pub numbers_within : (program : Parts) (log : Log) (touches : List Touch) (order : List ℕ) → AreTouchesOf program log touches → IsOrder touches order → AreNumbersWithin (length log.steps) order
numbers_within program log touches order are orders = all_from_places (λ number. (0 < number) × (number ≤ length log.steps)) order (λ i number at.
    let some : 0 < number = holds_at (λ number. 0 < number) order i number orders.counted at in
    let within = (orders.reorders.steps (number - 1)).0 (contains_at (step_places order) i (number - 1) (get_mapped (λ (number : ℕ). number - 1) order i number at)) in
    let long = as_many program (length (start_tokens program.start)) (start_tokens program.start) log.steps touches are in
    (some, omega arith))

pub stand_both : {X : Type 0} (all : List X) (places later : List ℕ) (xs ys : List X) → StandAt all places xs → StandAt all later ys → StandAt all (places ++ later) (xs ++ ys)
stand_both all [] later [] ys at at' = at'
stand_both all [] later (x ∷ xs) ys at at' = absurd at
stand_both all (place ∷ places) later [] ys at at' = absurd at
stand_both all (place ∷ places) later (x ∷ xs) ys at at' = (at.0, stand_both all places later xs ys at.1 at')

pub whole : (places : List ℕ) (i : ℕ) → length places ≤ i → take i places ≡ places
whole places i all = grind (arith, common_steps)

-- What the text of the log in the order is, is the text in the order.
pub text_in_order : (program : Parts) (log : Log) (places : List ℕ) (other : Log) (text : List ℕ) → IsInOrder log places other → IsRenewedText program other text → IsTextIn program places log text
text_in_order program log places other text is renewed = record { new = renewed.new; renews = renewed_in_order program log places other renewed.new is renewed.renews; read = renewed.read; written = renewed.written }

pub too_long_in_order : (program : Parts) (log : Log) (places : List ℕ) (other : Log) → IsInOrder log places other → IsTooLongRenewed program other → IsTooLongIn program places log
too_long_in_order program log places other is long = record { new = long.new; renews = renewed_in_order program log places other long.new is long.renews; long = long.long }

module _ {X : Type 0} where
  stand_from : (all xs : List X) (place : ℕ) → ((i : ℕ) → slice_get xs i ≡ slice_get all (place + i)) → StandAt all (written_places place xs) xs
  stand_from all [] place same = tt
  stand_from all (x ∷ xs) place same =
      (ap (λ n. slice_get all n) (omega arith) ∙ sym (same 0), stand_from all xs (place + 1) (λ i. same (suc i) ∙ ap (λ n. slice_get all n) (omega arith)))

  pub written : (xs : List X) → StandAt xs (written_places 0 xs) xs
  written xs = stand_from xs xs 0 (λ i. ap (λ n. slice_get xs n) (omega arith))

  from_here : (xs : List X) (place other : ℕ) → Contains (written_places place xs) other → (place ≤ other) × (other < place + length xs)
  from_here [] place other there = absurd (contains_none other there)
  from_here (x ∷ xs) place other there =
      ⊎_elim
      (λ same. (omega arith, omega arith))
      (λ later. let is = from_here xs (place + 1) other later in (omega (arith, is.0), omega (arith, is.1)))
      (contains_cases place (written_places (place + 1) xs) other there)

  all_from : (xs : List X) (place other : ℕ) → place ≤ other → other < place + length xs → Contains (written_places place xs) other
  all_from [] place other more less = absurd (omega arith)
  all_from (x ∷ xs) place other more less =
      ⊎_elim
      (λ same. contains_same place (written_places (place + 1) xs) other same)
      (λ above. contains_behind place (written_places (place + 1) xs) other (all_from xs (place + 1) other (omega arith) (omega arith)))
      (same_or_above place other more)
    where
      same_or_above : (a b : ℕ) → a ≤ b → (a ≡ b) ⊎ (a < b)
      same_or_above a b less = grind arith

written_respects : (touches left : List Touch) (place : ℕ) → Respects touches (written_places place left)
written_respects touches [] place = tt
written_respects touches (first ∷ left) place = (
  all_of (λ later. ¬ (place ≡ later) × ¬ Precedes touches later place) (written_places (place + 1) left)
      (λ later there. let few = (from_here left (place + 1) later there).0 in (λ same. omega arith, λ precedes. let less = precedes.is_earlier in omega arith)),
  written_respects touches left (place + 1),
)

-- The written order is one of the orders.
pub written_is_one : (touches : List Touch) → IsReordering touches (written_places 0 touches)
written_is_one touches = record {
  steps = λ place. ((λ there. let less = (from_here touches 0 place there).1 in omega arith), (λ less. all_from touches 0 place (omega arith) (omega arith)));
  respects = written_respects touches touches 0;
}

-- To be renewed is to be renewed in the written order.
pub renewal_as_written : (program : Parts) (old new : Log) → IsRenewal program old new ↔ IsRenewalIn program (written_places 0 old.steps) old new
renewal_as_written program old new = grind (arith, written old.steps, stand_once, old.steps)

-- Doing a log in an order comes to one answer.

module _ (program : Parts) (height : ℕ) where
  -- A step that does the same is legal too, with no listing.
  same_legal : (old new : Spot) (one other : LogStep) → DoTheSame one other → IsLegalStep program height old new other → IsLegalStep program height old new (unlisted one)
  same_legal old new one other same legal = grind (arith, legal.rule, one.proofs, same.offer, other.offer, same.proofs, legal.machine, same.stage, legal.stage)

  pub same_legal_steps : (ones others : List LogStep) (old last : Spot) → AllZip DoTheSame ones others → AreLegalSteps program height others old last → AreLegalSteps program height (map unlisted ones) old last
  same_legal_steps (one ∷ ones) (other ∷ others) old last same legal = (legal.0, same_legal old legal.0 one other same.0 legal.1, same_legal_steps ones others legal.0 last same.1 legal.2)
  same_legal_steps ones others old last same legal = grind arith

module _ (laws : CauseLaws) (one_text : (program : Parts) (old one other : Log) → IsRenewal program old one → IsRenewal program old other → text_of program one ≡ text_of program other)
    (program : Parts) (log : Log) (places : List ℕ) where
  -- Renewed in the order, the log has one text.
  same_text : (one other : Log) → IsRenewalIn program places log one → IsRenewalIn program places log other → text_of program one ≡ text_of program other
  same_text one other is is' = rw (one_text program (with_steps log is.steps) one other is.renews (subst (λ (steps : List LogStep). IsRenewal program (with_steps log steps) other) (stand_once log.steps places is'.steps is.steps is'.stand is.stand) is'.renews))

  -- What can be renewed passes no limit.
  renewed_fits : (new : Log) (number : ℕ) → IsRenewalIn program places log new → IsUnfitIn program log places number → ⊥
  renewed_fits new number is unfit =
      let same = unlisted_once log.steps places unfit.steps (map unlisted is.steps) unfit.are (record { listed = is.steps; stand = is.stand; unlist = refl }) in
      let legal = is.renews.legal in
      legal_or_unfit laws program log.height (start_spot program) legal.last (map unlisted is.steps) number
      (same_legal_steps program log.height is.steps new.steps (start_spot program) legal.last is.renews.does.steps
      (subst (λ height. AreLegalSteps program height new.steps (start_spot program) legal.last) (sym is.renews.does.height) legal.steps))
      (subst (λ (steps : List LogStep). IsUnfitAt program log.height (start_spot program) steps number) same unfit.unfit)

  pub one_answer : (one other : Reordered) → ComesTo program places log one → ComesTo program places log other → one ≡ other
  one_answer (Done text) (Done text') is is' = ap Done (is.written ∙ same_text is.new is'.new is.renews is'.renews ∙ sym is'.written)
  one_answer (Done text) (Unfit number) is is' = absurd (renewed_fits is.new number is.renews is')
  one_answer (Done text) TooLong is is' = grind (arith, same_text, is.written, is.new, is'.new, is.renews, is'.renews, is.read.short, is'.long)
  one_answer (Unfit number) (Done text) is is' = absurd (renewed_fits is'.new number is'.renews is)
  one_answer (Unfit number) (Unfit number') is is' =
      ap Unfit (one_unfit laws program log.height (start_spot program) is.steps number number' is.unfit
      (subst (λ (steps : List LogStep). IsUnfitAt program log.height (start_spot program) steps number') (unlisted_once log.steps places is'.steps is.steps is'.are is.are) is'.unfit))
  one_answer (Unfit number) TooLong is is' = absurd (renewed_fits is'.new number is'.renews is)
  one_answer TooLong (Done text) is is' = grind (arith, same_text, is'.written, is'.new, is.new, is'.renews, is.renews, is'.read.short, is.long)
  one_answer TooLong (Unfit number) is is' = absurd (renewed_fits is.new number is.renews is')
  one_answer TooLong TooLong is is' = refl

-- A log is told in an order step by step: whatever its steps in the order are, if the log with them is legal it is being renewed, or too long.

short_or_long : (a b : ℕ) → (a ≤ b) ⊎ (b < a)
short_or_long a b = grind arith

-- a text that is not too long
pub not_long : (is : Bool) (text : List ℕ) → is ≡ false → (IsTrue is ↔ (MOST_LOG < length text)) → length text ≤ MOST_LOG
not_long is text untrue tests = let short : ¬ (MOST_LOG < length text) = λ long. absurd (false≢true (sym untrue ∙ tests.1 long)) in omega (arith, short)

-- the step at a place of the order
unlisted_at : (all : List LogStep) (places : List ℕ) (listed : List LogStep) (i place : ℕ) (step : LogStep) → StandAt all places listed → slice_get places i ≡ Some place → slice_get all place ≡ Some step → slice_get (map unlisted listed) i ≡ Some (unlisted step)
unlisted_at all (first ∷ places) (x ∷ listed) (suc i) place step stand at there = unlisted_at all places listed i place step stand.1 at there
unlisted_at all places listed i place step stand at there = grind (arith, none_some, some_same)

-- Whatever its steps in the order are, the log with them is told so far, if it is legal.
abbrev pub IsTelling : Parts → Log → List ℕ → ℕ → List ℕ → Spot → Type 0
IsTelling program log places i text here =
    (steps : List LogStep) → AreUnlistedSteps log.steps places steps → IsLegal program (log_of log steps) → IsToldAt program (log_of log steps) (i + 1) (drop i steps) text here

module _ (laws : StepwiseLaws) (program : Parts) (is : IsProgram program) (log : Log) (places : List ℕ) where
  -- The start is written.
  pub telling_begins : (text : List ℕ) (spot : Spot) → text ≡ header program log.height → spot ≡ start_spot program → IsSpotOf program spot → IsTelling program log places 0 text spot
  telling_begins text spot begins starts of_program = λ steps are legal.
      inl (subst (λ (text : List ℕ). IsRenewingAt program (log_of log steps) 1 steps (header program log.height) text spot) (sym begins)
      (laws.begins program (log_of log steps) (header program log.height) spot is legal starts of_program))

  -- One step more is written, unless the text is too long.
  pub telling_goes_on : (i place : ℕ) (step : LogStep) → slice_get places i ≡ Some place → slice_get log.steps place ≡ Some step
      → (old new : Spot) (before after : List ℕ) → GoesTo program step old new → WritesUnlessLong (renewed_lines program (i + 1) step new.state) before after
      → IsTelling program log places i before old → IsTelling program log places (i + 1) after new
  telling_goes_on i place step at there old new before after goes writes telling = λ steps are legal.
      let other = log_of log steps in
      let here : slice_get steps i ≡ Some (unlisted step) =
      subst (λ (steps : List LogStep). slice_get steps i ≡ Some (unlisted step)) (sym are.unlist) (unlisted_at log.steps places are.listed i place step are.stand at there) in
      let left = drop_at steps i (unlisted step) here in
      let leads : LeadsTo program (unlisted step) old new = record { rule = goes.rule; numbered = goes.numbered; steps = goes.steps } in
      let start = header program log.height in
      ⊎_elim
      (λ short. inl (⊎_elim
      (λ renewing.
      subst (λ (text : List ℕ). IsRenewingAt program other (i + 1 + 1) (drop (i + 1) steps) start text new) (sym (writes.0 short))
      (laws.goes_on program other (i + 1) start before old (unlisted step) (drop (i + 1) steps) new is (subst (λ (left : List LogStep). IsRenewingAt program other (i + 1) left start before old) left renewing) leads goes.of_program))
      (λ long. absurd (omega (arith, short, long.0)))
      (telling steps are legal)))
      (λ long. inr (
        subst (λ (text : List ℕ). MOST_LOG < length text) (sym (writes.1 long)) long,
        ⊎_elim (λ renewing. laws.too_long program other (i + 1) (drop i steps) before old is legal renewing long) (λ too_long. too_long.1) (telling steps are legal),
      ))
      (short_or_long (length before) MOST_LOG)

  -- All steps are written.
  pub told_in : (touches : List Touch) → IsLegal program log → AreTouchesOf program log touches → IsReordering touches places → (i : ℕ) (text : List ℕ) (here : Spot) → length places ≤ i
      → IsSpotOf program here → AreLegalIn program log places → IsTelling program log places i text here → IsToldIn program log places text here
  told_in touches legal are reorders i text here all of_program comes telling =
      let steps = comes.steps in
      let other = log_of log steps in
      let is_legal = legal_in_order program log touches places other legal are reorders comes (record { steps = comes.are; rest = refl }) in
      let many = ap length comes.are.unlist in
      let mapped = length_map unlisted comes.are.listed in
      let long = stand_long log.steps places comes.are.listed comes.are.stand in
      let none : drop i steps ≡ [] = drop_all i steps (omega arith) in
      record {
        of_program = of_program;
        steps = steps;
        are = comes.are;
        legal = is_legal;
        number = i + 1;
        told = subst (λ (left : List LogStep). IsToldAt program other (i + 1) left text here) none (telling steps comes.are is_legal);
      }

  module _ (text whole : List ℕ) (here : Spot) (told : IsToldIn program log places text here) (ends : whole ≡ text ++ last_lines program.signature log.end here.state) where
    -- With the end the text is that of the log in the order,
    pub comes_to_text : length whole ≤ MOST_LOG → IsTextIn program places log whole
    comes_to_text short =
        text_in_order program log places (log_of log told.steps) whole (record { steps = told.are; rest = refl })
        (⊎_elim
        (λ renewing. (laws.ends program (log_of log told.steps) told.number text whole here is told.legal renewing ends).0 short)
        (λ long. absurd (omega (arith, short, long.0, ap length ends, length-append text (last_lines program.signature log.end here.state))))
        told.told)

    -- or it is too long.
    pub comes_too_long : MOST_LOG < length whole → IsTooLongIn program places log
    comes_too_long long =
        too_long_in_order program log places (log_of log told.steps) (record { steps = told.are; rest = refl })
        (⊎_elim
        (λ renewing. (laws.ends program (log_of log told.steps) told.number text whole here is told.legal renewing ends).1 long)
        (λ too_long. too_long.1)
        told.told)

-- The written order of a log, in which it is renewed.

numbers_from : (place many : ℕ) → AllByRecursion (λ number. 0 < number) (map (λ i. i + 1) (range_with_len place many))
numbers_from place zero = tt
numbers_from place (suc many) = (omega arith, numbers_from (place + 1) many)

places_from : {X : Type 0} (place : ℕ) (xs : List X) → step_places (map (λ i. i + 1) (range_with_len place (length xs))) ≡ written_places place xs
places_from place [] = refl
places_from place (x ∷ xs) = grind (arith, places_from (place + 1) xs)

-- What counts the steps of a log is their written order.
pub counts_steps : (steps : List LogStep) (order : List ℕ) → order ≡ map (λ i. i + 1) (range_with_len 0 (length steps)) → IsWrittenOrder steps order
counts_steps steps order is = record { counted = rw is (numbers_from 0 (length steps)); places = rw is (places_from 0 steps) }

-- Places go by how many there are.
same_places : {X Y : Type 0} (place : ℕ) (xs : List X) (ys : List Y) → length xs ≡ length ys → written_places place xs ≡ written_places place ys
same_places place [] [] same = refl
same_places place [] (y ∷ ys) same = absurd cc
same_places place (x ∷ xs) [] same = absurd cc
same_places place (x ∷ xs) (y ∷ ys) same = ap (λ rest. place ∷ rest) (same_places (place + 1) xs ys (omega arith))

all_same : (steps : List LogStep) → AllZip DoTheSame steps steps
all_same [] = tt
all_same (step ∷ steps) = (record { offer = refl; proofs = refl; stage = refl }, all_same steps)

module _ (program : Parts) (log : Log) (order : List ℕ) (is : IsWrittenOrder log.steps order) where
  -- It is an order of the steps,
  pub written_order : (touches : List Touch) → AreTouchesOf program log touches → IsOrder touches order
  written_order touches are =
      let many = as_many program (length (start_tokens program.start)) (start_tokens program.start) log.steps touches are in
      record { counted = is.counted; reorders = rw (is.places, sym (same_places 0 touches log.steps many)) (written_is_one touches) }

  -- in which a legal log passes no limit,
  pub written_fits : CauseLaws → IsLegal program log → (number : ℕ) → IsUnfitIn program log (step_places order) number → ⊥
  written_fits laws legal number unfit =
      let places = step_places order in
      let all = unlisted_once log.steps places unfit.steps (map unlisted log.steps) unfit.are (record { listed = log.steps; stand = rw is.places (written log.steps); unlist = refl }) in
      legal_or_unfit laws program log.height (start_spot program) legal.last (map unlisted log.steps) number
      (same_legal_steps program log.height log.steps log.steps (start_spot program) legal.last (all_same log.steps) legal.steps) (rw all at unfit.unfit)

  -- and its text in it is that of the log renewed.
  pub written_text : (text : List ℕ) → IsTextIn program (step_places order) log text → IsRenewedText program log text
  written_text text in_order = record { new = in_order.new; renews = (renewal_as_written program log in_order.new).1 (rw is.places at in_order.renews); read = in_order.read; written = in_order.written }

  pub written_too_long : IsTooLongIn program (step_places order) log → IsTooLongRenewed program log
  written_too_long in_order = record { new = in_order.new; renews = (renewal_as_written program log in_order.new).1 (rw is.places at in_order.renews); long = in_order.long }
