-- The lines that were read so far, and the log that they say.
use Rattle.std.proofs.Common.{◌≡◌, ◌⊎◌, inl, inr, ℕ, suc, ◌+◌, ◌-◌, ◌<◌, ◌≤◌, ◌&&◌, ◌||◌, List, [], ◌∷◌, ◌++◌, length, Bool, true, false, Option, Some, None, refl, sym, ap, ◌∙◌, subst, arith, length-append, add-one, map, append_assoc}
use Rattle.std.proofs.lemmas.Bool.{leb-true, le-leb}
use Rattle.std.proofs.lemmas.Option.{slice_get_within}
use Rattle.std.specs.declared.cmp.Ordering.TheVariants.{Less}
use Rattle.std.proofs.lemmas.List.{append-nil}
use Rattle.std.specs.Prelude.{slice_get, nat_le, is_none, is_some, IsSome, IfSome, IsSomeAnd, ◌↔◌, if◌then◌else◌}
use Rattle.std.specs.Cmp.{IsTotalOrder}
use Rattle.std.specs.List.{AllByRecursion}
use Rattle.cep_base.proofs.Lists.{none_some, some_same, all_pushed}
use Rattle.cep_base.specs.declared.limits.TheConstants.{MOST_HEIGHT, MOST_LOG}
use Rattle.cep_term.specs.Order.{atom_cmp}
use Rattle.cep_term.specs.Tree.{AtomTree}
use Rattle.cep_rule.specs.Derivations.{proof_height, ProofTree}
use Rattle.cep_rule.specs.Typing.{AreValues}
use Rattle.cep_rule.specs.declared.parts.Parts.{Parts}
use Rattle.cep_rule.specs.declared.rule.Rule.{Rule}
use Rattle.cep_rule.specs.Limits.{IsHeight}
use Rattle.cep_reader.proofs.Cuts.{lines_are, few_lines}
use Rattle.cep_reader.specs.Growing.{CanGrow}
use Rattle.cep_log.specs.Legal.{AtomsRise, IsListing, IsStepOf, HaveListings, IsLogOf}
use Rattle.cep_log.specs.declared.fault.LogFault.TheVariants.{Line}
use Rattle.cep_log.specs.Transcript.{IsByLine, IsStageLine, IsBehind, GoesOnListing, BeginsNext, Becomes, MovesOn, Leads, next_number, log_with, log_listed, step_begun, has_own_lines, with_own, with_step, said_by, HasLog, HasMisfit, IsFaultOf}
use Rattle.cep_log.specs.declared.fault.LogFault.{LogFault}
use Rattle.cep_log.specs.declared.so_far.SoFar.TheVariants.{Nothing, Begun, Height, Whole, Within, Unlisted, Listed, Ended}
use Rattle.cep_log.specs.declared.log.Log.{Log}
use Rattle.cep_log.specs.declared.log.LogMid.{LogMid}
use Rattle.cep_log.specs.declared.log.LogStep.{LogStep}
use Rattle.cep_log.specs.declared.so_far.SoFar.{SoFar}
use Rattle.cep_lines.specs.Lines.{has_listing}
use Rattle.cep_lines.specs.declared.version.Version.{Version}
use Rattle.bstr.specs.Text.{lines_of, without_terminator}

-- The log that a transcript says is of the program.

-- Listings

-- the atom stands after each that stands before the last
abbrev pub Transitive : Type 0
Transitive = (a b c : AtomTree) → atom_cmp a b ≡ Less → atom_cmp b c ≡ Less → atom_cmp a c ≡ Less

behind_all : (through : Transitive) (entries : List (AtomTree × ℕ)) (atom : AtomTree) → AtomsRise entries → IsBehind entries atom → AllByRecursion (λ earlier. atom_cmp earlier.0 atom ≡ Less) entries
behind_all through (entry ∷ next ∷ entries) atom rise behind =
    let later = behind_all through (next ∷ entries) atom rise.1 (moved entry next entries atom behind) in
    (through entry.0 next.0 atom rise.0.0 later.0, later) where
      moved : (entry next : AtomTree × ℕ) (entries : List (AtomTree × ℕ)) (atom : AtomTree) → IsBehind (entry ∷ next ∷ entries) atom → IsBehind (next ∷ entries) atom
      moved entry next entries atom behind =
          let at : slice_get (entry ∷ next ∷ entries) (length (entry ∷ next ∷ entries) - 1) ≡ slice_get (next ∷ entries) (length (next ∷ entries) - 1) = ap (λ n. slice_get (entry ∷ next ∷ entries) n) (less (length entries)) ∙ ap (λ n. slice_get (next ∷ entries) n) (sym (less' (length entries))) in
          subst (λ found. IfSome found (λ last. atom_cmp last.0 atom ≡ Less)) at behind where
            less : (n : ℕ) → suc (suc n) - 1 ≡ suc n
            less n = omega arith

            less' : (n : ℕ) → suc n - 1 ≡ n
            less' n = omega arith
behind_all through entries atom rise behind = grind arith

rising_pushed : (entries : List (AtomTree × ℕ)) (entry : AtomTree × ℕ) → AtomsRise entries → AllByRecursion (λ earlier. atom_cmp earlier.0 entry.0 ≡ Less) entries → AtomsRise (entries ++ entry ∷ [])
rising_pushed [] entry rise all = (tt, tt)
rising_pushed (first ∷ entries) entry rise all = (all_pushed (λ later. atom_cmp first.0 later.0 ≡ Less) entries entry rise.0 all.0, rising_pushed entries entry rise.1 all.1)

listing_more : (through : Transitive) (program : Parts) (line : List ℕ) (old new : List (AtomTree × ℕ)) → IsListing program.signature old → GoesOnListing program line old new → IsListing program.signature new
listing_more through program line old new is more = grind (arith, all_pushed, rising_pushed, behind_all)

-- one step more has a listing where its number wants one
listings_pushed : (version : Version) (number : ℕ) (steps : List LogStep) (step : LogStep) → HaveListings version number steps → is_some step.mid ≡ has_listing version (number + length steps) → HaveListings version number (steps ++ step ∷ [])
listings_pushed version number [] step all this = grind arith
listings_pushed version number (first ∷ steps) step all this = grind (arith, listings_pushed version (number + 1) steps step all.1)

-- What was read of a log before the line of this number: no step is of this line or a later one.
pub record IsPartOf (program : Parts) (number : ℕ) (log : Log) : Type 0 where
  pub height : IsHeight log.height
  pub stage : log.stage < length program.stages
  pub start : IsListing program.signature log.start
  pub steps : AllByRecursion (IsStepOf program) log.steps
  pub listed : HaveListings log.version 1 log.steps
  pub few : length log.steps < number

-- A step that lacks own lines.
pub record IsOpenOf (program : Parts) (step : LogStep) : Type 0 where
  pub rule : Rule
  pub numbered : slice_get program.rules step.offer.rule ≡ Some rule
  pub values : AreValues program.signature.cons rule.kinds step.offer.values
  pub low : AllByRecursion (λ proof. proof_height proof ≤ MOST_HEIGHT) step.proofs
  pub few : length step.proofs ≤ length rule.backs
  pub no_stage : step.stage ≡ None
  pub no_mid : step.mid ≡ None
  pub lacks : has_own_lines rule step ≡ false

-- A step that lacks its listing alone.
pub record IsUnlistedOf (program : Parts) (log : Log) (step : LogStep) : Type 0 where
  pub of_program : IsStepOf program step
  pub wants : has_listing log.version (next_number log) ≡ true

abbrev pub IsReadOf : Parts → ℕ → SoFar → Type 0
IsReadOf program number Nothing = Unit {0}
IsReadOf program number (Begun version) = Unit {0}
IsReadOf program number (Height version height) = IsHeight height
IsReadOf program number (Whole log) = IsPartOf program number log × (log.end ≡ None)
IsReadOf program number (Within log step) = IsPartOf program number log × ((log.end ≡ None) × (suc (length log.steps) < number) × IsOpenOf program step)
IsReadOf program number (Unlisted log step) = IsPartOf program number log × ((log.end ≡ None) × (suc (length log.steps) < number) × IsUnlistedOf program log step)
IsReadOf program number (Listed log step mid) = IsPartOf program number log × ((log.end ≡ None) × (suc (length log.steps) < number) × IsUnlistedOf program log step × IsListing program.signature mid.state)
IsReadOf program number (Ended log end) = IsPartOf program number log × IsListing program.signature end.state

-- Own lines

own_none : (next : Option ℕ) (stage : Option ℕ) (full : Bool) → stage ≡ None → (full && (is_none next || is_some stage)) ≡ true → (full ≡ true) × (IsSome stage ↔ IsSome next)
own_none next stage full none t = grind arith

lacks_stage : (next : Option ℕ) (full : Bool) → full ≡ true → (full && (is_none next || false)) ≡ false → IsSome next
lacks_stage next full f t = grind arith

module _ (program : Parts) where
  part_later : (m n : ℕ) (log : Log) → IsPartOf program m log → m ≤ n → IsPartOf program n log
  part_later m n log part h = record { height = part.height; stage = part.stage; start = part.start; steps = part.steps; listed = part.listed; few = let few = part.few in omega arith }

  with_listing : (n : ℕ) (log : Log) (step : LogStep) (mid : LogMid) → IsPartOf program n log → suc (length log.steps) < n → IsUnlistedOf program log step → IsListing program.signature mid.state → IsPartOf program n (log_listed log step mid)
  with_listing n log step mid part few is listing = grind (arith, all_pushed, listings_pushed, length-append, is.of_program)

  -- a step with all other own lines is whole, or it lacks its listing
  owned : (n : ℕ) (log : Log) (step : LogStep) → IsPartOf program n log → log.end ≡ None → suc (length log.steps) < suc n → IsStepOf program step → step.mid ≡ None → IsReadOf program (suc n) (with_own log step)
  owned n log step part unended few of no_mid = cases (has_listing log.version (next_number log)) refl where
    cases : (wants : Bool) → has_listing log.version (next_number log) ≡ wants → IsReadOf program (suc n) (if wants then Unlisted log step else Whole (log_with log step))
    cases true t = (part_later n (suc n) log part (omega arith), (unended, few, record { of_program = of; wants = t }))
    cases false t = ((grind (arith, all_pushed, listings_pushed, length-append)), unended)

  -- a step without a stage has all its own lines but for the listing, or it lacks some
  pending : (n : ℕ) (log : Log) (step : LogStep) (rule : Rule) → IsPartOf program n log → log.end ≡ None → suc (length log.steps) < suc n
      → slice_get program.rules step.offer.rule ≡ Some rule → AreValues program.signature.cons rule.kinds step.offer.values
      → AllByRecursion (λ proof. proof_height proof ≤ MOST_HEIGHT) step.proofs → length step.proofs ≤ length rule.backs → step.stage ≡ None → step.mid ≡ None
      → IsReadOf program (suc n) (with_step rule log step)
  pending n log step rule part unended few numbered values low within no_stage no_mid = cases (has_own_lines rule step) refl where
    cases : (own : Bool) → has_own_lines rule step ≡ own → IsReadOf program (suc n) (if own then with_own log step else Within log step)
    cases true t =
        let own = own_none rule.next step.stage (nat_le (length rule.backs) (length step.proofs)) no_stage t in
        owned n log step part unended few (record {
          rule = rule;
          numbered = numbered;
          values = values;
          as_many = omega (arith, leb-true (length rule.backs) (length step.proofs) own.0);
          low = low;
          stage = own.1;
          in_range = rw no_stage tt;
          listing = rw no_mid tt;
        }) no_mid
    cases false t =
        (part_later n (suc n) log part (omega arith), (unended, few, record { rule = rule; numbered = numbered; values = values; low = low; few = within; no_stage = no_stage; no_mid = no_mid; lacks = t }))

  -- and so has one with its stage
  staged : (n : ℕ) (log : Log) (step : LogStep) (rule : Rule) (stage : ℕ) → IsPartOf program n log → log.end ≡ None → suc (length log.steps) < suc n
      → slice_get program.rules step.offer.rule ≡ Some rule → AreValues program.signature.cons rule.kinds step.offer.values
      → AllByRecursion (λ proof. proof_height proof ≤ MOST_HEIGHT) step.proofs → length step.proofs ≡ length rule.backs → IsSome rule.next → stage < length program.stages → step.mid ≡ None
      → IsReadOf program (suc n) (with_step rule log (record step { stage = Some stage }))
  staged n log step rule stage part unended few numbered values low all leaves in_range no_mid =
      let own : has_own_lines rule (record step { stage = Some stage }) ≡ true = grind arith in
      rw own (owned n log (record step { stage = Some stage }) part unended few (record {
        rule = rule;
        numbered = numbered;
        values = values;
        as_many = all;
        low = low;
        stage = ((λ h. leaves), (λ h. refl));
        in_range = in_range;
        listing = rw no_mid tt;
      }) no_mid)

  -- a line that begins a step or the end
  begins_kept : (n : ℕ) (line : List ℕ) (log : Log) (new : SoFar) → IsPartOf program n log → log.end ≡ None → BeginsNext program n line log new → IsReadOf program (suc n) new
  begins_kept n line log new part unended (inl begins) =
      let values = subst (λ found. IsSomeAnd found (λ rule. AreValues program.signature.cons rule.kinds begins.offer.values)) begins.numbered begins.said.offer_is.of_rule in
      subst (IsReadOf program (suc n)) (sym begins.step)
      (pending n log (step_begun n begins.offer) begins.rule part unended (omega arith) begins.numbered values tt (omega arith) refl refl)
  begins_kept n line log new part unended (inr ends) = grind (arith, part_later, ends.ended)

  pub takes_kept : (through : Transitive) (n : ℕ) (line : List ℕ) (old new : SoFar) → IsReadOf program n old → Becomes program n line old new → IsReadOf program (suc n) new
  takes_kept through n line Nothing new is takes = subst (IsReadOf program (suc n)) (sym takes.2) tt
  takes_kept through n line (Begun version) new is takes = subst (IsReadOf program (suc n)) (sym takes.3) takes.1
  takes_kept through n line (Height version height) new is takes = grind (arith, takes.2, takes.1.in_range)
  takes_kept through n line (Whole log) new is (inl goes) =
      let part = is.0 in
      subst (IsReadOf program (suc n)) (sym goes.whole)
      (record { height = part.height; stage = part.stage; start = listing_more through program line log.start goes.start part.start goes.listed; steps = part.steps; listed = part.listed; few = let few = part.few in omega arith }, is.1)
  takes_kept through n line (Whole log) new is (inr next) = begins_kept n line log new is.0 is.1 next
  takes_kept through n line (Unlisted log step) new is takes = grind (arith, part_later, takes.1, is.0, is.1.0, is.1.1, is.1.2)
  takes_kept through n line (Listed log step mid) new is (inl goes) =
      subst (IsReadOf program (suc n)) (sym goes.more)
      (part_later n (suc n) log is.0 (omega arith), (is.1.0, (let h = is.1.1 in omega arith), is.1.2, listing_more through program line mid.state goes.state is.1.3 goes.listed))
  takes_kept through n line (Listed log step mid) new is (inr next) = grind (arith, begins_kept n line (log_listed log step mid) new (with_listing n log step mid is.0 is.1.1 is.1.2 is.1.3) is.1.0 next, with_listing n log step mid is.0 is.1.1 is.1.2 is.1.3, is.0, is.1.1, is.1.2, is.1.3, is.1.0)
  takes_kept through n line (Within log step) new is goes = cases goes.own where
    open_step : IsOpenOf program step
    open_step = is.1.2

    same : open_step.rule ≡ goes.rule
    same = some_same open_step.rule goes.rule (sym open_step.numbered ∙ goes.numbered)

    values : AreValues program.signature.cons goes.rule.kinds step.offer.values
    values = subst (λ rule. AreValues program.signature.cons rule.kinds step.offer.values) same open_step.values

    cases : ((proof : ProofTree) × (length step.proofs < length goes.rule.backs) × IsByLine program line proof × (new ≡ with_step goes.rule log (record step { proofs = step.proofs ++ proof ∷ [] })))
        ⊎ ((stage : ℕ) × (length goes.rule.backs ≤ length step.proofs) × IsStageLine program line stage × (new ≡ with_step goes.rule log (record step { stage = Some stage })))
        → IsReadOf program (suc n) new
    cases (inl more) =
        subst (IsReadOf program (suc n)) (sym more.3)
        (pending n log (record step { proofs = step.proofs ++ more.0 ∷ [] }) goes.rule is.0 is.1.0 (omega (arith, is.1.1)) goes.numbered values
        (all_pushed (λ proof. proof_height proof ≤ MOST_HEIGHT) step.proofs more.0 open_step.low more.2.proof_is.low) (omega (arith, length-append step.proofs (more.0 ∷ []), more.1)) open_step.no_stage open_step.no_mid)
    cases (inr said) =
        let within : length step.proofs ≤ length goes.rule.backs = rw same at open_step.few in
        let lacks = rw (same, open_step.no_stage) at open_step.lacks in
        let leaves = lacks_stage goes.rule.next (nat_le (length goes.rule.backs) (length step.proofs)) (le-leb (length goes.rule.backs) (length step.proofs) said.1) lacks in
        subst (IsReadOf program (suc n)) (sym said.3)
        (staged n log step goes.rule said.0 is.0 is.1.0 (omega (arith, is.1.1)) goes.numbered values open_step.low (omega (arith, said.1)) leaves said.2.in_range open_step.no_mid)
  takes_kept through n line (Ended log end) new is goes = grind (arith, part_later, listing_more through program line end.state goes.state is.1 goes.listed, goes.ended, is.0, end.state, goes.state, is.1, goes.listed)

  pub leads_kept : (through : Transitive) (n : ℕ) (lines : List (List ℕ)) (old new : SoFar) → IsReadOf program n old → Leads program n lines old new → IsReadOf program (n + length lines) new
  leads_kept through n [] old new is leads = subst (λ (m : ℕ). IsReadOf program m new) (omega arith) (subst (IsReadOf program n) (sym leads) is)
  leads_kept through n (line ∷ lines) old new is leads =
      let next : IsReadOf program (n + 1) leads.0 = subst (λ (m : ℕ). IsReadOf program m leads.0) (sym (add-one n)) (grind (arith, takes_kept, part_later)) in
      subst (λ (m : ℕ). IsReadOf program m new) (omega arith) (leads_kept through (n + 1) lines leads.0 new next leads.2)

  -- The log that is said is of the program.
  pub said_is_of : (lines : ℕ) (last : SoFar) (log : Log) → lines ≤ MOST_LOG → IsReadOf program (1 + lines) last → said_by last lines ≡ Some log → IsLogOf program log
  said_is_of lines last log short is said = grind (arith, none_some, some_same, with_listing)

-- The lines that were read so far, and what is said of all of them.

-- all lines
abbrev pub all_lines : List ℕ → List (List ℕ)
all_lines bytes = map without_terminator (lines_of bytes)

-- Of all lines these are left; those before lead from nothing to here.
pub record HasPassed (program : Parts) (lines left : List (List ℕ)) (number : ℕ) (so_far : SoFar) : Type 0 where
  pub done : List (List ℕ)
  pub cut : lines ≡ done ++ left
  pub leads : Leads program 1 done Nothing so_far
  pub counted : number ≡ length done

leads_more : (program : Parts) (n : ℕ) (lines : List (List ℕ)) (line : List ℕ) (old mid new : SoFar) → Leads program n lines old mid → MovesOn program (n + length lines) line mid new → Leads program n (lines ++ line ∷ []) old new
leads_more program n [] line old mid new leads passes = grind arith
leads_more program n (first ∷ lines) line old mid new leads passes = (leads.0, leads.1, leads_more program (n + 1) lines line leads.0 mid new leads.2 (subst (λ (m : ℕ). MovesOn program m line mid new) (omega arith) passes))

pub passed_none : (program : Parts) (lines left : List (List ℕ)) → left ≡ lines → HasPassed program lines left 0 Nothing
passed_none program lines left same = record { done = []; cut = sym same; leads = refl; counted = refl }

pub passed_more : (program : Parts) (lines left behind : List (List ℕ)) (line : List ℕ) (number : ℕ) (so_far next : SoFar) → HasPassed program lines left number so_far → left ≡ line ∷ behind → MovesOn program (number + 1) line so_far next → HasPassed program lines behind (number + 1) next
passed_more program lines left behind line number so_far next passed is passes = record {
  done = passed.done ++ line ∷ [];
  cut = passed.cut ∙ (ap (λ rest. passed.done ++ rest) is ∙ sym (append_assoc passed.done (line ∷ []) behind));
  leads = leads_more program 1 passed.done line Nothing so_far next passed.leads (subst (λ (n : ℕ). MovesOn program n line so_far next) (let counted = passed.counted in omega arith) passes);
  counted = let h = length-append passed.done (line ∷ []) in let counted = passed.counted in omega arith;
}

-- fewer lines than these were read
pub number_short : (program : Parts) (bytes : List ℕ) (left behind : List (List ℕ)) (line : List ℕ) (number : ℕ) (so_far : SoFar) → length bytes ≤ MOST_LOG → HasPassed program (all_lines bytes) left number so_far → left ≡ line ∷ behind → number < MOST_LOG
number_short program bytes left behind line number so_far short passed is = grind (arith, few_lines bytes, length-append passed.done (line ∷ behind), passed.cut, passed.done, passed.counted)

-- what was read is of the program
pub read_is_of : (through : Transitive) (program : Parts) (lines left : List (List ℕ)) (number : ℕ) (so_far : SoFar) → HasPassed program lines left number so_far → IsReadOf program (1 + number) so_far
read_is_of through program lines left number so_far passed = grind (arith, leads_kept, passed.counted, passed.done, passed.leads)

pub can_grow : (program : Parts) (number : ℕ) (so_far : SoFar) → number < MOST_LOG → IsReadOf program (1 + number) so_far → CanGrow program so_far
can_grow program number so_far short is = grind (arith, slice_get_within)

-- all lines were read
all_done : (program : Parts) (lines left : List (List ℕ)) (number : ℕ) (so_far : SoFar) → HasPassed program lines left number so_far → left ≡ [] → Leads program 1 lines Nothing so_far × (number ≡ length lines)
all_done program lines left number so_far passed none = grind (arith, append-nil, passed.done, passed.cut, passed.leads, passed.counted)

pub log_said : (program : Parts) (bytes : List ℕ) (left : List (List ℕ)) (number : ℕ) (so_far : SoFar) (log : Log) → length bytes ≤ MOST_LOG → HasPassed program (all_lines bytes) left number so_far → left ≡ [] → said_by so_far number ≡ Some log → HasLog program bytes log
log_said program bytes left number so_far log short passed none said =
    let all = all_done program (all_lines bytes) left number so_far passed none in
    record { short = short; lines = all_lines bytes; cut = lines_are bytes; last = so_far; leads = all.0; said = rw all.1 at said }

pub log_is_of : (through : Transitive) (program : Parts) (bytes : List ℕ) (left : List (List ℕ)) (number : ℕ) (so_far : SoFar) (log : Log) → length bytes ≤ MOST_LOG → HasPassed program (all_lines bytes) left number so_far → left ≡ [] → said_by so_far number ≡ Some log → IsLogOf program log
log_is_of through program bytes left number so_far log short passed none said =
    said_is_of program number so_far log (omega (arith, few_lines bytes, (all_done program (all_lines bytes) left number so_far passed none).1)) (read_is_of through program (all_lines bytes) left number so_far passed) said

pub stops_said : (program : Parts) (bytes : List ℕ) (left : List (List ℕ)) (number : ℕ) (so_far : SoFar) → length bytes ≤ MOST_LOG → HasPassed program (all_lines bytes) left number so_far → left ≡ [] → said_by so_far number ≡ None → HasMisfit program bytes (Line (number + 1))
stops_said program bytes left number so_far short passed none said =
    let all = all_done program (all_lines bytes) left number so_far passed none in
    record { short = short; lines = all_lines bytes; cut = lines_are bytes; why = inr (record { last = so_far; leads = all.0; open_still = rw all.1 at said; fault_is = ap (λ (n : ℕ). Line (n + 1)) all.1 }) }

pub misfit_said : (program : Parts) (bytes : List ℕ) (left behind : List (List ℕ)) (line : List ℕ) (number : ℕ) (so_far : SoFar) (fault : LogFault) → length bytes ≤ MOST_LOG → HasPassed program (all_lines bytes) left number so_far → left ≡ line ∷ behind
    → ((new : SoFar) → ¬ (MovesOn program (number + 1) line so_far new)) → IsFaultOf program (number + 1) line so_far fault → HasMisfit program bytes fault
misfit_said program bytes left behind line number so_far fault short passed is nowhere why =
    record {
      short = short;
      lines = all_lines bytes;
      cut = lines_are bytes;
      why = inl (record {
        before = passed.done;
        line = line;
        behind = behind;
        cut = passed.cut ∙ ap (λ rest. passed.done ++ rest) is;
        so_far = so_far;
        leads = passed.leads;
        nowhere = subst (λ (n : ℕ). (new : SoFar) → ¬ (MovesOn program (n + 1) line so_far new)) passed.counted nowhere;
        fault_is = subst (λ (n : ℕ). IsFaultOf program (n + 1) line so_far fault) passed.counted why;
      });
    }

-- no more lines than these were read
pub number_most : (program : Parts) (bytes : List ℕ) (left : List (List ℕ)) (number : ℕ) (so_far : SoFar) → length bytes ≤ MOST_LOG → HasPassed program (all_lines bytes) left number so_far → number ≤ MOST_LOG
number_most program bytes left number so_far short passed = grind (arith, few_lines bytes, length-append passed.done left, passed.cut, passed.done, passed.counted)

pub transitive : IsTotalOrder atom_cmp → Transitive
transitive order = λ a b c p q. order.trans a b c p q
