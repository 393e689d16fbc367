-- What lines of each kind say.
use Rattle.std.proofs.Common.{◌≡◌, ◌⊎◌, inl, inr, ℕ, ◌<◌, ◌≤◌, ◌^◌, List, [], ◌∷◌, ◌++◌, length, Bool, true, false, Some, sym, ap, ◌∙◌, subst, arith, bytes_eq, Option, None, refl}
use Rattle.std.proofs.lemmas.Slice.Eq.{bytes_eq-Decides}
use Rattle.std.proofs.lemmas.Fmt.{decimal_injective}
use Rattle.std.proofs.lemmas.Option.{slice_get_within}
use Rattle.std.specs.Prelude.{codes, decimal, slice_get, MatchOption, Contains, IsTrue, not, ◌↔◌}
use Rattle.cep_base.proofs.Options.{item_at}
use Rattle.cep_base.proofs.Lists.{none_some, some_same}
use Rattle.cep_base.specs.declared.limits.TheConstants.{MOST_COPIES}
use Rattle.cep_term.specs.Tree.{AtomTree}
use Rattle.cep_rule.specs.Derivations.{ProofTree}
use Rattle.cep_rule.specs.declared.rule.Rule.{Rule}
use Rattle.cep_rule.specs.declared.offer.Offer.{Offer}
use Rattle.cep_rule.specs.declared.parts.Parts.{Parts}
use Rattle.cep_text.specs.Reads.{IsAtomText}
use Rattle.cep_text.specs.StageNames.{IsStageNamed}
use Rattle.cep_lines.specs.Lines.{state_text}
use Rattle.cep_lines.specs.declared.end_word.EndWord.{EndWord}
use Rattle.cep_log.proofs.Parted.{HasNone, one_parting, Stops}
use Rattle.cep_log.specs.declared.log.LogMid.{LogMid}
use Rattle.cep_log.specs.declared.so_far.SoFar.{SoFar}
use Rattle.cep_log.specs.Transcript.{IsHaveLine, IsStageLine, IsStepLine, IsByLine, GoesOnStep, BeginsNext, Becomes, log_listed, with_step, NamesNoRule, IsEndLine, IsBehind}
use Rattle.cep_log.specs.declared.log.Log.{Log}
use Rattle.cep_log.specs.declared.log.LogStep.{LogStep}
use Rattle.cep_log.specs.declared.so_far.SoFar.TheVariants.{Whole, Listed}
use Rattle.cep_log.proofs.OneWay.{OneValue, decimal_unspaced, one_count, one_have}

-- what stands after the first word of a line of a listing
pub counted_as : (line rest word behind : List ℕ) (count : ℕ) (text : List ℕ) → line ≡ codes "have " ++ rest → rest ≡ word ++ behind → HasNone 32 word → Stops 32 behind → count ≤ MOST_COPIES → line ≡ codes "have " ++ (decimal count ++ 32 ∷ text)
    → (word ≡ decimal count) × (behind ≡ 32 ∷ text)
counted_as line rest word behind count text is cut none stops few said = grind (arith, one_parting, decimal_unspaced)

-- the text after the count is that of no atom
pub have_none : (program : Parts) (line text : List ℕ) (count : ℕ) (entry : AtomTree × ℕ) → count ≤ MOST_COPIES → line ≡ codes "have " ++ (decimal count ++ 32 ∷ text) → ((a : AtomTree) → ¬ (IsAtomText program text a)) → IsHaveLine program line entry → ⊥
have_none program line text count entry few is none said = grind (arith, one_count, entry.1, said.text, said.written, said.few, entry.0, said.atom)

pub same_decimal : (m n : ℕ) (word : List ℕ) → m < 2 ^ 32 → n < 2 ^ 32 → word ≡ decimal m → word ≡ decimal n → m ≡ n
same_decimal m n word a b e f = decimal_injective m n (omega arith) (omega arith) (sym e ∙ f)

-- a place within a list has an item
none_at : {A : Type 0} (xs : List A) (i : ℕ) → i < length xs → slice_get xs i ≡ None → ⊥
none_at xs i within e = none_some (item_at xs i within).0 (sym e ∙ (item_at xs i within).1)

stage_untold : (program : Parts) (line name : List ℕ) (stage : ℕ) → line ≡ codes "stage " ++ name → ¬ (IsStageNamed program.stages stage name) → IsStageLine program line stage → ⊥
stage_untold program line name stage is none said = grind (arith, none_at, program.stages, said.written, said.in_range)

pub stage_line_told : (program : Parts) (line name : List ℕ) (found : Option ℕ) → line ≡ codes "stage " ++ name
    → MatchOption found (Unit {0}) (λ stage. IsStageNamed program.stages stage name) → MatchOption found ((stage : ℕ) → ¬ (IsStageNamed program.stages stage name)) (λ stage. Unit {0})
    → MatchOption found ((stage : ℕ) → ¬ (IsStageLine program line stage)) (IsStageLine program line)
stage_line_told program line name None is some none = λ stage. stage_untold program line name stage is (none stage)
stage_line_told program line name (Some stage) is some none = grind (arith, slice_get_within, program.stages, some.0, some.1, some.2)

-- a line of a step that names a rule, or none
pub named_as : (program : Parts) (line rest word behind : List ℕ) → line ≡ codes "step " ++ rest → rest ≡ word ++ behind → HasNone 32 word → Stops 32 behind → (found : Bool)
    → (IsTrue found ↔ ((rule : Rule) × Contains program.rules rule × (rule.name ≡ word))) → (IsTrue (not found) ↔ NamesNoRule program line)
named_as program line rest word behind is cut none stops found tells = (there found tells, back found tells) where
  there : (found : Bool) → (IsTrue found ↔ ((rule : Rule) × Contains program.rules rule × (rule.name ≡ word))) → IsTrue (not found) → NamesNoRule program line
  there true tells t = absurd cc
  there false tells t = record {
    name = word;
    rest = behind;
    begins = is ∙ ap (λ text. codes "step " ++ text) cut;
    cut = stops;
    unspaced = none;
    unknown = λ rule has e. let h = tells.1 (rule, has, e) in absurd cc;
  }

  back : (found : Bool) → (IsTrue found ↔ ((rule : Rule) × Contains program.rules rule × (rule.name ≡ word))) → NamesNoRule program line → IsTrue (not found)
  back false tells unknown = refl
  back true tells unknown =
      let some = tells.0 refl in
      let h : codes "step " ++ rest ≡ codes "step " ++ (unknown.name ++ unknown.rest) = sym is ∙ unknown.begins in
      absurd (unknown.unknown some.0 some.1 (some.2 ∙ ((one_parting 32 word unknown.name behind unknown.rest none unknown.unspaced stops unknown.cut (sym cut ∙ cc)).0)))

-- the number of the listing that the line begins
pub state_said : (line word written : List ℕ) (number : ℕ) (same : Bool) → line ≡ codes "state " ++ word → same ≡ bytes_eq word written → written ≡ decimal number → (IsTrue same ↔ (line ≡ state_text number))
state_said line word written number same is tells number_is = grind (arith, bytes_eq-Decides)

-- The lines of steps and listings.

-- the one line of a listing does not stand after the others
pub listed_none : (program : Parts) (laws : OneValue program) (line : List ℕ) (entries : List (AtomTree × ℕ)) (entry other : AtomTree × ℕ) → IsHaveLine program line entry → ¬ (IsBehind entries entry.0) → IsHaveLine program line other → IsBehind entries other.0 → ⊥
listed_none program laws line entries entry other said early said' behind = grind (arith, one_have program laws line other entry said' said)

-- the line begins neither a step nor the end
pub nothing_begins : (program : Parts) (number : ℕ) (line : List ℕ) (log : Log) → ((word : EndWord) → ¬ (IsEndLine line word)) → ((offer : Offer) → ¬ (IsStepLine program line offer)) → (new : SoFar) → ¬ (BeginsNext program number line log new)
nothing_begins program number line log no_end no_step new (inl step) = no_step step.offer step.said
nothing_begins program number line log no_end no_step new (inr end) = no_end end.word end.said

-- nothing after a start listing goes on with the line
pub nothing_behind_start : (program : Parts) (number : ℕ) (line : List ℕ) (log : Log) → ((entry : AtomTree × ℕ) → IsHaveLine program line entry → IsBehind log.start entry.0 → ⊥) → ((new : SoFar) → ¬ (BeginsNext program number line log new)) → (new : SoFar) → ¬ (Becomes program number line (Whole log) new)
nothing_behind_start program number line log unlisted none new (inl start) = unlisted start.listed.entry start.listed.said start.listed.behind
nothing_behind_start program number line log unlisted none new (inr next) = none new next

-- nor after whole steps
pub nothing_behind_steps : (program : Parts) (number : ℕ) (line : List ℕ) (log : Log) → (log.steps ≡ [] → ⊥) → ((new : SoFar) → ¬ (BeginsNext program number line log new)) → (new : SoFar) → ¬ (Becomes program number line (Whole log) new)
nothing_behind_steps program number line log some none new (inl start) = some start.first
nothing_behind_steps program number line log some none new (inr next) = none new next

-- nor after a listing in the middle
pub nothing_behind_mid : (program : Parts) (number : ℕ) (line : List ℕ) (log : Log) (step : LogStep) (mid : LogMid) (longer : Log) → longer ≡ log_listed log step mid
    → ((entry : AtomTree × ℕ) → IsHaveLine program line entry → IsBehind mid.state entry.0 → ⊥) → ((new : SoFar) → ¬ (BeginsNext program number line longer new)) → (new : SoFar) → ¬ (Becomes program number line (Listed log step mid) new)
nothing_behind_mid program number line log step mid longer is unlisted none new (inl goes) = unlisted goes.listed.entry goes.listed.said goes.listed.behind
nothing_behind_mid program number line log step mid longer is unlisted none new (inr next) = none new (subst (λ (all : Log). BeginsNext program number line all new) (sym is) next)

pub by_said : (program parts : Parts) (line : List ℕ) (log : Log) (step : LogStep) (rule : Rule) (proof : ProofTree) (pushed : List ProofTree) (new : SoFar) → parts ≡ program → slice_get parts.rules step.offer.rule ≡ Some rule
    → length step.proofs < length rule.backs → IsByLine program line proof → pushed ≡ step.proofs ++ proof ∷ [] → new ≡ with_step rule log (record step { proofs = pushed }) → GoesOnStep program line log step new
by_said program parts line log step rule proof pushed new is at few said more joined = record {
  rule = rule;
  numbered = subst (λ (p : Parts). slice_get p.rules step.offer.rule ≡ Some rule) is at;
  own = inl (proof, few, said, joined ∙ ap (λ proofs. with_step rule log (record step { proofs = proofs })) more);
}

pub by_none : (program parts : Parts) (line : List ℕ) (log : Log) (step : LogStep) (rule : Rule) → parts ≡ program → slice_get parts.rules step.offer.rule ≡ Some rule
    → length step.proofs < length rule.backs → ((proof : ProofTree) → ¬ (IsByLine program line proof)) → (new : SoFar) → GoesOnStep program line log step new → ⊥
by_none program parts line log step rule is at few none new goes = cases goes.own where
  same : rule ≡ goes.rule
  same = some_same rule goes.rule (sym at ∙ (ap (λ (p : Parts). slice_get p.rules step.offer.rule) is ∙ goes.numbered))

  cases : ((proof : ProofTree) × (length step.proofs < length goes.rule.backs) × IsByLine program line proof × (new ≡ with_step goes.rule log (record step { proofs = step.proofs ++ proof ∷ [] })))
      ⊎ ((stage : ℕ) × (length goes.rule.backs ≤ length step.proofs) × IsStageLine program line stage × (new ≡ with_step goes.rule log (record step { stage = Some stage }))) → ⊥
  cases (inl by) = none by.0 by.2
  cases (inr stage) = let backs = ap (λ (r : Rule). length r.backs) same in let full = stage.1 in omega arith

pub stage_said : (program parts : Parts) (line : List ℕ) (log : Log) (step : LogStep) (rule : Rule) (stage : ℕ) (new : SoFar) → parts ≡ program → slice_get parts.rules step.offer.rule ≡ Some rule
    → length rule.backs ≤ length step.proofs → IsStageLine program line stage → new ≡ with_step rule log (record step { stage = Some stage }) → GoesOnStep program line log step new
stage_said program parts line log step rule stage new is at full said joined = record {
  rule = rule;
  numbered = subst (λ (p : Parts). slice_get p.rules step.offer.rule ≡ Some rule) is at;
  own = inr (stage, full, said, joined);
}

pub not_some : {A : Type 0} (r : Option A) (P : Type 0) (Q : A → Type 0) → ((x : A) → r ≡ Some x → ⊥) → MatchOption r P Q → P
not_some r P Q other q = grind arith

pub none_weaker : {A : Type 0} (r : Option A) (P P' : Type 0) → (P → P') → MatchOption r P (λ x. Unit {0}) → MatchOption r P' (λ x. Unit {0})
none_weaker r P P' f p = grind arith
