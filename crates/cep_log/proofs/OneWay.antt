-- What a line says, and what was read with it, is one thing.
use Rattle.std.proofs.Common.{◌≡◌, ◌≢◌, ◌⊎◌, inl, inr, ℕ, suc, ◌+◌, ◌<◌, ◌≤◌, ◌^◌, List, [], ◌∷◌, ◌++◌, length, map, true, Some, sym, ap, ◌∙◌, arith}
use Rattle.std.proofs.lemmas.Bool.{false≢true}
use Rattle.std.specs.Str.{all_ascii_digits}
use Rattle.std.proofs.lemmas.Fmt.{decimal_injective, digits_decimal}
use Rattle.std.proofs.lemmas.Str.Parse.{numerals_by_value, tells_all_ascii_digits}
use Rattle.std.specs.Char.{is_ascii_digit}
use Rattle.std.specs.Prelude.{codes, decimal, slice_get}
use Rattle.cep_base.proofs.Lists.{none_some, some_same, holds_at}
use Rattle.cep_base.specs.declared.limits.TheConstants.{MOST_COPIES}
use Rattle.cep_term.specs.Tree.{AtomTree}
use Rattle.cep_rule.specs.Derivations.{ProofTree}
use Rattle.cep_rule.specs.Names.{AllDiffer}
use Rattle.cep_rule.specs.declared.rule.Rule.{Rule}
use Rattle.cep_rule.specs.Shapes.{IsOfferOf, IsProofOf}
use Rattle.cep_rule.specs.declared.offer.Offer.{Offer}
use Rattle.cep_rule.specs.declared.parts.Parts.{Parts}
use Rattle.cep_rule.specs.declared.parts.Stage.{Stage}
use Rattle.cep_text.specs.Texts.{atom_text, offer_text, proof_text, IsTypedGround}
use Rattle.cep_lines.specs.Lines.{version_text, stage_name, ending_word}
use Rattle.cep_lines.specs.declared.end_word.EndWord.{EndWord}
use Rattle.cep_lines.specs.declared.version.Version.{Version}
use Rattle.cep_log.proofs.Parted.{HasNone, one_parting}
use Rattle.cep_log.specs.declared.so_far.SoFar.{SoFar}
use Rattle.cep_log.specs.Transcript.{IsHaveLine, IsStageLine, IsStepLine, IsByLine, GoesOnListing, GoesOnStep, BeginsStep, BeginsNext, Becomes, MovesOn, Leads, log_begun, log_listed, with_step}
use Rattle.cep_log.specs.declared.log.Log.{Log}
use Rattle.cep_log.specs.declared.log.LogStep.{LogStep}
use Rattle.cep_log.specs.declared.so_far.SoFar.TheVariants.{Nothing, Begun, Height, Whole, Within, Unlisted, Listed, Ended}

-- Numbers

no_space : (byte : ℕ) → is_ascii_digit byte ≡ true → byte ≢ 32
no_space byte t e = absurd (false≢true (rw e at t))

digits_unspaced : (digits : List ℕ) → all_ascii_digits digits ≡ true → HasNone 32 digits
digits_unspaced [] t = tt
digits_unspaced (byte ∷ digits) t = grind (arith, no_space byte, digits_unspaced digits)

pub decimal_unspaced : (n : ℕ) → n < 2 ^ 64 → HasNone 32 (decimal n)
decimal_unspaced n short = digits_unspaced (decimal n) (digits_decimal (numerals_by_value (λ digits. all_ascii_digits digits ≡ true) tells_all_ascii_digits) n short)

-- the count and the text after it
pub one_count : (m n : ℕ) (text text' : List ℕ) → m ≤ MOST_COPIES → n ≤ MOST_COPIES → decimal m ++ (32 ∷ text) ≡ decimal n ++ (32 ∷ text') → (m ≡ n) × (text ≡ text')
one_count m n text text' a b e = grind (arith, one_parting, decimal_unspaced, decimal_injective)

-- Names

pub number_named : (names : List (List ℕ)) (i j : ℕ) (name : List ℕ) → AllDiffer names → slice_get names i ≡ Some name → slice_get names j ≡ Some name → i ≡ j
number_named (first ∷ names) (suc i) (suc j) name differ a b = ap suc (number_named names i j name differ.1 a b)
number_named names i j name differ a b = grind (arith, none_some, holds_at, some_same)

stage_there : (stages : List Stage) (i : ℕ) → i < length stages → slice_get (map (λ stage. stage.name) stages) i ≡ Some (stage_name (slice_get stages i))
stage_there (stage ∷ stages) (suc i) h = stage_there stages i (omega arith)
stage_there stages i h = grind arith

pub one_word : (a b : EndWord) → ending_word a ≡ ending_word b → a ≡ b
one_word a b e = grind arith

one_version : (a b : Version) → version_text a ≡ version_text b → a ≡ b
one_version a b e = grind arith

-- A listing's line, a step's and an end's begin with different bytes.
have_or_step : (xs ys : List ℕ) → codes "have " ++ xs ≡ codes "step " ++ ys → ⊥
have_or_step xs ys e = let h : ◌≡◌ {A = ℕ} 104 115 = cc in omega arith

have_or_end : (xs ys : List ℕ) → codes "have " ++ xs ≡ codes "end " ++ ys → ⊥
have_or_end xs ys e = let h : ◌≡◌ {A = ℕ} 104 101 = cc in omega arith

step_or_end : (xs ys : List ℕ) → codes "step " ++ xs ≡ codes "end " ++ ys → ⊥
step_or_end xs ys e = let h : ◌≡◌ {A = ℕ} 115 101 = cc in omega arith

-- no text is that of two values
pub record OneValue (program : Parts) : Type 0 where
  pub atoms : (one other : AtomTree) → IsTypedGround program.signature one → IsTypedGround program.signature other → atom_text program.signature one ≡ atom_text program.signature other → one ≡ other
  pub offers : (one other : Offer) → IsOfferOf program one → IsOfferOf program other → offer_text program one ≡ offer_text program other → one ≡ other
  pub derivations : (one other : ProofTree) → IsProofOf program one → IsProofOf program other → proof_text program one ≡ proof_text program other → one ≡ other
  pub stages : AllDiffer (map (λ stage. stage.name) program.stages)

module _ (program : Parts) (laws : OneValue program) where
  one_stage : (line : List ℕ) (i j : ℕ) → IsStageLine program line i → IsStageLine program line j → i ≡ j
  one_stage line i j a b = grind (arith, number_named, stage_there program.stages i a.in_range, stage_there program.stages j b.in_range, program.stages, a.written, b.written, laws.stages, a.in_range, b.in_range)

  pub one_have : (line : List ℕ) (e f : AtomTree × ℕ) → IsHaveLine program line e → IsHaveLine program line f → e ≡ f
  one_have line e f a b =
      let h : codes "have " ++ (decimal e.1 ++ (32 ∷ a.text)) ≡ codes "have " ++ (decimal f.1 ++ (32 ∷ b.text)) = sym a.written ∙ b.written in
      let parts = one_count e.1 f.1 a.text b.text a.few b.few cc in
      λ i. ((laws.atoms e.0 f.0 a.atom.well_typed b.atom.well_typed (sym a.atom.text ∙ (parts.1 ∙ b.atom.text))) i, parts.0 i)

  pub one_step : (line : List ℕ) (o p : Offer) → IsStepLine program line o → IsStepLine program line p → o ≡ p
  one_step line o p a b = grind (arith, a.text, b.text, a.written, b.written, laws.offers, a.offer_is.of_rule, b.offer_is.of_rule, a.offer_is.text, b.offer_is.text)

  pub one_by : (line : List ℕ) (d e : ProofTree) → IsByLine program line d → IsByLine program line e → d ≡ e
  one_by line d e a b = grind (arith, a.text, b.text, a.written, b.written, laws.derivations, a.proof_is.of_clauses, b.proof_is.of_clauses, a.proof_is.text, b.proof_is.text)

  one_listing : (line : List ℕ) (old new new' : List (AtomTree × ℕ)) → GoesOnListing program line old new → GoesOnListing program line old new' → new ≡ new'
  one_listing line old new new' a b = a.added ∙ (ap (λ entry. old ++ entry ∷ []) (one_have line a.entry b.entry a.said b.said) ∙ sym b.added)

  one_rule : (number : ℕ) (r s : Rule) → slice_get program.rules number ≡ Some r → slice_get program.rules number ≡ Some s → r ≡ s
  one_rule number r s a b = some_same r s (sym a ∙ b)

  one_own : (line : List ℕ) (log : Log) (step : LogStep) (new new' : SoFar) → GoesOnStep program line log step new → GoesOnStep program line log step new' → new ≡ new'
  one_own line log step new new' a b = cases a.own (rw (← same_rule) at b.own) where
    same_rule : a.rule ≡ b.rule
    same_rule = one_rule step.offer.rule a.rule b.rule a.numbered b.numbered

    Own : SoFar → Type 0
    Own new = ((proof : ProofTree) × (length step.proofs < length a.rule.backs) × IsByLine program line proof × (new ≡ with_step a.rule log (record step { proofs = step.proofs ++ proof ∷ [] })))
        ⊎ ((stage : ℕ) × (length a.rule.backs ≤ length step.proofs) × IsStageLine program line stage × (new ≡ with_step a.rule log (record step { stage = Some stage })))

    cases : Own new → Own new' → new ≡ new'
    cases (inl p) (inl q) = p.3 ∙ ap (λ proof. with_step a.rule log (record step { proofs = step.proofs ++ proof ∷ [] })) (one_by line p.0 q.0 p.2 q.2) ∙ sym q.3
    cases (inr p) (inr q) = p.3 ∙ ap (λ stage. with_step a.rule log (record step { stage = Some stage })) (one_stage line p.0 q.0 p.2 q.2) ∙ sym q.3
    cases (inl p) (inr q) = absurd (omega (arith, p.1, q.1))
    cases (inr p) (inl q) = absurd (omega (arith, p.1, q.1))

  one_begun : (number : ℕ) (line : List ℕ) (log : Log) (new new' : SoFar) → BeginsStep program number line log new → BeginsStep program number line log new' → new ≡ new'
  one_begun number line log new new' a b = grind (arith, one_step line a.offer b.offer a.said b.said, one_rule)

  one_next : (number : ℕ) (line : List ℕ) (log : Log) (new new' : SoFar) → BeginsNext program number line log new → BeginsNext program number line log new' → new ≡ new'
  one_next number line log new new' (inl a) (inl b) = one_begun number line log new new' a b
  one_next number line log new new' (inr a) (inr b) = grind (arith, one_word, a.word, b.word, a.said, b.said, a.ended, b.ended)
  one_next number line log new new' (inl a) (inr b) = absurd (step_or_end _ _ (sym a.said.written ∙ b.said))
  one_next number line log new new' (inr a) (inl b) = absurd (step_or_end _ _ (sym b.said.written ∙ a.said))

  pub one_taken : (number : ℕ) (line : List ℕ) (old new new' : SoFar) → Becomes program number line old new → Becomes program number line old new' → new ≡ new'
  one_taken number line Nothing new new' a b = a.2 ∙ (ap Begun (one_version a.0 b.0 (sym a.1 ∙ b.1)) ∙ sym b.2)
  one_taken number line (Begun version) new new' a b = a.3 ∙ (ap (Height version) (grind (arith, decimal_injective)) ∙ sym b.3)
  one_taken number line (Height version height) new new' a b = a.2 ∙ (ap (λ stage. Whole (log_begun version height number stage)) (one_stage line a.0 b.0 a.1 b.1) ∙ sym b.2)
  one_taken number line (Whole log) new new' (inl a) (inl b) = a.whole ∙ (ap (λ start. Whole (record log { start = start })) (one_listing line log.start a.start b.start a.listed b.listed) ∙ sym b.whole)
  one_taken number line (Whole log) new new' (inr a) (inr b) = one_next number line log new new' a b
  one_taken number line (Within log step) new new' a b = one_own line log step new new' a b
  one_taken number line (Unlisted log step) new new' a b = a.1 ∙ sym b.1
  one_taken number line (Listed log step mid) new new' (inl a) (inl b) = a.more ∙ (ap (λ state. Listed log step (record mid { state = state })) (one_listing line mid.state a.state b.state a.listed b.listed) ∙ sym b.more)
  one_taken number line (Listed log step mid) new new' (inr a) (inr b) = one_next number line (log_listed log step mid) new new' a b
  one_taken number line (Ended log end) new new' a b = a.ended ∙ (ap (λ state. Ended log (record end { state = state })) (one_listing line end.state a.state b.state a.listed b.listed) ∙ sym b.ended)
  one_taken number line (Whole log) new new' (inl a) (inr b) = absurd (grind (arith, have_or_step, have_or_end))
  one_taken number line (Whole log) new new' (inr a) (inl b) = absurd (grind (arith, have_or_step, have_or_end))
  one_taken number line (Listed log step mid) new new' (inl a) (inr b) = absurd (grind (arith, have_or_step, have_or_end))
  one_taken number line (Listed log step mid) new new' (inr a) (inl b) = absurd (grind (arith, have_or_step, have_or_end))

  pub one_passed : (number : ℕ) (line : List ℕ) (old new new' : SoFar) → MovesOn program number line old new → MovesOn program number line old new' → new ≡ new'
  one_passed number line old new new' given given' = grind (arith, one_taken)

  pub one_way : (number : ℕ) (lines : List (List ℕ)) (old new new' : SoFar) → Leads program number lines old new → Leads program number lines old new' → new ≡ new'
  one_way number [] old new new' a b = a ∙ sym b
  one_way number (line ∷ lines) old new new' a b = one_way (number + 1) lines b.0 new new' (rw (one_passed number line old a.0 b.0 a.1 b.1) at a.2) b.2
