-- A log has one text, and one that says the same is legal too.
use Rattle.std.proofs.Common.{◌≡◌, ◌≢◌, ◌⊎◌, inl, inr, ℕ, zero, suc, ◌+◌, ◌<◌, ◌/◌, ◌%◌, List, [], ◌∷◌, ◌++◌, length, map, Bool, true, false, Option, Some, refl, sym, subst, arith, append_assoc, ◌≤◌, ◌∙◌, ap}
use Rattle.std.proofs.lemmas.List.Concat.{flat_map-cons}
use Rattle.std.specs.Fmt.{digit_glyph, digits_onto, digits}
use Rattle.std.specs.List.{AllByRecursion, flat_map, AllZip}
use Rattle.std.specs.Char.{is_ascii_lowercase, is_ascii_uppercase}
use Rattle.std.specs.Prelude.{decimal, slice_get, IsTrue, IsSomeAnd}
use Rattle.cep_base.proofs.Elements.{both_all}
use Rattle.cep_base.proofs.Lists.{none_some, some_same, holds_at, all_weaker}
use Rattle.cep_base.specs.declared.limits.TheConstants.{MOST_LOG}
use Rattle.cep_base.proofs.Options.{some_there as some_con}
use Rattle.cep_base.specs.Spelling.{is_name_byte, IsUnbroken}
use Rattle.cep_term.specs.Multiset.{Multiset}
use Rattle.cep_term.specs.Tree.{Tree, Trees, AtomTree, variable, node, none, more, IsGround, AreGround}
use Rattle.cep_rule.specs.Derivations.{ProofTree, ProofTrees, by_clause, no_goal, goal_by}
use Rattle.cep_rule.specs.Names.{IsWord, IsName, IsVariableName, IsBlankName}
use Rattle.cep_rule.specs.Limits.{IsHeight}
use Rattle.cep_rule.specs.Program.{IsProgram}
use Rattle.cep_rule.specs.Step.{Step}
use Rattle.cep_rule.specs.Shapes.{IsOfferOf, IsProofOf, AreProofsOf}
use Rattle.cep_rule.specs.Typing.{HasSort, HaveSorts, AreValues}
use Rattle.cep_rule.specs.declared.signature.Signature.{Signature}
use Rattle.cep_rule.specs.Steps.{Spot, start_spot, stage_after}
use Rattle.cep_rule.specs.declared.offer.Offer.{Offer}
use Rattle.cep_rule.specs.declared.parts.Parts.{Parts}
use Rattle.cep_rule.specs.declared.rule.Rule.{Rule}
use Rattle.cep_text.specs.Texts.{con_name, pred_name, enclosed, term_text, args_text, atom_text, given_text, all_given_text, offer_text, begin_text, proof_text, proofs_text, IsTypedGround}
use Rattle.cep_lines.specs.Lines.{line, stage_name}
use Rattle.cep_lines.specs.declared.version.Version.{Version}
use Rattle.cep_lines.specs.declared.version.Version.TheVariants.{Two}
use Rattle.cep_log.specs.Legal.{IsListing, IsStepOf, HaveListings, AreLegalSteps, IsLegalEnd, IsLegal}
use Rattle.cep_log.specs.declared.log.LogStep.{LogStep}
use Rattle.cep_log.specs.Transcript.{AreLines, IsOneLine}
use Rattle.cep_log.specs.declared.log.Log.{Log}
use Rattle.cep_log.specs.declared.log.LogEnd.{LogEnd}
use Rattle.cep_log.specs.declared.log.LogMid.{LogMid}
use Rattle.cep_log.specs.Written.{start_texts, mid_texts, step_texts, steps_texts, end_texts, text_of, ListTheSame, SayTheSame, EndTheSame, TellTheSame, DoTheSame, IsRenewal}

-- The texts of values stand on one line, and lines that are written one after another are cut again.

-- Bytes

pub both : (xs ys : List ℕ) → IsOneLine xs → IsOneLine ys → IsOneLine (xs ++ ys)
both xs ys a b = both_all (λ byte. (byte ≢ 10) × (byte ≢ 13)) xs ys a b

-- a byte that passes a test which no end of a line passes
pub plain_byte : (test : ℕ → Bool) → test 10 ≡ false → test 13 ≡ false → (byte : ℕ) → test byte ≡ true → (byte ≢ 10) × (byte ≢ 13)
plain_byte test lf cr byte t = grind arith

name_byte : (byte : ℕ) → IsTrue (is_name_byte byte) → (byte ≢ 10) × (byte ≢ 13)
name_byte = plain_byte is_name_byte refl refl

onto_one : (k base : ℕ) (upper : Bool) (n : ℕ) (acc : List ℕ) → IsOneLine acc → IsOneLine (digits_onto k base upper n acc)
onto_one zero base upper n acc is = is
onto_one (suc k) base upper n acc is = grind (arith, onto_one k base upper (n / base) (digit_glyph upper (n % base) ∷ acc) (grind arith, is))

pub decimal_one : (n : ℕ) → IsOneLine (decimal n)
unfolding digits
decimal_one n = onto_one 64 10 false n [] tt

-- Names

variable_one : (name : List ℕ) → IsVariableName name → IsOneLine name
variable_one name is = cases name is.word where
  cases : (name : List ℕ) → IsWord is_ascii_uppercase name ⊎ IsBlankName name → IsOneLine name
  cases [] word = tt
  cases (byte ∷ bytes) (inl word) = (plain_byte is_ascii_uppercase refl refl byte word.0, all_weaker (λ next. IsTrue (is_name_byte next)) (λ next. (next ≢ 10) × (next ≢ 13)) bytes name_byte word.1)
  cases (byte ∷ bytes) (inr blank) = subst IsOneLine (sym blank.1) (((λ e. omega arith), (λ e. omega arith)), decimal_one blank.0)

named_one : {X : Type 0} (name_of : X → List ℕ) (xs : List X) (i : ℕ) (x : X) → AllByRecursion IsName (map name_of xs) → slice_get xs i ≡ Some x → IsOneLine (name_of x)
named_one name_of (y ∷ xs) (suc i) x all e = named_one name_of xs i x all.1 e
named_one name_of xs i x all e = grind (arith, none_some, some_same, plain_byte is_ascii_lowercase refl refl, all_weaker, name_byte)

-- Terms and atoms

space_one : (text : List ℕ) → IsOneLine text → IsOneLine (32 ∷ text)
space_one text one = (((λ e. omega arith), (λ e. omega arith)), one)

enclosed_one : (args : Trees) (text : List ℕ) → IsOneLine text → IsOneLine (enclosed args text)
enclosed_one args text one = grind (arith, both)

module _ (signature : Signature) (cons : AllByRecursion IsName (map (λ con. con.name) signature.cons)) where
  mutual
    term_one : (t : Tree) (kinds : List ℕ) (sort : ℕ) → IsGround t → HasSort signature.cons kinds sort t → IsOneLine (term_text signature t)
    term_one (variable v) kinds sort ground typed = tt
    term_one (node c args) kinds sort ground typed =
        let con = some_con (slice_get signature.cons c) _ typed in
        enclosed_one args (con_name (slice_get signature.cons c) ++ args_text signature args) (both (con_name (slice_get signature.cons c)) (args_text signature args) (rw con.1 (named_one (λ con. con.name) signature.cons c con.0 cons con.1)) (args_one args kinds con.0.args ground con.2.1))

    args_one : (args : Trees) (kinds sorts : List ℕ) → AreGround args → HaveSorts signature.cons kinds sorts args → IsOneLine (args_text signature args)
    args_one none kinds sorts ground typed = tt
    args_one (more t rest) kinds [] ground typed = absurd typed
    args_one (more t rest) kinds (sort ∷ sorts) ground typed =
        space_one (term_text signature t ++ args_text signature rest) (both (term_text signature t) (args_text signature rest) (term_one t kinds sort ground.0 typed.0) (args_one rest kinds sorts ground.1 typed.1))

  -- what variables are given
  givens_one : (names : List (List ℕ)) (kinds : List ℕ) (values : List Tree) → AllByRecursion IsVariableName names → AreValues signature.cons kinds values → IsOneLine (all_given_text signature names values)
  givens_one (name ∷ names) (kind ∷ kinds) (value ∷ values) all are =
      both (given_text signature name value) (all_given_text signature names values)
      (space_one (name ++ (61 ∷ term_text signature value)) (both name (61 ∷ term_text signature value) (variable_one name all.0) (((λ e. omega arith), (λ e. omega arith)), term_one value [] kind are.0.ground are.0.typed)))
      (givens_one names kinds values all.1 are.1)
  givens_one names kinds values all are = grind arith

module _ (program : Parts) (is : IsProgram program) where
  cons_named : AllByRecursion IsName (map (λ con. con.name) program.signature.cons)
  cons_named = is.named.cons.each

  pub atom_one : (a : AtomTree) → IsTypedGround program.signature a → IsOneLine (atom_text program.signature a)
  atom_one a typed =
      let pred = some_con (slice_get program.signature.preds a.pred) _ typed.typed in
      both (pred_name (slice_get program.signature.preds a.pred)) (args_text program.signature a.args) (rw pred.1 (named_one (λ pred. pred.name) program.signature.preds a.pred pred.0 is.named.preds.each pred.1)) (args_one program.signature cons_named a.args [] pred.0.args typed.is_ground pred.2)

  pub offer_one : (offer : Offer) → IsOfferOf program offer → IsOneLine (offer_text program offer)
  offer_one offer of = grind (arith, some_con, both, named_one, givens_one, cons_named, holds_at)

  begin_one : (number : ℕ) (values : List Tree) → IsSomeAnd (slice_get program.clauses number) (λ clause. AreValues program.signature.cons clause.kinds values) → IsOneLine (begin_text program number values)
  begin_one number values of = grind (arith, some_con, both, decimal_one (number + 1), givens_one, cons_named, holds_at, is.named.clause_vars)

  mutual
    pub proof_one : (proof : ProofTree) → IsProofOf program proof → IsOneLine (proof_text program proof)
    proof_one (by_clause number values subs) of = grind (arith, both, begin_one number values of.0, proofs_one subs of.2, of.0, of.2)

    proofs_one : (proofs : ProofTrees) → AreProofsOf program proofs → IsOneLine (proofs_text program proofs)
    proofs_one no_goal of = tt
    proofs_one (goal_by proof proofs) of = space_one (proof_text program proof ++ proofs_text program proofs) (both (proof_text program proof) (proofs_text program proofs) (proof_one proof of.0) (proofs_one proofs of.1))

  pub stage_one : (stage : ℕ) → stage < length program.stages → IsOneLine (stage_name (slice_get program.stages stage))
  stage_one stage within = grind (arith, named_one)

-- Lines

unbroken : (bytes : List ℕ) → IsOneLine bytes → IsUnbroken bytes
unbroken [] one = tt
unbroken (byte ∷ bytes) one = (one.0.0, unbroken bytes one.1)

no_cr_at_end : (bytes front : List ℕ) → IsOneLine bytes → bytes ≢ front ++ 13 ∷ []
no_cr_at_end [] [] one e = absurd cc
no_cr_at_end [] (first ∷ front) one e = absurd cc
no_cr_at_end (byte ∷ bytes) [] one e = let same : byte ≡ 13 = cc in one.0.1 same
no_cr_at_end (byte ∷ bytes) (first ∷ front) one e = let rest : bytes ≡ front ++ 13 ∷ [] = cc in no_cr_at_end bytes front one.1 rest

pub written_lines : (lines : List (List ℕ)) → AllByRecursion IsOneLine lines → AreLines (flat_map line lines) lines
written_lines [] all = refl
written_lines (first ∷ lines) all = grind (arith, flat_map-cons, append_assoc, unbroken, no_cr_at_end, all.0, written_lines lines all.1, all.1)

-- A log that says the same as a legal one is legal, and has the same text in the same version.

-- Listings

listings_too : (version : Version) (number : ℕ) (steps others : List LogStep) → AllZip SayTheSame steps others → HaveListings version number steps → HaveListings version number others
listings_too version number (step ∷ steps) (other ∷ others) same have = ((grind arith) ∙ have.0, listings_too version (number + 1) steps others same.1 have.1)
listings_too version number steps others same have = grind arith

-- Steps

module _ (program : Parts) where
  steps_of_too : (steps others : List LogStep) → AllZip SayTheSame steps others → AllByRecursion (IsStepOf program) steps → AllByRecursion (IsStepOf program) others
  steps_of_too (step ∷ steps) (other ∷ others) same of = (grind arith, steps_of_too steps others same.1 of.1)
  steps_of_too steps others same of = grind arith

  legal_steps_too : (height : ℕ) (steps others : List LogStep) (old last : Spot) → AllZip SayTheSame steps others → AreLegalSteps program height steps old last → AreLegalSteps program height others old last
  legal_steps_too height (step ∷ steps) (other ∷ others) old last same legal =
      (legal.0, (grind arith), legal_steps_too height steps others legal.0 last same.1 legal.2)
  legal_steps_too height steps others old last same legal = grind arith

  pub legal_too : (one other : Log) → IsLegal program one → other.version ≡ one.version → TellTheSame SayTheSame one other → other.lines ≤ MOST_LOG → length other.steps ≤ other.lines → IsLegal program other
  legal_too one other legal version same lines few = record {
    of_program = record {
      height = subst IsHeight same.height legal.of_program.height;
      stage = subst (λ (stage : ℕ). stage < length program.stages) same.stage legal.of_program.stage;
      start = subst (IsListing program.signature) same.start legal.of_program.start;
      steps = steps_of_too one.steps other.steps same.steps legal.of_program.steps;
      listed = subst (λ (version : Version). HaveListings version 1 other.steps) (sym version) (listings_too one.version 1 one.steps other.steps same.steps legal.of_program.listed);
      ending = grind arith;
      lines = lines;
      few = few;
    };
    stage = sym same.stage ∙ legal.stage;
    start = sym same.start ∙ legal.start;
    last = legal.last;
    steps = subst (λ (height : ℕ). AreLegalSteps program height other.steps (start_spot program) legal.last) same.height (legal_steps_too one.height one.steps other.steps (start_spot program) legal.last same.steps legal.steps);
    ending = subst (λ (height : ℕ). IsSomeAnd other.end (IsLegalEnd program height legal.last)) same.height (grind arith);
  }

  -- Texts

  same_mids : (number : ℕ) (one other : Option LogMid) → ListTheSame one other → mid_texts program number one ≡ mid_texts program number other
  same_mids number one other same = grind arith

  same_step : (number : ℕ) (one other : LogStep) → SayTheSame one other → step_texts program number one ≡ step_texts program number other
  same_step number one other same = rw (same.does.offer, same.does.proofs, same.does.stage, same_mids number one.mid other.mid same.lists)

  same_steps : (number : ℕ) (steps others : List LogStep) → AllZip SayTheSame steps others → steps_texts program number steps ≡ steps_texts program number others
  same_steps number (step ∷ steps) (other ∷ others) same = cc (same_step number step other same.0, same_steps (number + 1) steps others same.1)
  same_steps number steps others same = grind arith

  same_ends : (one other : Option LogEnd) → EndTheSame one other → end_texts program one ≡ end_texts program other
  same_ends one other same = grind arith

  same_start : (one other : Log) → one.version ≡ other.version → TellTheSame SayTheSame one other → start_texts program one ≡ start_texts program other
  same_start one other version same = rw (version, same.height, same.stage, same.start)

  pub same_text : (one other : Log) → one.version ≡ other.version → TellTheSame SayTheSame one other → text_of program one ≡ text_of program other
  same_text one other version same = cc (same_start one other version same, same_steps 1 one.steps other.steps same.steps, same_ends one.end other.end same.ends)

-- What a log is renewed into has one text.

-- two that are as a third are as each other
do_both : (steps one other : List LogStep) → AllZip DoTheSame steps one → AllZip DoTheSame steps other → AllZip DoTheSame one other
do_both (step ∷ steps) (step' ∷ one) (step'' ∷ other) first second = grind (arith, first.0.offer, second.0.offer, first.0.proofs, second.0.proofs, first.0.stage, second.0.stage, do_both steps one other first.1 second.1, first.1, second.1)
do_both steps one other first second = grind arith

module _ (one_state : (signature : Signature) (rule : Rule) (values : List Tree) (old one other : Multiset) → Step signature rule values old one → Step signature rule values old other → one ≡ other) (program : Parts) where
  say_both : (height : ℕ) (number : ℕ) (one other : List LogStep) (old last last' : Spot) → AllZip DoTheSame one other → AreLegalSteps program height one old last → AreLegalSteps program height other old last'
      → HaveListings Two number one → HaveListings Two number other → AllZip SayTheSame one other
  say_both height number (step ∷ one) (step' ∷ other) old last last' same legal legal' have have' =
      let is = legal.1 in
      let is' = legal'.1 in
      let offers = same.0.offer in
      let rules : is'.rule ≡ is.rule = some_same is'.rule is.rule (sym is'.machine.numbered ∙ ap (λ (offer : Offer). slice_get program.rules offer.rule) (sym offers) ∙ is.machine.numbered) in
      let stepped : Step program.signature is.rule step.offer.values old.state legal'.0.state = rw (offers, ← rules) is'.machine.steps.step in
      let states : legal.0.state ≡ legal'.0.state = one_state program.signature is.rule step.offer.values old.state legal.0.state legal'.0.state is.machine.steps.step stepped in
      let stages : legal.0.stage ≡ legal'.0.stage = is.machine.steps.stage ∙ ap (λ (rule : Rule). stage_after rule old.stage) (sym rules) ∙ sym is'.machine.steps.stage in
      let spots : legal.0 ≡ legal'.0 = λ i. record { stage = stages i; state = states i } in
      let listed' = rw (← states) at is'.mid in (
        (record { does = same.0; lists = (grind arith) }),
        (say_both height (number + 1) one other legal.0 last last' same.1 legal.2 (rw (← spots) at legal'.2) have.1 have'.1),
      )
  say_both height number one other old last last' same legal legal' have have' = grind arith

  pub renewals_same : (old one other : Log) → IsRenewal program old one → IsRenewal program old other → text_of program one ≡ text_of program other
  renewals_same old one other is is' = grind (arith, do_both, same_text, say_both)
