-- The backward premises of an offer that applies: they may be asked, and each has a derivation.
use Rattle.std.proofs.Common.{◌≡◌, ⊎_elim, ℕ, zero, suc, ◌+◌, ◌<◌, Bool, true, List, [], ◌∷◌, ◌++◌, length, take, Some, refl, sym, subst, ◌∙◌, arith, Contains}
use Rattle.std.specs.Prelude.{slice_get, IsSome}
use Rattle.std.specs.List.{AllByRecursion}
use Rattle.std.proofs.lemmas.List.{length-map}
use Rattle.cep_run.specs.Turn.{IsProofWithin}
use Rattle.cep_base.proofs.Lists.{none_some, some_same, holds_at, holds_at_mapped, take_next, map_last}
use Rattle.cep_base.proofs.Bools.{and_from as both}
use Rattle.cep_term.specs.Tree.{Tree, Trees, AtomTree, variable, node, none, more, IsGround, OccursIn, Occurs, OccursAmong, IsInRange, AreInRange, IsAtomInRange}
use Rattle.cep_term.specs.Multiset.{Multiset}
use Rattle.cep_term.specs.Values.{Values, value_of, atom_instance, AreGroundValues, HasValues}
use Rattle.cep_rule.specs.declared.signature.Con.{Con}
use Rattle.cep_rule.specs.declared.rule.Rule.{Rule}
use Rattle.cep_rule.specs.declared.parts.Parts.{Parts}
use Rattle.cep_rule.specs.declared.offer.Offer.{Offer}
use Rattle.cep_rule.specs.Patterns.{ClauseTree}
use Rattle.cep_rule.specs.Binding.{needed_of}
use Rattle.cep_rule.specs.Typing.{IsTyped, IsBackward, AreValues}
use Rattle.cep_rule.specs.TypeLaws.{TypeLaws}
use Rattle.cep_rule.specs.Instances.{given, full_instance, full_instances}
use Rattle.cep_rule.specs.Groundness.{Known, nothing, is_known, are_known, positions_known, known_after, known_after_all, CallsAt, IsBad, IsGrounded}
use Rattle.cep_rule.specs.Derivations.{ProofTree, IsDerivable}
use Rattle.cep_rule.specs.Offers.{Applies}
use Rattle.cep_rule.specs.Program.{IsProgram}
use Rattle.cep_rule.specs.Steps.{AreProofs}
use Rattle.cep_prove.specs.Answers.{has_value, IsGoal, IsAnswer, AreAnswers, IsLowestProof}

pub value_given : (values : List Tree) (v : ℕ) → v < length values → IsSome (value_of (given values) v)
value_given (t ∷ values) (suc v) within = value_given values v (omega (arith, within))
value_given values v within = grind arith

mutual
  occurs_within : (n : ℕ) (t : Tree) (v : ℕ) → IsInRange n t → Occurs v t → v < n
  occurs_within n (variable w) v within occurs = subst (λ u. u < n) (sym occurs) within
  occurs_within n (node c args) v within occurs = occurs_among_within n args v within occurs

  occurs_among_within : (n : ℕ) (args : Trees) (v : ℕ) → AreInRange n args → OccursAmong v args → v < n
  occurs_among_within n none v within occurs = absurd occurs
  occurs_among_within n (more t rest) v within occurs = ⊎_elim (λ here. occurs_within n t v within.0 here) (λ later. occurs_among_within n rest v within.1 later) occurs

pub all_valued : (values : List Tree) (a : AtomTree) → IsAtomInRange (length values) a → HasValues (given values) a
all_valued values a within v occurs = value_given values v (occurs_among_within (length values) a.args v within occurs)

mutual
  term_known : (values : List Tree) (t : Tree) → IsInRange (length values) t → is_known (has_value (given values)) t ≡ true
  term_known values (variable v) within = value_given values v within
  term_known values (node c args) within = terms_known values args within

  terms_known : (values : List Tree) (args : Trees) → AreInRange (length values) args → are_known (has_value (given values)) args ≡ true
  terms_known values none within = refl
  terms_known values (more t rest) within = both (is_known (has_value (given values)) t) (are_known (has_value (given values)) rest) (term_known values t within.0) (terms_known values rest within.1)

-- whatever is known, no further position is known than where all variables have values
positions_most : (values : List Tree) (known : Known) (args : Trees) → AreInRange (length values) args → (i : ℕ) → positions_known known args i ≡ true → positions_known (has_value (given values)) args i ≡ true
positions_most values known none within i e = e
positions_most values known (more t rest) within zero e = term_known values t within.0
positions_most values known (more t rest) within (suc i) e = positions_most values known rest within.1 i e

called : (pairs : ℕ → Known → Type 0) (known : Known) (goals : List AtomTree) (i : ℕ) (goal : AtomTree) → slice_get goals i ≡ Some goal → ((any : Known) → pairs goal.pred (positions_known any goal.args)) → CallsAt pairs known goals i
called pairs known (g ∷ goals) (suc i) goal is each = called pairs (known_after known g) goals i goal is each
called pairs known goals i goal is each = grind (arith, none_some, some_same)

-- that no more pairs are bad where more positions are known
abbrev pub AreNoWorse : Type 0
AreNoWorse = (clauses : List ClauseTree) (pred : ℕ) (few many : Known) → ((i : ℕ) → few i ≡ true → many i ≡ true) → IsBad clauses pred many → IsBad clauses pred few

-- values of the right types are ground
pub ground_values : (cons : List Con) (kinds : List ℕ) (values : List Tree) → AreValues cons kinds values → AllByRecursion IsGround values
ground_values cons (sort ∷ kinds) (t ∷ values) are = (are.0.ground, ground_values cons kinds values are.1)
ground_values cons kinds values are = grind arith

pub ground_given : (values : List Tree) → AllByRecursion IsGround values → AreGroundValues (given values)
ground_given (u ∷ values) all (suc v) t e = ground_given values all.1 v t e
ground_given values all v t e = grind (arith, some_same)

module _ (types : TypeLaws) (program : Parts) (height : ℕ) (offer : Offer) (rule : Rule) (kept : IsProgram program) (numbered : slice_get program.rules offer.rule ≡ Some rule) (values : AreValues program.signature.cons rule.kinds offer.values) where
  typed_at : (i : ℕ) (goal : AtomTree) → slice_get rule.backs i ≡ Some goal → IsTyped program.signature rule.kinds goal
  typed_at i goal is = holds_at (IsTyped program.signature rule.kinds) rule.backs i goal (holds_at _ program.rules offer.rule rule kept.typed_rules numbered).backs is

  in_range : (i : ℕ) (goal : AtomTree) → slice_get rule.backs i ≡ Some goal → IsAtomInRange (length offer.values) goal
  in_range i goal is = subst (λ n. IsAtomInRange n goal) (sym (types.as_many program.signature.cons rule.kinds offer.values values)) (types.in_range program.signature rule.kinds goal (typed_at i goal is))

  pub valued : (i : ℕ) (goal : AtomTree) → slice_get rule.backs i ≡ Some goal → HasValues (given offer.values) goal
  valued i goal is = all_valued offer.values goal (in_range i goal is)

  -- each backward premise may be asked with all variables known
  pub may_be_asked : AreNoWorse → (i : ℕ) (goal : AtomTree) → slice_get rule.backs i ≡ Some goal → IsGoal program rule.kinds goal (given offer.values)
  may_be_asked worse i goal is =
      let many = types.as_many program.signature.cons rule.kinds offer.values values in
      record {
        as_many = length-map offer.values Some ∙ many;
        typed = typed_at i goal is;
        backward = holds_at (IsBackward program.signature) rule.backs i goal (holds_at _ program.rules offer.rule rule kept.divided_rules numbered).backs is;
        values = λ v within. types.to_each program.signature.cons rule.kinds offer.values values v (omega (arith, many, within));
        grounded = λ bad. holds_at (IsGrounded program.clauses) program.rules offer.rule rule kept.grounded numbered i
            (called (IsBad program.clauses) (known_after_all nothing (needed_of rule)) rule.backs i goal is
            (λ any. worse program.clauses goal.pred (positions_known any goal.args) (positions_known (has_value (given offer.values)) goal.args)
            (positions_most offer.values any goal.args (in_range i goal is)) bad));
      }

  pub derivable_at : AllByRecursion (IsDerivable program height) (full_instances offer.values rule.backs) → (i : ℕ) (goal : AtomTree) → slice_get rule.backs i ≡ Some goal → IsDerivable program height (atom_instance (given offer.values) goal)
  derivable_at all i goal is = holds_at_mapped (IsDerivable program height) (full_instance offer.values) rule.backs i goal all is

module _ (program : Parts) (height : ℕ) (state : Multiset) (offer : Offer) (rule : Rule) (applies : Applies program height state offer) (numbered : slice_get program.rules offer.rule ≡ Some rule) where
  same_rule : applies.rule ≡ rule
  same_rule = some_same applies.rule rule (sym applies.numbered ∙ numbered)

  pub applied_values : AreValues program.signature.cons rule.kinds offer.values
  applied_values = subst (λ (r : Rule). AreValues program.signature.cons r.kinds offer.values) same_rule applies.values

  pub applied_derivable : AllByRecursion (IsDerivable program height) (full_instances offer.values rule.backs)
  applied_derivable = subst (λ (r : Rule). AllByRecursion (IsDerivable program height) (full_instances offer.values r.backs)) same_rule applies.derivable

-- The answer of a goal whose variables all have values

-- the known values answer it
known_answers : (program : Parts) (height : ℕ) (goal : AtomTree) (known : Values) → HasValues known goal → IsDerivable program height (atom_instance known goal) → IsAnswer program height goal known known
known_answers program height goal known has derivable = record { atom = atom_instance known goal; meets = record { equal = refl; kept = λ v t e. e; set = has; others = λ v never. refl; as_many = refl }; derivable = derivable }

some_within : {A : Type 0} (xs : List A) (x : A) → Contains xs x → 0 < length xs
some_within xs x there = omega (arith, there.1)

-- so there is an answer
pub some_answer : (program : Parts) (height : ℕ) (goal : AtomTree) (known : Values) (answers : List Values) → AreAnswers program height goal known answers → HasValues known goal → IsDerivable program height (atom_instance known goal) → 0 < length answers
some_answer program height goal known answers are has derivable = some_within answers known (are.each known (known_answers program height goal known has derivable))

-- and each has the same instance of the goal
abbrev pub AreAlike : Type 0
AreAlike = (x y : Values) (a : AtomTree) → ((v : ℕ) → OccursIn v a → value_of x v ≡ value_of y v) → atom_instance x a ≡ atom_instance y a

pub same_goal : AreAlike → (program : Parts) (height : ℕ) (goal : AtomTree) (known values : Values) → HasValues known goal → IsAnswer program height goal known values → atom_instance values goal ≡ atom_instance known goal
same_goal alike program height goal known values has answer = alike values known goal (λ v occurs. grind (arith, has v occurs, answer.meets.kept v))

-- the lowest derivation is within the height
pub is_within : (program : Parts) (height : ℕ) (a b : AtomTree) (proof : ProofTree) → a ≡ b → IsLowestProof program proof a → IsDerivable program height b → IsProofWithin program height b proof
is_within program height a b proof same lowest derivable = grind (arith, lowest.lowest, derivable.proof, derivable.proves, derivable.low, lowest.proves)

proofs_next : (program : Parts) (height : ℕ) (proofs : List ProofTree) (atoms : List AtomTree) (proof : ProofTree) (a : AtomTree) → AreProofs program height proofs atoms → IsProofWithin program height a proof → AreProofs program height (proofs ++ proof ∷ []) (atoms ++ a ∷ [])
proofs_next program height (p ∷ proofs) (b ∷ atoms) proof a are is = grind (arith, proofs_next program height proofs atoms proof a are.2 is)
proofs_next program height proofs atoms proof a are is = grind arith

pub one_proof_more : (program : Parts) (height : ℕ) (values : List Tree) (backs : List AtomTree) (i : ℕ) (goal : AtomTree) (proofs : List ProofTree) (proof : ProofTree) → slice_get backs i ≡ Some goal
    → AreProofs program height proofs (full_instances values (take i backs)) → IsProofWithin program height (atom_instance (given values) goal) proof → AreProofs program height (proofs ++ proof ∷ []) (full_instances values (take (i + 1) backs))
one_proof_more program height values backs i goal proofs proof is before one = grind (arith, take_next backs i goal is, map_last (full_instance values) (take i backs) goal, proofs_next program height proofs (full_instances values (take i backs)) proof (full_instance values goal) before one)
