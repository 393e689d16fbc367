-- How claims are spelled: a factor and a line in one way, and a name is that of one predicate.
use Rattle.std.proofs.Common.{◌≡◌, ℕ, ◌<◌, List, [], ◌∷◌, refl, sym, ap, ◌∙◌, subst, arith, slice_get, Bool, false, ◌^◌, ℤ, ◌≢◌, ⊎_elim, suc, true, map, Contains, IsSomeAnd}
use Rattle.std.specs.List.{AllByRecursion}
use Rattle.std.specs.Int.RustNames.{FitsSigned}
use Rattle.std.proofs.lemmas.Int.{ints}
use Rattle.cep_base.specs.declared.kind.PredKind.TheVariants.{Linear}
use Rattle.cep_base.proofs.Elements.{contains_cases}
use Rattle.cep_rule.specs.declared.signature.Signature.{Signature}
use Rattle.cep_rule.specs.declared.signature.PredDecl.{PredDecl}
use Rattle.cep_rule.specs.Names.{AllDiffer}
use Rattle.cep_claim.specs.declared.weight.Part.{Part}
use Rattle.cep_claim.specs.declared.weight.Claim.{Claim}
use Rattle.cep_claim.specs.declared.written.NamedPart.{NamedPart}
use Rattle.cep_claim.specs.Factors.{IsFactor}
use Rattle.cep_claim.specs.Written.{IsNamedPart, AreResolved, claim_word, parts_words, IsWrittenAs, IsLinearNamed, SomeIsUnknown}
use Rattle.std.specs.Fmt.{signed_decimal}
use Rattle.std.proofs.lemmas.Fmt.{signed_decimal_injective}
use Rattle.cep_claim.specs.declared.written.Written.{Written}
use lib.Signed.{mag}
use mir.Syntax.{w64}
use Rattle.cep_claim.specs.declared.weight.Claim.TheVariants as claim

-- Factors as numbers: they are small, and each is spelled in one way.

pub small : (z : ℤ) → IsFactor z → mag z < 2 ^ 63
small z is = grind (arith, ints)

pub fits : (z : ℤ) → IsFactor z → FitsSigned w64 z
fits z is = record { sfits = small z is }

pub one_factor : (y z : ℤ) → IsFactor y → IsFactor z → signed_decimal y ≡ signed_decimal z → y ≡ z
one_factor y z is is' e = signed_decimal_injective y z (small y is) (small z is') e

-- a line is written as one claim
abbrev head_of : List ℕ → ℕ
head_of [] = 0
head_of (byte ∷ bytes) = byte

abbrev first_byte : Claim → ℕ
first_byte claim.Keep = 107
first_byte claim.Most = 109
first_byte claim.Fall = 102

begins : (c : Claim) → head_of (claim_word c) ≡ first_byte c
begins c = grind arith

one_word : (one other : Claim) → claim_word one ≡ claim_word other → one ≡ other
one_word one other e = grind (arith, begins)

one_sum : (first : Bool) (parts others : List NamedPart) → AllByRecursion IsNamedPart parts → AllByRecursion IsNamedPart others → parts_words first parts ≡ parts_words first others → parts ≡ others
one_sum first [] [] each each' e = refl
one_sum first (part ∷ parts) (other ∷ others) each each' e = grind (arith, one_factor part.factor other.factor each.0.factor each'.0.factor cc, one_sum false parts others each.1 each'.1 cc)
one_sum first parts others each each' e = absurd cc

pub one_written : (line : List ℕ) (one other : Written) → IsWrittenAs line one → IsWrittenAs line other → one ≡ other
one_written line one other is is' = grind (arith, sym is.words ∙ is'.words, one_word one.claim other.claim cc, one_sum true one.parts other.parts is.writable.parts is'.writable.parts cc)

-- a name is that of one predicate
abbrev Named : List PredDecl → ℕ → List ℕ → Type 0
Named preds pred name = IsSomeAnd (slice_get preds pred) (λ decl. (decl.name ≡ name) × (decl.kind ≡ Linear))

among : (preds : List PredDecl) (pred : ℕ) (name other : List ℕ) → AllByRecursion (λ next. other ≢ next) (map (λ decl. decl.name) preds) → Named preds pred name → other ≡ name → ⊥
among (decl ∷ preds) (suc pred) name other apart is e = among preds pred name other apart.1 is e
among preds pred name other apart is e = grind arith

one_pred : (preds : List PredDecl) (one other : ℕ) (name : List ℕ) → AllDiffer (map (λ decl. decl.name) preds) → Named preds one name → Named preds other name → one ≡ other
one_pred (decl ∷ preds) (suc one) (suc other) name differ is is' = ap suc (one_pred preds one other name differ.1 is is')
one_pred preds one other name differ is is' = grind (arith, among)

module _ (signature : Signature) (differ : AllDiffer (map (λ decl. decl.name) signature.preds)) where
  one_numbering : (parts : List NamedPart) (one other : List Part) → AreResolved signature parts one → AreResolved signature parts other → one ≡ other
  one_numbering (named ∷ parts) (part ∷ one) (part' ∷ other) are are' = grind (arith, one_pred signature.preds part.pred part'.pred named.name differ are.1 are'.1, are.0 ∙ sym are'.0, one_numbering parts one other are.2 are'.2)
  one_numbering parts one other are are' = grind arith

  pub sum_of_line : (line : List ℕ) (one other : Written) (sum sum' : List Part) → IsWrittenAs line one → IsWrittenAs line other → AreResolved signature one.parts sum → AreResolved signature other.parts sum' → sum ≡ sum'
  sum_of_line line one other sum sum' is is' are are' = grind (arith, one_numbering, one_written, other.parts)

  -- a name that has a number is not unknown
  known_at : (parts : List NamedPart) (sum : List Part) (named : NamedPart) → AreResolved signature parts sum → Contains parts named → (pred : ℕ) × IsLinearNamed signature pred named.name
  known_at (first ∷ parts) (part ∷ sum) named are there =
      ⊎_elim (λ (same : first ≡ named). (part.pred, subst (λ (p : NamedPart). IsLinearNamed signature part.pred p.name) same are.1))
      (λ later. known_at parts sum named are.2 later) (contains_cases first parts named there)
  known_at parts sum named are there = grind arith

  pub none_unknown : (line : List ℕ) (one other : Written) (sum : List Part) → IsWrittenAs line one → IsWrittenAs line other → AreResolved signature other.parts sum → ¬ SomeIsUnknown signature one.parts
  none_unknown line one other sum is is' are unknown =
      let known = known_at other.parts sum unknown.0 are (subst (λ (w : Written). Contains w.parts unknown.0) (one_written line one other is is') unknown.1) in
      unknown.2 known.0 known.1
