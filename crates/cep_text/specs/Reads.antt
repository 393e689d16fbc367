-- Of which values the bytes are the canonical text, within the sizes that are read.
use Rattle.std.specs.Prelude.{◌≡◌, ℕ, ◌≤◌, List}
use Rattle.std.specs.List.{AllByRecursion}
use Rattle.cep_base.specs.declared.limits.TheConstants.{MOST_HEIGHT}
use Rattle.cep_term.specs.Tree.{Tree, AtomTree, IsFit}
use Rattle.cep_rule.specs.declared.parts.Parts.{Parts}
use Rattle.cep_rule.specs.declared.offer.Offer.{Offer}
use Rattle.cep_rule.specs.Typing.{IsValue}
use Rattle.cep_rule.specs.Derivations.{ProofTree, proof_height}
use Rattle.cep_rule.specs.Shapes.{IsOfferOf, IsProofOf, IsSmallTerm, HasSmallValues}
use Rattle.cep_text.specs.Texts.{term_text, atom_text, offer_text, proof_text, IsTypedGround}

-- The bytes are the text of a value of the type, which is small enough.
pub record IsTermText (program : Parts) (sort : ℕ) (bytes : List ℕ) (t : Tree) : Type 0 where
  pub value : IsValue program.signature.cons sort t
  pub small : IsSmallTerm t
  pub text : bytes ≡ term_text program.signature t

-- The bytes are the text of a ground, well-typed, fit atom, of a predicate of any kind.
pub record IsAtomText (program : Parts) (bytes : List ℕ) (a : AtomTree) : Type 0 where
  pub well_typed : IsTypedGround program.signature a
  pub fit : IsFit a
  pub text : bytes ≡ atom_text program.signature a

-- The bytes are the text of an instance of a rule of the program, with values that are small enough.
pub record IsOfferText (program : Parts) (bytes : List ℕ) (offer : Offer) : Type 0 where
  pub of_rule : IsOfferOf program offer
  pub small : AllByRecursion IsSmallTerm offer.values
  pub text : bytes ≡ offer_text program offer

-- The bytes are the text of a derivation of the program's shape, with values that are small enough, and not too many brackets are open at once: it is as high.
pub record IsProofText (program : Parts) (bytes : List ℕ) (proof : ProofTree) : Type 0 where
  pub of_clauses : IsProofOf program proof
  pub small : HasSmallValues proof
  pub low : proof_height proof ≤ MOST_HEIGHT
  pub text : bytes ≡ proof_text program proof
