-- The lines that are written of a log can each be written as one line.
use Rattle.std.proofs.Common.{◌≡◌, ℕ, ◌<◌, ◌==◌, ◌&&◌, not, List, [], ◌∷◌, map, Bool, true, Option, refl, arith}
use Rattle.std.specs.List.{AllByRecursion}
use Rattle.std.specs.Prelude.{codes, decimal, slice_get, IfSome, length}
use Rattle.cep_base.proofs.Lists.{all_mapped}
use Rattle.cep_term.specs.Tree.{AtomTree}
use Rattle.cep_rule.specs.Derivations.{ProofTree}
use Rattle.cep_rule.specs.Program.{IsProgram}
use Rattle.cep_rule.specs.Shapes.{IsOfferOf}
use Rattle.cep_rule.specs.declared.offer.Offer.{Offer}
use Rattle.cep_rule.specs.declared.parts.Parts.{Parts}
use Rattle.cep_text.specs.Texts.{offer_text, proof_text}
use Rattle.cep_lines.specs.Lines.{version_text, height_text, stage_name, stage_text, have_text, step_text, by_text, state_text}
use Rattle.cep_lines.specs.declared.version.Version.{Version}
use Rattle.cep_log.proofs.SameLogs.{both, plain_byte, decimal_one, atom_one, offer_one, proof_one, stage_one}
use Rattle.cep_log.specs.Transcript.{IsOneLine, IsReadable, stage_texts}
use Rattle.cep_log.specs.Legal.{IsHave, IsListing}
use Rattle.cep_log.specs.Written.{mid_texts, end_texts}
use Rattle.cep_log.specs.declared.log.LogEnd.{LogEnd}
use Rattle.cep_log.specs.declared.log.LogMid.{LogMid}

-- Literals are told by a test.

abbrev is_plain : ℕ → Bool
is_plain byte = not (byte == 10) && not (byte == 13)

abbrev all_plain : List ℕ → Bool
all_plain [] = true
all_plain (byte ∷ bytes) = is_plain byte && all_plain bytes

literal : (bytes : List ℕ) → all_plain bytes ≡ true → IsOneLine bytes
literal [] all = tt
literal (byte ∷ bytes) all = grind (arith, plain_byte is_plain refl refl byte, literal bytes)

-- Lines that are made of words and numbers.

pub version_one : (version : Version) → IsOneLine (version_text version)
version_one version = grind (arith, literal)

pub height_one : (height : ℕ) → IsOneLine (height_text height)
height_one height = both (codes "height ") (decimal height) (literal (codes "height ") refl) (decimal_one height)

state_one : (number : ℕ) → IsOneLine (state_text number)
state_one number = both (codes "state ") (decimal number) (literal (codes "state ") refl) (decimal_one number)

-- Lines that are made of parts of a program.

module _ (program : Parts) (is : IsProgram program) where
  pub stage_text_one : (stage : ℕ) → stage < length program.stages → IsOneLine (stage_text program stage)
  stage_text_one stage within = both (codes "stage ") (stage_name (slice_get program.stages stage)) (literal (codes "stage ") refl) (stage_one program is stage within)

  pub step_text_one : (offer : Offer) → IsOfferOf program offer → IsOneLine (step_text program offer)
  step_text_one offer of = both (codes "step ") (offer_text program offer) (literal (codes "step ") refl) (offer_one program is offer of)

  have_one : (entry : AtomTree × ℕ) → IsHave program.signature entry → IsOneLine (have_text program.signature entry)
  have_one entry have = grind (arith, both, literal, decimal_one, atom_one)

  pub haves_one : (entries : List (AtomTree × ℕ)) → AllByRecursion (IsHave program.signature) entries → AllByRecursion IsOneLine (map (have_text program.signature) entries)
  haves_one entries all = all_mapped (IsHave program.signature) IsOneLine (have_text program.signature) entries have_one all

  pub bys_one : (proofs : List ProofTree) → AllByRecursion (IsReadable program) proofs → AllByRecursion IsOneLine (map (by_text program) proofs)
  bys_one proofs all = all_mapped (IsReadable program) IsOneLine (by_text program) proofs (λ proof of. both (codes "by ") (proof_text program proof) (literal (codes "by ") refl) (proof_one program is proof of.of_clauses)) all

  pub stages_one : (stage : Option ℕ) → IfSome stage (λ stage. stage < length program.stages) → AllByRecursion IsOneLine (stage_texts program stage)
  stages_one stage within = grind (arith, stage_text_one)

  pub mids_one : (number : ℕ) (mid : Option LogMid) → IfSome mid (λ mid. IsListing program.signature mid.state) → AllByRecursion IsOneLine (mid_texts program number mid)
  mids_one number mid listing = grind (arith, state_one, haves_one)

  pub ends_one : (end : Option LogEnd) → IfSome end (λ end. IsListing program.signature end.state) → AllByRecursion IsOneLine (end_texts program end)
  ends_one end listing = grind (arith, haves_one)
