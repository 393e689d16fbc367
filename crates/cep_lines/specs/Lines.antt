-- The lines of a transcript.
use Rattle.std.specs.Prelude.{ℕ, ◌+◌, ◌%◌, ◌==◌, Bool, false, if◌then◌else◌, List, [], ◌∷◌, ◌++◌, codes, decimal, Option, Some, None, slice_get}
use Rattle.std.specs.List.{flat_map}
use Rattle.std.specs.FinMap as finite
use Rattle.cep_term.specs.Tree.{AtomTree}
use Rattle.cep_term.specs.Multiset.{Multiset}
use Rattle.cep_rule.specs.declared.signature.Signature.{Signature}
use Rattle.cep_rule.specs.declared.parts.Stage.{Stage}
use Rattle.cep_rule.specs.declared.parts.Parts.{Parts}
use Rattle.cep_rule.specs.declared.offer.Offer.{Offer}
use Rattle.cep_rule.specs.Derivations.{ProofTree}
use Rattle.cep_text.specs.Texts.{atom_text, offer_text, proof_text}
use Rattle.cep_lines.specs.declared.version.Version.{Version}
use Rattle.cep_lines.specs.declared.version.Version.TheVariants.{One, Two}
use Rattle.cep_lines.specs.declared.end_word.EndWord.{EndWord}
use Rattle.cep_lines.specs.declared.end_word.EndWord.TheVariants.{Quiet, Input, Turns, Offers, Typed, Atom, State}

-- a text and the LF that ends its line
abbrev pub line : List ℕ → List ℕ
line text = text ++ 10 ∷ []

-- the bytes of the first line
abbrev pub version_text : Version → List ℕ
version_text One = codes "ceptre 1"
version_text Two = codes "ceptre 2"

-- whether the state after the step of this number is listed: in version 2 that after each hundredth step
abbrev pub has_listing : Version → ℕ → Bool
has_listing One number = false
has_listing Two number = number % 100 == 0

-- the bytes of a line of a listing
abbrev pub have_text : Signature → AtomTree × ℕ → List ℕ
have_text signature entry = codes "have " ++ (decimal entry.1 ++ (codes " " ++ atom_text signature entry.0))

-- `have N ATOM`
unfoldable pub have_line : Signature → AtomTree × ℕ → List ℕ
have_line signature entry = line (have_text signature entry)

-- the copies of each atom of a state, in the order of atoms
unfoldable pub listing : Signature → Multiset → List ℕ
listing signature state = flat_map (have_line signature) (finite.entries state)

-- `? I OFFER`
unfoldable pub offer_line : Parts → ℕ → Offer → List ℕ
offer_line program place offer = line (codes "? " ++ decimal place ++ codes " " ++ offer_text program offer)

-- the offers, numbered from a place on
unfoldable pub offer_lines : Parts → ℕ → List Offer → List ℕ
offer_lines program place [] = []
offer_lines program place (offer ∷ offers) = offer_line program place offer ++ offer_lines program (place + 1) offers

abbrev pub stage_name : Option Stage → List ℕ
stage_name None = []
stage_name (Some stage) = stage.name

-- the bytes of the line of a stage
abbrev pub stage_text : Parts → ℕ → List ℕ
stage_text program stage = codes "stage " ++ stage_name (slice_get program.stages stage)

-- `stage NAME`
unfoldable pub stage_line : Parts → ℕ → List ℕ
stage_line program stage = line (stage_text program stage)

-- the line of the stage that a rule leads to, where it leads to one
abbrev pub next_line : Parts → Option ℕ → List ℕ
next_line program None = []
next_line program (Some stage) = stage_line program stage

-- the bytes of the first line of a step
abbrev pub step_text : Parts → Offer → List ℕ
step_text program offer = codes "step " ++ offer_text program offer

-- `step OFFER`
unfoldable pub step_line : Parts → Offer → List ℕ
step_line program offer = line (step_text program offer)

-- the bytes of the line of a derivation
abbrev pub by_text : Parts → ProofTree → List ℕ
by_text program proof = codes "by " ++ proof_text program proof

-- `by DERIVATION`
unfoldable pub by_line : Parts → ProofTree → List ℕ
by_line program proof = line (by_text program proof)

-- the same for each backward premise
unfoldable pub by_lines : Parts → List ProofTree → List ℕ
by_lines program proofs = flat_map (by_line program) proofs

-- what is written of a step: its line, what proves its backward premises, and the next stage where there is one
unfoldable pub step_lines : Parts → Offer → List ProofTree → Option ℕ → List ℕ
step_lines program offer proofs next = step_line program offer ++ (by_lines program proofs ++ next_line program next)

-- the bytes of the line before the listing of the state after the step of this number
abbrev pub state_text : ℕ → List ℕ
state_text number = codes "state " ++ decimal number

-- `state K`, and the listing of the state
unfoldable pub mid_lines : Signature → ℕ → Multiset → List ℕ
mid_lines signature number state = line (state_text number) ++ listing signature state

-- what version 2 has after the lines of the step of a number: the listing of the state after it, where one is expected
unfoldable pub expected_listing : Signature → ℕ → Multiset → List ℕ
expected_listing signature number state = if has_listing Two number then mid_lines signature number state else []

-- what is written of a deed that counts as the turn of this number: the lines of its step, and the
-- listing of the state where it leads, where one is expected
unfoldable pub deed_lines : Parts → Offer → List ProofTree → Option ℕ → ℕ → Multiset → List ℕ
deed_lines program offer proofs next number state =
    step_lines program offer proofs next ++ expected_listing program.signature number state

abbrev pub ending_word : EndWord → List ℕ
ending_word Quiet = codes "quiet"
ending_word Input = codes "input"
ending_word Turns = codes "turns"
ending_word Offers = codes "offers"
ending_word Typed = codes "typed"
ending_word Atom = codes "atom"
ending_word State = codes "state"

-- the bytes of the line of the end
abbrev pub end_text : EndWord → List ℕ
end_text word = codes "end " ++ ending_word word

-- `end WORD`, and the listing of the state
unfoldable pub end_lines : Signature → EndWord → Multiset → List ℕ
end_lines signature word state = line (end_text word) ++ listing signature state

-- the bytes of the line of the height
abbrev pub height_text : ℕ → List ℕ
height_text height = codes "height " ++ decimal height

-- the first three lines, and the listing of the start state
unfoldable pub header : Parts → ℕ → List ℕ
header program height =
    line (version_text Two) ++ (line (height_text height) ++ (stage_line program program.start_stage ++ listing program.signature program.start))
