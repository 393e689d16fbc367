-- How a line writes a claim: its words, and the numbers of the names in it.
use Rattle.std.specs.Prelude.{Bool, true, false, ◌≡◌, ℕ, ◌<◌, ◌==◌, List, [], ◌∷◌, length, slice_get, IsSomeAnd, Contains, codes}
use Rattle.std.specs.List.{AllByRecursion, slice_split}
use Rattle.std.specs.Fmt.{signed_decimal}
use Rattle.cep_base.specs.declared.kind.PredKind.TheVariants.{Linear}
use Rattle.cep_rule.specs.declared.signature.Signature.{Signature}
use Rattle.cep_rule.specs.Names.{IsName}
use Rattle.cep_claim.specs.declared.weight.Claim.{Claim}
use Rattle.cep_claim.specs.declared.weight.Claim.TheVariants as claim
use Rattle.cep_claim.specs.declared.weight.Part.{Part}
use Rattle.cep_claim.specs.declared.written.NamedPart.{NamedPart}
use Rattle.cep_claim.specs.declared.written.Written.{Written}
use Rattle.cep_claim.specs.Factors.{IsFactor}

-- A line that says nothing: it is empty, or begins with `%`.
abbrev pub SaysNothing : List ℕ → Type 0
SaysNothing [] = Unit {0}
SaysNothing (byte ∷ bytes) = byte ≡ 37

-- the words of a line: what stands before, between and after its spaces
abbrev pub words_of : List ℕ → List (List ℕ)
words_of line = slice_split (λ byte. byte == 32) line

-- the word of a claim
abbrev pub claim_word : Claim → List ℕ
claim_word claim.Keep = codes "keep"
claim_word claim.Most = codes "most"
claim_word claim.Fall = codes "fall"

-- the mark before a part: `=` before the first, and `+` before each other
abbrev pub mark_of : Bool → List ℕ
mark_of true = codes "="
mark_of false = codes "+"

-- the words of parts, each its mark, its factor and its name, where the first of them is the first of its sum or not
abbrev pub parts_words : Bool → List NamedPart → List (List ℕ)
parts_words first [] = []
parts_words first (part ∷ parts) = mark_of first ∷ signed_decimal part.factor ∷ part.name ∷ parts_words false parts

-- `keep NAME = SUM`, `most NAME = SUM` or `fall NAME = SUM`
abbrev pub claim_words : Written → List (List ℕ)
claim_words written = claim_word written.claim ∷ written.name ∷ parts_words true written.parts

-- A part of a line has a factor and a name.
pub record IsNamedPart (part : NamedPart) : Type 0 where
  pub factor : IsFactor part.factor
  pub name : IsName part.name

-- A claim may be written so: it has a name and some parts.
pub record IsWritable (written : Written) : Type 0 where
  pub name : IsName written.name
  pub some : 0 < length written.parts
  pub parts : AllByRecursion IsNamedPart written.parts

-- The line is written as this claim.
pub record IsWrittenAs (line : List ℕ) (written : Written) : Type 0 where
  pub writable : IsWritable written
  pub words : words_of line ≡ claim_words written

-- The predicate with this number has the name, and is linear.
abbrev pub IsLinearNamed : Signature → ℕ → List ℕ → Type 0
IsLinearNamed signature pred name = IsSomeAnd (slice_get signature.preds pred) (λ decl. (decl.name ≡ name) × (decl.kind ≡ Linear))

-- The parts by numbers are these by names: each has the factor, and its predicate is linear and has the name.
abbrev pub AreResolved : Signature → List NamedPart → List Part → Type 0
AreResolved signature [] [] = Unit {0}
AreResolved signature [] (part ∷ sum) = ⊥
AreResolved signature (named ∷ parts) [] = ⊥
AreResolved signature (named ∷ parts) (part ∷ sum) = (part.factor ≡ named.factor) × IsLinearNamed signature part.pred named.name × AreResolved signature parts sum

-- Some part's name is not that of a linear predicate.
abbrev pub SomeIsUnknown : Signature → List NamedPart → Type 0
SomeIsUnknown signature parts = (named : NamedPart) × Contains parts named × ((pred : ℕ) → ¬ IsLinearNamed signature pred named.name)
