-- Files of claims: what a line says, or why it says no claim, and what a file says.
use Rattle.std.specs.Prelude.{◌≡◌, ◌⊎◌, ℕ, ◌+◌, List, [], ◌∷◌, ◌++◌, length, map, Contains}
use Rattle.bstr.specs.Text.{lines_of, without_terminator}
use Rattle.cep_rule.specs.declared.signature.Signature.{Signature}
use Rattle.cep_rule.specs.declared.parts.Parts.{Parts}
use Rattle.cep_claim.specs.declared.weight.Claim.TheVariants as claim
use Rattle.cep_claim.specs.declared.weight.Part.{Part}
use Rattle.cep_claim.specs.declared.weight.Weight.{Weight}
use Rattle.cep_claim.specs.declared.fault.KeepFault.{KeepFault}
use Rattle.cep_claim.specs.declared.fault.KeepFault.TheVariants.{Keep, KeepName, KeepTwice, KeepSign}
use Rattle.cep_claim.specs.declared.written.Written.{Written}
use Rattle.cep_claim.specs.Factors.{HaveOwnPredicates, AreNotNegative}
use Rattle.cep_claim.specs.Written.{SaysNothing, IsWrittenAs, AreResolved, SomeIsUnknown}

-- the lines of a file of claims: an LF ends a line, and a CR directly before it is dropped; the last line may lack its LF, and then keeps its CR
abbrev pub claim_lines : List ℕ → List (List ℕ)
claim_lines bytes = map without_terminator (lines_of bytes)

-- An earlier claim has the name.
abbrev pub IsNamedBefore : List Weight → List ℕ → Type 0
IsNamedBefore earlier name = Contains (map (λ weight. weight.name) earlier) name

-- After these earlier claims, the line with this number says this claim: it is written so, by names of linear predicates; no earlier claim has its name, and no two parts are of one predicate; and where the weight is to fall no factor is negative.
pub record IsClaimOf (signature : Signature) (earlier : List Weight) (line : List ℕ) (number : ℕ) (weight : Weight) : Type 0 where
  pub written : Written
  pub line_is : IsWrittenAs line written
  pub number_is : weight.line ≡ number
  pub claim_is : weight.claim ≡ written.claim
  pub name_is : weight.name ≡ written.name
  pub numbered : AreResolved signature written.parts weight.sum
  pub fresh : ¬ IsNamedBefore earlier weight.name
  pub apart : HaveOwnPredicates weight.sum
  pub signs : weight.claim ≡ claim.Fall → AreNotNegative weight.sum

-- The line is written as a claim, by names of linear predicates.
pub record IsResolvedLine (signature : Signature) (line : List ℕ) : Type 0 where
  pub written : Written
  pub line_is : IsWrittenAs line written
  pub sum : List Part
  pub numbered : AreResolved signature written.parts sum

-- An earlier claim has its name, or two of its parts are of one predicate.
abbrev pub SaysTwice : {signature : Signature} {line : List ℕ} → List Weight → IsResolvedLine signature line → Type 0
SaysTwice earlier known = IsNamedBefore earlier known.written.name ⊎ ¬ HaveOwnPredicates known.sum

-- After these earlier claims, the line with this number says no claim, and this is why: the first of these that holds. It is not written as a claim; a part's name is not that of a linear predicate; a name is said twice; or a weight that is to fall has a negative factor.
abbrev pub IsClaimFault : Signature → List Weight → List ℕ → ℕ → KeepFault → Type 0
IsClaimFault signature earlier line number (Keep at) = (at ≡ number) × ((written : Written) → ¬ IsWrittenAs line written)
IsClaimFault signature earlier line number (KeepName at) = (at ≡ number) × ((written : Written) × IsWrittenAs line written × SomeIsUnknown signature written.parts)
IsClaimFault signature earlier line number (KeepTwice at) = (at ≡ number) × ((known : IsResolvedLine signature line) × SaysTwice earlier known)
IsClaimFault signature earlier line number (KeepSign at) =
    (at ≡ number) × ((known : IsResolvedLine signature line) × (¬ SaysTwice earlier known) × (known.written.claim ≡ claim.Fall) × ¬ AreNotNegative known.sum)

-- After these earlier claims, a line that says nothing adds none, and each other one the claim that it says.
abbrev pub AddsLine : Signature → ℕ → List ℕ → List Weight → List Weight → Type 0
AddsLine signature number line earlier after =
    (SaysNothing line × (after ≡ earlier))
    ⊎ ((weight : Weight) × (¬ SaysNothing line) × IsClaimOf signature earlier line number weight × (after ≡ earlier ++ weight ∷ []))

-- These lines, numbered from here on, add claims to the earlier ones, line by line.
abbrev pub AddClaims : Signature → ℕ → List (List ℕ) → List Weight → List Weight → Type 0
AddClaims signature number [] earlier all = all ≡ earlier
AddClaims signature number (line ∷ lines) earlier all = (after : List Weight) × AddsLine signature number line earlier after × AddClaims signature (number + 1) lines after all

-- The file says these claims.
abbrev pub HasClaims : Parts → List ℕ → List Weight → Type 0
HasClaims program bytes weights = AddClaims program.signature 1 (claim_lines bytes) [] weights

-- The first line of the file that says no claim has this fault: those before it say claims.
pub record HasFault (program : Parts) (bytes : List ℕ) (fault : KeepFault) : Type 0 where
  pub before : List (List ℕ)
  pub line : List ℕ
  pub rest : List (List ℕ)
  pub cut : claim_lines bytes ≡ before ++ line ∷ rest
  pub earlier : List Weight
  pub add : AddClaims program.signature 1 before [] earlier
  pub says : ¬ SaysNothing line
  pub why : IsClaimFault program.signature earlier line (length before + 1) fault
