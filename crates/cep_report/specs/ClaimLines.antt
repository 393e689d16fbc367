-- The lines of claims about weights.
use Rattle.std.specs.Prelude.{ℕ, ◌/◌, if◌then◌else◌, List, [], ◌++◌, codes, decimal, slice_get, Option, None, Some, ℤ, unsigned_abs}
use Rattle.std.specs.List.{flat_map, list_all}
use Rattle.std.specs.Fmt.{signed_decimal}
use Rattle.std.specs.Int.{is_positive}
use Rattle.cep_rule.specs.declared.parts.Parts.{Parts}
use Rattle.cep_text.specs.Texts.{pred_name, offer_name}
use Rattle.cep_lines.specs.Lines.{line}
use Rattle.cep_claim.specs.declared.fault.KeepFault.{KeepFault}
use Rattle.cep_claim.specs.declared.fault.KeepFault.TheVariants.{Keep, KeepName, KeepTwice, KeepSign}
use Rattle.cep_claim.specs.declared.weight.Claim.{Claim}
use Rattle.cep_claim.specs.declared.weight.Claim.TheVariants as claim
use Rattle.cep_claim.specs.declared.weight.Part.{Part}
use Rattle.cep_claim.specs.declared.weight.Weight.{Weight}
use Rattle.cep_weigh.specs.declared.against.Against.{Against}
use Rattle.cep_weigh.specs.Weights.{weight_of}

-- the line and the name of a fault
abbrev pub fault_line : KeepFault → ℕ
fault_line (Keep at) = at
fault_line (KeepName at) = at
fault_line (KeepTwice at) = at
fault_line (KeepSign at) = at

abbrev pub fault_name : KeepFault → List ℕ
fault_name (Keep at) = codes "Keep"
fault_name (KeepName at) = codes "KeepName"
fault_name (KeepTwice at) = codes "KeepTwice"
fault_name (KeepSign at) = codes "KeepSign"

-- `refused LINE NAME`: why bytes are no file of claims
abbrev pub claim_fault_text : KeepFault → List ℕ
claim_fault_text fault = codes "refused " ++ decimal (fault_line fault) ++ codes " " ++ fault_name fault

-- `bound PRED N`: no state of a run has more copies of the part's predicate, where the start has this weight and all factors are positive
abbrev pub bound_line : Parts → ℤ → Part → List ℕ
bound_line program weight part =
    line (codes "bound " ++ pred_name (slice_get program.signature.preds part.pred) ++ codes " " ++ decimal (unsigned_abs weight / unsigned_abs part.factor))

-- the bounds of all parts, if all factors are positive
abbrev pub bound_lines : Parts → ℤ → List Part → List ℕ
bound_lines program weight parts = if list_all (λ part. is_positive part.factor) parts then flat_map (bound_line program weight) parts else []

-- what follows from a claim that each rule keeps, where the start has this weight: bounds, or `turns N`, which no run is longer than
abbrev pub consequences : Parts → Claim → ℤ → List Part → List ℕ
consequences program claim.Keep weight parts = bound_lines program weight parts
consequences program claim.Most weight parts = bound_lines program weight parts
consequences program claim.Fall weight parts = line (codes "turns " ++ signed_decimal weight)

-- What is reported of a claim: `yes NAME WEIGHT` and what follows from it, or `no NAME RULE LEFT RIGHT` of the first rule that breaks it.
abbrev pub claim_lines_of : Parts → Weight → Option Against → List ℕ
claim_lines_of program weight None =
    let total = weight_of weight.sum program.start in
    line (codes "yes " ++ weight.name ++ codes " " ++ signed_decimal total) ++ consequences program weight.claim total weight.sum
claim_lines_of program weight (Some against) =
    line (codes "no " ++ weight.name ++ codes " " ++ offer_name (slice_get program.rules against.rule) ++ codes " " ++ signed_decimal against.left ++ codes " " ++ signed_decimal against.right)
