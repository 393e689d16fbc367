-- Parts by numbers, part by part.
use Rattle.std.proofs.Common.{◌≡◌, ℕ, suc, ◌+◌, ◌<◌, List, [], ◌∷◌, ◌++◌, length, get_or, take, slice_get, Some, arith}
use Rattle.cep_base.proofs.Lists.{take_next}
use Rattle.cep_rule.specs.declared.signature.Signature.{Signature}
use Rattle.cep_claim.specs.declared.weight.Part.{Part}
use Rattle.cep_claim.specs.declared.written.NamedPart.{NamedPart}
use Rattle.cep_claim.specs.Written.{IsLinearNamed, AreResolved}

pub one_numbered : (signature : Signature) (parts : List NamedPart) (sum : List Part) (named : NamedPart) (part : Part) → AreResolved signature parts sum → part.factor ≡ named.factor → IsLinearNamed signature part.pred named.name
    → AreResolved signature (parts ++ named ∷ []) (sum ++ part ∷ [])
one_numbered signature (first ∷ parts) (other ∷ sum) named part are factor linear = (are.0, are.1, one_numbered signature parts sum named part are.2 factor linear)
one_numbered signature parts sum named part are factor linear = grind arith

pub got : {X : Type 0} (xs : List X) (i : ℕ) (x : X) → i < length xs → x ≡ get_or xs i x → slice_get xs i ≡ Some x
got (y ∷ xs) (suc i) x low is = got xs i x (omega arith) is
got xs i x low is = grind arith

pub next_numbered : (signature : Signature) (parts : List NamedPart) (sum : List Part) (i : ℕ) (named : NamedPart) (part : Part) → AreResolved signature (take i parts) sum → i < length parts → named ≡ get_or parts i named → part.factor ≡ named.factor → IsLinearNamed signature part.pred named.name
    → AreResolved signature (take (i + 1) parts) (sum ++ part ∷ [])
next_numbered signature parts sum i named part are low is factor linear = grind (arith, take_next, got, one_numbered)
