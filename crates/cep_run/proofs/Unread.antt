-- If nobody reads what is written, the talk is not told, so it is told as one likes.
use Rattle.std.proofs.Common.{◌≡◌, ℕ, List, ◌++◌, refl, sym, ap, ◌∙◌, Option, None}
use Rattle.std.specs.Option.{option_map}
use Rattle.cep_base.specs.declared.console.Event.{Event}
use Rattle.cep_base.specs.Talk.{outs, Did}
use Rattle.cep_base.proofs.Did.{did_put}

-- what nobody reads is said without being put
pub untold_put : {C : Type 0} (talk : C → Option (List Event)) (left : C → Option (List ℕ)) (console : C) (text : List ℕ) → talk console ≡ None
    → Did talk left console console (λ come events rest. (events ≡ outs text) × (rest ≡ come))
untold_put talk left console text none = did_put talk left console console text (none ∙ sym (ap (option_map (λ talk. talk ++ outs text)) none)) refl
