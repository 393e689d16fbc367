use Rattle.std.proofs.Common.{◌≡◌, ◌∷◌, [], take}
use Rattle.std.specs.List.{flat_map}
use Rattle.cep_refusal.specs.First.{first_in}
use Rattle.cep_types.specs.Clashes.{scope_clashes}
use Rattle.cep_types.proofs.clashes.states_clash.Given as goal

abbrev pub invariant-loop-atom : goal.invariant-loop-atom
invariant-loop-atom l = l.first ≡ first_in (flat_map (λ atom. scope_clashes l.source (atom ∷ [])) (take l.atom-index l.atoms))
