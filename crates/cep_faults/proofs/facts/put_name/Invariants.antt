use Rattle.std.proofs.Common.{◌≡◌, ◌++◌, ◌∷◌, [], take}
use Rattle.std.specs.List.{flat_map}
use Rattle.cep_faults.specs.FactKeys.{mark}
use Rattle.cep_faults.proofs.facts.put_name.Given as goal

abbrev pub invariant-loop-byte : goal.invariant-loop-byte
invariant-loop-byte l = l.key ≡ l.fn.key ++ flat_map (λ byte. mark ∷ byte ∷ []) (take l.byte-index l.name)
