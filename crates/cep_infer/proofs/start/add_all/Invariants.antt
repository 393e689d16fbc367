use Rattle.std.proofs.Common.{◌≡◌, map, take}
use Rattle.cep_term.specs.Tree.{atom_of}
use Rattle.cep_term.specs.Multiset.{gathered, once}
use Rattle.cep_infer.specs.Meaning.{is_fact_by}
use Rattle.cep_infer.proofs.start.add_all.Given as goal

abbrev pub invariant-loop-atom : goal.invariant-loop-atom
invariant-loop-atom l = l.bag ≡ once (is_fact_by l.source) (gathered (take l.atom-index (map (λ atom. atom_of atom.now) l.atoms)))
