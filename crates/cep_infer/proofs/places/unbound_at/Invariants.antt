use Rattle.std.proofs.Common.{◌≡◌, ◌++◌, not, drop}
use Rattle.cep_parse.specs.Raw.{atoms_of, raw_nodes}
use Rattle.cep_source.specs.Variables.{occurrences_from}
use Rattle.cep_base.specs.FirstNames.{has_name}
use Rattle.cep_infer.proofs.RulesInTurn.{places_of}
use Rattle.cep_infer.proofs.places.unbound_at.Given as goal

abbrev pub invariant-loop-elem : goal.invariant-loop-elem
invariant-loop-elem l =
    l.ats.items ++ places_of (λ occurrence. not (has_name l.left.firsts occurrence.name)) (occurrences_from l.source l.blanks (raw_nodes (atoms_of (drop l.elem-index l.elem-items))))
    ≡ places_of (λ occurrence. not (has_name l.left.firsts occurrence.name)) (occurrences_from l.source l.left.blanks (raw_nodes (atoms_of l.elem-items)))
