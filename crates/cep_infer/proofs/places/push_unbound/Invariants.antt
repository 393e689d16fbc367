use Rattle.std.proofs.Common.{◌≡◌, ◌++◌, not, drop}
use Rattle.cep_source.specs.Variables.{occurrences_from, blanks_after}
use Rattle.cep_base.specs.FirstNames.{has_name}
use Rattle.cep_infer.proofs.RulesInTurn.{places_of}
use Rattle.cep_infer.proofs.places.push_unbound.Given as goal

abbrev pub invariant-loop-node : goal.invariant-loop-node
invariant-loop-node l = record {
  ats : l.ats.items ++ places_of (λ occurrence. not (has_name l.left.firsts occurrence.name)) (occurrences_from l.source l.blanks (drop l.node-index l.nodes))
      ≡ l.fn.ats.items ++ places_of (λ occurrence. not (has_name l.left.firsts occurrence.name)) (occurrences_from l.source l.fn.blanks l.nodes);
  blanks : blanks_after l.blanks (drop l.node-index l.nodes) ≡ blanks_after l.fn.blanks l.nodes;
}
