use Rattle.std.proofs.Common.{arith, ◌≡◌, ap, ◌∙◌, None}
use Rattle.std.proofs.lemmas.Grind.{common_steps}
use Rattle.cep_term.specs.Values.{value_of, values_of}
use Rattle.cep_term.proofs.MatchingLaws.{value_of-replicate}
use Rattle.cep_term.proofs.binding.Binding.empty.Goals as goal

pub invariant_of-result : goal.invariant_of-result
invariant_of-result c v t e =
    let unset : value_of (values_of c.loop-made.values.items) v ≡ None = ap (λ values. value_of values v) c.loop-made.invariant ∙ value_of-replicate _ v in
    cc

pub loop-made-preserved : goal.loop-made-preserved
loop-made-preserved c = grind (arith, common_steps)
