use Rattle.std.proofs.Common.{subst, sym, map, ap, ◌∙◌, arith}
use Rattle.std.proofs.lemmas.List.{take_all}
use Rattle.cep_term.specs.Tree.{tree_of}
use Rattle.cep_term.specs.Values.{AreGroundValues}
use Rattle.cep_rule.specs.Instances.{given}
use Rattle.cep_run.proofs.Backs.{ground_given}
use Rattle.cep_run.proofs.proving.known_values.Goals as goal

pub of-requires : goal.of-requires
of-requires c =
    let e = take_all c.loop-value.value-index c.args.values.now (let d = c.loop-value-test.false in omega (arith, d)) in
    subst AreGroundValues (sym (c.loop-value.invariant ∙ ap (λ values. given (map tree_of values)) e)) (ground_given (map tree_of c.args.values.now) c.requires)
