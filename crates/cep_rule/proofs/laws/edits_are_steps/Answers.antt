use Rattle.cep_rule.proofs.StepLaws.{edit_is_step, lean_is_step, ground_used, ground_made}
use Rattle.cep_rule.proofs.laws.edits_are_steps.Goals as goal

pub returns : goal.returns
returns c =
    let laws = c.bags_are_lawful.ensures in
    let sides = c.sides_are_bags.ensures in
    record {
      lean = λ signature rule values state typed are is contained.
          lean_is_step laws signature rule values state
          (sides.left signature rule values typed are) (sides.right signature rule values typed are) is.bag is.once
          (laws.gathered_kept _ (ground_used signature rule values typed are)) (laws.gathered_kept _ (ground_made signature rule values typed are))
          contained;
      whole = λ signature rule values state typed are is contained.
          edit_is_step laws signature rule values state
          (sides.left signature rule values typed are) (sides.right signature rule values typed are) is.bag is.once
          (laws.gathered_kept _ (sides.taken signature rule values typed are)) (laws.gathered_kept _ (sides.added signature rule values typed are))
          contained;
    }
