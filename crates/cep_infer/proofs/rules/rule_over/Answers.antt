use Rattle.std.proofs.Common.{ap, refl, ◌∙◌}
use Rattle.cep_source.specs.Kept.{rule_item}
use Rattle.cep_infer.specs.Meaning.{group_of, next_of}
use Rattle.cep_infer.proofs.RulesInTurn.{rule_built}
use Rattle.cep_infer.proofs.rules.rule_over.Goals as goal

pub returns-clause-rule : goal.returns-clause-rule
returns-clause-rule c =
    let source = c.args.source.now in
    let item = c.args.item.now in
    let sides = c.in_ok-left.ensures in
    rule_built source (rule_item item) c.args.variables.now _ sides.behind _
    c.requires.met c.requires.covered c.in_ok-vars.ensures c.in_ok-kinds.ensures (c.in_ok-group.ensures ∙ ap (group_of source item.home) c.as_slice.ensures) (c.in_ok-next.ensures ∙ ap (next_of source item.home) c.as_slice-2.ensures)
    sides.left_is refl refl sides.right_is
