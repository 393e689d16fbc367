use Rattle.std.proofs.Common.{not, ◌∙◌}
use Rattle.cep_source.specs.Variables.{Occurrence}
use Rattle.cep_source.specs.Kept.{rule_item}
use Rattle.cep_base.specs.FirstNames.{has_name}
use Rattle.cep_infer.proofs.RulesInTurn.{elem_pushed, all_pushed, unbound_is}
use Rattle.cep_infer.proofs.places.unbound_at.Goals as goal

pub loop-elem-preserved : goal.loop-elem-preserved
loop-elem-preserved c =
    elem_pushed c.args.source.now (λ (occurrence : Occurrence). not (has_name c.in_ok-left.left.firsts occurrence.name)) c.as_slice-elem-items.result.now c.loop-elem.elem-index c.loop-elem.blanks c.push_unbound.new.blanks c.elem-item.result c.nodes.result.now
    c.loop-elem.ats.items c.push_unbound.new.ats.items _ c.loop-elem-test.true c.elem-item.is c.nodes.ensures c.in_ok-push_unbound.ensures.ats c.in_ok-push_unbound.ensures.blanks c.loop-elem.invariant

pub returns : goal.returns
returns c =
    all_pushed c.args.source.now (λ (occurrence : Occurrence). not (has_name c.in_ok-left.left.firsts occurrence.name)) c.as_slice-elem-items.result.now c.loop-elem.elem-index c.loop-elem.blanks c.loop-elem.ats.items _ c.loop-elem-test.false c.loop-elem.invariant
    ∙ unbound_is c.args.source.now (rule_item c.args.rule.now) c.as_slice.result.now c.as_slice-elem-items.result.now c.in_ok-left.left c.as_slice.ensures c.as_slice-elem-items.ensures c.in_ok-left.ensures
