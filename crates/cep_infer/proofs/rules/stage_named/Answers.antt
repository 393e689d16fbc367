use Rattle.cep_infer.proofs.RulesInTurn.{stage_here, no_stage_yet, none_at}
use Rattle.cep_infer.proofs.rules.stage_named.Goals as goal

pub returns-in-Stage : goal.returns-in-Stage
returns-in-Stage c =
    rw (stage_here c.args.source.now c.args.side.now c.loop-elem.elem-index c.elem-item.result c.in-Stage.name c.loop-elem-test.true c.elem-item.is c.loop-elem.invariant c.in-Stage.is) c.number.ensures

pub loop-elem-preserved : goal.loop-elem-preserved
loop-elem-preserved c = no_stage_yet c.args.side.now c.loop-elem.elem-index c.elem-item.result c.loop-elem-test.true c.elem-item.is c.loop-elem.invariant (none_at c.elem-item.result c.in_default.not-Stage)
