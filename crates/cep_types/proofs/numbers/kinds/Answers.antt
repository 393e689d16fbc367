use Rattle.cep_source.specs.declared.space.Space.TheVariants as space
use Rattle.cep_source.specs.Items.{said}
use Rattle.cep_types.specs.Heads.{number_of}
use Rattle.cep_source.proofs.Declaring.{push_map}
use Rattle.cep_types.proofs.numbers.kinds.Goals as goal

pub loop-name-preserved : goal.loop-name-preserved
loop-name-preserved c =
    push_map (λ span. number_of c.args.source.now space.Sorts (said c.args.source.now span)) c.args.names.now c.loop-name.name-index _ _ _ c.in_ok-kind.kind c.loop-name-test.true c.loop-name.invariant c.in_ok-kind.ensures c.in_ok-push.ensures.ok
