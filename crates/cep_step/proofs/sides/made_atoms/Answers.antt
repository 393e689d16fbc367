use Rattle.std.proofs.Common.{arith}
use Rattle.std.proofs.lemmas.List.{map-append, take_all}
use Rattle.cep_base.proofs.Lists.{holds_at, take_next}
use Rattle.cep_step.proofs.sides.made_atoms.Goals as goal

pub push_instance-requires : goal.push_instance-requires
push_instance-requires c = grind (arith, holds_at)

pub loop-i-preserved : goal.loop-i-preserved
loop-i-preserved c = grind (arith, take_next c.args.rule.now.right _ _ c.get.ensures, map-append)

pub returns : goal.returns
returns c = grind (arith, take_all, map-append)
