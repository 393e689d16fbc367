use Rattle.std.proofs.Common.{arith}
use Rattle.std.proofs.lemmas.List.{map-append, take_all}
use Rattle.std.proofs.lemmas.List.Elements.{filter-append}
use Rattle.cep_base.proofs.Lists.{take_next}
use Rattle.cep_step.proofs.Ready.{premise_within}
use Rattle.cep_step.proofs.sides.used_atoms.Goals as goal

pub push_if-requires : goal.push_if-requires
push_if-requires c = premise_within _ _ _ _ c.requires c.get-premise.ensures

pub loop-i-preserved : goal.loop-i-preserved
loop-i-preserved c = grind (arith, take_next c.args.rule.now.premises _ _ c.get-premise.ensures, filter-append, map-append)

pub returns : goal.returns
returns c = grind (arith, take_all)
