use Rattle.cep_base.proofs.Drops.{drop_at}
use Rattle.std.proofs.Common.{append_assoc}
use Rattle.std.proofs.Common.{arith}
use Rattle.std.proofs.lemmas.Grind.{common_steps}
use Rattle.cep_base.proofs.Lists.{holds_at}
use Rattle.cep_modes.proofs.callees.calls_of_rules.Goals as goal

pub loop-i-preserved : goal.loop-i-preserved
loop-i-preserved c = grind (arith, append_assoc, drop_at c.args.rules.now c.loop-i.i c.get.result.now c.get.ensures)

pub returns : goal.returns
returns c = grind (arith, common_steps)

pub calls_of_rule-requires-clause-premises : goal.calls_of_rule-requires-clause-premises
calls_of_rule-requires-clause-premises c = holds_at _ c.args.rules.now c.loop-i.i c.get.result.now c.requires.premises c.get.ensures

pub calls_of_rule-requires-clause-backs : goal.calls_of_rule-requires-clause-backs
calls_of_rule-requires-clause-backs c = holds_at _ c.args.rules.now c.loop-i.i c.get.result.now c.requires.backs c.get.ensures
