use Rattle.std.proofs.Common.{arith}
use Rattle.std.proofs.lemmas.Grind.{common_steps}
use Rattle.cep_source.proofs.gathering.Kinds.gather.Goals as goal

pub returns-in-Sort-clause-kinds : goal.returns-in-Sort-clause-kinds
returns-in-Sort-clause-kinds c = grind (arith, common_steps)

pub returns-in-Pred-clause-kinds : goal.returns-in-Pred-clause-kinds
returns-in-Pred-clause-kinds c = grind (arith, common_steps)

pub returns-in-Outer-clause-kinds : goal.returns-in-Outer-clause-kinds
returns-in-Outer-clause-kinds c = grind (arith, common_steps)

pub returns-in_ok-declare-in-Stage-clause-kinds : goal.returns-in_ok-declare-in-Stage-clause-kinds
returns-in_ok-declare-in-Stage-clause-kinds c = grind (arith, common_steps)

pub returns-in-Context-clause-kinds : goal.returns-in-Context-clause-kinds
returns-in-Context-clause-kinds c = grind (arith, common_steps)

pub returns-in-Interactive-clause-kinds : goal.returns-in-Interactive-clause-kinds
returns-in-Interactive-clause-kinds c = grind (arith, common_steps)

pub returns-in_ok-push-in-Trace-clause-kinds : goal.returns-in_ok-push-in-Trace-clause-kinds
returns-in_ok-push-in-Trace-clause-kinds c = grind (arith, common_steps)

pub returns-in-Colon-clause-kinds : goal.returns-in-Colon-clause-kinds
returns-in-Colon-clause-kinds c = grind (arith, common_steps)

pub returns-in-Colon-2-clause-kinds : goal.returns-in-Colon-2-clause-kinds
returns-in-Colon-2-clause-kinds c = grind (arith, common_steps)
