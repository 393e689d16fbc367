use Rattle.std.proofs.Common.{sym, ◌∙◌, arith}
use Rattle.std.proofs.lemmas.Grind.{common_steps}
use Rattle.cep_parse.specs.declared.raw.RawKind.TheVariants.{Blank}
use Rattle.cep_faults.proofs.Firsts.{too_deep}
use Rattle.cep_faults.proofs.limits.is_shallow.Goals as goal

pub returns-then-level-gt-MOST_DEPTH : goal.returns-then-level-gt-MOST_DEPTH
returns-then-level-gt-MOST_DEPTH c =
    sym (c.loop-node.invariant ∙ too_deep _ _ c.args.nodes.now c.loop-node.node-index (record { at = record { from = 0; to = 0 }; kind = Blank; args = 0 }) c.in-Some.level c.loop-node-test.true c.in-Some.ensures.some c.if-level-gt-MOST_DEPTH.true)

pub loop-node-preserved : goal.loop-node-preserved
loop-node-preserved c = grind (arith, common_steps)

pub returns : goal.returns
returns c = grind (arith, common_steps)
