use Rattle.std.proofs.Common.{◌∙◌, arith}
use Rattle.cep_parse.proofs.BackAtoms.{set_args_past, set_args_read}
use Rattle.cep_parse.proofs.atoms.set_args.Goals as goal

pub returns-then-index-len : goal.returns-then-index-len
returns-then-index-len c = c.set.ensures ∙ set_args_read c.args.nodes.now c.args.index c.args.args c.get-node.result.now c.get-node.ensures

pub returns-else-index-len : goal.returns-else-index-len
returns-else-index-len c = set_args_past c.args.nodes.now c.args.index c.args.args (omega arith)
