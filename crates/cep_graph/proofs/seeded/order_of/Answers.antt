use Rattle.std.proofs.Common.{rules}
use Rattle.cep_graph.proofs.OneGraph.{few_causes}
use Rattle.cep_graph.proofs.seeded.order_of.Goals as goal

pub order_by-requires-clause-few : goal.order_by-requires-clause-few
order_by-requires-clause-few c = few_causes c.args.program.now c.args.log.now c.in_ok-causes.causes c.requires c.in_ok-causes.ensures

pub returns : goal.returns
returns c = search rules
