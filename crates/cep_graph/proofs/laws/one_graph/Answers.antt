use Rattle.cep_graph.proofs.OneGraph.{one_graph}
use Rattle.cep_graph.proofs.laws.one_graph.Goals as goal

pub returns : goal.returns
returns c = one_graph c.logs_touch_tokens.ensures.one
