use Rattle.cep_rule.proofs.GroundLaws.{bad_within}
use Rattle.cep_rule.proofs.laws.more_positions_known_are_no_worse.Goals as goal

pub returns : goal.returns
returns c = bad_within
