use Rattle.cep_world.specs.World.{rule_lines}
use Rattle.cep_world.proofs.world.put_rules.Goals as goal

pub returns : goal.returns
unfolding rule_lines
returns c = c.append.ensures.ok
