use Rattle.rand_pcg.specs.Lcg.{state_after}
use Rattle.cep_choice.specs.Draws.{generator_behind}
use Rattle.cep_choice.proofs.draw.Draw.new.Goals as goal

pub returns : goal.returns
unfolding generator_behind state_after
returns c = c.new.ensures
