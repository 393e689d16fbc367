use Rattle.cep_choice.proofs.Drawing.{drawn_within}
use Rattle.cep_choice.proofs.laws.drawn_places_are_within.Goals as goal

pub returns : goal.returns
returns c = drawn_within
