use Rattle.cep_step.proofs.Ready.{ready}
use Rattle.cep_step.proofs.spot.Spot.weigh.Goals as goal

pub weigh-requires-clause-ready : goal.weigh-requires-clause-ready
weigh-requires-clause-ready c = rw (c.parts-parts.ensures.parts, c.self.view_is) (ready _ _ _ _ c.parts-parts.ensures.kept c.requires.of_program c.requires.can)
