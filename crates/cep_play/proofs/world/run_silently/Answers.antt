use Rattle.std.proofs.Common.{[], refl}
use Rattle.cep_play.proofs.world.run_silently.Goals as goal

pub returns-in-Ok-clause-ran : goal.returns-in-Ok-clause-ran
returns-in-Ok-clause-ran g c = let did = c.in-Ok.ensures.said [] refl in (did.0, did.1, did.4)
