use Rattle.cep_refusal.specs.declared.reason.Reason.TheVariants.{TooLong}
use Rattle.cep_refusal.specs.First.{wrong}
use Rattle.cep_ground.proofs.OneAnswer.{refused_too_long}
use Rattle.cep_ground.proofs.length.too_long.Goals as goal

pub returns : goal.returns
returns c = λ text long. (wrong TooLong 0, refused_too_long text long, record { reason = c.of.ensures.reason; pos = c.of.ensures.pos })
