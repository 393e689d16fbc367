use Rattle.cep_rule.proofs.TypedValues.{proof_shaped}
use Rattle.cep_rule.proofs.laws.derivations_have_shape.Goals as goal

pub returns : goal.returns
returns c = proof_shaped
