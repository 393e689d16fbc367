use Rattle.cep_rule.proofs.StepLaws.{offer_small, proof_small}
use Rattle.cep_rule.proofs.laws.values_are_small.Goals as goal

pub returns : goal.returns
returns c = record {
  offers = λ program height state offer kept. offer_small program kept c.bags_are_lawful.ensures height state offer;
  derivations = λ program proof a kept. proof_small program kept proof a;
}
