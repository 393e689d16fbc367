use Rattle.cep_text.proofs.OfferTexts.{one_ground_term, one_atom, one_offer, one_proof}
use Rattle.cep_text.proofs.laws.one_value.Goals as goal

pub returns : goal.returns
returns c = record {
  terms = one_ground_term;
  atoms = one_atom;
  offers = one_offer;
  derivations = one_proof;
}
