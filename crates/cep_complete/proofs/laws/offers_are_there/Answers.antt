use Rattle.cep_complete.proofs.OffersThere.{FindingLaws, offers_there}
use Rattle.cep_complete.proofs.laws.offers_are_there.Goals as goal

pub returns : goal.returns
returns c = λ program height state group kept is_state.
    let laws : FindingLaws = record {
      bags = c.bags_are_lawful.ensures;
      types = c.types_are_lawful.ensures;
      matching = c.matching_is_lawful.ensures;
      alike = c.instances_of_instances.ensures.alike;
      one = c.matches_are_least.ensures.one;
      worse = c.more_positions_known_are_no_worse.ensures;
      answers = c.answers_are_there.ensures;
    } in
    offers_there laws program height state kept is_state c.offers_have_one_order.ensures.total c.offers_have_one_order.ensures.ties group
