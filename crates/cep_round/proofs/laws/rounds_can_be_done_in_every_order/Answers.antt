use Rattle.cep_round.proofs.Orders.{can_be_done, heights_kept, is_together, last_bag, together_anyway, contained_anyway, all_in_order, all_ready}
use Rattle.cep_round.proofs.laws.rounds_can_be_done_in_every_order.Goals as goal

pub returns-clause-done : goal.returns-clause-done
returns-clause-done c = λ program height state offers order kept is applies fit contained same.
    let laws = c.steps_are_lawful.ensures in
    can_be_done laws program kept height order state is
    (all_in_order laws program _ offers order same (all_ready laws program height state offers applies fit))
    (contained_anyway laws program offers order state same contained)

pub returns-clause-heights : goal.returns-clause-heights
returns-clause-heights c = λ program state offers order kept contained same.
    let laws = c.steps_are_lawful.ensures in
    heights_kept laws program kept state order (contained_anyway laws program offers order state same contained)

pub returns-clause-together : goal.returns-clause-together
returns-clause-together c = λ program height state last offers order kept is contained same done.
    let laws = c.steps_are_lawful.ensures in (
      last_bag laws program kept height order state last is.bag done,
      together_anyway laws program offers order state last same
          (is_together laws program kept height order state last is.once (contained_anyway laws program offers order state same contained) done),
    )
