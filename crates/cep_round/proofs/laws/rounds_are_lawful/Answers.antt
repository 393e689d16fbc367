use Rattle.cep_rule.specs.Offers.{Applies}
use Rattle.cep_round.specs.Rounds.{admitted}
use Rattle.cep_round.proofs.Admitted.{each_admitted}
use Rattle.cep_round.proofs.laws.rounds_are_lawful.Goals as goal

pub returns-clause-done : goal.returns-clause-done
returns-clause-done c = λ program height state offers order flags kept is all are fit same.
    c.rounds_can_be_done_in_every_order.ensures.done program height state (admitted offers flags) order kept is
    (each_admitted (Applies program height state) offers flags all) fit (c.what_is_admitted_is_there.ensures program state offers flags are) same

pub returns-clause-last : goal.returns-clause-last
returns-clause-last c = λ program height state last offers order flags kept is are same done.
    record {
      flagged = are;
      together = (c.rounds_can_be_done_in_every_order.ensures.together program height state last (admitted offers flags) order kept is (c.what_is_admitted_is_there.ensures program state offers flags are) same done).1;
    }
