use Rattle.cep_run.proofs.OneDialogue.{one_question, one_turn}
use Rattle.cep_run.proofs.laws.one_turn.Goals as goal

pub returns-clause-questions : goal.returns-clause-questions
returns-clause-questions c = λ program settings at from question question' to to' asks asks'.
    let same = one_question c.one_list_of_offers.ensures c.one_state_after_a_step.ensures.state program settings at from question question' to to' asks asks' in
    (same.questions, same.supplies)

pub returns-clause-turns : goal.returns-clause-turns
returns-clause-turns c = λ program settings at from turn turn' is is'.
    let same = one_turn c.one_list_of_offers.ensures c.one_state_after_a_step.ensures.state program settings at from turn turn' is is' in
    (same.turns, same.afters, same.lefts)
