use Rattle.cep_weigh.proofs.Sums.{wants_sides}
use Rattle.cep_weigh.proofs.Factors.{claims_hold}
use Rattle.cep_weigh.proofs.laws.claims_hold_of_runs.Goals as goal

pub returns-clause-kept : goal.returns-clause-kept
returns-clause-kept c = λ program claim parts linear signs kept.
    claims_hold program claim parts (λ rule values old new step. c.steps_change_weights.ensures program.signature parts rule values old new linear step) signs kept

pub returns-clause-broken : goal.returns-clause-broken
returns-clause-broken c = λ signature claim parts rule values old new linear broken step wants.
    broken (wants_sides claim _ _ _ _ (c.steps_change_weights.ensures signature parts rule values old new linear step) wants)
