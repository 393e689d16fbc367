use Rattle.std.proofs.Common.{◌≡◌, ℕ, subst, sym}
use Rattle.cep_rule.specs.Steps.{Spot, start_spot}
use Rattle.cep_log.specs.Legal.{AreLegalSteps}
use Rattle.cep_replay.specs.Playing.{HaveFewOffers}
use Rattle.cep_replay.proofs.Playing.{Known, answered_there}
use Rattle.cep_replay.proofs.laws.interactive_logs_are_answered.Goals as goal

pub returns : goal.returns
returns c = λ program settings log is interactive legal same few.
    answered_there (record { lead = c.steps_lead_to_states.ensures; contained = c.what_is_needed_is_there.ensures.contained; there = c.offers_are_there.ensures }) program is interactive settings log.steps (start_spot program) legal.last 0 is.start
    (subst (λ (height : ℕ). AreLegalSteps program height log.steps (start_spot program) legal.last) (sym same) legal.steps)
    (subst (λ (height : ℕ). HaveFewOffers program height (start_spot program) log.steps) (sym same) few)
