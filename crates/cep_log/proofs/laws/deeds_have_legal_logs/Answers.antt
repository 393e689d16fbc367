use Rattle.cep_log.proofs.LegalLogs.{legal_log}
use Rattle.cep_log.proofs.DeedLogs.{log_there}
use Rattle.cep_log.proofs.laws.deeds_have_legal_logs.Goals as goal

pub returns-clause-legal : goal.returns-clause-legal
returns-clause-legal c = λ program height deeds last word log kept height_is done quiet holds.
    legal_log c.steps_lead_to_states.ensures program kept height height_is (c.states_are_listings.ensures program.signature) deeds last word log done quiet holds

pub returns-clause-written : goal.returns-clause-written
returns-clause-written c = λ program height deeds last word bytes kept height_is done quiet.
    log_there program height c.steps_lead_to_states.ensures kept height_is (c.states_are_listings.ensures program.signature)
    (λ log lines. c.logs_are_read_as_written.ensures.read program log lines kept) deeds last word done quiet bytes
