use Rattle.cep_log.proofs.LegalLogs.{state_listing}
use Rattle.cep_log.proofs.laws.states_are_listings.Goals as goal

pub returns : goal.returns
returns c = λ signature state is fits. state_listing c.bags_are_lawful.ensures signature state is fits
