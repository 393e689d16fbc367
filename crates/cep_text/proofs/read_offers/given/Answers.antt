use Rattle.std.proofs.Common.{rules}
use Rattle.cep_text.specs.Reading.{given_at}
use Rattle.cep_text.proofs.read_offers.given.Goals as goal

pub returns-in_err-rest-2-clause-read : goal.returns-in_err-rest-2-clause-read
unfolding given_at
returns-in_err-rest-2-clause-read c = search rules

pub returns-clause-read : goal.returns-clause-read
unfolding given_at
returns-clause-read c = search rules
