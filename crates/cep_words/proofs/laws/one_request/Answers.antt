use Rattle.cep_words.proofs.OneRequest.{one_request}
use Rattle.cep_words.proofs.laws.one_request.Goals as goal

pub returns : goal.returns
returns c = one_request
