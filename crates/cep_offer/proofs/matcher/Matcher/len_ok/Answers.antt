use Rattle.std.proofs.Common.{rules}
use Rattle.cep_offer.proofs.matcher.Matcher.len_ok.Goals as goal

pub returns : goal.returns
returns g c = search rules
