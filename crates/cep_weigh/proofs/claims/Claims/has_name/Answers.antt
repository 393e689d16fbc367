use Rattle.std.proofs.Common.{rules}
use Rattle.cep_weigh.proofs.claims.Claims.has_name.Goals as goal

pub returns : goal.returns
returns c = search rules
