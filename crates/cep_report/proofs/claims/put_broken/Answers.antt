use Rattle.std.proofs.Common.{rules, append_assoc}
use Rattle.cep_report.proofs.claims.put_broken.Goals as goal

pub returns : goal.returns
returns c = search (rules, append_assoc)
