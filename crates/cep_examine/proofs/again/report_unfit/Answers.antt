use Rattle.std.proofs.Common.{rules}
use Rattle.cep_examine.proofs.again.report_unfit.Goals as goal

pub returns : goal.returns
returns c = search rules
