use Rattle.cep_faults.proofs.Complete.{all_named}
use Rattle.cep_faults.proofs.checking.name_fault.Goals as goal

pub returns : goal.returns
returns c = all_named c.args.source.now c.twice.result c.in_ok-other.other c.first_of.result c.twice.ensures c.in_ok-other.ensures c.first_of.ensures
