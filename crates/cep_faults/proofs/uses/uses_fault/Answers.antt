use Rattle.std.proofs.Common.{[]}
use Rattle.cep_faults.specs.Faults.{use_faults}
use Rattle.cep_faults.proofs.Firsts.{noted_at}
use Rattle.cep_faults.proofs.uses.uses_fault.Goals as goal

pub loop-name-preserved : goal.loop-name-preserved
loop-name-preserved c =
    noted_at (use_faults c.args.source.now c.args.space) [] c.args.names.now c.loop-name.name-index _ _ _ _ c.loop-name-test.true c.loop-name.invariant c.use_fault.ensures c.note.ensures
