use Rattle.std.proofs.Common.{[], ◌∙◌}
use Rattle.cep_source.specs.Kept.{clause_item}
use Rattle.cep_faults.specs.Faults.{clause_faults}
use Rattle.cep_faults.proofs.Firsts.{noted, all_mapped}
use Rattle.cep_faults.proofs.rules.clauses_fault.Goals as goal

pub loop-clause-preserved : goal.loop-clause-preserved
loop-clause-preserved c =
    noted (λ clause. clause_faults c.args.source.now (clause_item clause)) [] c.clauses-clause-items.result.now c.loop-clause.clause-index _ c.clause-item.result _ _ _
    c.loop-clause-test.true c.clause-item.is c.loop-clause.invariant c.in_ok-fault.ensures c.note.ensures

pub returns : goal.returns
returns c =
    c.found.ensures ∙ all_mapped (clause_faults c.args.source.now) clause_item c.clauses-clause-items.result.now _ c.loop-clause.clause-index _ c.loop-clause-test.false c.clauses-clause-items.ensures c.loop-clause.invariant
