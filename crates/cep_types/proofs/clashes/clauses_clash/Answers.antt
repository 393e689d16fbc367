use Rattle.cep_refusal.specs.First.{standing}
use Rattle.cep_base.proofs.ForemostLoops.{foremost_mapped}
use Rattle.cep_source.specs.Kept.{clause_item}
use Rattle.cep_types.specs.Sites.{clause_scope}
use Rattle.cep_types.specs.Clashes.{scope_clashes}
use Rattle.cep_types.proofs.Meeting.{all_found}
use Rattle.cep_types.proofs.clashes.clauses_clash.Goals as goal

pub loop-clause-preserved : goal.loop-clause-preserved
loop-clause-preserved c =
    foremost_mapped standing (λ clause. scope_clashes c.args.source.now (clause_scope clause)) clause_item c.clauses-clause-items.result.now c.loop-clause.clause-index c.clause-item.result _ _ _ c.loop-clause-test.true c.clause-item.is c.loop-clause.invariant c.in_ok-clash.ensures c.note.ensures

pub returns : goal.returns
returns c = all_found (λ clause. scope_clashes c.args.source.now (clause_scope clause)) clause_item c.clauses-clause-items.result.now c.loop-clause.clause-index _ _ _ c.loop-clause-test.false c.clauses-clause-items.ensures c.loop-clause.invariant c.found.ensures
