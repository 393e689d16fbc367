use Rattle.cep_rule.specs.Patterns.{clause_of}
use Rattle.cep_source.specs.Kept.{clause_item}
use Rattle.cep_infer.specs.Meaning.{IsClauseBy}
use Rattle.cep_infer.proofs.RulesInTurn.{zip_more}
use Rattle.cep_infer.proofs.clauses.read_clauses.Goals as goal

pub loop-item-preserved : goal.loop-item-preserved
loop-item-preserved c =
    zip_more (IsClauseBy c.args.source.now) clause_item c.clauses-item-items.result.now c.loop-item.item-index c.item-item.result c.loop-item.clauses c.push.new.self (clause_of c.in_ok-clause.clause)
    c.loop-item-test.true c.item-item.is c.loop-item.invariant c.in_ok-clause.ensures c.in_ok-push.ensures.ok
