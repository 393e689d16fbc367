use Rattle.std.proofs.Common.{arith, rules}
use Rattle.cep_base.specs.declared.limits.TheConstants.{MOST_CLAUSES, MOST_CONS, MOST_PREDS, MOST_RULES}
use Rattle.cep_source.specs.Items.{PredItem, ConItem, RuleItem, ClauseItem, preds_of, cons_of, rules_of, clauses_of}
use Rattle.cep_source.specs.Kept.{pred_item, con_item, rule_item, clause_item}
use Rattle.cep_faults.proofs.Firsts.{first_in_append, mapped_by, past_given}
use Rattle.cep_faults.proofs.limits.count_past.Goals as goal

pub returns : goal.returns
returns c =
    let source = c.args.source.now in
    let preds = past_given (λ (pred : PredItem). pred.name.from) pred_item c.preds.result.now (preds_of source) MOST_PREDS c.item_at.result c.map-pred.result _ c.preds.ensures c.item_at.ensures
    (mapped_by (λ pred. pred.name.from) c.item_at.result c.map-pred.result (λ pred n gives. search rules) c.map-pred.ensures.cases) c.past.ensures in
    let cons = past_given (λ (con : ConItem). con.name.from) con_item c.cons.result.now (cons_of source) MOST_CONS c.item_at-2.result c.map-con.result _ c.cons.ensures c.item_at-2.ensures
    (mapped_by (λ con. con.name.from) c.item_at-2.result c.map-con.result (λ con n gives. search rules) c.map-con.ensures.cases) c.past-2.ensures in
    let rules_ = past_given (λ (rule : RuleItem). rule.raw.at) rule_item c.rules.result.now (rules_of source) MOST_RULES c.item_at-3.result c.map-rule.result _ c.rules.ensures c.item_at-3.ensures
    (mapped_by (λ rule. rule.raw.now.at) c.item_at-3.result c.map-rule.result (λ rule n gives. search rules) c.map-rule.ensures.cases) c.past-3.ensures in
    let clauses = past_given (λ (clause : ClauseItem). clause.head.name.from) clause_item c.clauses.result.now (clauses_of source) MOST_CLAUSES c.item_at-4.result c.map-clause.result _ c.clauses.ensures c.item_at-4.ensures
    (mapped_by (λ clause. clause.head.name.from) c.item_at-4.result c.map-clause.result (λ clause n gives. search rules) c.map-clause.ensures.cases) c.past-4.ensures in
    grind (arith, first_in_append, preds, cons, rules_, clauses)
