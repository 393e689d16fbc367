use Rattle.std.proofs.Common.{◌++◌}
use Rattle.cep_types.specs.Clashes.{rule_clashes, clause_clashes, context_clashes, trace_clashes}
use Rattle.cep_types.proofs.Meeting.{both_found, first_mistyped}
use Rattle.cep_types.proofs.clashes.type_fault.Goals as goal

pub returns : goal.returns
returns c =
    let source = c.args.source.now in
    first_mistyped source c.first_of.result
    (both_found (rule_clashes source ++ clause_clashes source) (context_clashes source ++ trace_clashes source) _ _ _
    (both_found (rule_clashes source) (clause_clashes source) _ _ _ c.in_ok-rules_clash.ensures c.in_ok-clauses_clash.ensures c.first_of-rules.ensures)
    (both_found (context_clashes source) (trace_clashes source) _ _ _ c.in_ok-contexts_clash.ensures c.in_ok-traces_clash.ensures c.first_of-states.ensures)
    c.first_of.ensures)
