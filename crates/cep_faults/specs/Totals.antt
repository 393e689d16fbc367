-- Private.
-- The faults of a whole text: of its numbers of declarations, of the size of its start state, and of its number of traces.
use Rattle.std.specs.Prelude.{ℕ, ◌||◌, if◌then◌else◌, List, [], ◌∷◌, ◌++◌, map, length, nat_lt, sum_by}
use Rattle.std.specs.List.{flat_map}
use Rattle.cep_base.specs.declared.limits.TheConstants.{MOST_CLAUSES, MOST_CONS, MOST_COPIES, MOST_PREDS, MOST_RULES, MOST_STATE_NODES}
use Rattle.cep_refusal.specs.declared.fault.Fault.{Fault}
use Rattle.cep_refusal.specs.declared.reason.Reason.TheVariants.{NoTrace, TwoTraces, OverLimit}
use Rattle.cep_refusal.specs.First.{wrong}
use Rattle.cep_source.specs.Items.{Source, TraceItem, preds_of, cons_of, rules_of, clauses_of, contexts_of, interactives_of, traces_of}
use Rattle.cep_source.specs.declared.space.Space.TheVariants as space
use Rattle.cep_source.specs.Starts.{start_atoms, nodes_written, counting}
use Rattle.cep_faults.specs.declared.traces.Size.{Size}
use Rattle.cep_faults.specs.Faults.{use_faults, predicate_faults, con_faults, rule_faults, clause_faults, context_faults, trace_faults, past_most}

-- the first declaration of a kind that is one too many
abbrev pub count_faults : Source → List Fault
count_faults source =
    past_most (λ pred. pred.name.from) (preds_of source) MOST_PREDS ++ past_most (λ con. con.name.from) (cons_of source) MOST_CONS
    ++ past_most (λ rule. rule.raw.at) (rules_of source) MOST_RULES ++ past_most (λ clause. clause.head.name.from) (clauses_of source) MOST_CLAUSES

-- a size that is too large for a start state
abbrev pub large_faults : Size → ℕ → List Fault
large_faults size at = if nat_lt MOST_COPIES size.copies || nat_lt MOST_STATE_NODES size.nodes then wrong OverLimit at ∷ [] else []

-- a start state that is too large, where a fact that is listed again counts once
abbrev pub start_faults : Source → TraceItem → List Fault
start_faults source trace =
    let atoms = counting source (start_atoms source trace.start) in
    if nat_lt MOST_COPIES (length atoms) || nat_lt MOST_STATE_NODES (sum_by nodes_written atoms) then wrong OverLimit trace.at ∷ [] else []

-- the traces: the first one's start state, and each one after it, or that there is none
abbrev pub two_faults : List TraceItem → List Fault
two_faults traces = map (λ other. wrong TwoTraces other.at) traces

abbrev pub traces_faults : Source → List TraceItem → List Fault
traces_faults source [] = wrong NoTrace (length source.text) ∷ []
traces_faults source (trace ∷ rest) = start_faults source trace ++ two_faults rest

-- the faults of a text, but for names that are declared again
abbrev pub all_faults : Source → List Fault
all_faults source =
    flat_map (predicate_faults source) (preds_of source) ++ flat_map (con_faults source) (cons_of source)
    ++ flat_map (rule_faults source) (rules_of source) ++ flat_map (clause_faults source) (clauses_of source)
    ++ flat_map (context_faults source) (contexts_of source) ++ flat_map (use_faults source space.Stages) (interactives_of source)
    ++ flat_map (trace_faults source) (traces_of source) ++ count_faults source ++ traces_faults source (traces_of source)
