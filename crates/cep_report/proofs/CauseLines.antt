-- The lines of a graph, written one after another.
use Rattle.std.proofs.Common.{◌≡◌, ℕ, ◌+◌, ◌<◌, List, [], ◌∷◌, ◌++◌, length, take, get_or, ap, sym, ◌∙◌, append_assoc, arith}
use Rattle.std.proofs.lemmas.List.{take_more, length-take-le, append-nil}
use Rattle.cep_order.specs.declared.step_cause.StepCause.{StepCause}
use Rattle.cep_report.specs.CauseLines.{graph_line, graph_lines}

-- those of one step more
lines_more : (number next : ℕ) (causes : List StepCause) (cause : StepCause) → next ≡ number + length causes → graph_lines number (causes ++ cause ∷ []) ≡ graph_lines number causes ++ graph_line next cause
lines_more number next [] cause same = let e : number ≡ next = omega (arith, same) in append-nil (graph_line number cause) ∙ ap (λ n. graph_line n cause) e
lines_more number next (one ∷ causes) cause same =
    ap (λ rest. graph_line number one ++ rest) (lines_more (number + 1) next causes cause (omega (arith, same)))
    ∙ sym (append_assoc (graph_line number one) (graph_lines (number + 1) causes) (graph_line next cause))

-- one step more was written
pub one_more_line : (before out after : List ℕ) (causes : List StepCause) (number i : ℕ) (cause : StepCause) → number ≡ i → i < length causes → cause ≡ get_or causes i cause → out ≡ before ++ graph_lines 1 (take i causes) → after ≡ out ++ graph_line (number + 1) cause → after ≡ before ++ graph_lines 1 (take (i + 1) causes)
one_more_line before out after causes number i cause same within here was is =
    let long : length (take i causes) ≡ i = length-take-le i causes (omega (arith, within)) in
    let item : take i causes ++ cause ∷ [] ≡ take (i + 1) causes = ap (λ c. take i causes ++ c ∷ []) here ∙ sym (take_more causes i cause within) in
    is ∙ ap (λ o. o ++ graph_line (number + 1) cause) was ∙ append_assoc before (graph_lines 1 (take i causes)) (graph_line (number + 1) cause)
    ∙ ap (λ lines. before ++ lines) (sym (lines_more 1 (number + 1) (take i causes) cause (omega (arith, long, same))) ∙ ap (graph_lines 1) item)
