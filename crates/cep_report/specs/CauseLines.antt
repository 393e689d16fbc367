-- The lines of the graph of a transcript.
use Rattle.std.specs.Prelude.{ℕ, ◌+◌, Bool, true, false, List, [], ◌∷◌, ◌++◌, codes, decimal}
use Rattle.std.specs.List.{flat_map}
use Rattle.cep_lines.specs.Lines.{line}
use Rattle.cep_order.specs.declared.step_cause.StepCause.{StepCause}

-- ` all`, if the step is a barrier
abbrev pub barrier_text : Bool → List ℕ
barrier_text true = codes " all"
barrier_text false = []

-- a number after a space
abbrev pub number_text : ℕ → List ℕ
number_text number = codes " " ++ decimal number

-- ` after` and the numbers of the steps on which a step rests, if there are any
abbrev pub after_text : List ℕ → List ℕ
after_text [] = []
after_text (number ∷ numbers) = codes " after" ++ flat_map number_text (number ∷ numbers)

-- `step K`, and what is said of the step
abbrev pub graph_line : ℕ → StepCause → List ℕ
graph_line number cause =
    line (codes "step " ++ decimal number ++ barrier_text cause.barrier ++ after_text cause.after)

-- the lines of a graph, whose steps are numbered from here on
abbrev pub graph_lines : ℕ → List StepCause → List ℕ
graph_lines number [] = []
graph_lines number (cause ∷ causes) = graph_line number cause ++ graph_lines (number + 1) causes
