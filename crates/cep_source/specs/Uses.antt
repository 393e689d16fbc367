-- The atoms of a file by where they stand, and the names that it uses.
use Rattle.std.specs.Prelude.{◌==◌, Bool, ◌&&◌, not, List, [], ◌∷◌, ◌++◌, map, filter}
use Rattle.std.specs.List.{flat_map}
use Rattle.cep_parse.specs.declared.raw.Span.{Span}
use Rattle.cep_parse.specs.declared.raw.RawKind.{RawKind}
use Rattle.cep_parse.specs.declared.raw.RawKind.TheVariants as kind
use Rattle.cep_parse.specs.declared.raw.RawAtom.{RawAtom}
use Rattle.cep_parse.specs.declared.raw.RawElem.{RawElem}
use Rattle.cep_parse.specs.declared.raw.RawElem.TheVariants as elem
use Rattle.cep_parse.specs.declared.raw.RawStart.{RawStart}
use Rattle.cep_parse.specs.declared.raw.RawStart.TheVariants as state
use Rattle.cep_parse.specs.Raw.{atoms_of, raw_nodes, start_listed}
use Rattle.cep_source.specs.declared.space.Space.{Space}
use Rattle.cep_source.specs.declared.space.Space.TheVariants as space
use Rattle.cep_source.specs.Items.{Source, said, preds_of, cons_of, clauses_of, rules_of, interactives_of, contexts_of, traces_of}
use Rattle.cep_source.specs.Spaces.{is_in}

-- the atoms of left sides, of right sides, and of clauses
abbrev pub needed_atoms : Source → List RawAtom
needed_atoms source = flat_map (λ rule. atoms_of rule.raw.left) (rules_of source)

abbrev pub made_atoms : Source → List RawAtom
made_atoms source = flat_map (λ rule. atoms_of rule.raw.right) (rules_of source)

abbrev pub clause_atoms : Source → List RawAtom
clause_atoms source = flat_map (λ clause. clause.head ∷ clause.goals) (clauses_of source)

-- Whether an atom in the braces of a trace stands for the atoms of a context: a name without arguments that is no predicate but a context.
abbrev pub stands_for_context : Source → RawAtom → Bool
stands_for_context source atom =
    (atom.args == 0) && (not (is_in source space.Predicates (said source atom.name)) && is_in source space.Contexts (said source atom.name))

-- the atoms of states: those of contexts, and those in braces that stand for themselves
abbrev pub state_atoms : Source → List RawAtom
state_atoms source =
    flat_map (λ context. context.atoms) (contexts_of source)
    ++ flat_map (λ trace. filter (λ atom. not (stands_for_context source atom)) (start_listed trace.start)) (traces_of source)

-- all atoms of the file
abbrev pub atoms_written : Source → List RawAtom
atoms_written source = needed_atoms source ++ (made_atoms source ++ (clause_atoms source ++ state_atoms source))

-- the stages that a side names
abbrev pub stages_at : RawElem → List Span
stages_at (elem.Stage name) = name ∷ []
stages_at (elem.Atom kept atom) = []
stages_at (elem.Qui span) = []

abbrev pub stages_named : List RawElem → List Span
stages_named side = flat_map stages_at side

-- the context that a start state names, and the constructor at a node
abbrev pub contexts_at : RawStart → List Span
contexts_at (state.Named name) = name ∷ []
contexts_at (state.Listed atoms) = []

abbrev pub applied_at : RawKind → Span → List Span
applied_at kind.App span = span ∷ []
applied_at kind.Blank span = []
applied_at kind.Var span = []

-- the names that the file uses, by the space in which they are looked for
abbrev pub uses_in : Source → Space → List Span
uses_in source space.Sorts = flat_map (λ pred. pred.args) (preds_of source) ++ flat_map (λ con. con.args ++ con.sort ∷ []) (cons_of source)
uses_in source space.Constructors = flat_map (λ node. applied_at node.kind node.at) (raw_nodes (atoms_written source))
uses_in source space.Predicates = map (λ atom. atom.name) (atoms_written source)
uses_in source space.Stages = flat_map (λ rule. stages_named rule.raw.left ++ stages_named rule.raw.right) (rules_of source) ++ (interactives_of source ++ map (λ trace. trace.stage) (traces_of source))
uses_in source space.Contexts = flat_map (λ trace. contexts_at trace.start) (traces_of source)
uses_in source space.Rules = []
