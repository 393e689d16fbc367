-- Private.
-- The faults of what a file declares, each taken alone.
use Rattle.std.specs.Prelude.{ℕ, ◌==◌, Bool, true, false, ◌&&◌, ◌||◌, not, if◌then◌else◌, List, [], ◌∷◌, ◌++◌, Option, Some, None, is_some, unwrap_or, length, filter, count_by, nat_le, slice_get}
use Rattle.std.specs.Option.{option_map}
use Rattle.std.specs.List.{flat_map}
use Rattle.cep_base.specs.Kinds.{is_backward}
use Rattle.cep_base.specs.declared.kind.PredKind.{PredKind}
use Rattle.cep_base.specs.declared.kind.PredKind.TheVariants.{Linear, Back, Fact}
use Rattle.cep_base.specs.declared.limits.TheConstants.{MOST_ARGUMENTS, MOST_BACKS, MOST_DEPTH, MOST_GOALS, MOST_NODES, MOST_PREMISES, MOST_RIGHT, MOST_VARIABLES}
use Rattle.cep_parse.specs.declared.raw.Span.{Span}
use Rattle.cep_parse.specs.declared.raw.RawKind.{RawKind}
use Rattle.cep_parse.specs.declared.raw.RawKind.TheVariants as kind
use Rattle.cep_parse.specs.declared.raw.RawNode.{RawNode}
use Rattle.cep_parse.specs.declared.raw.RawAtom.{RawAtom}
use Rattle.cep_parse.specs.declared.raw.RawElem.{RawElem}
use Rattle.cep_parse.specs.declared.raw.RawElem.TheVariants as elem
use Rattle.cep_parse.specs.declared.raw.RawRule.{RawRule}
use Rattle.cep_parse.specs.declared.raw.RawStart.{RawStart}
use Rattle.cep_parse.specs.declared.raw.RawStart.TheVariants as state
use Rattle.cep_parse.specs.Raw.{atoms_of}
use Rattle.cep_refusal.specs.declared.fault.Fault.{Fault}
use Rattle.cep_refusal.specs.declared.reason.Reason.TheVariants.{Unknown, WrongKind, WrongArity, VarInContext, BwdInState, LinearInClause, BadQui, OverLimit}
use Rattle.cep_refusal.specs.First.{wrong}
use Rattle.cep_source.specs.declared.space.Space.{Space}
use Rattle.cep_source.specs.declared.space.Space.TheVariants as space
use Rattle.cep_source.specs.Items.{Source, PredItem, ConItem, ClauseItem, RuleItem, ContextItem, TraceItem, said}
use Rattle.cep_source.specs.Spaces.{is_in, pred_named, con_named, kind_of}
use Rattle.cep_source.specs.Uses.{stands_for_context}
use Rattle.cep_source.specs.Variables.{variables_of}
use Rattle.cep_source.specs.Starts.{nodes_written, depth_written, turns_said}
use Rattle.cep_faults.specs.Misnamed.{is_qui}

-- whether some space has the name
abbrev pub is_somewhere : Source → List ℕ → Bool
is_somewhere source name =
    is_in source space.Sorts name || is_in source space.Constructors name || is_in source space.Predicates name
    || is_in source space.Stages name || is_in source space.Contexts name || is_in source space.Rules name

-- a name that its space has not, where some space has it or none
abbrev pub lack_faults : Bool → Bool → ℕ → List Fault
lack_faults true anywhere at = []
lack_faults false true at = wrong WrongKind at ∷ []
lack_faults false false at = wrong Unknown at ∷ []

-- a name that is used, by the space in which it is looked for
abbrev pub use_faults : Source → Space → Span → List Fault
use_faults source in_space name = lack_faults (is_in source in_space (said source name)) (is_somewhere source (said source name)) name.from

-- another number of arguments than is declared
abbrev pub arity_faults : Option ℕ → ℕ → ℕ → List Fault
arity_faults None args at = []
arity_faults (Some arity) args at = if args == arity then [] else wrong WrongArity at ∷ []

-- the predicate of an atom
abbrev pub pred_arity : Source → RawAtom → Option ℕ
pred_arity source atom = option_map (λ pred. length pred.args) (pred_named source (said source atom.name))

abbrev pub pred_faults : Source → RawAtom → List Fault
pred_faults source atom = use_faults source space.Predicates atom.name ++ arity_faults (pred_arity source atom) atom.args atom.name.from

-- a node: a constructor, or, in a state, a variable or a blank
abbrev pub con_arity : Source → RawNode → Option ℕ
con_arity source node = option_map (λ con. length con.args) (con_named source (said source node.at))

abbrev pub open_faults : Bool → ℕ → List Fault
open_faults of_state at = if of_state then wrong VarInContext at ∷ [] else []

abbrev pub kind_faults : Source → Bool → RawKind → RawNode → List Fault
kind_faults source of_state kind.App node = use_faults source space.Constructors node.at ++ arity_faults (con_arity source node) node.args node.at.from
kind_faults source of_state kind.Blank node = open_faults of_state node.at.from
kind_faults source of_state kind.Var node = open_faults of_state node.at.from

abbrev pub node_faults : Source → Bool → RawNode → List Fault
node_faults source of_state node = kind_faults source of_state node.kind node

-- an atom: the names that it uses, and, in a state, the variables
abbrev pub names_faults : Source → Bool → RawAtom → List Fault
names_faults source of_state atom = pred_faults source atom ++ flat_map (node_faults source of_state) atom.nodes

-- a backward predicate where an atom becomes part of a state, and one of states in a clause
abbrev pub back_by : Option PredKind → ℕ → List Fault
back_by (Some Back) at = wrong BwdInState at ∷ []
back_by (Some Linear) at = []
back_by (Some Fact) at = []
back_by None at = []

abbrev pub back_faults : Source → RawAtom → List Fault
back_faults source atom = back_by (kind_of source atom) atom.name.from

abbrev pub linear_by : Option PredKind → ℕ → List Fault
linear_by (Some Linear) at = wrong LinearInClause at ∷ []
linear_by (Some Fact) at = wrong LinearInClause at ∷ []
linear_by (Some Back) at = []
linear_by None at = []

abbrev pub linear_faults : Source → RawAtom → List Fault
linear_faults source atom = linear_by (kind_of source atom) atom.name.from

-- an atom of a clause
abbrev pub clause_atom_faults : Source → RawAtom → List Fault
clause_atom_faults source atom = names_faults source false atom ++ linear_faults source atom

-- an atom of a side, which a right side makes part of a state
abbrev pub side_atom_faults : Source → Bool → RawAtom → List Fault
side_atom_faults source made atom = names_faults source false atom ++ (if made then back_faults source atom else [])

-- what stands on a side
abbrev pub elem_faults : Source → Bool → RawElem → List Fault
elem_faults source made (elem.Atom kept atom) = side_atom_faults source made atom
elem_faults source made (elem.Stage name) = use_faults source space.Stages name
elem_faults source made (elem.Qui span) = []

-- whether an atom may be kept in a state
abbrev pub is_fit : RawAtom → Bool
is_fit atom = nat_le (nodes_written atom) MOST_NODES && nat_le (depth_written atom) MOST_DEPTH

abbrev pub unfit_faults : RawAtom → List Fault
unfit_faults atom = if is_fit atom then [] else wrong OverLimit atom.name.from ∷ []

-- an atom of a state
abbrev pub state_faults : Source → RawAtom → List Fault
state_faults source atom = names_faults source true atom ++ back_faults source atom ++ unfit_faults atom

-- an atom that a context or, in braces, a trace lists
abbrev pub listed_faults : Source → Bool → RawAtom → List Fault
listed_faults source in_braces atom = if in_braces && stands_for_context source atom then [] else state_faults source atom

-- the first one too many
abbrev pub past : Option ℕ → List Fault
past None = []
past (Some at) = wrong OverLimit at ∷ []

-- the first of some things that is one too many, by its place
abbrev pub past_most : {X : Type 0} → (X → ℕ) → List X → ℕ → List Fault
past_most place things most = past (option_map place (slice_get things most))

-- the types of the arguments of a declaration
abbrev pub argument_faults : Source → List Span → List Fault
argument_faults source args = flat_map (use_faults source space.Sorts) args ++ past_most (λ arg. arg.from) args MOST_ARGUMENTS

-- a predicate's declaration, and a constructor's
abbrev pub predicate_faults : Source → PredItem → List Fault
predicate_faults source pred = argument_faults source pred.args

abbrev pub con_faults : Source → ConItem → List Fault
con_faults source con = argument_faults source con.args ++ use_faults source space.Sorts con.sort

-- whether a premise's predicate is declared, as a backward one or as one of states
abbrev pub is_as : Bool → PredKind → Bool
is_as true its = is_backward its
is_as false its = not (is_backward its)

abbrev pub is_premise : Source → Bool → RawAtom → Bool
is_premise source back atom = unwrap_or (option_map (is_as back) (kind_of source atom)) false

-- the premises that are one too many, and the right atoms
abbrev pub premise_faults : Source → Bool → List RawElem → ℕ → List Fault
premise_faults source back left most = past_most (λ atom. atom.name.from) (filter (is_premise source back) (atoms_of left)) most

abbrev pub right_faults : List RawElem → List Fault
right_faults right = past_most (λ atom. atom.name.from) (atoms_of right) MOST_RIGHT

-- whether the element names a stage, and whether a rule leads from one stage to one stage at quiescence
abbrev pub is_stage : RawElem → Bool
is_stage (elem.Stage name) = true
is_stage (elem.Atom kept atom) = false
is_stage (elem.Qui span) = false

abbrev pub is_qui_rule : RawRule → Bool
is_qui_rule rule = (count_by is_qui rule.left == 1) && ((count_by is_stage rule.left == 1) && (count_by is_stage rule.right == 1))

-- a rule outside of stages
abbrev pub home_faults : RuleItem → List Fault
home_faults rule = if is_some rule.home || is_qui_rule rule.raw then [] else wrong BadQui rule.raw.at ∷ []

-- the first variable that is one too many
abbrev pub variable_faults : Source → List RawAtom → List Fault
variable_faults source atoms = past_most (λ occurrence. occurrence.at.from) (variables_of source atoms) MOST_VARIABLES

-- a rule, and a clause
abbrev pub rule_faults : Source → RuleItem → List Fault
rule_faults source rule =
    flat_map (elem_faults source false) rule.raw.left ++ flat_map (elem_faults source true) rule.raw.right
    ++ premise_faults source false rule.raw.left MOST_PREMISES ++ premise_faults source true rule.raw.left MOST_BACKS
    ++ right_faults rule.raw.right ++ variable_faults source (atoms_of rule.raw.left) ++ home_faults rule

abbrev pub clause_faults : Source → ClauseItem → List Fault
clause_faults source clause =
    clause_atom_faults source clause.head ++ flat_map (clause_atom_faults source) clause.goals
    ++ past_most (λ goal. goal.name.from) clause.goals MOST_GOALS ++ variable_faults source (clause.head ∷ clause.goals)

-- a context
abbrev pub context_faults : Source → ContextItem → List Fault
context_faults source context = flat_map (listed_faults source false) context.atoms

-- what a trace starts with
abbrev pub begin_faults : Source → RawStart → List Fault
begin_faults source (state.Named name) = use_faults source space.Contexts name
begin_faults source (state.Listed atoms) = flat_map (listed_faults source true) atoms

-- a number of turns
abbrev pub turns_faults : List ℕ → Option Span → List Fault
turns_faults text None = []
turns_faults text (Some number) = if is_some (turns_said text number) then [] else wrong OverLimit number.from ∷ []

-- a trace, but for the size of its start state and its number among others
abbrev pub trace_faults : Source → TraceItem → List Fault
trace_faults source trace = use_faults source space.Stages trace.stage ++ begin_faults source trace.start ++ turns_faults source.text trace.limit
