-- What is found is wrong.
use Rattle.std.proofs.Common.{◌≡◌, ⊎_elim, subst, ℕ, Bool, true, false, ◌||◌, if◌then◌else◌, List, [], ◌∷◌, length, filter, refl, ap, sym, ◌∙◌, count_by, cond, arith, ◌≢◌, ◌==◌, not, nat_lt, nat_le, ◌++◌, map, Option, Some, None, is_some, ◌⊎◌, inl, inr}
use Rattle.std.proofs.lemmas.List.Sums.{sum_by-cons}
use Rattle.cep_parse.specs.declared.raw.RawElem.{RawElem}
use Rattle.cep_refusal.specs.declared.fault.Fault.{Fault}
use Rattle.cep_source.specs.declared.space.Space.{Space}
use Rattle.cep_source.specs.Items.{Source, PredItem, ConItem, ClauseItem, RuleItem, ContextItem, TraceItem, said, preds_of, cons_of, clauses_of, rules_of, interactives_of, contexts_of, traces_of}
use Rattle.cep_source.specs.Spaces.{is_in, pred_named, con_named, kind_of, IsTwice}
use Rattle.cep_source.specs.Uses.{stages_named, uses_in, needed_atoms, made_atoms, clause_atoms, state_atoms, atoms_written, stands_for_context, stages_at, contexts_at, applied_at}
use Rattle.cep_faults.specs.Faults.{is_somewhere, is_stage, lack_faults, use_faults, arity_faults, pred_arity, pred_faults, con_arity, kind_faults, node_faults, names_faults, back_by, back_faults, linear_by, linear_faults, clause_atom_faults, elem_faults, is_fit, unfit_faults, state_faults, listed_faults, past, past_most, argument_faults, predicate_faults, con_faults, is_qui_rule, home_faults, rule_faults, clause_faults, context_faults, begin_faults, turns_faults, trace_faults, side_atom_faults}
use Rattle.cep_base.proofs.Members.{In, here, in_nil, in_one, in_parts, in_same, in_left, in_right, through, via, image, mapped, to_contains, from_contains, in_filter, from_filter}
use Rattle.std.specs.Option.{option_map}
use Rattle.std.specs.List.{flat_map, slice_get, sum_by, Contains}
use Rattle.std.proofs.lemmas.Bool.{false≢true, le-leb, eq-eqb, eqb-false, ltb-true, or_cases, eqb-true, lt-ltb, and_parts, and_from, or_left, or_right, ne_eqb}
use Rattle.cep_base.specs.declared.kind.PredKind.{PredKind}
use Rattle.cep_base.specs.declared.kind.PredKind.TheVariants.{Linear, Back, Fact}
use Rattle.cep_base.specs.declared.limits.TheConstants.{MOST_ARGUMENTS, MOST_BACKS, MOST_CLAUSES, MOST_CONS, MOST_COPIES, MOST_DEPTH, MOST_GOALS, MOST_NODES, MOST_PREDS, MOST_PREMISES, MOST_RIGHT, MOST_RULES, MOST_STATE_NODES, MOST_VARIABLES}
use Rattle.cep_parse.specs.declared.raw.Span.{Span}
use Rattle.cep_parse.specs.declared.raw.RawKind.{RawKind}
use Rattle.cep_parse.specs.declared.raw.RawNode.{RawNode}
use Rattle.cep_parse.specs.declared.raw.RawAtom.{RawAtom}
use Rattle.cep_parse.specs.declared.raw.RawRule.{RawRule}
use Rattle.cep_parse.specs.declared.raw.RawStart.{RawStart}
use Rattle.cep_parse.specs.Raw.{atoms_in, atoms_of, raw_nodes, start_listed}
use Rattle.cep_refusal.specs.declared.reason.Reason.TheVariants.{WrongArity, VarInContext, BadQui, TwoTraces, OverLimit, BwdInState, LinearInClause}
use Rattle.cep_refusal.specs.First.{wrong, standing, IsFirstOrNone, first_of, first_in}
use Rattle.cep_source.specs.Variables.{Occurrence, variables_of}
use Rattle.cep_source.specs.Starts.{IsFitWritten, nodes_written, depth_written, start_atoms, counting, turns_said}
use Rattle.cep_faults.specs.Misnamed.{Misnamed, IsQuiRule}
use Rattle.cep_faults.specs.Misnamed.Misnamed.{unknown, wrong_kind, wrong_arity, wrong_term_arity, variable_in_state, backward_in_state, linear_in_clause, bad_qui, no_trace, two_traces, over, twice}
use Rattle.cep_faults.specs.Premises.{state_premises_of, backward_of}
use Rattle.cep_faults.specs.Limits.{IsOver, arguments_of}
use Rattle.cep_faults.specs.Totals.{count_faults, start_faults, two_faults, traces_faults, all_faults}
use Rattle.cep_base.specs.Kinds.{is_backward}
use Rattle.cep_base.proofs.Foremost.{foremost_union, foremost_same, foremost_among}
use Rattle.cep_parse.specs.declared.raw.RawElem.TheVariants as elem
use Rattle.cep_source.specs.declared.space.Space.TheVariants as space
use Rattle.cep_parse.specs.declared.raw.RawKind.TheVariants as kind
use Rattle.cep_parse.specs.declared.raw.RawStart.TheVariants as state

-- What tests, spaces and sides say of faults.

-- a fault where a test fails, and where it holds
pub differing : (b : Bool) (w fault : Fault) → In (let found : List Fault = if b then [] else w ∷ [] in found) fault → (b ≡ false) × (fault ≡ w)
differing b w fault h = grind (arith, in_nil, in_one)

pub holding : (b : Bool) (w fault : Fault) → In (let found : List Fault = if b then w ∷ [] else [] in found) fault → (b ≡ true) × (fault ≡ w)
holding b w fault h = grind (arith, in_one, in_nil)

-- the spaces that have a name
module _ (source : Source) (name : List ℕ) where
  abbrev has : Space → Bool
  has in_space = is_in source in_space name

  among : (s c p t n r : Bool) → has space.Sorts ≡ s → has space.Constructors ≡ c → has space.Predicates ≡ p → has space.Stages ≡ t → has space.Contexts ≡ n → has space.Rules ≡ r
      → (s || c || p || t || n || r) ≡ true → (in_space : Space) × (has in_space ≡ true)
  among s c p t n r a b d e f g h = grind arith

  pub somewhere : is_somewhere source name ≡ true → (in_space : Space) × (is_in source in_space name ≡ true)
  somewhere h = among (has space.Sorts) (has space.Constructors) (has space.Predicates) (has space.Stages) (has space.Contexts) (has space.Rules) refl refl refl refl refl refl h

  none_of_six : (s c p t n r : Bool) → (s || c || p || t || n || r) ≡ false → (s ≡ false) × (c ≡ false) × (p ≡ false) × (t ≡ false) × (n ≡ false) × (r ≡ false)
  none_of_six s c p t n r h = grind arith

  pub nowhere : is_somewhere source name ≡ false → (in_space : Space) → is_in source in_space name ≡ false
  nowhere h in_space = grind (arith, none_of_six, has)

  pub nowhere_of : ((in_space : Space) → is_in source in_space name ≡ false) → is_somewhere source name ≡ false
  nowhere_of no_ = rw (no_ space.Sorts, no_ space.Constructors, no_ space.Predicates, no_ space.Stages, no_ space.Contexts, no_ space.Rules) refl

  pub somewhere_of : (in_space : Space) → is_in source in_space name ≡ true → is_somewhere source name ≡ true
  somewhere_of in_space is = grind (arith, nowhere)

-- the stages that a side names are its elements that name one
pub stage_count : (side : List RawElem) → count_by is_stage side ≡ length (stages_named side)
stage_count [] = refl
stage_count (elem.Atom kept atom ∷ side) = stage_count side
stage_count (elem.Qui span ∷ side) = stage_count side
stage_count (elem.Stage name ∷ side) = omega (arith, sum_by-cons (λ (other : RawElem). cond (is_stage other) 1 0) (elem.Stage name) side, stage_count side)

not_fit : (atom : RawAtom) → is_fit atom ≡ false → ¬ IsFitWritten atom
not_fit atom e is = false≢true (sym e ∙ and_from (nat_le (nodes_written atom) MOST_NODES) (nat_le (depth_written atom) MOST_DEPTH) (le-leb (nodes_written atom) MOST_NODES is.nodes) (le-leb (depth_written atom) MOST_DEPTH is.depth))

not_qui : (rule : RawRule) → is_qui_rule rule ≡ false → ¬ IsQuiRule rule
not_qui rule e is = grind (arith, and_from, eq-eqb, stage_count, is.qui, is.from, is.to)

none_of : {X : Type 0} (o : Option X) → is_some o ≡ false → o ≡ None
none_of o e = grind arith

module _ (source : Source) where
  -- each of these is wrong
  abbrev AreWrong : List Fault → Type 0
  AreWrong faults = (fault : Fault) → In faults fault → Misnamed source fault

  nothing : AreWrong []
  nothing fault found = absurd (in_nil fault found)

  both : (xs ys : List Fault) → AreWrong xs → AreWrong ys → AreWrong (xs ++ ys)
  both xs ys a b fault found = ⊎_elim (a fault) (b fault) (in_parts xs ys fault found)

  each : {X : Type 0} (f : X → List Fault) (xs : List X) → ((x : X) → In xs x → AreWrong (f x)) → AreWrong (flat_map f xs)
  each f xs a fault found = let t = through f xs fault found in a t.from t.member fault t.given

  -- uses
  lack : (in_space : Space) (name : Span) (has anywhere : Bool) → In (uses_in source in_space) name → is_in source in_space (said source name) ≡ has → is_somewhere source (said source name) ≡ anywhere
      → AreWrong (lack_faults has anywhere name.from)
  lack in_space name true anywhere m h a = nothing
  lack in_space name false true m h a = λ fault found. let present = somewhere source (said source name) a in wrong_kind in_space present.0 name (to_contains (uses_in source in_space) name m) h present.1 (in_one _ fault found)
  lack in_space name false false m h a = λ fault found. unknown in_space name (to_contains (uses_in source in_space) name m) (nowhere source (said source name) a) (in_one _ fault found)

  use_sound : (in_space : Space) (name : Span) → In (uses_in source in_space) name → AreWrong (use_faults source in_space name)
  use_sound in_space name m = lack in_space name (is_in source in_space (said source name)) (is_somewhere source (said source name)) m refl refl

  -- atoms
  pred_arity_sound : (atom : RawAtom) (pred : Option PredItem) → In (atoms_written source) atom → pred_named source (said source atom.name) ≡ pred
      → AreWrong (arity_faults (option_map (λ (its : PredItem). length its.args) pred) atom.args atom.name.from)
  pred_arity_sound atom None m is = nothing
  pred_arity_sound atom (Some pred) m is = λ fault found.
      let d = differing (atom.args == length pred.args) (wrong WrongArity atom.name.from) fault found in wrong_arity atom pred (to_contains (atoms_written source) atom m) is (eqb-false atom.args (length pred.args) d.0) d.1

  con_arity_sound : (node : RawNode) (con : Option ConItem) → In (raw_nodes (atoms_written source)) node → node.kind ≡ kind.App → con_named source (said source node.at) ≡ con
      → AreWrong (arity_faults (option_map (λ (its : ConItem). length its.args) con) node.args node.at.from)
  con_arity_sound node None m app is = nothing
  con_arity_sound node (Some con) m app is = λ fault found.
      let d = differing (node.args == length con.args) (wrong WrongArity node.at.from) fault found in
      wrong_term_arity node con (to_contains (raw_nodes (atoms_written source)) node m) app is (eqb-false node.args (length con.args) d.0) d.1

  open_sound : (of_state : Bool) (node : RawNode) → (of_state ≡ true → In (raw_nodes (state_atoms source)) node) → node.kind ≢ kind.App → AreWrong (let found : List Fault = if of_state then wrong VarInContext node.at.from ∷ [] else [] in found)
  open_sound of_state node m apart fault found = let h = holding of_state (wrong VarInContext node.at.from) fault found in variable_in_state node (to_contains (raw_nodes (state_atoms source)) node (m h.0)) apart h.1

  node_sound : (of_state : Bool) (node : RawNode) (its : RawKind) → In (raw_nodes (atoms_written source)) node → (of_state ≡ true → In (raw_nodes (state_atoms source)) node) → node.kind ≡ its → AreWrong (kind_faults source of_state its node)
  node_sound of_state node kind.App m s is =
      both (use_faults source space.Constructors node.at) (arity_faults (con_arity source node) node.args node.at.from)
      (use_sound space.Constructors node.at (via (λ (other : RawNode). applied_at other.kind other.at) (raw_nodes (atoms_written source)) node node.at m (in_same _ (node.at ∷ []) node.at (ap (λ (k : RawKind). applied_at k node.at) is) (here node.at []))))
      (con_arity_sound node (con_named source (said source node.at)) m is refl)
  node_sound of_state node kind.Blank m s is = open_sound of_state node s (λ e. let both_ : kind.Blank ≡ kind.App = sym is ∙ e in cc)
  node_sound of_state node kind.Var m s is = open_sound of_state node s (λ e. let both_ : kind.Var ≡ kind.App = sym is ∙ e in cc)

  names_sound : (of_state : Bool) (atom : RawAtom) → In (atoms_written source) atom → (of_state ≡ true → In (state_atoms source) atom) → AreWrong (names_faults source of_state atom)
  names_sound of_state atom m s =
      both (pred_faults source atom) (flat_map (node_faults source of_state) atom.nodes)
      (both (use_faults source space.Predicates atom.name) (arity_faults (pred_arity source atom) atom.args atom.name.from)
      (use_sound space.Predicates atom.name (mapped (λ (other : RawAtom). other.name) (atoms_written source) atom m))
      (pred_arity_sound atom (pred_named source (said source atom.name)) m refl))
      (each (node_faults source of_state) atom.nodes (λ node at. node_sound of_state node node.kind
      (via (λ (other : RawAtom). other.nodes) (atoms_written source) atom node m at) (λ yes_. via (λ (other : RawAtom). other.nodes) (state_atoms source) atom node (s yes_) at) refl))

  back_sound : (atom : RawAtom) (its : Option PredKind) → In (made_atoms source ++ state_atoms source) atom → kind_of source atom ≡ its → AreWrong (back_by its atom.name.from)
  back_sound atom (Some Back) m is = λ fault found. backward_in_state atom (to_contains (made_atoms source ++ state_atoms source) atom m) is (in_one _ fault found)
  back_sound atom its m is = nothing

  linear_sound : (atom : RawAtom) (its : Option PredKind) → In (clause_atoms source) atom → kind_of source atom ≡ its → AreWrong (linear_by its atom.name.from)
  linear_sound atom (Some Linear) m is = λ fault found. linear_in_clause atom Linear (to_contains (clause_atoms source) atom m) is refl (in_one _ fault found)
  linear_sound atom (Some Fact) m is = λ fault found. linear_in_clause atom Fact (to_contains (clause_atoms source) atom m) is refl (in_one _ fault found)
  linear_sound atom its m is = nothing

  unfit_sound : (atom : RawAtom) → In (state_atoms source) atom → AreWrong (unfit_faults atom)
  unfit_sound atom m fault found = let d = differing (is_fit atom) (wrong OverLimit atom.name.from) fault found in over atom.name.from (IsOver.unfit atom (to_contains (state_atoms source) atom m) (not_fit atom d.0) refl) d.1

  state_written : (atom : RawAtom) → In (state_atoms source) atom → In (atoms_written source) atom
  state_written atom m = in_right (needed_atoms source) _ atom (in_right (made_atoms source) _ atom (in_right (clause_atoms source) _ atom m))

  state_sound : (atom : RawAtom) → In (state_atoms source) atom → AreWrong (state_faults source atom)
  state_sound atom m =
      both (names_faults source true atom ++ back_faults source atom) (unfit_faults atom)
      (both (names_faults source true atom) (back_faults source atom) (names_sound true atom (state_written atom m) (λ yes_. m))
      (back_sound atom (kind_of source atom) (in_right (made_atoms source) (state_atoms source) atom m) refl))
      (unfit_sound atom m)

  clause_atom_sound : (atom : RawAtom) → In (clause_atoms source) atom → AreWrong (clause_atom_faults source atom)
  clause_atom_sound atom m =
      both (names_faults source false atom) (linear_faults source atom)
      (names_sound false atom (in_right (needed_atoms source) _ atom (in_right (made_atoms source) _ atom (in_left (clause_atoms source) _ atom m))) (λ e. absurd (false≢true e)))
      (linear_sound atom (kind_of source atom) m refl)

  -- sides
  made_sound : (made : Bool) (atom : RawAtom) → (made ≡ true → In (made_atoms source) atom) → AreWrong (let found : List Fault = if made then back_faults source atom else [] in found)
  made_sound true atom m = back_sound atom (kind_of source atom) (in_left (made_atoms source) (state_atoms source) atom (m refl)) refl
  made_sound false atom m = nothing

  elem_sound : (made : Bool) (elem_ : RawElem) → ((atom : RawAtom) → In (atoms_in elem_) atom → In (atoms_written source) atom × (made ≡ true → In (made_atoms source) atom))
      → ((name : Span) → In (stages_at elem_) name → In (uses_in source space.Stages) name) → AreWrong (elem_faults source made elem_)
  elem_sound made (elem.Atom kept atom) atoms stages =
      both (names_faults source false atom) (let found : List Fault = if made then back_faults source atom else [] in found)
      (names_sound false atom (atoms atom (here atom [])).0 (λ e. absurd (false≢true e))) (made_sound made atom (atoms atom (here atom [])).1)
  elem_sound made (elem.Stage name) atoms stages = use_sound space.Stages name (stages name (here name []))
  elem_sound made (elem.Qui span) atoms stages = nothing

  -- limits
  past_by : {X : Type 0} (place : X → ℕ) (o : Option X) → ((x : X) → o ≡ Some x → IsOver source (place x)) → AreWrong (past (option_map place o))
  past_by place None a = nothing
  past_by place (Some x) a = λ fault found. over (place x) (a x refl) (in_one _ fault found)

  past_sound : {X : Type 0} (place : X → ℕ) (xs : List X) (most : ℕ) → ((x : X) → slice_get xs most ≡ Some x → IsOver source (place x)) → AreWrong (past_most place xs most)
  past_sound place xs most a = past_by place (slice_get xs most) a

  -- declarations
  argument_sound : (args : List Span) → ((name : Span) → In args name → In (uses_in source space.Sorts) name) → In (arguments_of source) args → AreWrong (argument_faults source args)
  argument_sound args uses m =
      both (flat_map (use_faults source space.Sorts) args) (past_most (λ (arg : Span). arg.from) args MOST_ARGUMENTS)
      (each (use_faults source space.Sorts) args (λ name at. use_sound space.Sorts name (uses name at)))
      (past_sound (λ (arg : Span). arg.from) args MOST_ARGUMENTS (λ name g. IsOver.argument args name (to_contains (arguments_of source) args m) g refl))

  pred_sound : (pred : PredItem) → In (preds_of source) pred → AreWrong (predicate_faults source pred)
  pred_sound pred m =
      argument_sound pred.args (λ name at. in_left (flat_map (λ (other : PredItem). other.args) (preds_of source)) _ name (via (λ (other : PredItem). other.args) (preds_of source) pred name m at))
      (in_right (map (λ (other : ConItem). other.args) (cons_of source)) _ pred.args (mapped (λ (other : PredItem). other.args) (preds_of source) pred m))

  con_use : (con : ConItem) → In (cons_of source) con → (name : Span) → In (con.args ++ con.sort ∷ []) name → In (uses_in source space.Sorts) name
  con_use con m name at = grind (arith, in_right, via)

  con_sound : (con : ConItem) → In (cons_of source) con → AreWrong (con_faults source con)
  con_sound con m =
      both (argument_faults source con.args) (use_faults source space.Sorts con.sort)
      (argument_sound con.args (λ name at. con_use con m name (in_left con.args _ name at)) (in_left (map (λ (other : ConItem). other.args) (cons_of source)) _ con.args (mapped (λ (other : ConItem). other.args) (cons_of source) con m)))
      (use_sound space.Sorts con.sort (con_use con m con.sort (in_right con.args _ con.sort (here con.sort []))))

  -- rules
  stage_use : (rule : RuleItem) → In (rules_of source) rule → (name : Span) → In (stages_named rule.raw.left ++ stages_named rule.raw.right) name → In (uses_in source space.Stages) name
  stage_use rule m name at = grind (arith, in_left, via)

  left_sound : (rule : RuleItem) → In (rules_of source) rule → (elem_ : RawElem) → In rule.raw.left elem_ → AreWrong (elem_faults source false elem_)
  left_sound rule m elem_ at =
      elem_sound false elem_
      (λ atom its. (in_left (needed_atoms source) _ atom (via (λ (other : RuleItem). atoms_of other.raw.left) (rules_of source) rule atom m (via atoms_in rule.raw.left elem_ atom at its)), λ e. absurd (false≢true e)))
      (λ name its. stage_use rule m name (in_left (stages_named rule.raw.left) _ name (via stages_at rule.raw.left elem_ name at its)))

  right_sound : (rule : RuleItem) → In (rules_of source) rule → (elem_ : RawElem) → In rule.raw.right elem_ → AreWrong (elem_faults source true elem_)
  right_sound rule m elem_ at =
      let made : (atom : RawAtom) → In (atoms_in elem_) atom → In (made_atoms source) atom =
      λ atom its. via (λ (other : RuleItem). atoms_of other.raw.right) (rules_of source) rule atom m (via atoms_in rule.raw.right elem_ atom at its) in
      elem_sound true elem_ (λ atom its. (in_right (needed_atoms source) _ atom (in_left (made_atoms source) _ atom (made atom its)), λ e. made atom its))
      (λ name its. stage_use rule m name (in_right (stages_named rule.raw.left) _ name (via stages_at rule.raw.right elem_ name at its)))

  home_by : (rule : RuleItem) (home : Option Span) → In (rules_of source) rule → rule.home ≡ home → AreWrong (let found : List Fault = if is_some home || is_qui_rule rule.raw then [] else wrong BadQui rule.raw.at ∷ [] in found)
  home_by rule (Some stage) m is = nothing
  home_by rule None m is = λ fault found.
      let d = differing (is_qui_rule rule.raw) (wrong BadQui rule.raw.at) fault found in bad_qui rule (to_contains (rules_of source) rule m) is (not_qui rule.raw d.0) d.1

  rule_sound : (rule : RuleItem) → In (rules_of source) rule → AreWrong (rule_faults source rule)
  rule_sound rule m =
      let known = to_contains (rules_of source) rule m in
      both _ _
      (both _ _
      (both _ _
      (both _ _
      (both _ _
      (both _ _ (each (elem_faults source false) rule.raw.left (left_sound rule m)) (each (elem_faults source true) rule.raw.right (right_sound rule m)))
      (past_sound (λ (atom : RawAtom). atom.name.from) (state_premises_of source rule.raw) MOST_PREMISES (λ atom got. IsOver.premise rule atom known got refl)))
      (past_sound (λ (atom : RawAtom). atom.name.from) (backward_of source rule.raw) MOST_BACKS (λ atom got. IsOver.back rule atom known got refl)))
      (past_sound (λ (atom : RawAtom). atom.name.from) (atoms_of rule.raw.right) MOST_RIGHT (λ atom got. IsOver.right rule atom known got refl)))
      (past_sound (λ (occurrence : Occurrence). occurrence.at.from) (variables_of source (atoms_of rule.raw.left)) MOST_VARIABLES (λ occurrence got. IsOver.rule_variable rule occurrence known got refl)))
      (home_by rule rule.home m refl)

  clause_sound : (clause : ClauseItem) → In (clauses_of source) clause → AreWrong (clause_faults source clause)
  clause_sound clause m =
      let known = to_contains (clauses_of source) clause m in
      let among : (atom : RawAtom) → In (clause.head ∷ clause.goals) atom → In (clause_atoms source) atom = λ atom at. via (λ (other : ClauseItem). other.head ∷ other.goals) (clauses_of source) clause atom m at in
      both _ _
      (both _ _
      (both _ _ (clause_atom_sound clause.head (among clause.head (here clause.head clause.goals))) (each (clause_atom_faults source) clause.goals (λ atom at. clause_atom_sound atom (among atom (in_right (clause.head ∷ []) clause.goals atom at)))))
      (past_sound (λ (atom : RawAtom). atom.name.from) clause.goals MOST_GOALS (λ atom got. IsOver.goal clause atom known got refl)))
      (past_sound (λ (occurrence : Occurrence). occurrence.at.from) (variables_of source (clause.head ∷ clause.goals)) MOST_VARIABLES (λ occurrence got. IsOver.clause_variable clause occurrence known got refl))

  -- states
  context_sound : (context : ContextItem) → In (contexts_of source) context → AreWrong (context_faults source context)
  context_sound context m =
      each (listed_faults source false) context.atoms (λ atom at. state_sound atom
      (in_left (flat_map (λ (other : ContextItem). other.atoms) (contexts_of source)) _ atom (via (λ (other : ContextItem). other.atoms) (contexts_of source) context atom m at)))

  listed_by : (atom : RawAtom) (stands : Bool) → (stands ≡ false → In (state_atoms source) atom) → AreWrong (let found : List Fault = if stands then [] else state_faults source atom in found)
  listed_by atom true m = nothing
  listed_by atom false m = state_sound atom (m refl)

  begin_sound : (trace : TraceItem) (start : RawStart) → In (traces_of source) trace → trace.start ≡ start → AreWrong (begin_faults source start)
  begin_sound trace (state.Named name) m is =
      use_sound space.Contexts name (via (λ (other : TraceItem). contexts_at other.start) (traces_of source) trace name m (in_same _ (name ∷ []) name (ap contexts_at is) (here name [])))
  begin_sound trace (state.Listed atoms) m is =
      each (listed_faults source true) atoms (λ atom at. listed_by atom (stands_for_context source atom) (λ itself.
      in_right (flat_map (λ (other : ContextItem). other.atoms) (contexts_of source)) _ atom
      (via (λ (other : TraceItem). filter (λ raw. not (stands_for_context source raw)) (start_listed other.start)) (traces_of source) trace atom m
      (in_filter (λ raw. not (stands_for_context source raw)) (start_listed trace.start) atom (in_same (start_listed trace.start) atoms atom (ap start_listed is) at) (ap not itself)))))

  turns_sound : (trace : TraceItem) (limit : Option Span) → In (traces_of source) trace → trace.limit ≡ limit → AreWrong (turns_faults source.text limit)
  turns_sound trace None m is = nothing
  turns_sound trace (Some number) m is = λ fault found.
      let d = differing (is_some (turns_said source.text number)) (wrong OverLimit number.from) fault found in
      over number.from (IsOver.turns trace number (to_contains (traces_of source) trace m) is (none_of (turns_said source.text number) d.0) refl) d.1

  trace_sound : (trace : TraceItem) → In (traces_of source) trace → AreWrong (trace_faults source trace)
  trace_sound trace m =
      both (use_faults source space.Stages trace.stage ++ begin_faults source trace.start) (turns_faults source.text trace.limit)
      (both (use_faults source space.Stages trace.stage) (begin_faults source trace.start)
      (use_sound space.Stages trace.stage (in_right (flat_map (λ (other : RuleItem). stages_named other.raw.left ++ stages_named other.raw.right) (rules_of source)) _ trace.stage
      (in_right (interactives_of source) _ trace.stage (mapped (λ (other : TraceItem). other.stage) (traces_of source) trace m))))
      (begin_sound trace trace.start m refl))
      (turns_sound trace trace.limit m refl)

  -- the whole
  count_sound : AreWrong (count_faults source)
  count_sound =
      both _ _
      (both _ _
      (both _ _
      (past_sound (λ (pred : PredItem). pred.name.from) (preds_of source) MOST_PREDS (λ pred got. IsOver.predicate pred got refl))
      (past_sound (λ (con : ConItem). con.name.from) (cons_of source) MOST_CONS (λ con got. IsOver.constructor con got refl)))
      (past_sound (λ (rule : RuleItem). rule.raw.at) (rules_of source) MOST_RULES (λ rule got. IsOver.rule rule got refl)))
      (past_sound (λ (clause : ClauseItem). clause.head.name.from) (clauses_of source) MOST_CLAUSES (λ clause got. IsOver.clause clause got refl))

  start_sound : (trace : TraceItem) (rest : List TraceItem) → traces_of source ≡ trace ∷ rest → AreWrong (start_faults source trace)
  start_sound trace rest is fault found =
      let atoms = counting source (start_atoms source trace.start) in
      let h = holding (nat_lt MOST_COPIES (length atoms) || nat_lt MOST_STATE_NODES (sum_by nodes_written atoms)) (wrong OverLimit trace.at) fault found in
      over trace.at
      (⊎_elim (λ k. IsOver.copies trace rest is (ltb-true MOST_COPIES (length atoms) k) refl) (λ k. IsOver.nodes trace rest is (ltb-true MOST_STATE_NODES (sum_by nodes_written atoms) k) refl)
      (or_cases (nat_lt MOST_COPIES (length atoms)) (nat_lt MOST_STATE_NODES (sum_by nodes_written atoms)) h.0))
      h.1

  traces_sound : (traces : List TraceItem) → traces_of source ≡ traces → AreWrong (traces_faults source traces)
  traces_sound [] is = λ fault found. no_trace is (in_one _ fault found)
  traces_sound (trace ∷ rest) is =
      both (start_faults source trace) (two_faults rest) (start_sound trace rest is)
      (λ fault found. let i = image (λ (other : TraceItem). wrong TwoTraces other.at) rest fault found in two_traces trace i.from rest is (to_contains rest i.from i.member) i.is)

  interactive_sound : (name : Span) → In (interactives_of source) name → AreWrong (use_faults source space.Stages name)
  interactive_sound name at = use_sound space.Stages name (in_right (flat_map (λ (other : RuleItem). stages_named other.raw.left ++ stages_named other.raw.right) (rules_of source)) _ name (in_left (interactives_of source) _ name at))

  pub sound : AreWrong (all_faults source)
  sound = search (both, each, pred_sound, con_sound, rule_sound, clause_sound, context_sound, interactive_sound, trace_sound, count_sound, traces_sound) depth 12

-- The first of all faults, and that what is wrong is found.

-- What is wrong is found.

is_one : (w fault : Fault) → fault ≡ w → In (w ∷ []) fault
is_one w fault e = subst (In (w ∷ [])) (sym e) (here w [])

unless : (b : Bool) (w fault : Fault) → b ≡ false → fault ≡ w → In (let found : List Fault = if b then [] else w ∷ [] in found) fault
unless b w fault e is = grind (arith, is_one)

when : (b : Bool) (w fault : Fault) → b ≡ true → fault ≡ w → In (let found : List Fault = if b then w ∷ [] else [] in found) fault
when b w fault e is = grind (arith, is_one)

refuted : {P : Type 0} (b v : Bool) → (b ≡ true → P) → ¬ P → b ≡ v → b ≡ false
refuted b v h n e = grind arith

is_qui_by : (rule : RawRule) → is_qui_rule rule ≡ true → IsQuiRule rule
is_qui_by rule e = grind (arith, and_parts, eqb-true, stage_count)

is_fit_by : (atom : RawAtom) → is_fit atom ≡ true → IsFitWritten atom
is_fit_by atom e = grind (arith, and_parts (nat_le (nodes_written atom) MOST_NODES) (nat_le (depth_written atom) MOST_DEPTH) e)

module _ (source : Source) (fault : Fault) where
  abbrev Found : Type 0
  Found = In (all_faults source) fault

  of_pred : (pred : PredItem) → In (preds_of source) pred → In (predicate_faults source pred) fault → Found
  of_pred pred m k = search (in_left, in_right, via) depth 12

  of_con : (con : ConItem) → In (cons_of source) con → In (con_faults source con) fault → Found
  of_con con m k = search (in_left, in_right, via) depth 12

  of_rule : (rule : RuleItem) → In (rules_of source) rule → In (rule_faults source rule) fault → Found
  of_rule rule m k = search (in_left, in_right, via) depth 12

  of_clause : (clause : ClauseItem) → In (clauses_of source) clause → In (clause_faults source clause) fault → Found
  of_clause clause m k = search (in_left, in_right, via) depth 12

  of_context : (context : ContextItem) → In (contexts_of source) context → In (context_faults source context) fault → Found
  of_context context m k = search (in_left, in_right, via) depth 12

  of_interactive : (name : Span) → In (interactives_of source) name → In (use_faults source space.Stages name) fault → Found
  of_interactive name m k = search (in_left, in_right, via) depth 12

  of_trace : (trace : TraceItem) → In (traces_of source) trace → In (trace_faults source trace) fault → Found
  of_trace trace m k = search (in_left, in_right, via) depth 12

  of_counts : In (count_faults source) fault → Found
  of_counts m = search (in_left, in_right) depth 12

  of_traces : (traces : List TraceItem) → traces_of source ≡ traces → In (traces_faults source traces) fault → Found
  of_traces traces is m = search (in_right, in_same _ (traces_faults source traces) fault (ap (traces_faults source) is) m)

  -- the parts of a rule
  module _ (rule : RuleItem) (m : In (rules_of source) rule) where
    from_left : (elem_ : RawElem) → In rule.raw.left elem_ → In (elem_faults source false elem_) fault → Found
    from_left elem_ at k = of_rule rule m (search (in_left, in_right, via) depth 12)

    from_right : (elem_ : RawElem) → In rule.raw.right elem_ → In (elem_faults source true elem_) fault → Found
    from_right elem_ at k = of_rule rule m (search (in_left, in_right, via) depth 12)

  -- an atom of a side
  side_atom_in : (made : Bool) (elem_ : RawElem) (atom : RawAtom) → In (atoms_in elem_) atom → In (side_atom_faults source made atom) fault → In (elem_faults source made elem_) fault
  side_atom_in made (elem.Atom kept other) atom at k = in_same (side_atom_faults source made other) (side_atom_faults source made atom) fault (ap (side_atom_faults source made) (sym (in_one other atom at))) k
  side_atom_in made elem_ atom at k = grind (arith, in_nil)

  of_needed : (atom : RawAtom) → In (needed_atoms source) atom → In (names_faults source false atom) fault → Found
  of_needed atom at k = grind (arith, through, from_left, side_atom_in, in_left)

  of_made : (atom : RawAtom) → In (made_atoms source) atom → In (side_atom_faults source true atom) fault → Found
  of_made atom at k = grind (arith, through, from_right, side_atom_in)

  of_clause_atom : (atom : RawAtom) → In (clause_atoms source) atom → In (clause_atom_faults source atom) fault → Found
  of_clause_atom atom at k =
      let clause = through (λ (clause : ClauseItem). clause.head ∷ clause.goals) (clauses_of source) atom at in
      of_clause clause.from clause.member (search (in_left, via (clause_atom_faults source) (clause.from.head ∷ clause.from.goals) atom fault clause.given k))

  -- an atom of a state
  told_by : (stands : Bool) (atom : RawAtom) → not stands ≡ true → In (state_faults source atom) fault → In (let found : List Fault = if stands then [] else state_faults source atom in found) fault
  told_by stands atom e k = grind arith

  begun_in : (start : RawStart) (atom : RawAtom) → In (start_listed start) atom → not (stands_for_context source atom) ≡ true → In (state_faults source atom) fault → In (begin_faults source start) fault
  begun_in start atom at itself k = grind (arith, in_nil, via, told_by)

  from_begin : (trace : TraceItem) → In (traces_of source) trace → In (begin_faults source trace.start) fault → Found
  from_begin trace m k = of_trace trace m (search (in_left, in_right))

  of_state : (atom : RawAtom) → In (state_atoms source) atom → In (state_faults source atom) fault → Found
  of_state atom at k =
      ⊎_elim
      (λ c. let context = through (λ (context : ContextItem). context.atoms) (contexts_of source) atom c in
      of_context context.from context.member (via (listed_faults source false) context.from.atoms atom fault context.given k))
      (λ t. let trace = through (λ (trace : TraceItem). filter (λ raw. not (stands_for_context source raw)) (start_listed trace.start)) (traces_of source) atom t in
      let kept = from_filter (λ raw. not (stands_for_context source raw)) (start_listed trace.from.start) atom trace.given in
      from_begin trace.from trace.member (begun_in trace.from.start atom kept.0 kept.1 k))
      (in_parts (flat_map (λ (context : ContextItem). context.atoms) (contexts_of source)) _ atom at)

  names_state : (atom : RawAtom) → In (names_faults source true atom) fault → In (state_faults source atom) fault
  names_state atom k = search in_left

  back_state : (atom : RawAtom) → In (back_faults source atom) fault → In (state_faults source atom) fault
  back_state atom k = search (in_left, in_right)

  -- any atom, by the names that it uses
  of_atom : (atom : RawAtom) → In (atoms_written source) atom → ((in_state : Bool) → In (names_faults source in_state atom) fault) → Found
  of_atom atom at k = grind (arith, of_needed, of_made, in_left, of_clause_atom, of_state, names_state, in_parts)

  of_node : (node : RawNode) → In (raw_nodes (atoms_written source)) node → node.kind ≡ kind.App → ((in_state : Bool) → In (kind_faults source in_state kind.App node) fault) → Found
  of_node node at app k =
      let atom = through (λ (atom : RawAtom). atom.nodes) (atoms_written source) node at in
      of_atom atom.from atom.member (λ in_state. in_right (pred_faults source atom.from) _ fault (via (node_faults source in_state) atom.from.nodes node fault atom.given
      (in_same (node_faults source in_state node) (kind_faults source in_state kind.App node) fault (ap (λ (its : RawKind). kind_faults source in_state its node) app) (k in_state))))

  -- uses of names
  applied_is : (its : RawKind) (span name : Span) → In (applied_at its span) name → (its ≡ kind.App) × (name ≡ span)
  applied_is its span name at = grind (arith, in_one, in_nil)

  use_at : (in_space : Space) (other name : Span) → name ≡ other → In (use_faults source in_space name) fault → In (use_faults source in_space other) fault
  use_at in_space other name is k = in_same (use_faults source in_space other) (use_faults source in_space name) fault (ap (use_faults source in_space) (sym is)) k

  staged_in : (made : Bool) (elem_ : RawElem) (name : Span) → In (stages_at elem_) name → In (use_faults source space.Stages name) fault → In (elem_faults source made elem_) fault
  staged_in made elem_ name at k = grind (arith, in_nil, use_at, in_one)

  named_in : (start : RawStart) (name : Span) → In (contexts_at start) name → In (use_faults source space.Contexts name) fault → In (begin_faults source start) fault
  named_in start name at k = grind (arith, use_at, in_one, in_nil)

  of_argument : (args : List Span) (name : Span) → In args name → In (use_faults source space.Sorts name) fault → In (argument_faults source args) fault
  of_argument args name at k = in_left (flat_map (use_faults source space.Sorts) args) _ fault (via (use_faults source space.Sorts) args name fault at k)

  of_use : (in_space : Space) (name : Span) → In (uses_in source in_space) name → In (use_faults source in_space name) fault → Found
  of_use space.Sorts name at k =
      ⊎_elim
      (λ p. let pred = through (λ (pred : PredItem). pred.args) (preds_of source) name p in of_pred pred.from pred.member (of_argument pred.from.args name pred.given k))
      (λ c. let con = through (λ (con : ConItem). con.args ++ con.sort ∷ []) (cons_of source) name c in
      of_con con.from con.member (⊎_elim
      (λ r. in_left (argument_faults source con.from.args) _ fault (of_argument con.from.args name r k))
      (λ s. in_right (argument_faults source con.from.args) _ fault (use_at space.Sorts con.from.sort name (in_one con.from.sort name s) k))
      (in_parts con.from.args _ name con.given)))
      (in_parts (flat_map (λ (pred : PredItem). pred.args) (preds_of source)) _ name at)
  of_use space.Constructors name at k =
      let node = through (λ (node : RawNode). applied_at node.kind node.at) (raw_nodes (atoms_written source)) name at in
      let its = applied_is node.from.kind node.from.at name node.given in
      of_node node.from node.member its.0 (λ in_state. in_left (use_faults source space.Constructors node.from.at) _ fault (use_at space.Constructors node.from.at name its.1 k))
  of_use space.Predicates name at k =
      let atom = image (λ (atom : RawAtom). atom.name) (atoms_written source) name at in
      of_atom atom.from atom.member (λ in_state. in_left (pred_faults source atom.from) _ fault (in_left (use_faults source space.Predicates atom.from.name) _ fault (use_at space.Predicates atom.from.name name atom.is k)))
  of_use space.Stages name at k =
      ⊎_elim
      (λ r. let rule = through (λ (rule : RuleItem). stages_named rule.raw.left ++ stages_named rule.raw.right) (rules_of source) name r in
      ⊎_elim
      (λ l. let elem_ = through stages_at rule.from.raw.left name l in from_left rule.from rule.member elem_.from elem_.member (staged_in false elem_.from name elem_.given k))
      (λ t. let elem_ = through stages_at rule.from.raw.right name t in from_right rule.from rule.member elem_.from elem_.member (staged_in true elem_.from name elem_.given k))
      (in_parts (stages_named rule.from.raw.left) _ name rule.given))
      (λ r. ⊎_elim (λ i. of_interactive name i k)
      (λ t. let trace = image (λ (trace : TraceItem). trace.stage) (traces_of source) name t in
      of_trace trace.from trace.member (in_left (use_faults source space.Stages trace.from.stage ++ begin_faults source trace.from.start) _ fault
      (in_left (use_faults source space.Stages trace.from.stage) _ fault (use_at space.Stages trace.from.stage name trace.is k))))
      (in_parts (interactives_of source) _ name r))
      (in_parts (flat_map (λ (rule : RuleItem). stages_named rule.raw.left ++ stages_named rule.raw.right) (rules_of source)) _ name at)
  of_use space.Contexts name at k =
      let trace = through (λ (trace : TraceItem). contexts_at trace.start) (traces_of source) name at in from_begin trace.from trace.member (named_in trace.from.start name trace.given k)
  of_use space.Rules name at k = absurd (in_nil name at)

  lack_in : (in_space : Space) (name : Span) (has anywhere : Bool) → is_in source in_space (said source name) ≡ has → is_somewhere source (said source name) ≡ anywhere
      → In (lack_faults has anywhere name.from) fault → In (use_faults source in_space name) fault
  lack_in in_space name has anywhere is elsewhere m = grind (arith, in_same)

  -- numbers of arguments
  arity_in : (known : Option ℕ) (n args at : ℕ) → known ≡ Some n → args ≢ n → fault ≡ wrong WrongArity at → In (arity_faults known args at) fault
  arity_in known n args at is ne e_ = in_same (arity_faults known args at) (arity_faults (Some n) args at) fault (ap (λ (o : Option ℕ). arity_faults o args at) is) (unless (args == n) (wrong WrongArity at) fault (ne_eqb args n ne) e_)

  -- variables and kinds
  open_in : (node : RawNode) (its : RawKind) → its ≢ kind.App → fault ≡ wrong VarInContext node.at.from → In (kind_faults source true its node) fault
  open_in node its apart is = grind (arith, is_one)

  back_in : (atom : RawAtom) → kind_of source atom ≡ Some Back → fault ≡ wrong BwdInState atom.name.from → In (back_faults source atom) fault
  back_in atom is e_ = in_same (back_faults source atom) (back_by (Some Back) atom.name.from) fault (ap (λ (o : Option PredKind). back_by o atom.name.from) is) (is_one _ fault e_)

  linear_one : (its : PredKind) (at : ℕ) → is_backward its ≡ false → fault ≡ wrong LinearInClause at → In (linear_by (Some its) at) fault
  linear_one its at n is = grind (arith, is_one)

  -- limits
  past_in : {X : Type 0} (place : X → ℕ) (xs : List X) (most : ℕ) (x : X) (at : ℕ) → slice_get xs most ≡ Some x → at ≡ place x → fault ≡ wrong OverLimit at → In (past_most place xs most) fault
  past_in place xs most x at got is e_ = grind (arith, in_same, is_one)

  many_arguments : (args : List Span) (name : Span) (at : ℕ) → slice_get args MOST_ARGUMENTS ≡ Some name → at ≡ name.from → fault ≡ wrong OverLimit at → In (argument_faults source args) fault
  many_arguments args name at got is e_ = in_right (flat_map (use_faults source space.Sorts) args) _ fault (past_in (λ (arg : Span). arg.from) args MOST_ARGUMENTS name at got is e_)

  of_arguments : (args : List Span) → In (arguments_of source) args → In (argument_faults source args) fault → Found
  of_arguments args m k =
      ⊎_elim
      (λ c. let con = image (λ (con : ConItem). con.args) (cons_of source) args c in
      of_con con.from con.member (in_left (argument_faults source con.from.args) _ fault (in_same (argument_faults source con.from.args) (argument_faults source args) fault (ap (argument_faults source) (sym con.is)) k)))
      (λ p. let pred = image (λ (pred : PredItem). pred.args) (preds_of source) args p in
      of_pred pred.from pred.member (in_same (argument_faults source pred.from.args) (argument_faults source args) fault (ap (argument_faults source) (sym pred.is)) k))
      (in_parts (map (λ (con : ConItem). con.args) (cons_of source)) _ args m)

  large : (trace : TraceItem) (rest : List TraceItem) (at : ℕ) → traces_of source ≡ trace ∷ rest
      → (nat_lt MOST_COPIES (length (counting source (start_atoms source trace.start))) || nat_lt MOST_STATE_NODES (sum_by nodes_written (counting source (start_atoms source trace.start)))) ≡ true
      → at ≡ trace.at → fault ≡ wrong OverLimit at → Found
  large trace rest at is more_ here_ e_ =
      of_traces (trace ∷ rest) is (in_left (start_faults source trace) _ fault
      (when (nat_lt MOST_COPIES (length (counting source (start_atoms source trace.start))) || nat_lt MOST_STATE_NODES (sum_by nodes_written (counting source (start_atoms source trace.start)))) (wrong OverLimit trace.at) fault more_
      (e_ ∙ ap (wrong OverLimit) here_)))

  over_all : (at : ℕ) → IsOver source at → fault ≡ wrong OverLimit at → Found
  over_all at (IsOver.argument args name m got is) e_ = of_arguments args (from_contains (arguments_of source) args m) (many_arguments args name at got is e_)
  over_all at (IsOver.premise rule atom m got is) e_ = of_rule rule (from_contains (rules_of source) rule m) (search (in_left, in_right, past_in (λ (other : RawAtom). other.name.from) (state_premises_of source rule.raw) MOST_PREMISES atom at got is e_) depth 12)
  over_all at (IsOver.back rule atom m got is) e_ = of_rule rule (from_contains (rules_of source) rule m) (search (in_left, in_right, past_in (λ (other : RawAtom). other.name.from) (backward_of source rule.raw) MOST_BACKS atom at got is e_) depth 12)
  over_all at (IsOver.right rule atom m got is) e_ = of_rule rule (from_contains (rules_of source) rule m) (search (in_left, in_right, past_in (λ (other : RawAtom). other.name.from) (atoms_of rule.raw.right) MOST_RIGHT atom at got is e_) depth 12)
  over_all at (IsOver.goal clause atom m got is) e_ = of_clause clause (from_contains (clauses_of source) clause m) (search (in_left, in_right, past_in (λ (other : RawAtom). other.name.from) clause.goals MOST_GOALS atom at got is e_) depth 12)
  over_all at (IsOver.rule_variable rule occurrence m got is) e_ = of_rule rule (from_contains (rules_of source) rule m) (search (in_left, in_right, past_in (λ (other : Occurrence). other.at.from) (variables_of source (atoms_of rule.raw.left)) MOST_VARIABLES occurrence at got is e_) depth 12)
  over_all at (IsOver.clause_variable clause occurrence m got is) e_ = of_clause clause (from_contains (clauses_of source) clause m) (search (in_left, in_right, past_in (λ (other : Occurrence). other.at.from) (variables_of source (clause.head ∷ clause.goals)) MOST_VARIABLES occurrence at got is e_) depth 12)
  over_all at (IsOver.predicate pred got is) e_ = of_counts (search (in_left, in_right, past_in (λ (other : PredItem). other.name.from) (preds_of source) MOST_PREDS pred at got is e_) depth 12)
  over_all at (IsOver.constructor con got is) e_ = of_counts (search (in_left, in_right, past_in (λ (other : ConItem). other.name.from) (cons_of source) MOST_CONS con at got is e_) depth 12)
  over_all at (IsOver.rule rule got is) e_ = of_counts (search (in_left, in_right, past_in (λ (other : RuleItem). other.raw.at) (rules_of source) MOST_RULES rule at got is e_) depth 12)
  over_all at (IsOver.clause clause got is) e_ = of_counts (search (in_left, in_right, past_in (λ (other : ClauseItem). other.head.name.from) (clauses_of source) MOST_CLAUSES clause at got is e_) depth 12)
  over_all at (IsOver.unfit atom m n is) e_ =
      of_state atom (from_contains (state_atoms source) atom m) (in_right (names_faults source true atom ++ back_faults source atom) _ fault
      (unless (is_fit atom) (wrong OverLimit atom.name.from) fault (refuted (is_fit atom) (is_fit atom) (is_fit_by atom) n refl) (e_ ∙ ap (wrong OverLimit) is)))
  over_all at (IsOver.copies trace rest traces more_ is) e_ =
      large trace rest at traces (or_left (nat_lt MOST_COPIES (length (counting source (start_atoms source trace.start)))) _ (lt-ltb MOST_COPIES (length (counting source (start_atoms source trace.start))) more_)) is e_
  over_all at (IsOver.nodes trace rest traces more_ is) e_ =
      large trace rest at traces (or_right (nat_lt MOST_COPIES (length (counting source (start_atoms source trace.start)))) _ (lt-ltb MOST_STATE_NODES (sum_by nodes_written (counting source (start_atoms source trace.start))) more_)) is e_
  over_all at (IsOver.turns trace number m limit n is) e_ =
      of_trace trace (from_contains (traces_of source) trace m) (in_right (use_faults source space.Stages trace.stage ++ begin_faults source trace.start) _ fault
      (in_same (turns_faults source.text trace.limit) (turns_faults source.text (Some number)) fault (ap (turns_faults source.text) limit)
      (unless (is_some (turns_said source.text number)) (wrong OverLimit number.from) fault (ap is_some n) (e_ ∙ ap (wrong OverLimit) is))))

  home_in : (rule : RuleItem) → rule.home ≡ None → ¬ IsQuiRule rule.raw → fault ≡ wrong BadQui rule.raw.at → In (home_faults rule) fault
  home_in rule home n is = grind (arith, unless, refuted, is_qui_by)

  pub complete : Misnamed source fault → IsTwice source fault ⊎ Found
  complete (twice k) = inl k
  complete (unknown in_space name c no_ is) = grind (arith, of_use, from_contains (uses_in source in_space) name c, lack_in, nowhere_of source (said source name) no_, is_one)
  complete (wrong_kind in_space other name c no_ yes_ is) = grind (arith, of_use, from_contains (uses_in source in_space) name c, lack_in, somewhere_of source (said source name) other yes_, is_one)
  complete (wrong_arity atom pred c named ne is) =
      inr (of_atom atom (from_contains (atoms_written source) atom c) (λ in_state. in_left (pred_faults source atom) _ fault (in_right (use_faults source space.Predicates atom.name) _ fault
      (arity_in (pred_arity source atom) (length pred.args) atom.args atom.name.from (ap (option_map (λ (its : PredItem). length its.args)) named) ne is))))
  complete (wrong_term_arity node con c app named ne is) =
      inr (of_node node (from_contains (raw_nodes (atoms_written source)) node c) app (λ in_state. in_right (use_faults source space.Constructors node.at) _ fault
      (arity_in (con_arity source node) (length con.args) node.args node.at.from (ap (option_map (λ (its : ConItem). length its.args)) named) ne is)))
  complete (variable_in_state node c apart is) =
      let atom = through (λ (atom : RawAtom). atom.nodes) (state_atoms source) node (from_contains (raw_nodes (state_atoms source)) node c) in
      inr (of_state atom.from atom.member (names_state atom.from (in_right (pred_faults source atom.from) _ fault (via (node_faults source true) atom.from.nodes node fault atom.given (open_in node node.kind apart is)))))
  complete (backward_in_state atom c back is) = grind (arith, of_made, in_right, back_in atom back is, of_state, back_state atom (back_in atom back is), in_parts, from_contains (made_atoms source ++ state_atoms source) atom c)
  complete (linear_in_clause atom its c named n is) = grind (arith, of_clause_atom, from_contains (clause_atoms source) atom c, in_right, in_same, linear_one its atom.name.from n is)
  complete (bad_qui rule c home n is) = inr (of_rule rule (from_contains (rules_of source) rule c) (in_right _ (home_faults rule) fault (home_in rule home n is)))
  complete (no_trace traces is) = inr (of_traces [] traces (is_one _ fault is))
  complete (two_traces first trace rest traces c is) =
      inr (of_traces (first ∷ rest) traces (in_right (start_faults source first) _ fault
      (subst (In (two_faults rest)) (sym is) (mapped (λ (other : TraceItem). wrong TwoTraces other.at) rest trace (from_contains rest trace c)))))
  complete (over at m is) = inr (over_all at m is)

-- The first of all faults.

-- with names that are declared again
pub all_named : (source : Source) (first other answer : Option Fault) → IsFirstOrNone (IsTwice source) first
    → other ≡ first_in (all_faults source) → answer ≡ first_of first other → IsFirstOrNone (Misnamed source) answer
all_named source first other answer again others is =
    subst (IsFirstOrNone (Misnamed source)) (sym (is ∙ ap (first_of first) others))
    (foremost_same standing (λ fault. IsTwice source fault ⊎ Contains (all_faults source) fault) (Misnamed source) (first_of first (first_in (all_faults source)))
    (λ fault. ⊎_elim (λ h. twice h) (λ k. sound source fault (from_contains (all_faults source) fault k)))
    (λ fault h. ⊎_elim (λ k. inl k) (λ k. inr (to_contains (all_faults source) fault k)) (complete source fault h))
    (foremost_union standing (IsTwice source) (Contains (all_faults source)) first (first_in (all_faults source)) again (foremost_among standing (all_faults source))))
