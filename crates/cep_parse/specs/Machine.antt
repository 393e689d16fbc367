-- Private.
-- The states of a reading from left to right, and what a symbol does. The public clauses speak of none of this.
use Rattle.std.specs.Prelude.{ℕ, ◌+◌, ◌==◌, Bool, true, false, if◌then◌else◌, List, [], ◌∷◌, ◌++◌, length, map, not, ◌&&◌, zero, suc, Option, None, Some, is_some, is_none}
use Rattle.cep_base.specs.declared.kind.PredKind.TheVariants.{Linear, Back, Fact}
use Rattle.cep_parse.specs.declared.raw.Span.{Span}
use Rattle.cep_parse.specs.declared.raw.RawKind.{RawKind}
use Rattle.cep_parse.specs.declared.raw.RawKind.TheVariants.{Var, App}
use Rattle.cep_parse.specs.declared.raw.RawKind.TheVariants as kind
use Rattle.cep_parse.specs.declared.raw.RawNode.{RawNode}
use Rattle.cep_parse.specs.declared.raw.RawAtom.{RawAtom}
use Rattle.cep_parse.specs.declared.raw.RawRule.{RawRule}
use Rattle.cep_parse.specs.declared.raw.RawElem.{RawElem}
use Rattle.cep_parse.specs.declared.raw.RawElem.TheVariants as elem
use Rattle.cep_parse.specs.declared.raw.RawStart.TheVariants.{Named, Listed}
use Rattle.cep_parse.specs.declared.raw.RawItem.{RawItem}
use Rattle.cep_parse.specs.declared.raw.RawItem.TheVariants as item
use Rattle.cep_parse.specs.declared.symbol.Word.{Word}
use Rattle.cep_parse.specs.declared.symbol.Word.TheVariants as word
use Rattle.cep_parse.specs.declared.levels.Level.{Level}
use Rattle.cep_parse.specs.declared.levels.Level.TheVariants.{Empty, Node, Whole}
use Rattle.cep_parse.specs.declared.state.AtomSoFar.{AtomSoFar}
use Rattle.cep_parse.specs.declared.state.BagHome.TheVariants as home
use Rattle.cep_parse.specs.declared.state.BagPlace.{BagPlace}
use Rattle.cep_parse.specs.declared.state.BagPlace.TheVariants as bag
use Rattle.cep_parse.specs.declared.state.BagSoFar.{BagSoFar}
use Rattle.cep_parse.specs.declared.state.BagHome.{BagHome}
use Rattle.cep_parse.specs.declared.state.ClauseSoFar.{ClauseSoFar}
use Rattle.cep_parse.specs.declared.state.Growth.{Growth}
use Rattle.cep_parse.specs.declared.state.Growth.TheVariants as growth
use Rattle.cep_parse.specs.declared.state.Next.{Next}
use Rattle.cep_parse.specs.declared.state.Next.TheVariants.{Go, Item, Stop}
use Rattle.cep_parse.specs.declared.state.Plain.{Plain}
use Rattle.cep_parse.specs.declared.state.Plain.TheVariants as plain
use Rattle.cep_parse.specs.declared.state.RulePlace.{RulePlace}
use Rattle.cep_parse.specs.declared.state.RulePlace.TheVariants as rule
use Rattle.cep_parse.specs.declared.state.RuleSoFar.{RuleSoFar}
use Rattle.cep_parse.specs.declared.state.StageSoFar.{StageSoFar}
use Rattle.cep_parse.specs.declared.state.State.{State}
use Rattle.cep_parse.specs.declared.state.State.TheVariants as state
use Rattle.cep_parse.specs.declared.state.Use.{Use}
use Rattle.cep_parse.specs.declared.state.Use.TheVariants as use_
use Rattle.cep_parse.specs.Grammar.{node}

-- a name and nothing after it
abbrev pub atom_begun : Span → AtomSoFar
atom_begun name = record { name = name; args = 0; nodes = []; levels = [] }

-- a name and names after it
abbrev pub atom_of_names : Span → List Span → AtomSoFar
atom_of_names name args = record { name = name; args = length args; nodes = map (λ a. node App a 0) args; levels = [] }

-- the atom, where nothing is open
abbrev pub whole_atom : AtomSoFar → RawAtom
whole_atom a = record { name = a.name; args = a.args; nodes = a.nodes }

-- a node has so many arguments
abbrev pub set_args : List RawNode → ℕ → ℕ → List RawNode
set_args [] index args = []
set_args (n ∷ nodes) zero args = node n.kind n.at args ∷ nodes
set_args (n ∷ nodes) (suc index) args = n ∷ set_args nodes index args

-- A term ended: what is open has one more.
abbrev pub child_in : List Level → AtomSoFar → AtomSoFar
child_in [] a = record { name = a.name; args = a.args + 1; nodes = a.nodes; levels = [] }
child_in (Node index args ∷ levels) a = record { name = a.name; args = a.args; nodes = a.nodes; levels = Node index (args + 1) ∷ levels }
child_in (Empty ∷ levels) a = record { name = a.name; args = a.args; nodes = a.nodes; levels = Whole ∷ levels }
child_in (Whole ∷ levels) a = record { name = a.name; args = a.args; nodes = a.nodes; levels = Whole ∷ levels }

-- the atom with a term of one node
abbrev pub leaf : AtomSoFar → RawKind → Span → AtomSoFar
leaf a kind at = child_in a.levels (record { name = a.name; args = a.args; nodes = a.nodes ++ node kind at 0 ∷ []; levels = a.levels })

-- the atom with one more open parenthesis
abbrev pub opened : AtomSoFar → AtomSoFar
opened a = record { name = a.name; args = a.args; nodes = a.nodes; levels = Empty ∷ a.levels }

-- the atom with a constructor after an open parenthesis
abbrev pub headed : AtomSoFar → List Level → Span → AtomSoFar
headed a levels at = record { name = a.name; args = a.args; nodes = a.nodes ++ node App at 0 ∷ []; levels = Node (length a.nodes) 0 ∷ levels }

-- the atom with its innermost parenthesis closed round a constructor
abbrev pub closed : AtomSoFar → List Level → ℕ → ℕ → AtomSoFar
closed a levels index args = child_in levels (record { name = a.name; args = a.args; nodes = set_args a.nodes index args; levels = levels })

-- the atom with its innermost parenthesis closed round a whole term
abbrev pub closed_whole : AtomSoFar → List Level → AtomSoFar
closed_whole a levels = child_in levels (record { name = a.name; args = a.args; nodes = a.nodes; levels = levels })

-- what became of an atom: it goes on, it ended before the symbol, or no atom goes on so
pub data Grown : Type 0 where
  Going : AtomSoFar → Grown
  Ended : RawAtom → Grown
  Broken : Grown

abbrev pub grown_to : Growth → AtomSoFar → Grown
grown_to growth.Going a = Going a
grown_to growth.Ended a = Ended (whole_atom a)
grown_to growth.Broken a = Broken

-- the atom with one more innermost parenthesis
abbrev pub in_level : Level → AtomSoFar → AtomSoFar
in_level level a = record { name = a.name; args = a.args; nodes = a.nodes; levels = level ∷ a.levels }

-- what a symbol does to an atom where a term may begin
abbrev pub grow_term : AtomSoFar → Word → Span → Grown
grow_term a word.Name at = Going (leaf a App at)
grow_term a word.Variable at = Going (leaf a Var at)
grow_term a word.Blank at = Going (leaf a kind.Blank at)
grow_term a word.Open at = Going (opened a)
grow_term a _ at = Broken

-- where no parenthesis is open
abbrev pub grow_flat : AtomSoFar → Word → Span → Grown
grow_flat a word.Name at = Going (leaf a App at)
grow_flat a word.Variable at = Going (leaf a Var at)
grow_flat a word.Blank at = Going (leaf a kind.Blank at)
grow_flat a word.Open at = Going (opened a)
grow_flat a _ at = Ended (whole_atom a)

-- where arguments of a constructor are read
abbrev pub grow_args : AtomSoFar → List Level → ℕ → ℕ → Word → Span → Grown
grow_args a levels index args word.Close at = Going (closed a levels index args)
grow_args a levels index args word at = grow_term a word at

-- where a term is to come
abbrev pub grow_empty : AtomSoFar → List Level → Word → Span → Grown
grow_empty a levels word.Name at = Going (headed a levels at)
grow_empty a levels word at = grow_term a word at

-- where a whole term was read
abbrev pub grow_whole : AtomSoFar → List Level → Word → Span → Grown
grow_whole a levels word.Close at = Going (closed_whole a levels)
grow_whole a levels _ at = Broken

-- what a symbol does to an atom, by what is open
abbrev pub grow_in : List Level → AtomSoFar → Word → Span → Grown
grow_in [] a word at = grow_flat a word at
grow_in (Node index args ∷ levels) a word at = grow_args a levels index args word at
grow_in (Empty ∷ levels) a word at = grow_empty a levels word at
grow_in (Whole ∷ levels) a word at = grow_whole a levels word at

abbrev pub grow : AtomSoFar → Word → Span → Grown
grow a word at = grow_in a.levels a word at

-- a state that keeps names and places alone
abbrev pub plainly : Plain → Next
plainly p = Go (state.Plain p)

-- an atom is read for this
abbrev pub atom_for : Span → Use → Next
atom_for name used = Go (state.Atom (atom_begun name) used)

-- a rule of which nothing was read but its label
abbrev pub rule_from : Option StageSoFar → ℕ → Option Span → List RawElem → RuleSoFar
rule_from stage at label left = record { stage = stage; at = at; label = label; left = left; right = None }

-- whether a rule stands in no stage
abbrev pub is_outer : RuleSoFar → Bool
is_outer r = is_none r.stage

-- whether a rule's right side is read
abbrev pub is_right : RuleSoFar → Bool
is_right r = is_some r.right

-- a side with one more element
abbrev pub with_elem_in : Option (List RawElem) → RuleSoFar → RawElem → RuleSoFar
with_elem_in None r e = record { stage = r.stage; at = r.at; label = r.label; left = r.left ++ e ∷ []; right = None }
with_elem_in (Some right) r e = record { stage = r.stage; at = r.at; label = r.label; left = r.left; right = Some (right ++ e ∷ []) }

abbrev pub with_elem : RuleSoFar → RawElem → RuleSoFar
with_elem r e = with_elem_in r.right r e

-- the rule, with its right side
abbrev pub whole_rule : RuleSoFar → List RawElem → RawRule
whole_rule r right = record { at = r.at; label = r.label; left = r.left; right = right }

-- a rule's dot
abbrev pub rule_ended : Option StageSoFar → RawRule → Next
rule_ended None r = Item (item.Outer r) false
rule_ended (Some s) r = Go (state.Rules (record { name = s.name; rules = s.rules ++ r ∷ [] }))

-- before an element
abbrev pub before_elem : RuleSoFar → Word → Span → Next
before_elem r word.Name at = atom_for at (use_.Elem r false)
before_elem r word.Dollar at = if is_right r then Stop else Go (state.Rule r rule.Kept)
before_elem r word.Open at = Go (state.Rule r rule.Unit)
before_elem r word.Qui at = if is_outer r && not (is_right r) then Go (state.Rule (with_elem r (elem.Qui at)) rule.Behind) else Stop
before_elem r word.Stage at = if is_outer r then Go (state.Rule r rule.Stage) else Stop
before_elem r _ at = Stop

-- after an element, on the left and on the right
abbrev pub behind_left : RuleSoFar → Word → Next
behind_left r word.Star = Go (state.Rule r rule.Before)
behind_left r word.Lolli = Go (state.Rule (record { stage = r.stage; at = r.at; label = r.label; left = r.left; right = Some [] }) rule.Before)
behind_left r _ = Stop

abbrev pub behind_right : RuleSoFar → List RawElem → Word → Next
behind_right r right word.Star = Go (state.Rule r rule.Before)
behind_right r right word.Dot = rule_ended r.stage (whole_rule r right)
behind_right r right _ = Stop

abbrev pub behind_in : Option (List RawElem) → RuleSoFar → Word → Next
behind_in None r word = behind_left r word
behind_in (Some right) r word = behind_right r right word

abbrev pub behind_elem : RuleSoFar → Word → Next
behind_elem r word = behind_in r.right r word

-- after `$`
abbrev pub behind_dollar : RuleSoFar → Word → Span → Next
behind_dollar r word.Name at = atom_for at (use_.Elem r true)
behind_dollar r _ at = Stop

-- after `(`
abbrev pub behind_open : RuleSoFar → Word → Next
behind_open r word.Close = Go (state.Rule r rule.Behind)
behind_open r _ = Stop

-- after `stage`
abbrev pub behind_stage : RuleSoFar → Word → Span → Next
behind_stage r word.Name at = Go (state.Rule (with_elem r (elem.Stage at)) rule.Behind)
behind_stage r _ at = Stop

-- in a rule
abbrev pub step_rule : RuleSoFar → RulePlace → Word → Span → Next
step_rule r rule.Before word at = before_elem r word at
step_rule r rule.Kept word at = behind_dollar r word at
step_rule r rule.Unit word at = behind_open r word
step_rule r rule.Stage word at = behind_stage r word at
step_rule r rule.Behind word at = behind_elem r word

-- a bag's closing brace
abbrev pub bag_ended : BagHome → List RawAtom → Next
bag_ended (home.Context name) atoms = Item (item.Context name atoms) true
bag_ended (home.Trace at limit stage) atoms = Go (state.Ending (item.Trace at limit stage (Listed atoms)))

-- in a bag
abbrev pub bag_first : BagSoFar → Word → Span → Next
bag_first b word.Name at = atom_for at (use_.Bag b)
bag_first b word.Open at = Go (state.Bag b bag.Unit)
bag_first b word.CloseBrace at = bag_ended b.home b.atoms
bag_first b _ at = Stop

abbrev pub bag_next : BagSoFar → Word → Span → Next
bag_next b word.Name at = atom_for at (use_.Bag b)
bag_next b word.Open at = Go (state.Bag b bag.Unit)
bag_next b _ at = Stop

abbrev pub bag_unit : BagSoFar → Word → Next
bag_unit b word.Close = Go (state.Bag b bag.Behind)
bag_unit b _ = Stop

abbrev pub bag_behind : BagSoFar → Word → Next
bag_behind b word.Comma = Go (state.Bag b bag.Next)
bag_behind b word.Star = Go (state.Bag b bag.Next)
bag_behind b word.CloseBrace = bag_ended b.home b.atoms
bag_behind b _ = Stop

abbrev pub step_bag : BagSoFar → BagPlace → Word → Span → Next
step_bag b bag.First word at = bag_first b word at
step_bag b bag.Next word at = bag_next b word at
step_bag b bag.Unit word at = bag_unit b word
step_bag b bag.Behind word at = bag_behind b word

-- the dot of a clause without goals: `a : b.` is a colon
abbrev pub head_alone : Option Span → RawAtom → RawItem
head_alone None head = item.Clause None head []
head_alone (Some label) head = if head.args == 0 then item.Colon label [] head.name else item.Clause (Some label) head []

-- after the first atom of a clause or of an outer rule
abbrev pub behind_head : ℕ → Option Span → RawAtom → Word → Next
behind_head at label head word.Dot = Item (head_alone label head) false
behind_head at label head word.Back = Go (state.Goal (record { label = label; head = head; goals = [] }))
behind_head at label head word.Star = behind_left (rule_from None at label (elem.Atom false head ∷ [])) word.Star
behind_head at label head word.Lolli = behind_left (rule_from None at label (elem.Atom false head ∷ [])) word.Lolli
behind_head at label head _ = Stop

-- a clause with one more goal
abbrev pub with_goal : ClauseSoFar → RawAtom → ClauseSoFar
with_goal c goal = record { label = c.label; head = c.head; goals = c.goals ++ goal ∷ [] }

-- after a goal
abbrev pub behind_goal : ClauseSoFar → Word → Next
behind_goal c word.Dot = Item (item.Clause c.label c.head c.goals) false
behind_goal c word.Back = Go (state.Goal c)
behind_goal c word.Comma = Go (state.Goal c)
behind_goal c _ = Stop

-- after an atom, by what it was read for
abbrev pub behind_atom : Use → RawAtom → Word → Next
behind_atom (use_.First at label) a word = behind_head at label a word
behind_atom (use_.Goal c) a word = behind_goal (with_goal c a) word
behind_atom (use_.Elem r kept) a word = behind_elem (with_elem r (elem.Atom kept a)) word
behind_atom (use_.Bag b) a word = bag_behind (record { home = b.home; atoms = b.atoms ++ a ∷ [] }) word

-- an atom that goes on, or ended
abbrev pub grown : Grown → Use → Word → Next
grown (Going a) used word = Go (state.Atom a used)
grown (Ended a) used word = behind_atom used a word
grown Broken used word = Stop

abbrev pub step_atom : AtomSoFar → Use → Word → Span → Next
step_atom a used word at = grown (grow a word at) used word

-- after names: a colon makes them a declaration, or the one of them a label
abbrev pub names_begun : Span → List Span → Next
names_begun name [] = plainly (plain.Labelled name)
names_begun name (a ∷ more) = Go (state.Declared name (a ∷ more))

abbrev pub step_names : Span → List Span → Word → Span → Next
step_names name args word.Name at = Go (state.Names name (args ++ at ∷ []))
step_names name args word.Colon at = names_begun name args
step_names name args word at = step_atom (atom_of_names name args) (use_.First name.from None) word at

-- after the colon of names
abbrev pub step_declared : Span → List Span → Word → Span → Next
step_declared name args word.Pred at = Go (state.Ending (item.Pred name args Linear))
step_declared name args word.Bwd at = Go (state.Ending (item.Pred name args Back))
step_declared name args word.Fact at = Go (state.Ending (item.Pred name args Fact))
step_declared name args word.Name at = Go (state.Ending (item.Colon name args at))
step_declared name args _ at = Stop

-- after a name and a colon
abbrev pub labelled : Span → Word → Span → Next
labelled label word.Type at = Go (state.Ending (item.Sort label))
labelled label word.Pred at = Go (state.Ending (item.Pred label [] Linear))
labelled label word.Bwd at = Go (state.Ending (item.Pred label [] Back))
labelled label word.Fact at = Go (state.Ending (item.Pred label [] Fact))
labelled label word.Name at = atom_for at (use_.First label.from (Some label))
labelled label word at = before_elem (rule_from None label.from (Some label) []) word at

-- before an item
abbrev pub begin : Word → Span → Next
begin word.Name at = Go (state.Names at [])
begin word.Blank at = plainly (plain.Blank at.from)
begin word.Stage at = plainly (plain.StageWord at.from)
begin word.Context at = plainly plain.ContextWord
begin word.Interactive at = plainly plain.InteractiveWord
begin word.Trace at = plainly (plain.TraceWord at.from)
begin word at = before_elem (rule_from None at.from None []) word at

-- after an item that a dot may end
abbrev pub step_ended : Word → Span → Next
step_ended word.Dot at = plainly plain.Top
step_ended word at = begin word at

-- after `_`
abbrev pub behind_blank : ℕ → Word → Next
behind_blank place word.Colon = Go (state.Rule (rule_from None place None []) rule.Before)
behind_blank place _ = Stop

-- after `stage`, its name, and its `=`
abbrev pub stage_word : ℕ → Word → Span → Next
stage_word place word.Name at = plainly (plain.StageNamed place at)
stage_word place _ at = Stop

abbrev pub stage_begun : ℕ → Span → Word → Next
stage_begun place name word.Equals = plainly (plain.StageEquals name)
stage_begun place name word = behind_left (rule_from None place None (elem.Stage name ∷ [])) word

abbrev pub stage_equals : Span → Word → Next
stage_equals name word.OpenBrace = Go (state.Rules (record { name = name; rules = [] }))
stage_equals name _ = Stop

-- after `context`, its name, and its `=`
abbrev pub context_word : Word → Span → Next
context_word word.Name at = plainly (plain.ContextNamed at)
context_word _ at = Stop

abbrev pub context_begun : Span → Word → Next
context_begun name word.Equals = plainly (plain.ContextEquals name)
context_begun name _ = Stop

abbrev pub context_equals : Span → Word → Next
context_equals name word.OpenBrace = Go (state.Bag (record { home = home.Context name; atoms = [] }) bag.First)
context_equals name _ = Stop

-- after `#interactive`
abbrev pub interactive_word : Word → Span → Next
interactive_word word.Name at = Go (state.Ending (item.Interactive at))
interactive_word _ at = Stop

-- after `#trace`, its limit, and its stage
abbrev pub trace_word : ℕ → Word → Span → Next
trace_word place word.Blank at = plainly (plain.TraceLimit place None)
trace_word place word.Number at = plainly (plain.TraceLimit place (Some at))
trace_word place _ at = Stop

abbrev pub trace_limit : ℕ → Option Span → Word → Span → Next
trace_limit place limit word.Name at = plainly (plain.TraceStage place limit at)
trace_limit place limit _ at = Stop

abbrev pub trace_stage : ℕ → Option Span → Span → Word → Span → Next
trace_stage place limit stage word.Name at = Go (state.Ending (item.Trace place limit stage (Named at)))
trace_stage place limit stage word.OpenBrace at = Go (state.Bag (record { home = home.Trace place limit stage; atoms = [] }) bag.First)
trace_stage place limit stage _ at = Stop

-- in a state that keeps names and places alone
abbrev pub step_plain : Plain → Word → Span → Next
step_plain plain.Ended word at = step_ended word at
step_plain plain.Top word at = begin word at
step_plain (plain.Labelled label) word at = labelled label word at
step_plain (plain.Blank place) word at = behind_blank place word
step_plain (plain.StageWord place) word at = stage_word place word at
step_plain (plain.StageNamed place name) word at = stage_begun place name word
step_plain (plain.StageEquals name) word at = stage_equals name word
step_plain plain.ContextWord word at = context_word word at
step_plain (plain.ContextNamed name) word at = context_begun name word
step_plain (plain.ContextEquals name) word at = context_equals name word
step_plain plain.InteractiveWord word at = interactive_word word at
step_plain (plain.TraceWord place) word at = trace_word place word at
step_plain (plain.TraceLimit place limit) word at = trace_limit place limit word at
step_plain (plain.TraceStage place limit stage) word at = trace_stage place limit stage word at

-- a state after which one or two words alone may stand
abbrev pub IsFixed : Plain → Type 0
IsFixed plain.Ended = ⊥
IsFixed plain.Top = ⊥
IsFixed (plain.Labelled label) = ⊥
IsFixed (plain.StageNamed place name) = ⊥
IsFixed (plain.TraceStage place limit stage) = ⊥
IsFixed _ = Unit {0}

-- after an item but its dot
abbrev pub step_ending : RawItem → Word → Next
step_ending i word.Dot = Item i false
step_ending i _ = Stop

-- in the braces of a stage
abbrev pub step_rules : StageSoFar → Word → Span → Next
step_rules s word.Name at = Go (state.RuleNamed s at)
step_rules s word.CloseBrace at = Item (item.Stage s.name s.rules) true
step_rules s _ at = Stop

-- after the label of a rule there
abbrev pub rule_named : StageSoFar → Span → Word → Next
rule_named s label word.Colon = Go (state.Rule (rule_from (Some s) label.from (Some label) []) rule.Before)
rule_named s label _ = Stop

-- before a goal
abbrev pub before_goal : ClauseSoFar → Word → Span → Next
before_goal c word.Name at = atom_for at (use_.Goal c)
before_goal c _ at = Stop

-- what a symbol does
abbrev pub step : State → Word → Span → Next
step (state.Plain p) word at = step_plain p word at
step (state.Names name args) word at = step_names name args word at
step (state.Declared name args) word at = step_declared name args word at
step (state.Ending i) word at = step_ending i word
step (state.Rules s) word at = step_rules s word at
step (state.RuleNamed s label) word at = rule_named s label word
step (state.Rule r place) word at = step_rule r place word at
step (state.Goal c) word at = before_goal c word at
step (state.Bag b place) word at = step_bag b place word at
step (state.Atom a used) word at = step_atom a used word at

-- a state, and the items before it
pub record Config : Type 0 where
  pub items : List RawItem
  pub state : State

-- the state after a whole item
abbrev pub state_behind : Bool → State
state_behind true = state.Plain plain.Ended
state_behind false = state.Plain plain.Top

-- what a symbol does to a configuration
abbrev pub moved : List RawItem → Next → Option Config
moved items (Go s) = Some (record { items = items; state = s })
moved items (Item i may_dot) = Some (record { items = items ++ i ∷ []; state = state_behind may_dot })
moved items Stop = None

-- a state within an item
abbrev pub is_within : State → Bool
is_within (state.Plain plain.Ended) = false
is_within (state.Plain plain.Top) = false
is_within _ = true
