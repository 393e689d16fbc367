-- Runs of the machine, and what may stand after a state.
use Rattle.std.proofs.Common.{◌≡◌, ℕ, ◌+◌, true, false, List, [], ◌∷◌, ◌++◌, Option, None, Some, is_none, refl, suc, ◌<◌, ◌≤◌, length, get_or, set, take, sym, ap, ◌∙◌, arith, subst, append_assoc, map, length-append, ◌⊎◌}
use Rattle.cep_parse.specs.declared.raw.Span.{Span}
use Rattle.cep_parse.specs.declared.raw.RawAtom.{RawAtom}
use Rattle.cep_parse.specs.declared.raw.RawElem.{RawElem}
use Rattle.cep_parse.specs.declared.raw.RawItem.{RawItem}
use Rattle.cep_parse.specs.declared.raw.RawNode.{RawNode}
use Rattle.cep_parse.specs.declared.raw.RawRule.{RawRule}
use Rattle.cep_parse.specs.declared.raw.RawStart.TheVariants.{Listed}
use Rattle.cep_parse.specs.declared.symbol.Symbol.{Symbol}
use Rattle.cep_parse.specs.declared.levels.Level.{Level}
use Rattle.cep_parse.specs.declared.levels.Level.TheVariants.{Empty, Node, Whole}
use Rattle.cep_parse.specs.declared.state.AtomSoFar.{AtomSoFar}
use Rattle.cep_parse.specs.declared.state.BagHome.{BagHome}
use Rattle.cep_parse.specs.declared.state.BagPlace.{BagPlace}
use Rattle.cep_parse.specs.declared.state.BagSoFar.{BagSoFar}
use Rattle.cep_parse.specs.declared.state.ClauseSoFar.{ClauseSoFar}
use Rattle.cep_parse.specs.declared.state.Next.{Next}
use Rattle.cep_parse.specs.declared.state.Next.TheVariants.{Go, Item as ItemEnds, Stop}
use Rattle.cep_parse.specs.declared.state.Plain.{Plain}
use Rattle.cep_parse.specs.declared.state.RulePlace.{RulePlace}
use Rattle.cep_parse.specs.declared.state.RuleSoFar.{RuleSoFar}
use Rattle.cep_parse.specs.declared.state.StageSoFar.{StageSoFar}
use Rattle.cep_parse.specs.declared.state.State.{State}
use Rattle.cep_parse.specs.declared.state.Use.{Use}
use Rattle.cep_parse.specs.Grammar.{at, names, Term, Args, Atom, Side, Stars, Elems, Rules, Goals, BagElem, BagMore, Bag, MayDot, Limit, Item, node, Arg}
use Rattle.cep_parse.specs.Machine.{head_alone, set_args, with_elem, step, atom_of_names, grown_to, leaf, child_in}
pub use Rattle.cep_parse.specs.Machine.{Config, moved, state_behind}
use Rattle.std.proofs.lemmas.List.{take_more, length_push, map-append, append-nil}
use Rattle.cep_parse.specs.declared.raw.RawKind.TheVariants.{App}
use Rattle.std.specs.List.{slice_get}
use Rattle.cep_parse.specs.declared.state.Growth.{Growth}
use Rattle.cep_parse.specs.Machine.Grown.{Going}
use Rattle.cep_parse.specs.Grammar.Arg.{arg_term, arg_name, arg_variable, arg_blank}
use Rattle.cep_parse.specs.Grammar.Term.{applied, nested, variable, blank}
use Rattle.cep_parse.specs.Grammar.Args.{no_args, more_args}
use Rattle.cep_parse.specs.declared.symbol.Word.{Word}
use Rattle.cep_parse.specs.declared.raw.RawElem.TheVariants as elem
use Rattle.cep_parse.specs.declared.raw.RawItem.TheVariants as item
use Rattle.cep_parse.specs.declared.symbol.Word.TheVariants as word
use Rattle.cep_parse.specs.declared.state.BagHome.TheVariants as home
use Rattle.cep_parse.specs.declared.state.BagPlace.TheVariants as bag
use Rattle.cep_parse.specs.declared.state.Plain.TheVariants as plain
use Rattle.cep_parse.specs.declared.state.RulePlace.TheVariants as rule
use Rattle.cep_parse.specs.declared.state.State.TheVariants as state
use Rattle.cep_parse.specs.declared.state.Use.TheVariants as use_

-- What may stand after a state, and the item that it gives.

-- what stands after a term that ended within an atom, up to the atom's end
pub record UpFlat (name : Span) (args : ℕ) (nodes : List RawNode) (part : List Symbol) (atom : RawAtom) : Type 0 where
  pub count : ℕ
  pub more : List RawNode
  pub read : Args part count more
  pub is : atom ≡ record { name = name; args = args + count; nodes = nodes ++ more }

-- up to the parenthesis that closes round a constructor
pub record UpArgs (After : List RawNode → ℕ → List Symbol → Type 0) (nodes : List RawNode) (args : ℕ) (part : List Symbol) : Type 0 where
  pub front : List Symbol
  pub close : Span
  pub rest : List Symbol
  pub count : ℕ
  pub more : List RawNode
  pub cut : part ≡ front ++ at word.Close close ∷ rest
  pub read : Args front count more
  pub after : After (nodes ++ more) (args + count) rest

-- up to the parenthesis that closes round a whole term
pub record UpWhole (After : List Symbol → Type 0) (part : List Symbol) : Type 0 where
  pub close : Span
  pub rest : List Symbol
  pub cut : part ≡ at word.Close close ∷ rest
  pub after : After rest

-- up to the parenthesis that closes round a term to come
pub record UpTerm (After : List RawNode → List Symbol → Type 0) (nodes : List RawNode) (part : List Symbol) : Type 0 where
  pub front : List Symbol
  pub close : Span
  pub rest : List Symbol
  pub more : List RawNode
  pub cut : part ≡ front ++ at word.Close close ∷ rest
  pub read : Term front more
  pub after : After (nodes ++ more) rest

-- what completes an atom in which a term ended
abbrev pub Up : List Level → Span → ℕ → List RawNode → List Symbol → RawAtom → Type 0
Up [] name args nodes part atom = UpFlat name (args + 1) nodes part atom
Up (Node index count ∷ levels) name args nodes part atom = UpArgs (λ all total rest. Up levels name args (set_args all index total) rest atom) nodes (count + 1) part
Up (Empty ∷ levels) name args nodes part atom = UpWhole (λ rest. Up levels name args nodes rest atom) part
Up (Whole ∷ levels) name args nodes part atom = UpWhole (λ rest. Up levels name args nodes rest atom) part

-- what completes an atom
abbrev pub AtomRest : List Level → Span → ℕ → List RawNode → List Symbol → RawAtom → Type 0
AtomRest [] name args nodes part atom = UpFlat name args nodes part atom
AtomRest (Node index count ∷ levels) name args nodes part atom = UpArgs (λ all total rest. Up levels name args (set_args all index total) rest atom) nodes count part
AtomRest (Empty ∷ levels) name args nodes part atom = UpTerm (λ all rest. Up levels name args all rest atom) nodes part
AtomRest (Whole ∷ levels) name args nodes part atom = UpWhole (λ rest. Up levels name args nodes rest atom) part

-- the dot of an item
pub record DotRest (given : RawItem) (rest : List Symbol) (i : RawItem) : Type 0 where
  pub dot : Span
  pub cut : rest ≡ at word.Dot dot ∷ []
  pub is : i ≡ given

-- the further rules of a stage, and its brace
pub record RulesRest (stage : StageSoFar) (rest : List Symbol) (i : RawItem) : Type 0 where
  pub front : List Symbol
  pub close : Span
  pub ending : List Symbol
  pub more : List RawRule
  pub cut : rest ≡ front ++ at word.CloseBrace close ∷ ending
  pub read : Rules front more
  pub may_dot : MayDot ending
  pub is : i ≡ item.Stage stage.name (stage.rules ++ more)

-- what stands after a rule
abbrev pub RuleEnd : Option StageSoFar → RawRule → List Symbol → RawItem → Type 0
RuleEnd None r rest i = (rest ≡ []) × (i ≡ item.Outer r)
RuleEnd (Some stage) r rest i = RulesRest (record { name = stage.name; rules = stage.rules ++ r ∷ [] }) rest i

-- the side of a rule that is read
abbrev pub left_of : Option StageSoFar → Side
left_of stage = record { outer = is_none stage; right = false }

abbrev pub right_of : Option StageSoFar → Side
right_of stage = record { outer = is_none stage; right = true }

-- elements, or further elements, of the left side, and what stands after them
pub record LeftRest (Reads : Side → List Symbol → List RawElem → Type 0) (stage : Option StageSoFar) (place : ℕ) (label : Option Span) (left : List RawElem) (rest : List Symbol) (i : RawItem) : Type 0 where
  pub front : List Symbol
  pub arrow : Span
  pub after : List Symbol
  pub dot : Span
  pub behind : List Symbol
  pub more : List RawElem
  pub right : List RawElem
  pub cut : rest ≡ front ++ at word.Lolli arrow ∷ (after ++ at word.Dot dot ∷ behind)
  pub read : Reads (left_of stage) front more
  pub reads : Elems (right_of stage) after right
  pub end : RuleEnd stage (record { at = place; label = label; left = left ++ more; right = right }) behind i

-- the same of the right side
pub record RightRest (Reads : Side → List Symbol → List RawElem → Type 0) (stage : Option StageSoFar) (place : ℕ) (label : Option Span) (left right : List RawElem) (rest : List Symbol) (i : RawItem) : Type 0 where
  pub front : List Symbol
  pub dot : Span
  pub behind : List Symbol
  pub more : List RawElem
  pub cut : rest ≡ front ++ at word.Dot dot ∷ behind
  pub read : Reads (right_of stage) front more
  pub end : RuleEnd stage (record { at = place; label = label; left = left; right = right ++ more }) behind i

-- before and after an element
abbrev pub SideRest : (Side → List Symbol → List RawElem → Type 0) → Option (List RawElem) → Option StageSoFar → ℕ → Option Span → List RawElem → List Symbol → RawItem → Type 0
SideRest Reads None stage place label left rest i = LeftRest Reads stage place label left rest i
SideRest Reads (Some right) stage place label left rest i = RightRest Reads stage place label left right rest i

-- after `$`, which stands on the left alone, and after `stage`, which stands in outer rules alone
abbrev pub KeptRest : Option (List RawElem) → Option StageSoFar → ℕ → Option Span → List RawElem → List Symbol → RawItem → Type 0
KeptRest None stage place label left rest i = (x : Span) → LeftRest Elems stage place label left (at word.Dollar x ∷ rest) i
KeptRest (Some right) stage place label left rest i = Unit {0}

abbrev pub StageRest : Option StageSoFar → Option (List RawElem) → ℕ → Option Span → List RawElem → List Symbol → RawItem → Type 0
StageRest None right place label left rest i = (x : Span) → SideRest Elems right None place label left (at word.Stage x ∷ rest) i
StageRest (Some stage) right place label left rest i = Unit {0}

-- in a rule
abbrev pub RuleRest : RulePlace → RuleSoFar → List Symbol → RawItem → Type 0
RuleRest rule.Before r rest i = SideRest Elems r.right r.stage r.at r.label r.left rest i
RuleRest rule.Kept r rest i = KeptRest r.right r.stage r.at r.label r.left rest i
RuleRest rule.Unit r rest i = (x : Span) → SideRest Elems r.right r.stage r.at r.label r.left (at word.Open x ∷ rest) i
RuleRest rule.Stage r rest i = StageRest r.stage r.right r.at r.label r.left rest i
RuleRest rule.Behind r rest i = SideRest Stars r.right r.stage r.at r.label r.left rest i

-- further goals
pub record GoalsRest (clause : ClauseSoFar) (rest : List Symbol) (i : RawItem) : Type 0 where
  pub front : List Symbol
  pub dot : Span
  pub more : List RawAtom
  pub cut : rest ≡ front ++ at word.Dot dot ∷ []
  pub read : Goals front more
  pub is : i ≡ item.Clause clause.label clause.head (clause.goals ++ more)

-- a goal and further ones
pub record GoalRest (clause : ClauseSoFar) (rest : List Symbol) (i : RawItem) : Type 0 where
  pub front : List Symbol
  pub behind : List Symbol
  pub goal : RawAtom
  pub cut : rest ≡ front ++ behind
  pub read : Atom front goal
  pub after : GoalsRest (record { label = clause.label; head = clause.head; goals = clause.goals ++ goal ∷ [] }) behind i

-- after a bag
abbrev pub BagEnd : BagHome → List RawAtom → List Symbol → RawItem → Type 0
BagEnd (home.Context name) atoms rest i = MayDot rest × (i ≡ item.Context name atoms)
BagEnd (home.Trace place limit stage) atoms rest i = DotRest (item.Trace place limit stage (Listed atoms)) rest i

-- elements of a bag, read so, and its brace
pub record BagMoreRest (home_ : BagHome) (atoms : List RawAtom) (rest : List Symbol) (i : RawItem) : Type 0 where
  pub front : List Symbol
  pub close : Span
  pub behind : List Symbol
  pub more : List RawAtom
  pub cut : rest ≡ front ++ at word.CloseBrace close ∷ behind
  pub read : BagMore front more
  pub end : BagEnd home_ (atoms ++ more) behind i

pub record BagElemRest (home_ : BagHome) (atoms : List RawAtom) (rest : List Symbol) (i : RawItem) : Type 0 where
  pub front : List Symbol
  pub behind : List Symbol
  pub more : List RawAtom
  pub cut : rest ≡ front ++ behind
  pub read : BagElem front more
  pub after : BagMoreRest home_ (atoms ++ more) behind i

pub record BagFirstRest (home_ : BagHome) (atoms : List RawAtom) (rest : List Symbol) (i : RawItem) : Type 0 where
  pub front : List Symbol
  pub behind : List Symbol
  pub more : List RawAtom
  pub cut : rest ≡ front ++ behind
  pub read : Bag front more
  pub end : BagEnd home_ (atoms ++ more) behind i

pub record BagUnitRest (home_ : BagHome) (atoms : List RawAtom) (rest : List Symbol) (i : RawItem) : Type 0 where
  pub close : Span
  pub behind : List Symbol
  pub cut : rest ≡ at word.Close close ∷ behind
  pub after : BagMoreRest home_ atoms behind i

-- in a bag
abbrev pub BagRest : BagPlace → BagSoFar → List Symbol → RawItem → Type 0
BagRest bag.First b rest i = BagFirstRest b.home b.atoms rest i
BagRest bag.Next b rest i = BagElemRest b.home b.atoms rest i
BagRest bag.Unit b rest i = BagUnitRest b.home b.atoms rest i
BagRest bag.Behind b rest i = BagMoreRest b.home b.atoms rest i

-- after the first atom of a clause or of an outer rule
pub data HeadRest (place : ℕ) (label : Option Span) (head : RawAtom) (rest : List Symbol) (i : RawItem) : Type 0 where
  alone : DotRest (head_alone label head) rest i → HeadRest place label head rest i
  goals : (arrow : Span) (behind : List Symbol) → rest ≡ at word.Back arrow ∷ behind → GoalRest (record { label = label; head = head; goals = [] }) behind i → HeadRest place label head rest i
  side : LeftRest Stars None place label (elem.Atom false head ∷ []) rest i → HeadRest place label head rest i

-- after an atom
abbrev pub UseRest : Use → RawAtom → List Symbol → RawItem → Type 0
UseRest (use_.First place label) atom rest i = HeadRest place label atom rest i
UseRest (use_.Goal c) atom rest i = GoalsRest (record { label = c.label; head = c.head; goals = c.goals ++ atom ∷ [] }) rest i
UseRest (use_.Elem r keeps) atom rest i = RuleRest rule.Behind (with_elem r (elem.Atom keeps atom)) rest i
UseRest (use_.Bag b) atom rest i = BagMoreRest b.home (b.atoms ++ atom ∷ []) rest i

-- in an atom
pub record InAtomRest (a : AtomSoFar) (used : Use) (rest : List Symbol) (i : RawItem) : Type 0 where
  pub front : List Symbol
  pub behind : List Symbol
  pub atom : RawAtom
  pub cut : rest ≡ front ++ behind
  pub read : AtomRest a.levels a.name a.args a.nodes front atom
  pub after : UseRest used atom behind i

-- where nothing but names and places are kept: the item with what stands before
abbrev pub PlainRest : Plain → List Symbol → RawItem → Type 0
PlainRest plain.Ended rest i = Unit {0}
PlainRest plain.Top rest i = Item rest i
PlainRest (plain.Labelled a) rest i = (c : Span) → Item (at word.Name a ∷ at word.Colon c ∷ rest) i
PlainRest (plain.Blank place) rest i = (b : Span) → b.from ≡ place → Item (at word.Blank b ∷ rest) i
PlainRest (plain.StageWord place) rest i = (s : Span) → s.from ≡ place → Item (at word.Stage s ∷ rest) i
PlainRest (plain.StageNamed place a) rest i = (s : Span) → s.from ≡ place → Item (at word.Stage s ∷ at word.Name a ∷ rest) i
PlainRest (plain.StageEquals a) rest i = (s e : Span) → Item (at word.Stage s ∷ at word.Name a ∷ at word.Equals e ∷ rest) i
PlainRest plain.ContextWord rest i = (c : Span) → Item (at word.Context c ∷ rest) i
PlainRest (plain.ContextNamed a) rest i = (c : Span) → Item (at word.Context c ∷ at word.Name a ∷ rest) i
PlainRest (plain.ContextEquals a) rest i = (c e : Span) → Item (at word.Context c ∷ at word.Name a ∷ at word.Equals e ∷ rest) i
PlainRest plain.InteractiveWord rest i = (d : Span) → Item (at word.Interactive d ∷ rest) i
PlainRest (plain.TraceWord place) rest i = (d : Span) → d.from ≡ place → Item (at word.Trace d ∷ rest) i
PlainRest (plain.TraceLimit place limit) rest i = (d : Span) (m : Symbol) → d.from ≡ place → Limit m limit → Item (at word.Trace d ∷ m ∷ rest) i
PlainRest (plain.TraceStage place limit a) rest i = (d : Span) (m : Symbol) → d.from ≡ place → Limit m limit → Item (at word.Trace d ∷ m ∷ at word.Name a ∷ rest) i

-- what may stand after a state, up to the end of the item
abbrev pub Rest : State → List Symbol → RawItem → Type 0
Rest (state.Plain p) rest i = PlainRest p rest i
Rest (state.Names name args) rest i = Item (at word.Name name ∷ (names args ++ rest)) i
Rest (state.Declared name args) rest i = (c : Span) → Item (at word.Name name ∷ (names args ++ at word.Colon c ∷ rest)) i
Rest (state.Ending given) rest i = DotRest given rest i
Rest (state.Rules stage) rest i = RulesRest stage rest i
Rest (state.RuleNamed stage a) rest i = RulesRest stage (at word.Name a ∷ rest) i
Rest (state.Rule r place) rest i = RuleRest place r rest i
Rest (state.Goal c) rest i = GoalRest c rest i
Rest (state.Bag b place) rest i = BagRest place b rest i
Rest (state.Atom a used) rest i = InAtomRest a used rest i

-- what may stand after a step
abbrev pub NextRest : Next → List Symbol → RawItem → Type 0
NextRest (Go s) rest i = Rest s rest i
NextRest (ItemEnds given true) rest i = MayDot rest × (i ≡ given)
NextRest (ItemEnds given false) rest i = (rest ≡ []) × (i ≡ given)
NextRest Stop rest i = ⊥

-- Runs of the machine.

-- a run over symbols, from where a configuration is left
abbrev pub run_from : Option Config → List Symbol → Option Config
run_from at_ [] = at_
run_from None (symbol ∷ symbols) = run_from None symbols
run_from (Some c) (symbol ∷ symbols) = run_from (moved c.items (step c.state symbol.word symbol.at)) symbols

-- a run over symbols
abbrev pub run : List RawItem → State → List Symbol → Option Config
run items s symbols = run_from (Some (record { items = items; state = s })) symbols

-- one run after another
pub run_append : (at_ : Option Config) (front rest : List Symbol) → run_from at_ (front ++ rest) ≡ run_from (run_from at_ front) rest
run_append at_ [] rest = refl
run_append None (symbol ∷ front) rest = run_append None front rest
run_append (Some c) (symbol ∷ front) rest = run_append (moved c.items (step c.state symbol.word symbol.at)) front rest

-- nothing comes of a run that stopped
pub run_stopped : (symbols : List Symbol) → run_from None symbols ≡ None
run_stopped [] = refl
run_stopped (symbol ∷ symbols) = run_stopped symbols

-- an atom in reading, by its parts
abbrev pub atom_at : Span → ℕ → List RawNode → List Level → Use → State
atom_at name args nodes levels used = state.Atom (record { name = name; args = args; nodes = nodes; levels = levels }) used

-- where arguments are read: after the atom's name, or after a constructor
pub data TakesArgs : List Level → Type 0 where
  flat : TakesArgs []
  within : (index args : ℕ) (levels : List Level) → TakesArgs (Node index args ∷ levels)

-- the atom with so many more arguments
abbrev pub more_args_in : List Level → ℕ → Span → ℕ → List RawNode → Use → State
more_args_in [] more name args nodes used = atom_at name (args + more) nodes [] used
more_args_in (Node index count ∷ levels) more name args nodes used = atom_at name args nodes (Node index (count + more) ∷ levels) used
more_args_in (Empty ∷ levels) more name args nodes used = atom_at name args nodes (Whole ∷ levels) used
more_args_in (Whole ∷ levels) more name args nodes used = atom_at name args nodes (Whole ∷ levels) used

-- Atoms: their nodes, and the derivations that run to them.

-- The nodes of an atom: their arguments, and those of names.

-- past the end nothing changes
pub set_args_past : (nodes : List RawNode) (index args : ℕ) → length nodes ≤ index → nodes ≡ set_args nodes index args
set_args_past (n ∷ nodes) (suc index) args past = ap (λ ns. n ∷ ns) (set_args_past nodes index args (omega arith))
set_args_past nodes index args past = grind arith

-- at the node after others
pub set_args_at : (nodes others : List RawNode) (n : RawNode) (args : ℕ) → set_args (nodes ++ n ∷ others) (length nodes) args ≡ nodes ++ node n.kind n.at args ∷ others
set_args_at [] others n args = refl
set_args_at (m ∷ nodes) others n args = ap (λ ns. m ∷ ns) (set_args_at nodes others n args)

-- as a write of the node that was read
pub set_args_read : (nodes : List RawNode) (index args : ℕ) (n : RawNode) → slice_get nodes index ≡ Some n → set nodes index (record { at = n.at; kind = n.kind; args = args }) ≡ set_args nodes index args
set_args_read (m ∷ nodes) (suc index) args n is = ap (λ ns. m ∷ ns) (set_args_read nodes index args n is)
set_args_read nodes index args n is = grind arith

-- an atom that goes on
pub still_going : (growth : Growth) (a b : AtomSoFar) → grown_to growth a ≡ Going b → a ≡ b
still_going growth a b is = grind arith

names_more : (name : Span) (names : List Span) (more : Span) → leaf (atom_of_names name names) App more ≡ atom_of_names name (names ++ more ∷ [])
names_more name names more = λ j. record { name = name; args = sym (length_push names more) j; nodes = sym (map-append (λ a. node App a 0) names (more ∷ [])) j; levels = [] }

-- one more name as an argument
pub names_next : (atom : AtomSoFar) (name : Span) (items : List Span) (i : ℕ) (d : Span) → i < length items → atom ≡ atom_of_names name (take i items)
    → leaf atom App (get_or items i d) ≡ atom_of_names name (take (i + 1) items)
names_next atom name items i d in_bounds is = ap (λ a. leaf a App (get_or items i d)) is ∙ names_more name (take i items) (get_or items i d) ∙ ap (atom_of_names name) (sym (take_more items i d in_bounds))

-- What may stand after a symbol and an atom may, with the symbol, stand after the atom before it.

-- what completes an atom so far
abbrev pub RestOf : AtomSoFar → List Symbol → RawAtom → Type 0
RestOf a part atom = AtomRest a.levels a.name a.args a.nodes part atom

-- where a term ended
pub up_of : (levels : List Level) (name : Span) (args : ℕ) (nodes : List RawNode) (part : List Symbol) (atom : RawAtom)
    → RestOf (child_in levels (record { name = name; args = args; nodes = nodes; levels = levels })) part atom → Up levels name args nodes part atom
up_of levels name args nodes part atom h = grind arith

-- an argument before the others of an atom
flat_back : (first : List Symbol) (more : List RawNode) → Arg first more → (name : Span) (args : ℕ) (nodes : List RawNode) (part : List Symbol) (atom : RawAtom) → UpFlat name (args + 1) (nodes ++ more) part atom → UpFlat name args nodes (first ++ part) atom
flat_back first more h name args nodes part atom up = record {
  count = up.count + 1;
  more = more ++ up.more;
  read = more_args first part up.count more up.more h up.read;
  is = up.is ∙ (let e : args + 1 + up.count ≡ args + (up.count + 1) = omega arith in λ i. record { name = name; args = e i; nodes = append_assoc nodes more up.more i });
}

-- an argument before the others of a constructor
node_back : (After : List RawNode → ℕ → List Symbol → Type 0) (first : List Symbol) (more : List RawNode) → Arg first more → (nodes : List RawNode) (args : ℕ) (part : List Symbol) → UpArgs After (nodes ++ more) (args + 1) part → UpArgs After nodes args (first ++ part)
node_back After first more h nodes args part up = record {
  front = first ++ up.front;
  close = up.close;
  rest = up.rest;
  count = up.count + 1;
  more = more ++ up.more;
  cut = ap (λ p. first ++ p) up.cut ∙ sym (append_assoc first up.front (at word.Close up.close ∷ up.rest));
  read = more_args first up.front up.count more up.more h up.read;
  after = subst (λ n. After (nodes ++ (more ++ up.more)) n up.rest) (let e : args + 1 + up.count ≡ args + (up.count + 1) = omega arith in e) (subst (λ ns. After ns (args + 1 + up.count) up.rest) (append_assoc nodes more up.more) up.after);
}

-- an argument before the others
pub arg_back : (levels : List Level) → TakesArgs levels → (first : List Symbol) (more : List RawNode) → Arg first more → (name : Span) (args : ℕ) (nodes : List RawNode) (part : List Symbol) (atom : RawAtom) → Up levels name args (nodes ++ more) part atom → AtomRest levels name args nodes (first ++ part) atom
arg_back levels given first more h name args nodes part atom up = grind (arith, flat_back, node_back)

-- a parenthesis before a term
pub open_back : (levels : List Level) → TakesArgs levels → (x : Span) (name : Span) (args : ℕ) (nodes : List RawNode) (part : List Symbol) (atom : RawAtom) → AtomRest (Empty ∷ levels) name args nodes part atom → AtomRest levels name args nodes (at word.Open x ∷ part) atom
open_back levels takes x name args nodes part atom up =
    subst (λ p. AtomRest levels name args nodes (at word.Open x ∷ p) atom) (append_assoc up.front (at word.Close up.close ∷ []) up.rest ∙ sym up.cut)
    (arg_back levels takes (at word.Open x ∷ (up.front ++ at word.Close up.close ∷ [])) up.more (arg_term x up.close up.front up.more up.read) name args nodes up.rest atom up.after)

-- after a parenthesis: a constructor
pub head_back : (levels : List Level) (x : Span) (name : Span) (args : ℕ) (nodes : List RawNode) (part : List Symbol) (atom : RawAtom)
    → AtomRest (Node (length nodes) 0 ∷ levels) name args (nodes ++ node App x 0 ∷ []) part atom → AtomRest (Empty ∷ levels) name args nodes (at word.Name x ∷ part) atom
head_back levels x name args nodes part atom up = record {
  front = at word.Name x ∷ up.front;
  close = up.close;
  rest = up.rest;
  more = node App x up.count ∷ up.more;
  cut = ap (λ p. at word.Name x ∷ p) up.cut;
  read = applied x up.front up.count up.more up.read;
  after = subst (λ ns. Up levels name args ns up.rest atom)
      (ap (λ ns. set_args ns (length nodes) (0 + up.count)) (append_assoc nodes (node App x 0 ∷ []) up.more) ∙ set_args_at nodes up.more (node App x 0) (0 + up.count) ∙ ap (λ n. nodes ++ node App x n ∷ up.more) (let e : 0 + up.count ≡ up.count = omega arith in e))
      up.after;
}

-- a variable or a blank
pub one_back : (levels : List Level) (s : Symbol) (n : RawNode) → Term (s ∷ []) (n ∷ []) → (name : Span) (args : ℕ) (nodes : List RawNode) (part : List Symbol) (atom : RawAtom)
    → AtomRest (Whole ∷ levels) name args (nodes ++ n ∷ []) part atom → AtomRest (Empty ∷ levels) name args nodes (s ∷ part) atom
one_back levels s n h name args nodes part atom up = record { front = s ∷ []; close = up.close; rest = up.rest; more = n ∷ []; cut = ap (λ p. s ∷ p) up.cut; read = h; after = up.after }

-- a further parenthesis
pub again_back : (levels : List Level) (x : Span) (name : Span) (args : ℕ) (nodes : List RawNode) (part : List Symbol) (atom : RawAtom)
    → AtomRest (Empty ∷ Empty ∷ levels) name args nodes part atom → AtomRest (Empty ∷ levels) name args nodes (at word.Open x ∷ part) atom
again_back levels x name args nodes part atom up =
    let whole : UpWhole (λ rest. Up levels name args (nodes ++ up.more) rest atom) up.rest = up.after in
    record {
      front = at word.Open x ∷ (up.front ++ at word.Close up.close ∷ []);
      close = whole.close;
      rest = whole.rest;
      more = up.more;
      cut = ap (λ p. at word.Open x ∷ p) (up.cut ∙ ap (λ r. up.front ++ at word.Close up.close ∷ r) whole.cut ∙ sym (append_assoc up.front (at word.Close up.close ∷ []) (at word.Close whole.close ∷ whole.rest)));
      read = nested x up.close up.front up.more up.read;
      after = whole.after;
    }

-- a parenthesis that closes round a constructor
pub closed_back : (levels : List Level) (index count : ℕ) (x : Span) (name : Span) (args : ℕ) (nodes : List RawNode) (part : List Symbol) (atom : RawAtom)
    → Up levels name args (set_args nodes index count) part atom → AtomRest (Node index count ∷ levels) name args nodes (at word.Close x ∷ part) atom
closed_back levels index count x name args nodes part atom up = record {
  front = [];
  close = x;
  rest = part;
  count = 0;
  more = [];
  cut = refl;
  read = no_args;
  after = subst (λ n. Up levels name args (set_args (nodes ++ []) index n) part atom) (let e : count ≡ count + 0 = omega arith in e) (subst (λ ns. Up levels name args (set_args ns index count) part atom) (sym (append-nil nodes)) up);
}

-- and round a whole term
pub whole_back : (levels : List Level) (x : Span) (name : Span) (args : ℕ) (nodes : List RawNode) (part : List Symbol) (atom : RawAtom)
    → Up levels name args nodes part atom → AtomRest (Whole ∷ levels) name args nodes (at word.Close x ∷ part) atom
whole_back levels x name args nodes part atom up = record { close = x; rest = part; cut = refl; after = up }

-- an atom may end where arguments are read
pub flat_ends : (name : Span) (args : ℕ) (nodes : List RawNode) → AtomRest [] name args nodes [] (record { name = name; args = args; nodes = nodes })
flat_ends name args nodes = record { count = 0; more = []; read = no_args; is = let e : args ≡ args + 0 = omega arith in λ i. record { name = name; args = e i; nodes = sym (append-nil nodes) i } }

-- A derivation of an atom runs to the atom.

-- the atom after a term that ended
abbrev pub behind_term : Span → ℕ → List RawNode → List Level → Use → State
behind_term name args nodes levels used = state.Atom (child_in levels (record { name = name; args = args; nodes = nodes; levels = levels })) used

mutual
  -- an argument
  pub arg_runs : (symbols : List Symbol) (more : List RawNode) → Arg symbols more
      → (items : List RawItem) (name : Span) (args : ℕ) (nodes : List RawNode) (levels : List Level) (used : Use) (rest : List Symbol) → TakesArgs levels
      → run items (atom_at name args nodes levels used) (symbols ++ rest) ≡ run items (behind_term name args (nodes ++ more) levels used) rest
  arg_runs symbols more (arg_term open_ close inner more' term) items name args nodes levels used rest flat = rw append_assoc (term_runs inner more' term items name args nodes [] used close rest)
  arg_runs symbols more (arg_term open_ close inner more' term) items name args nodes levels used rest (within index count lower) = rw append_assoc (term_runs inner more' term items name args nodes (Node index count ∷ lower) used close rest)
  arg_runs symbols more given items name args nodes levels used rest flat = grind arith
  arg_runs symbols more given items name args nodes levels used rest (within index count lower) = grind arith

  -- a term after its parenthesis, with the one that closes it
  pub term_runs : (symbols : List Symbol) (more : List RawNode) → Term symbols more
      → (items : List RawItem) (name : Span) (args : ℕ) (nodes : List RawNode) (levels : List Level) (used : Use) (close : Span) (rest : List Symbol)
      → run items (atom_at name args nodes (Empty ∷ levels) used) (symbols ++ at word.Close close ∷ rest) ≡ run items (behind_term name args (nodes ++ more) levels used) rest
  term_runs symbols more (applied a inner count others args') items name args nodes levels used close rest =
      grind (arith, append_assoc nodes (node App a 0 ∷ []) others, set_args_at nodes others (node App a 0) count, args_run inner count others args' items name args (nodes ++ node App a 0 ∷ []) (Node (length nodes) 0 ∷ levels) used (at word.Close close ∷ rest) (within (length nodes) 0 levels))
  term_runs symbols more (variable a) items name args nodes levels used close rest = refl
  term_runs symbols more (blank a) items name args nodes levels used close rest = refl
  term_runs symbols more (nested open_ close' inner more' term) items name args nodes levels used close rest =
      rw append_assoc (term_runs inner more' term items name args nodes (Empty ∷ levels) used close' (at word.Close close ∷ rest))

  -- arguments
  pub args_run : (symbols : List Symbol) (count : ℕ) (more : List RawNode) → Args symbols count more
      → (items : List RawItem) (name : Span) (args : ℕ) (nodes : List RawNode) (levels : List Level) (used : Use) (rest : List Symbol) → TakesArgs levels
      → run items (atom_at name args nodes levels used) (symbols ++ rest) ≡ run items (more_args_in levels count name args (nodes ++ more) used) rest
  args_run symbols count more no_args items name args nodes levels used rest flat = grind (arith, append-nil nodes)
  args_run symbols count more no_args items name args nodes levels used rest (within index count' lower) = grind (arith, append-nil nodes)
  args_run symbols count more (more_args first others n ms ms' one args') items name args nodes levels used rest flat =
      grind (arith, append_assoc, arg_runs first ms one items name args nodes [] used (others ++ rest) flat, args_run others n ms' args' items name (args + 1) (nodes ++ ms) [] used rest flat)
  args_run symbols count more (more_args first others n ms ms' one args') items name args nodes levels used rest (within index count' lower) =
      grind (arith, append_assoc, arg_runs first ms one items name args nodes (Node index count' ∷ lower) used (others ++ rest) (within index count' lower), args_run others n ms' args' items name args (nodes ++ ms) (Node index (count' + 1) ∷ lower) used rest (within index (count' + 1) lower))

-- what may stand after an atom
abbrev pub StandsBehind : Word → Type 0
StandsBehind mark = (mark ≡ word.Dot) ⊎ (mark ≡ word.Back) ⊎ (mark ≡ word.Star) ⊎ (mark ≡ word.Lolli)

-- the nodes of names
abbrev pub name_nodes : List Span → List RawNode
name_nodes names = map (λ a. node App a 0) names

-- names, and then other arguments: the first atom of a clause or of an outer rule
pub names_run : (symbols : List Symbol) (count : ℕ) (more : List RawNode) → Args symbols count more
    → (items : List RawItem) (name : Span) (names : List Span) (mark : Word) (place : Span) (rest : List Symbol) → StandsBehind mark
    → run items (state.Names name names) (symbols ++ at mark place ∷ rest) ≡ run items (atom_at name (length names + count) (name_nodes names ++ more) [] (use_.First name.from None)) (at mark place ∷ rest)
names_run symbols count more no_args items name names mark place rest stands = grind (arith, append-nil (name_nodes names))
names_run symbols count more (more_args first others n ms ms' (arg_name a) args') items name names mark place rest stands =
    grind (arith, length-append names (a ∷ []), map-append (λ b. node App b 0) names (a ∷ []), append_assoc (name_nodes names) (node App a 0 ∷ []) ms', names_run others n ms' args' items name (names ++ a ∷ []) mark place rest stands)
names_run symbols count more (more_args first others n ms ms' (arg_variable a) args') items name names mark place rest stands =
    args_run _ _ _ (more_args first others n ms ms' (arg_variable a) args') items name (length names) (name_nodes names) [] (use_.First name.from None) (at mark place ∷ rest) flat
names_run symbols count more (more_args first others n ms ms' (arg_blank a) args') items name names mark place rest stands =
    args_run _ _ _ (more_args first others n ms ms' (arg_blank a) args') items name (length names) (name_nodes names) [] (use_.First name.from None) (at mark place ∷ rest) flat
names_run symbols count more (more_args first others n ms ms' (arg_term open_ close inner ms'' term) args') items name names mark place rest stands =
    args_run _ _ _ (more_args first others n ms ms' (arg_term open_ close inner ms'' term) args') items name (length names) (name_nodes names) [] (use_.First name.from None) (at mark place ∷ rest) flat
