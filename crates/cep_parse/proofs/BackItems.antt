-- Derivations of rules, goals and bags run to what they give.
use Rattle.std.proofs.Common.{◌≡◌, ℕ, ◌+◌, true, false, List, [], ◌∷◌, ◌++◌, Option, None, Some, is_none, refl, sym, ap, subst, ◌∙◌, arith, append_assoc, Bool, length, suc, map, ◌⊎◌, inl, inr}
use Rattle.std.proofs.lemmas.List.{append-nil}
use Rattle.cep_parse.specs.declared.raw.Span.{Span}
use Rattle.cep_parse.specs.declared.raw.RawAtom.{RawAtom}
use Rattle.cep_parse.specs.declared.raw.RawElem.{RawElem}
use Rattle.cep_parse.specs.declared.raw.RawItem.{RawItem}
use Rattle.cep_parse.specs.declared.raw.RawRule.{RawRule}
use Rattle.cep_parse.specs.declared.symbol.Symbol.{Symbol}
use Rattle.cep_parse.specs.declared.state.RulePlace.{RulePlace}
use Rattle.cep_parse.specs.declared.state.RuleSoFar.{RuleSoFar}
use Rattle.cep_parse.specs.declared.state.StageSoFar.{StageSoFar}
use Rattle.cep_parse.specs.Grammar.{at, Atom, Side, Stars, Elems, Elem, Args, Sides, Rules, BagElem, node, IsOneOf, Arg, Item, names, Limit, place_of, Label}
use Rattle.cep_parse.specs.declared.symbol.Word.{Word}
use Rattle.cep_parse.specs.Grammar.Atom.{atom}
use Rattle.cep_parse.specs.Grammar.Elem.{unit as elem_unit, atom as elem_atom, kept, qui, stage as elem_stage}
use Rattle.cep_parse.specs.Grammar.Stars.{none as no_stars, more as more_stars}
use Rattle.cep_parse.specs.Grammar.Elems.{elems}
use Rattle.cep_parse.specs.Machine.{atom_begun, before_elem, behind_dollar, behind_in, behind_left, behind_open, behind_right, behind_stage, rule_ended, step_rule, set_args, bag_behind, bag_ended, bag_first, bag_next, bag_unit, before_goal, behind_atom, behind_goal, behind_head, child_in, rule_named, step_atom, step_bag, step_ending, step_rules, with_goal, head_alone, with_elem, atom_of_names, begin, behind_blank, context_equals, context_begun, context_word, interactive_word, labelled, names_begun, stage_equals, stage_begun, stage_word, step, step_declared, step_names, step_plain, trace_limit, trace_stage, trace_word}
use Rattle.cep_parse.proofs.BackAtoms.{AtomRest, RuleEnd, left_of, right_of, LeftRest, RightRest, SideRest, KeptRest, StageRest, RuleRest, InAtomRest, NextRest, moved, run, run_from, atom_at, args_run, DotRest, RulesRest, GoalsRest, GoalRest, BagEnd, BagMoreRest, BagElemRest, BagFirstRest, BagUnitRest, BagRest, HeadRest, UseRest, Up, PlainRest, Rest, TakesArgs, RestOf, up_of, arg_back, open_back, head_back, one_back, again_back, closed_back, whole_back, flat_ends}
use Rattle.cep_parse.specs.declared.raw.RawNode.{RawNode}
use Rattle.cep_parse.specs.declared.state.State.{State}
use Rattle.cep_parse.specs.declared.state.Use.{Use}
use Rattle.cep_parse.specs.Grammar.Sides.{sides}
use Rattle.cep_parse.specs.Grammar.Rules.{none as no_rules, more as more_rules}
use Rattle.cep_parse.proofs.BackAtoms.TakesArgs.{flat, within}
use Rattle.cep_parse.specs.declared.levels.Level.{Level}
use Rattle.cep_parse.specs.declared.levels.Level.TheVariants.{Empty, Node, Whole}
use Rattle.cep_parse.specs.declared.state.BagHome.{BagHome}
use Rattle.cep_parse.specs.declared.state.BagPlace.{BagPlace}
use Rattle.cep_parse.specs.declared.state.BagSoFar.{BagSoFar}
use Rattle.cep_parse.specs.declared.state.ClauseSoFar.{ClauseSoFar}
use Rattle.cep_parse.specs.declared.raw.RawKind.TheVariants.{Var, App}
use Rattle.cep_parse.specs.Grammar.Arg.{arg_name, arg_variable, arg_blank}
use Rattle.cep_parse.specs.Grammar.Term.{variable, blank, applied}
use Rattle.cep_parse.specs.Grammar.Goals.{none as no_goals, more as more_goals}
use Rattle.cep_parse.specs.Grammar.IsOneOf.{one, other}
use Rattle.cep_parse.specs.Grammar.BagElem.{unit as bag_unit_elem, atom as bag_atom_elem}
use Rattle.cep_parse.specs.Grammar.BagMore.{none as no_atoms, more as more_atoms}
use Rattle.cep_parse.specs.Grammar.Bag.{empty as empty_bag, some as some_bag}
use Rattle.cep_parse.proofs.BackAtoms.HeadRest.{alone, goals, side as with_side}
use Rattle.cep_base.specs.declared.kind.PredKind.TheVariants.{Linear, Back, Fact}
use Rattle.cep_parse.specs.declared.raw.RawStart.TheVariants.{Listed, Named}
use Rattle.cep_parse.specs.declared.state.AtomSoFar.{AtomSoFar}
use Rattle.cep_parse.specs.declared.state.Plain.{Plain}
use Rattle.cep_parse.specs.Grammar.Args.{no_args, more_args}
use Rattle.cep_parse.specs.Grammar.MayDot.{none as no_dot}
use Rattle.cep_parse.specs.Grammar.Limit.{blank as blank_limit, number as number_limit}
use Rattle.cep_parse.specs.Grammar.Item.{sort, pred, unnamed, stage as stage_item, context, interactive, trace_named, back as back_pred, fact as fact_pred, colon as item_colon, bare_clause, labelled as labelled_item, clause, outer as item_outer, trace_listed}
use Rattle.std.proofs.lemmas.Bool.{ne_eqb}
use Rattle.cep_parse.specs.Grammar.Label.{none as no_label, named as a_label}
use Rattle.cep_parse.specs.declared.raw.RawElem.TheVariants as elem
use Rattle.cep_parse.specs.declared.symbol.Word.TheVariants as word
use Rattle.cep_parse.specs.declared.state.RulePlace.TheVariants as rule
use Rattle.cep_parse.specs.declared.state.Use.TheVariants as use_
use Rattle.cep_parse.specs.declared.state.State.TheVariants as state
use Rattle.cep_parse.specs.declared.raw.RawItem.TheVariants as item
use Rattle.cep_parse.specs.declared.state.BagHome.TheVariants as home
use Rattle.cep_parse.specs.declared.state.BagPlace.TheVariants as bag
use Rattle.cep_parse.specs.declared.raw.RawKind.TheVariants as kind
use Rattle.cep_parse.specs.declared.state.Plain.TheVariants as plain

-- The same for rules, goals and bags.

-- the atom of a name and what completes it
pub whole_atom_of : (x : Span) (front : List Symbol) (a : RawAtom) → AtomRest [] x 0 [] front a → Atom (at word.Name x ∷ front) a
whole_atom_of x front a up = subst (λ b. Atom (at word.Name x ∷ front) b) (sym (up.is ∙ (let e : 0 + up.count ≡ up.count = omega arith in λ i. record { name = x; args = e i; nodes = up.more }))) (atom x front up.count up.more up.read)

-- an element before the others, on the left and on the right
pub elem_back_left : (stage : Option StageSoFar) (first : List Symbol) (fs : List RawElem) → Elem (left_of stage) first fs → (place : ℕ) (label : Option Span) (left : List RawElem) (behind : List Symbol) (i : RawItem)
    → LeftRest Stars stage place label (left ++ fs) behind i → LeftRest Elems stage place label left (first ++ behind) i
elem_back_left stage first fs h place label left behind i up = record {
  front = first ++ up.front;
  arrow = up.arrow;
  after = up.after;
  dot = up.dot;
  behind = up.behind;
  more = fs ++ up.more;
  right = up.right;
  cut = ap (λ b. first ++ b) up.cut ∙ sym (append_assoc first up.front _);
  read = elems (left_of stage) first up.front fs up.more h up.read;
  reads = up.reads;
  end = subst (λ l. RuleEnd stage (record { at = place; label = label; left = l; right = up.right }) up.behind i) (append_assoc left fs up.more) up.end;
}

elem_back_right : (stage : Option StageSoFar) (first : List Symbol) (fs : List RawElem) → Elem (right_of stage) first fs → (place : ℕ) (label : Option Span) (left right : List RawElem) (behind : List Symbol) (i : RawItem)
    → RightRest Stars stage place label left (right ++ fs) behind i → RightRest Elems stage place label left right (first ++ behind) i
elem_back_right stage first fs h place label left right behind i up = record {
  front = first ++ up.front;
  dot = up.dot;
  behind = up.behind;
  more = fs ++ up.more;
  cut = ap (λ b. first ++ b) up.cut ∙ sym (append_assoc first up.front _);
  read = elems (right_of stage) first up.front fs up.more h up.read;
  end = subst (λ r. RuleEnd stage (record { at = place; label = label; left = left; right = r }) up.behind i) (append_assoc right fs up.more) up.end;
}

-- an atom before the elements after it
atom_back : (right : Option (List RawElem)) (stage : Option StageSoFar) (place : ℕ) (label : Option Span) (left : List RawElem) (x : Span) (rest : List Symbol) (i : RawItem)
    → InAtomRest (atom_begun x) (use_.Elem (record { stage = stage; at = place; label = label; left = left; right = right }) false) rest i → SideRest Elems right stage place label left (at word.Name x ∷ rest) i
atom_back None stage place label left x rest i up =
    rw up.cut (elem_back_left stage (at word.Name x ∷ up.front) (elem.Atom false up.atom ∷ []) (elem_atom (left_of stage) _ up.atom (whole_atom_of x up.front up.atom up.read)) place label left up.behind i up.after)
atom_back (Some right) stage place label left x rest i up =
    rw up.cut (elem_back_right stage (at word.Name x ∷ up.front) (elem.Atom false up.atom ∷ []) (elem_atom (right_of stage) _ up.atom (whole_atom_of x up.front up.atom up.read)) place label left right up.behind i up.after)

-- before an element
pub before_elem_back : (right : Option (List RawElem)) (stage : Option StageSoFar) (place : ℕ) (label : Option Span) (left : List RawElem) (w : Word) (x : Span) (rest : List Symbol) (i : RawItem)
    → NextRest (before_elem (record { stage = stage; at = place; label = label; left = left; right = right }) w x) rest i → SideRest Elems right stage place label left (at w x ∷ rest) i
before_elem_back right stage place label left word.Name x rest i h = atom_back right stage place label left x rest i h
before_elem_back None stage place label left word.Dollar x rest i h = h x
before_elem_back right stage place label left word.Open x rest i h = h x
before_elem_back None None place label left word.Qui x rest i h = elem_back_left None (at word.Qui x ∷ []) (elem.Qui x ∷ []) (qui x) place label left rest i h
before_elem_back right None place label left word.Stage x rest i h = h x
before_elem_back right stage place label left w x rest i h = grind arith

-- after `$`
kept_back : (right : Option (List RawElem)) (stage : Option StageSoFar) (place : ℕ) (label : Option Span) (left : List RawElem) (w : Word) (x : Span) (rest : List Symbol) (i : RawItem)
    → NextRest (behind_dollar (record { stage = stage; at = place; label = label; left = left; right = right }) w x) rest i → KeptRest right stage place label left (at w x ∷ rest) i
kept_back None stage place label left word.Name x rest i up = λ y.
    rw up.cut (elem_back_left stage (at word.Dollar y ∷ at word.Name x ∷ up.front) (elem.Atom true up.atom ∷ []) (kept (is_none stage) y _ up.atom (whole_atom_of x up.front up.atom up.read)) place label left up.behind i up.after)
kept_back right stage place label left w x rest i h = grind arith

-- after `(`
unit_back : (right : Option (List RawElem)) (stage : Option StageSoFar) (place : ℕ) (label : Option Span) (left : List RawElem) (w : Word) (x : Span) (rest : List Symbol) (i : RawItem)
    → NextRest (behind_open (record { stage = stage; at = place; label = label; left = left; right = right }) w) rest i → (y : Span) → SideRest Elems right stage place label left (at word.Open y ∷ at w x ∷ rest) i
unit_back None stage place label left word.Close x rest i h y = elem_back_left stage (at word.Open y ∷ at word.Close x ∷ []) [] (elem_unit (left_of stage) y x) place label left rest i (subst (λ l. LeftRest Stars stage place label l rest i) (sym (append-nil left)) h)
unit_back (Some right) stage place label left word.Close x rest i h y = elem_back_right stage (at word.Open y ∷ at word.Close x ∷ []) [] (elem_unit (right_of stage) y x) place label left right rest i (subst (λ r. RightRest Stars stage place label left r rest i) (sym (append-nil right)) h)
unit_back right stage place label left _ x rest i h y = absurd h

-- after `stage`
stage_back : (stage : Option StageSoFar) (right : Option (List RawElem)) (place : ℕ) (label : Option Span) (left : List RawElem) (w : Word) (x : Span) (rest : List Symbol) (i : RawItem)
    → NextRest (behind_stage (record { stage = stage; at = place; label = label; left = left; right = right }) w x) rest i → StageRest stage right place label left (at w x ∷ rest) i
stage_back None None place label left word.Name x rest i h = λ y. elem_back_left None (at word.Stage y ∷ at word.Name x ∷ []) (elem.Stage x ∷ []) (elem_stage false y x) place label left rest i h
stage_back None (Some right) place label left word.Name x rest i h = λ y. elem_back_right None (at word.Stage y ∷ at word.Name x ∷ []) (elem.Stage x ∷ []) (elem_stage true y x) place label left right rest i h
stage_back stage right place label left w x rest i h = grind arith

-- `*` before elements
star_elems : (side : Side) (x : Span) (front : List Symbol) (more : List RawElem) → Elems side front more → Stars side (at word.Star x ∷ front) more
star_elems side x front more (elems side' first others fs gs h stars) = more_stars side x first others fs gs h stars

-- after an element on the left
pub behind_left_back : (stage : Option StageSoFar) (place : ℕ) (label : Option Span) (left : List RawElem) (w : Word) (x : Span) (rest : List Symbol) (i : RawItem)
    → NextRest (behind_left (record { stage = stage; at = place; label = label; left = left; right = None }) w) rest i → LeftRest Stars stage place label left (at w x ∷ rest) i
behind_left_back stage place label left word.Star x rest i up = record {
  front = at word.Star x ∷ up.front;
  arrow = up.arrow;
  after = up.after;
  dot = up.dot;
  behind = up.behind;
  more = up.more;
  right = up.right;
  cut = ap (λ r. at word.Star x ∷ r) up.cut;
  read = star_elems (left_of stage) x up.front up.more up.read;
  reads = up.reads;
  end = up.end;
}
behind_left_back stage place label left word.Lolli x rest i up = record {
  front = [];
  arrow = x;
  after = up.front;
  dot = up.dot;
  behind = up.behind;
  more = [];
  right = up.more;
  cut = ap (λ r. at word.Lolli x ∷ r) up.cut;
  read = no_stars (left_of stage);
  reads = up.read;
  end = subst (λ l. RuleEnd stage (record { at = place; label = label; left = l; right = up.more }) up.behind i) (sym (append-nil left)) up.end;
}
behind_left_back stage place label left _ x rest i h = absurd h

-- after an element on the right
behind_right_back : (stage : Option StageSoFar) (place : ℕ) (label : Option Span) (left right : List RawElem) (w : Word) (x : Span) (rest : List Symbol) (i : RawItem)
    → NextRest (behind_right (record { stage = stage; at = place; label = label; left = left; right = Some right }) right w) rest i → RightRest Stars stage place label left right (at w x ∷ rest) i
behind_right_back stage place label left right word.Star x rest i up = record {
  front = at word.Star x ∷ up.front;
  dot = up.dot;
  behind = up.behind;
  more = up.more;
  cut = ap (λ r. at word.Star x ∷ r) up.cut;
  read = star_elems (right_of stage) x up.front up.more up.read;
  end = up.end;
}
behind_right_back stage place label left right word.Dot x rest i h = record {
  front = [];
  dot = x;
  behind = rest;
  more = [];
  cut = refl;
  read = no_stars (right_of stage);
  end = subst (λ r. RuleEnd stage (record { at = place; label = label; left = left; right = r }) rest i) (sym (append-nil right)) (rule_end_of stage _ rest i h);
} where
  rule_end_of : (stage : Option StageSoFar) (r : RawRule) (rest : List Symbol) (i : RawItem) → NextRest (rule_ended stage r) rest i → RuleEnd stage r rest i
  rule_end_of None r rest i h = h
  rule_end_of (Some stage) r rest i h = h
behind_right_back stage place label left right _ x rest i h = absurd h

-- after an element
pub behind_elem_back : (right : Option (List RawElem)) (stage : Option StageSoFar) (place : ℕ) (label : Option Span) (left : List RawElem) (w : Word) (x : Span) (rest : List Symbol) (i : RawItem)
    → NextRest (behind_in right (record { stage = stage; at = place; label = label; left = left; right = right }) w) rest i → SideRest Stars right stage place label left (at w x ∷ rest) i
behind_elem_back right stage place label left w x rest i h = grind (arith, behind_left_back, behind_right_back)

-- in a rule
pub rule_back : (r : RuleSoFar) (place : RulePlace) (w : Word) (x : Span) (rest : List Symbol) (i : RawItem) → NextRest (step_rule r place w x) rest i → RuleRest place r (at w x ∷ rest) i
rule_back r place w x rest i h = grind (arith, before_elem_back, kept_back, unit_back, stage_back, behind_elem_back)

-- A derivation of a rule's side, of goals or of a bag runs to what it gives.

-- the arguments of an atom whose name was read
pub atom_runs : (symbols : List Symbol) (count : ℕ) (nodes : List RawNode) → Args symbols count nodes → (items : List RawItem) (name : Span) (used : Use) (rest : List Symbol)
    → run items (state.Atom (atom_begun name) used) (symbols ++ rest) ≡ run items (atom_at name count nodes [] used) rest
atom_runs symbols count nodes args items name used rest = args_run symbols count nodes args items name 0 [] [] used rest flat ∙ (let e : 0 + count ≡ count = omega arith in λ i. run items (atom_at name (e i) nodes [] used) rest)

-- the parts of a rule, regrouped
pub regroup : (first others : List Symbol) (arrow : Symbol) (after : List Symbol) (dot_ : Symbol) (rest : List Symbol)
    → ((first ++ others) ++ arrow ∷ (after ++ dot_ ∷ [])) ++ rest ≡ first ++ (others ++ arrow ∷ (after ++ dot_ ∷ rest))
regroup first others arrow after dot_ rest = simp (append_assoc)

-- a rule in reading, by its parts
abbrev pub rule_at : Option StageSoFar → ℕ → Option Span → List RawElem → Option (List RawElem) → RulePlace → State
rule_at stage place label left right where_ = state.Rule (record { stage = stage; at = place; label = label; left = left; right = right }) where_

-- what may stand after an element
abbrev pub EndsElem : Word → Type 0
EndsElem mark = (mark ≡ word.Star) ⊎ (mark ≡ word.Lolli) ⊎ (mark ≡ word.Dot)

-- after an atom on the left
left_atom_ends : (items : List RawItem) (stage : Option StageSoFar) (place : ℕ) (label : Option Span) (left : List RawElem) (keeps : Bool) (name : Span) (count : ℕ) (nodes : List RawNode) (mark : Word) (x : Span) (rest : List Symbol) → EndsElem mark
    → run items (atom_at name count nodes [] (use_.Elem (record { stage = stage; at = place; label = label; left = left; right = None }) keeps)) (at mark x ∷ rest)
    ≡ run items (rule_at stage place label (left ++ elem.Atom keeps (record { name = name; args = count; nodes = nodes }) ∷ []) None rule.Behind) (at mark x ∷ rest)
left_atom_ends items stage place label left keeps name count nodes mark x rest ends = grind arith

-- and on the right
right_atom_ends : (items : List RawItem) (stage : Option StageSoFar) (place : ℕ) (label : Option Span) (left right : List RawElem) (name : Span) (count : ℕ) (nodes : List RawNode) (mark : Word) (x : Span) (rest : List Symbol) → EndsElem mark
    → run items (atom_at name count nodes [] (use_.Elem (record { stage = stage; at = place; label = label; left = left; right = Some right }) false)) (at mark x ∷ rest)
    ≡ run items (rule_at stage place label left (Some (right ++ elem.Atom false (record { name = name; args = count; nodes = nodes }) ∷ [])) rule.Behind) (at mark x ∷ rest)
right_atom_ends items stage place label left right name count nodes mark x rest ends = grind arith

-- an element on the left
pub left_elem_runs : (outer : Bool) (symbols : List Symbol) (es : List RawElem) → Elem (record { outer = outer; right = false }) symbols es
    → (items : List RawItem) (stage : Option StageSoFar) (place : ℕ) (label : Option Span) (left : List RawElem) (mark : Word) (x : Span) (rest : List Symbol) → is_none stage ≡ outer → EndsElem mark
    → run items (rule_at stage place label left None rule.Before) (symbols ++ at mark x ∷ rest) ≡ run items (rule_at stage place label (left ++ es) None rule.Behind) (at mark x ∷ rest)
left_elem_runs outer symbols es (elem_atom side inner a (atom name args count nodes h)) items stage place label left mark x rest is ends =
    atom_runs args count nodes h items name (use_.Elem (record { stage = stage; at = place; label = label; left = left; right = None }) false) (at mark x ∷ rest) ∙ left_atom_ends items stage place label left false name count nodes mark x rest ends
left_elem_runs outer symbols es (kept outer' dollar inner a (atom name args count nodes h)) items stage place label left mark x rest is ends =
    atom_runs args count nodes h items name (use_.Elem (record { stage = stage; at = place; label = label; left = left; right = None }) true) (at mark x ∷ rest) ∙ left_atom_ends items stage place label left true name count nodes mark x rest ends
left_elem_runs outer symbols es given items stage place label left mark x rest is ends = grind (arith, append-nil)

-- an element on the right
pub right_elem_runs : (outer : Bool) (symbols : List Symbol) (es : List RawElem) → Elem (record { outer = outer; right = true }) symbols es
    → (items : List RawItem) (stage : Option StageSoFar) (place : ℕ) (label : Option Span) (left right : List RawElem) (mark : Word) (x : Span) (rest : List Symbol) → is_none stage ≡ outer → EndsElem mark
    → run items (rule_at stage place label left (Some right) rule.Before) (symbols ++ at mark x ∷ rest) ≡ run items (rule_at stage place label left (Some (right ++ es)) rule.Behind) (at mark x ∷ rest)
right_elem_runs outer symbols es (elem_atom side inner a (atom name args count nodes h)) items stage place label left right mark x rest is ends =
    atom_runs args count nodes h items name (use_.Elem (record { stage = stage; at = place; label = label; left = left; right = Some right }) false) (at mark x ∷ rest) ∙ right_atom_ends items stage place label left right name count nodes mark x rest ends
right_elem_runs outer symbols es given items stage place label left right mark x rest is ends = grind (arith, append-nil)

-- what elements and their ending begin with ends the element before them
pub record EndsSo (symbols : List Symbol) : Type 0 where
  pub mark : Word
  pub x : Span
  pub rest : List Symbol
  pub is : symbols ≡ at mark x ∷ rest
  pub ends : EndsElem mark

pub stars_end : (side : Side) (symbols : List Symbol) (es : List RawElem) → Stars side symbols es → (mark : Word) (x : Span) (rest : List Symbol) → EndsElem mark → EndsSo (symbols ++ at mark x ∷ rest)
stars_end side symbols es (no_stars side') mark x rest ends = record { mark = mark; x = x; rest = rest; is = refl; ends = ends }
stars_end side symbols es (more_stars side' s first others fs gs one' stars) mark x rest ends = record { mark = word.Star; x = s; rest = (first ++ others) ++ at mark x ∷ rest; is = refl; ends = inl refl }

-- the elements after one on the left
pub left_stars_run : (outer : Bool) (symbols : List Symbol) (es : List RawElem) → Stars (record { outer = outer; right = false }) symbols es
    → (items : List RawItem) (stage : Option StageSoFar) (place : ℕ) (label : Option Span) (left : List RawElem) (mark : Word) (x : Span) (rest : List Symbol) → is_none stage ≡ outer → EndsElem mark
    → run items (rule_at stage place label left None rule.Behind) (symbols ++ at mark x ∷ rest) ≡ run items (rule_at stage place label (left ++ es) None rule.Behind) (at mark x ∷ rest)
left_stars_run outer symbols es (no_stars side) items stage place label left mark x rest is ends = rw append-nil refl
left_stars_run outer symbols es (more_stars side s first others fs gs one' stars) items stage place label left mark x rest is ends =
    let next = stars_end side others gs stars mark x rest ends in
    grind (arith, append_assoc, next.is, left_elem_runs outer first fs one' items stage place label left next.mark next.x next.rest is next.ends, left_stars_run outer others gs stars items stage place label (left ++ fs) mark x rest is ends)

-- the elements after one on the right
pub right_stars_run : (outer : Bool) (symbols : List Symbol) (es : List RawElem) → Stars (record { outer = outer; right = true }) symbols es
    → (items : List RawItem) (stage : Option StageSoFar) (place : ℕ) (label : Option Span) (left right : List RawElem) (mark : Word) (x : Span) (rest : List Symbol) → is_none stage ≡ outer → EndsElem mark
    → run items (rule_at stage place label left (Some right) rule.Behind) (symbols ++ at mark x ∷ rest) ≡ run items (rule_at stage place label left (Some (right ++ es)) rule.Behind) (at mark x ∷ rest)
right_stars_run outer symbols es (no_stars side) items stage place label left right mark x rest is ends = rw append-nil refl
right_stars_run outer symbols es (more_stars side s first others fs gs one' stars) items stage place label left right mark x rest is ends =
    let next = stars_end side others gs stars mark x rest ends in
    grind (arith, append_assoc, next.is, right_elem_runs outer first fs one' items stage place label left right next.mark next.x next.rest is next.ends, right_stars_run outer others gs stars items stage place label left (right ++ fs) mark x rest is ends)

-- the whole right side, with its dot
pub right_side_runs : (outer : Bool) (symbols : List Symbol) (es : List RawElem) → Elems (record { outer = outer; right = true }) symbols es
    → (items : List RawItem) (stage : Option StageSoFar) (place : ℕ) (label : Option Span) (left : List RawElem) (x : Span) (rest : List Symbol) → is_none stage ≡ outer
    → run items (rule_at stage place label left (Some []) rule.Before) (symbols ++ at word.Dot x ∷ rest) ≡ run_from (moved items (rule_ended stage (record { at = place; label = label; left = left; right = es }))) rest
right_side_runs outer symbols es (elems side first others fs gs one' stars) items stage place label left x rest is =
    let next = stars_end side others gs stars word.Dot x rest (inr (inr refl)) in
    grind (arith, append_assoc, next.is, right_elem_runs outer first fs one' items stage place label left [] next.mark next.x next.rest is next.ends, right_stars_run outer others gs stars items stage place label left fs word.Dot x rest is (inr (inr refl)))

-- the sides of a rule whose first element was read
pub sides_run_behind : (outer : Bool) (stars after : List Symbol) (es right : List RawElem) → Stars (record { outer = outer; right = false }) stars es → Elems (record { outer = outer; right = true }) after right
    → (items : List RawItem) (stage : Option StageSoFar) (place : ℕ) (label : Option Span) (left : List RawElem) (arrow x : Span) (rest : List Symbol) → is_none stage ≡ outer
    → run items (rule_at stage place label left None rule.Behind) (stars ++ at word.Lolli arrow ∷ (after ++ at word.Dot x ∷ rest)) ≡ run_from (moved items (rule_ended stage (record { at = place; label = label; left = left ++ es; right = right }))) rest
sides_run_behind outer stars after es right h g items stage place label left arrow x rest is =
    left_stars_run outer stars es h items stage place label left word.Lolli arrow (after ++ at word.Dot x ∷ rest) is (inr (inl refl))
    ∙ right_side_runs outer after right g items stage place label (left ++ es) x rest is

-- the sides of a rule
pub sides_run : (outer : Bool) (symbols : List Symbol) (left right : List RawElem) → Sides outer symbols left right
    → (items : List RawItem) (stage : Option StageSoFar) (place : ℕ) (label : Option Span) (rest : List Symbol) → is_none stage ≡ outer
    → run items (rule_at stage place label [] None rule.Before) (symbols ++ rest) ≡ run_from (moved items (rule_ended stage (record { at = place; label = label; left = left; right = right }))) rest
sides_run outer symbols left right (sides outer' arrow x before after left' right' (elems side first others fs gs one' stars) g) items stage place label rest is =
    let next = stars_end side others gs stars word.Lolli arrow (after ++ at word.Dot x ∷ rest) (inr (inl refl)) in
    grind (arith, regroup first others (at word.Lolli arrow) after (at word.Dot x) rest, next.is, left_elem_runs outer first fs one' items stage place label [] next.mark next.x next.rest is next.ends, sides_run_behind outer others after gs right stars g items stage place label fs arrow x rest is)

-- the rules of a stage
pub rules_run : (symbols : List Symbol) (more : List RawRule) → Rules symbols more → (items : List RawItem) (name : Span) (so_far : List RawRule) (rest : List Symbol)
    → run items (state.Rules (record { name = name; rules = so_far })) (symbols ++ rest) ≡ run items (state.Rules (record { name = name; rules = so_far ++ more })) rest
rules_run symbols more no_rules items name so_far rest = rw append-nil refl
rules_run symbols more (more_rules a colon inner others left right rules h g) items name so_far rest =
    grind (arith, append_assoc, sides_run false inner left right h items (Some (record { name = name; rules = so_far })) a.from (Some a) (others ++ rest) refl, rules_run others rules g items name (so_far ++ record { at = a.from; label = Some a; left = left; right = right } ∷ []) rest)

-- What stands after an atom, and the ending of each state within an item.

-- The same for what stands after an atom, and for atoms.

-- the dot of an item
pub ending_back : (given : RawItem) (w : Word) (x : Span) (rest : List Symbol) (i : RawItem) → NextRest (step_ending given w) rest i → DotRest given (at w x ∷ rest) i
ending_back given w x rest i h = grind arith

-- in the braces of a stage
pub rules_back : (stage : StageSoFar) (w : Word) (x : Span) (rest : List Symbol) (i : RawItem) → NextRest (step_rules stage w x) rest i → RulesRest stage (at w x ∷ rest) i
rules_back stage word.Name x rest i h = h
rules_back stage word.CloseBrace x rest i h = record { front = []; close = x; ending = rest; more = []; cut = refl; read = no_rules; may_dot = h.0; is = h.1 ∙ ap (λ r. item.Stage stage.name r) (sym (append-nil stage.rules)) }
rules_back stage _ x rest i h = absurd h

-- the parts of a rule, and what stands after it
regroup_rule : (before : List Symbol) (arrow : Symbol) (after : List Symbol) (dot_ : Symbol) (front rest : List Symbol)
    → ((before ++ arrow ∷ (after ++ dot_ ∷ [])) ++ front) ++ rest ≡ before ++ arrow ∷ (after ++ dot_ ∷ (front ++ rest))
regroup_rule before arrow after dot_ front rest = simp (append_assoc)

-- after the label of a rule there
pub rule_named_back : (stage : StageSoFar) (a : Span) (w : Word) (x : Span) (rest : List Symbol) (i : RawItem) → NextRest (rule_named stage a w) rest i → RulesRest stage (at word.Name a ∷ at w x ∷ rest) i
rule_named_back stage a word.Colon x rest i up =
    let end : RulesRest (record { name = stage.name; rules = stage.rules ++ record { at = a.from; label = Some a; left = up.more; right = up.right } ∷ [] }) up.behind i = up.end in
    record {
      front = at word.Name a ∷ at word.Colon x ∷ ((up.front ++ at word.Lolli up.arrow ∷ (up.after ++ at word.Dot up.dot ∷ [])) ++ end.front);
      close = end.close;
      ending = end.ending;
      more = record { at = a.from; label = Some a; left = up.more; right = up.right } ∷ end.more;
      cut = ap (λ r. at word.Name a ∷ at word.Colon x ∷ r) (up.cut ∙ ap (λ b. up.front ++ at word.Lolli up.arrow ∷ (up.after ++ at word.Dot up.dot ∷ b)) end.cut ∙ sym (regroup_rule up.front (at word.Lolli up.arrow) up.after (at word.Dot up.dot) end.front _));
      read = more_rules a x _ end.front up.more up.right end.more (sides false up.arrow up.dot up.front up.after up.more up.right up.read up.reads) end.read;
      may_dot = end.may_dot;
      is = end.is ∙ ap (λ rs. item.Stage stage.name rs) (append_assoc stage.rules (record { at = a.from; label = Some a; left = up.more; right = up.right } ∷ []) end.more);
    }
rule_named_back stage a _ x rest i h = absurd h

-- before a goal
pub before_goal_back : (c : ClauseSoFar) (w : Word) (x : Span) (rest : List Symbol) (i : RawItem) → NextRest (before_goal c w x) rest i → GoalRest c (at w x ∷ rest) i
before_goal_back c word.Name x rest i up = record { front = at word.Name x ∷ up.front; behind = up.behind; goal = up.atom; cut = ap (λ r. at word.Name x ∷ r) up.cut; read = whole_atom_of x up.front up.atom up.read; after = up.after }
before_goal_back c _ x rest i h = absurd h

-- a further goal
goal_more : (c : ClauseSoFar) (mark : Word) (x : Span) → IsOneOf word.Back word.Comma mark → (rest : List Symbol) (i : RawItem) → GoalRest c rest i → GoalsRest c (at mark x ∷ rest) i
goal_more c mark x is rest i up = record {
  front = at mark x ∷ (up.front ++ up.after.front);
  dot = up.after.dot;
  more = up.goal ∷ up.after.more;
  cut = ap (λ r. at mark x ∷ r) (up.cut ∙ ap (λ b. up.front ++ b) up.after.cut ∙ sym (append_assoc up.front up.after.front (at word.Dot up.after.dot ∷ [])));
  read = more_goals mark x up.front up.after.front up.goal up.after.more is up.read up.after.read;
  is = up.after.is ∙ ap (λ gs. item.Clause c.label c.head gs) (append_assoc c.goals (up.goal ∷ []) up.after.more);
}

-- after a goal
pub behind_goal_back : (c : ClauseSoFar) (w : Word) (x : Span) (rest : List Symbol) (i : RawItem) → NextRest (behind_goal c w) rest i → GoalsRest c (at w x ∷ rest) i
behind_goal_back c word.Dot x rest i h = record { front = []; dot = x; more = []; cut = ap (λ r. at word.Dot x ∷ r) h.0; read = no_goals; is = h.1 ∙ ap (λ gs. item.Clause c.label c.head gs) (sym (append-nil c.goals)) }
behind_goal_back c word.Back x rest i h = goal_more c word.Back x one rest i h
behind_goal_back c word.Comma x rest i h = goal_more c word.Comma x other rest i h
behind_goal_back c _ x rest i h = absurd h

-- an element before the others of a bag
bag_some : (home_ : BagHome) (atoms : List RawAtom) (first : List Symbol) (fs : List RawAtom) → BagElem first fs → (behind : List Symbol) (i : RawItem) → BagMoreRest home_ (atoms ++ fs) behind i → BagFirstRest home_ atoms (first ++ behind) i
bag_some home_ atoms first fs h behind i up = record {
  front = first ++ (up.front ++ at word.CloseBrace up.close ∷ []);
  behind = up.behind;
  more = fs ++ up.more;
  cut = ap (λ b. first ++ b) (up.cut ∙ sym (append_assoc up.front (at word.CloseBrace up.close ∷ []) up.behind)) ∙ sym (append_assoc first (up.front ++ at word.CloseBrace up.close ∷ []) up.behind);
  read = some_bag up.close first up.front fs up.more h up.read;
  end = subst (λ a. BagEnd home_ a up.behind i) (append_assoc atoms fs up.more) up.end;
}

bag_end_of : (home_ : BagHome) (atoms : List RawAtom) (rest : List Symbol) (i : RawItem) → NextRest (bag_ended home_ atoms) rest i → BagEnd home_ atoms rest i
bag_end_of home_ atoms rest i h = grind arith

bag_first_back : (b : BagSoFar) (w : Word) (x : Span) (rest : List Symbol) (i : RawItem) → NextRest (bag_first b w x) rest i → BagFirstRest b.home b.atoms (at w x ∷ rest) i
bag_first_back b word.Name x rest i up =
    rw up.cut (bag_some b.home b.atoms (at word.Name x ∷ up.front) (up.atom ∷ []) (bag_atom_elem _ up.atom (whole_atom_of x up.front up.atom up.read)) up.behind i up.after)
bag_first_back b word.Open x rest i up =
    rw up.cut (bag_some b.home b.atoms (at word.Open x ∷ at word.Close up.close ∷ []) [] (bag_unit_elem x up.close) up.behind i (subst (λ a. BagMoreRest b.home a up.behind i) (sym (append-nil b.atoms)) up.after))
bag_first_back b word.CloseBrace x rest i h = record { front = at word.CloseBrace x ∷ []; behind = rest; more = []; cut = refl; read = empty_bag x; end = subst (λ a. BagEnd b.home a rest i) (sym (append-nil b.atoms)) (bag_end_of b.home b.atoms rest i h) }
bag_first_back b _ x rest i h = absurd h

bag_next_back : (b : BagSoFar) (w : Word) (x : Span) (rest : List Symbol) (i : RawItem) → NextRest (bag_next b w x) rest i → BagElemRest b.home b.atoms (at w x ∷ rest) i
bag_next_back b word.Name x rest i up = record { front = at word.Name x ∷ up.front; behind = up.behind; more = up.atom ∷ []; cut = ap (λ r. at word.Name x ∷ r) up.cut; read = bag_atom_elem _ up.atom (whole_atom_of x up.front up.atom up.read); after = up.after }
bag_next_back b word.Open x rest i up = record { front = at word.Open x ∷ at word.Close up.close ∷ []; behind = up.behind; more = []; cut = ap (λ r. at word.Open x ∷ r) up.cut; read = bag_unit_elem x up.close; after = subst (λ a. BagMoreRest b.home a up.behind i) (sym (append-nil b.atoms)) up.after }
bag_next_back b _ x rest i h = absurd h

bag_unit_back : (b : BagSoFar) (w : Word) (x : Span) (rest : List Symbol) (i : RawItem) → NextRest (bag_unit b w) rest i → BagUnitRest b.home b.atoms (at w x ∷ rest) i
bag_unit_back b w x rest i h = grind arith

bag_more_of : (home_ : BagHome) (atoms : List RawAtom) (mark : Word) (x : Span) → IsOneOf word.Comma word.Star mark → (rest : List Symbol) (i : RawItem) → BagElemRest home_ atoms rest i → BagMoreRest home_ atoms (at mark x ∷ rest) i
bag_more_of home_ atoms mark x is rest i up = record {
  front = at mark x ∷ (up.front ++ up.after.front);
  close = up.after.close;
  behind = up.after.behind;
  more = up.more ++ up.after.more;
  cut = ap (λ r. at mark x ∷ r) (up.cut ∙ ap (λ b. up.front ++ b) up.after.cut ∙ sym (append_assoc up.front up.after.front (at word.CloseBrace up.after.close ∷ up.after.behind)));
  read = more_atoms mark x up.front up.after.front up.more up.after.more is up.read up.after.read;
  end = subst (λ a. BagEnd home_ a up.after.behind i) (append_assoc atoms up.more up.after.more) up.after.end;
}

bag_behind_back : (b : BagSoFar) (w : Word) (x : Span) (rest : List Symbol) (i : RawItem) → NextRest (bag_behind b w) rest i → BagMoreRest b.home b.atoms (at w x ∷ rest) i
bag_behind_back b word.Comma x rest i h = bag_more_of b.home b.atoms word.Comma x one rest i h
bag_behind_back b word.Star x rest i h = bag_more_of b.home b.atoms word.Star x other rest i h
bag_behind_back b word.CloseBrace x rest i h = record { front = []; close = x; behind = rest; more = []; cut = refl; read = no_atoms; end = subst (λ a. BagEnd b.home a rest i) (sym (append-nil b.atoms)) (bag_end_of b.home b.atoms rest i h) }
bag_behind_back b _ x rest i h = absurd h

-- in a bag
pub bag_back : (b : BagSoFar) (place : BagPlace) (w : Word) (x : Span) (rest : List Symbol) (i : RawItem) → NextRest (step_bag b place w x) rest i → BagRest place b (at w x ∷ rest) i
bag_back b place w x rest i h = grind (arith, bag_first_back, bag_next_back, bag_unit_back, bag_behind_back)

-- after the first atom of a clause or of an outer rule
head_back' : (place : ℕ) (label : Option Span) (head : RawAtom) (w : Word) (x : Span) (rest : List Symbol) (i : RawItem) → NextRest (behind_head place label head w) rest i → HeadRest place label head (at w x ∷ rest) i
head_back' place label head word.Dot x rest i h = alone (record { dot = x; cut = ap (λ r. at word.Dot x ∷ r) h.0; is = h.1 })
head_back' place label head word.Back x rest i h = goals x rest refl h
head_back' place label head word.Star x rest i h = with_side (behind_left_back None place label (elem.Atom false head ∷ []) word.Star x rest i h)
head_back' place label head word.Lolli x rest i h = with_side (behind_left_back None place label (elem.Atom false head ∷ []) word.Lolli x rest i h)
head_back' place label head _ x rest i h = absurd h

-- after an element that an atom is
use_elem_back : (right : Option (List RawElem)) (stage : Option StageSoFar) (place : ℕ) (label : Option Span) (left : List RawElem) (keeps : Bool) (a : RawAtom) (w : Word) (x : Span) (rest : List Symbol) (i : RawItem)
    → NextRest (behind_atom (use_.Elem (record { stage = stage; at = place; label = label; left = left; right = right }) keeps) a w) rest i
    → UseRest (use_.Elem (record { stage = stage; at = place; label = label; left = left; right = right }) keeps) a (at w x ∷ rest) i
use_elem_back right stage place label left keeps a w x rest i h = grind (arith, behind_elem_back)

-- after an atom
pub use_back : (used : Use) (a : RawAtom) (w : Word) (x : Span) (rest : List Symbol) (i : RawItem) → NextRest (behind_atom used a w) rest i → UseRest used a (at w x ∷ rest) i
use_back (use_.First place label) a w x rest i h = head_back' place label a w x rest i h
use_back (use_.Goal c) a w x rest i h = behind_goal_back (with_goal c a) w x rest i h
use_back (use_.Elem r keeps) a w x rest i h = use_elem_back r.right r.stage r.at r.label r.left keeps a w x rest i h
use_back (use_.Bag b) a w x rest i h = bag_behind_back (record { home = b.home; atoms = b.atoms ++ a ∷ [] }) w x rest i h

-- a symbol more within the atom
within_atom : (levels levels' : List Level) (name : Span) (args args' : ℕ) (nodes nodes' : List RawNode) (used : Use) (s : Symbol) (rest : List Symbol) (i : RawItem)
    → ((part : List Symbol) (a : RawAtom) → AtomRest levels' name args' nodes' part a → AtomRest levels name args nodes (s ∷ part) a)
    → InAtomRest (record { name = name; args = args'; nodes = nodes'; levels = levels' }) used rest i → InAtomRest (record { name = name; args = args; nodes = nodes; levels = levels }) used (s ∷ rest) i
within_atom levels levels' name args args' nodes nodes' used s rest i back up = record { front = s ∷ up.front; behind = up.behind; atom = up.atom; cut = ap (λ r. s ∷ r) up.cut; read = back up.front up.atom up.read; after = up.after }

-- a symbol after the atom
behind_it : (name : Span) (args : ℕ) (nodes : List RawNode) (used : Use) (w : Word) (x : Span) (rest : List Symbol) (i : RawItem)
    → NextRest (behind_atom used (record { name = name; args = args; nodes = nodes }) w) rest i → InAtomRest (record { name = name; args = args; nodes = nodes; levels = [] }) used (at w x ∷ rest) i
behind_it name args nodes used w x rest i h = record { front = []; behind = at w x ∷ rest; atom = record { name = name; args = args; nodes = nodes }; cut = refl; read = flat_ends name args nodes; after = use_back used _ w x rest i h }

-- an argument of one symbol
leaf_back : (levels : List Level) → TakesArgs levels → (name : Span) (args : ℕ) (nodes : List RawNode) (s : Symbol) (n : RawNode) → Arg (s ∷ []) (n ∷ []) → (part : List Symbol) (a : RawAtom)
    → RestOf (child_in levels (record { name = name; args = args; nodes = nodes ++ n ∷ []; levels = levels })) part a → AtomRest levels name args nodes (s ∷ part) a
leaf_back levels takes name args nodes s n arg part a up = arg_back levels takes (s ∷ []) (n ∷ []) arg name args nodes part a (up_of levels name args (nodes ++ n ∷ []) part a up)

-- in an atom
pub atom_back' : (levels : List Level) (name : Span) (args : ℕ) (nodes : List RawNode) (used : Use) (w : Word) (x : Span) (rest : List Symbol) (i : RawItem)
    → NextRest (step_atom (record { name = name; args = args; nodes = nodes; levels = levels }) used w x) rest i → InAtomRest (record { name = name; args = args; nodes = nodes; levels = levels }) used (at w x ∷ rest) i
atom_back' [] name args nodes used word.Name x rest i up = within_atom [] [] name args (args + 1) nodes (nodes ++ node App x 0 ∷ []) used (at word.Name x) rest i (leaf_back [] flat name args nodes (at word.Name x) (node App x 0) (arg_name x)) up
atom_back' [] name args nodes used word.Variable x rest i up = within_atom [] [] name args (args + 1) nodes (nodes ++ node Var x 0 ∷ []) used (at word.Variable x) rest i (leaf_back [] flat name args nodes (at word.Variable x) (node Var x 0) (arg_variable x)) up
atom_back' [] name args nodes used word.Blank x rest i up = within_atom [] [] name args (args + 1) nodes (nodes ++ node kind.Blank x 0 ∷ []) used (at word.Blank x) rest i (leaf_back [] flat name args nodes (at word.Blank x) (node kind.Blank x 0) (arg_blank x)) up
atom_back' [] name args nodes used word.Open x rest i up = within_atom [] (Empty ∷ []) name args args nodes nodes used (at word.Open x) rest i (open_back [] flat x name args nodes) up
atom_back' [] name args nodes used w x rest i h = behind_it name args nodes used w x rest i h
atom_back' (Node index count ∷ levels) name args nodes used word.Name x rest i up = within_atom (Node index count ∷ levels) (Node index (count + 1) ∷ levels) name args args nodes (nodes ++ node App x 0 ∷ []) used (at word.Name x) rest i (leaf_back (Node index count ∷ levels) (within index count levels) name args nodes (at word.Name x) (node App x 0) (arg_name x)) up
atom_back' (Node index count ∷ levels) name args nodes used word.Variable x rest i up = within_atom (Node index count ∷ levels) (Node index (count + 1) ∷ levels) name args args nodes (nodes ++ node Var x 0 ∷ []) used (at word.Variable x) rest i (leaf_back (Node index count ∷ levels) (within index count levels) name args nodes (at word.Variable x) (node Var x 0) (arg_variable x)) up
atom_back' (Node index count ∷ levels) name args nodes used word.Blank x rest i up = within_atom (Node index count ∷ levels) (Node index (count + 1) ∷ levels) name args args nodes (nodes ++ node kind.Blank x 0 ∷ []) used (at word.Blank x) rest i (leaf_back (Node index count ∷ levels) (within index count levels) name args nodes (at word.Blank x) (node kind.Blank x 0) (arg_blank x)) up
atom_back' (Node index count ∷ levels) name args nodes used word.Open x rest i up = within_atom (Node index count ∷ levels) (Empty ∷ Node index count ∷ levels) name args args nodes nodes used (at word.Open x) rest i (open_back (Node index count ∷ levels) (within index count levels) x name args nodes) up
atom_back' (Node index count ∷ levels) name args nodes used word.Close x rest i up = record { front = at word.Close x ∷ up.front; behind = up.behind; atom = up.atom; cut = ap (λ r. at word.Close x ∷ r) up.cut; read = closed_back levels index count x name args nodes up.front up.atom (up_of levels name args (set_args nodes index count) up.front up.atom (up.read)); after = up.after }
atom_back' (Empty ∷ levels) name args nodes used word.Name x rest i up = within_atom (Empty ∷ levels) (Node (length nodes) 0 ∷ levels) name args args nodes (nodes ++ node App x 0 ∷ []) used (at word.Name x) rest i (head_back levels x name args nodes) up
atom_back' (Empty ∷ levels) name args nodes used word.Variable x rest i up = within_atom (Empty ∷ levels) (Whole ∷ levels) name args args nodes (nodes ++ node Var x 0 ∷ []) used (at word.Variable x) rest i (one_back levels (at word.Variable x) (node Var x 0) (variable x) name args nodes) up
atom_back' (Empty ∷ levels) name args nodes used word.Blank x rest i up = within_atom (Empty ∷ levels) (Whole ∷ levels) name args args nodes (nodes ++ node kind.Blank x 0 ∷ []) used (at word.Blank x) rest i (one_back levels (at word.Blank x) (node kind.Blank x 0) (blank x) name args nodes) up
atom_back' (Empty ∷ levels) name args nodes used word.Open x rest i up = within_atom (Empty ∷ levels) (Empty ∷ Empty ∷ levels) name args args nodes nodes used (at word.Open x) rest i (again_back levels x name args nodes) up
atom_back' (Whole ∷ levels) name args nodes used word.Close x rest i up = record { front = at word.Close x ∷ up.front; behind = up.behind; atom = up.atom; cut = ap (λ r. at word.Close x ∷ r) up.cut; read = whole_back levels x name args nodes up.front up.atom (up_of levels name args nodes up.front up.atom (up.read)); after = up.after }
atom_back' levels name args nodes used _ x rest i h = absurd h

-- Each state within an item has some ending.

-- some symbols with which an item or an atom ends, and what it is
pub record Ends {A : Type 0} (R : List Symbol → A → Type 0) : Type 0 where
  pub rest : List Symbol
  pub i : A
  pub read : R rest i

-- some place
abbrev z : Span
z = record { from = 0; to = 0 }

-- `()`
abbrev unit_symbols : List Symbol
unit_symbols = at word.Open z ∷ at word.Close z ∷ []

unit_elems : (s : Side) → Elems s unit_symbols []
unit_elems s = elems s unit_symbols [] [] [] (elem_unit s z z) (no_stars s)

-- `() -o ().`
unit_sides : (outer : Bool) → Sides outer (unit_symbols ++ at word.Lolli z ∷ (unit_symbols ++ at word.Dot z ∷ [])) [] []
unit_sides outer = sides outer z z unit_symbols unit_symbols [] [] (unit_elems _) (unit_elems _)

rules_ends : (stage : StageSoFar) → Ends (RulesRest stage)
rules_ends stage = record { rest = at word.CloseBrace z ∷ []; i = item.Stage stage.name (stage.rules ++ []); read = record { front = []; close = z; ending = []; more = []; cut = refl; read = no_rules; may_dot = no_dot; is = refl } }

rule_end_ends : (stage : Option StageSoFar) (r : RawRule) → Ends (RuleEnd stage r)
rule_end_ends None r = record { rest = []; i = item.Outer r; read = (refl, refl) }
rule_end_ends (Some stage) r = let e = rules_ends (record { name = stage.name; rules = stage.rules ++ r ∷ [] }) in record { rest = e.rest; i = e.i; read = e.read }

-- a side that is read so, and the right side `()`
left_rest : (Reads : Side → List Symbol → List RawElem → Type 0) (stage : Option StageSoFar) (place : ℕ) (label : Option Span) (left : List RawElem) (front : List Symbol) (more : List RawElem) (behind : List Symbol) (i : RawItem)
    → Reads (left_of stage) front more → RuleEnd stage (record { at = place; label = label; left = left ++ more; right = [] }) behind i
    → LeftRest Reads stage place label left (front ++ at word.Lolli z ∷ (unit_symbols ++ at word.Dot z ∷ behind)) i
left_rest Reads stage place label left front more behind i h end = record { front = front; arrow = z; after = unit_symbols; dot = z; behind = behind; more = more; right = []; cut = refl; read = h; reads = unit_elems (right_of stage); end = end }

right_rest : (Reads : Side → List Symbol → List RawElem → Type 0) (stage : Option StageSoFar) (place : ℕ) (label : Option Span) (left right : List RawElem) (front : List Symbol) (more : List RawElem) (behind : List Symbol) (i : RawItem)
    → Reads (right_of stage) front more → RuleEnd stage (record { at = place; label = label; left = left; right = right ++ more }) behind i
    → RightRest Reads stage place label left right (front ++ at word.Dot z ∷ behind) i
right_rest Reads stage place label left right front more behind i h end = record { front = front; dot = z; behind = behind; more = more; cut = refl; read = h; end = end }

-- some item
abbrev some_item : RawItem
some_item = item.Interactive z

before_ends : (right : Option (List RawElem)) (stage : Option StageSoFar) (place : ℕ) (label : Option Span) (left : List RawElem) → Ends (SideRest Elems right stage place label left)
before_ends None stage place label left = let e = rule_end_ends stage (record { at = place; label = label; left = left ++ []; right = [] }) in record { rest = _; i = e.i; read = left_rest Elems stage place label left unit_symbols [] e.rest e.i (unit_elems _) e.read }
before_ends (Some right) stage place label left = let e = rule_end_ends stage (record { at = place; label = label; left = left; right = right ++ [] }) in record { rest = _; i = e.i; read = right_rest Elems stage place label left right unit_symbols [] e.rest e.i (unit_elems _) e.read }

behind_ends : (right : Option (List RawElem)) (stage : Option StageSoFar) (place : ℕ) (label : Option Span) (left : List RawElem) → Ends (SideRest Stars right stage place label left)
behind_ends None stage place label left = let e = rule_end_ends stage (record { at = place; label = label; left = left ++ []; right = [] }) in record { rest = _; i = e.i; read = left_rest Stars stage place label left [] [] e.rest e.i (no_stars _) e.read }
behind_ends (Some right) stage place label left = let e = rule_end_ends stage (record { at = place; label = label; left = left; right = right ++ [] }) in record { rest = _; i = e.i; read = right_rest Stars stage place label left right [] [] e.rest e.i (no_stars _) e.read }

-- an atom without arguments
abbrev z_atom : RawAtom
z_atom = record { name = z; args = 0; nodes = [] }

kept_ends : (right : Option (List RawElem)) (stage : Option StageSoFar) (place : ℕ) (label : Option Span) (left : List RawElem) → Ends (KeptRest right stage place label left)
kept_ends (Some right) stage place label left = record { rest = []; i = some_item; read = tt }
kept_ends None stage place label left =
    let e = rule_end_ends stage (record { at = place; label = label; left = left ++ elem.Atom true z_atom ∷ []; right = [] }) in
    record {
      rest = at word.Name z ∷ at word.Lolli z ∷ (unit_symbols ++ at word.Dot z ∷ e.rest);
      i = e.i;
      read = λ x. left_rest Elems stage place label left (at word.Dollar x ∷ at word.Name z ∷ []) (elem.Atom true z_atom ∷ []) e.rest e.i (elems _ (at word.Dollar x ∷ at word.Name z ∷ []) [] (elem.Atom true z_atom ∷ []) [] (kept (is_none stage) x (at word.Name z ∷ []) z_atom (atom z [] 0 [] no_args)) (no_stars _)) e.read;
    }

unit_ends : (right : Option (List RawElem)) (stage : Option StageSoFar) (place : ℕ) (label : Option Span) (left : List RawElem) → Ends (λ rest i. (x : Span) → SideRest Elems right stage place label left (at word.Open x ∷ rest) i)
unit_ends None stage place label left =
    let e = rule_end_ends stage (record { at = place; label = label; left = left ++ []; right = [] }) in
    record { rest = at word.Close z ∷ at word.Lolli z ∷ (unit_symbols ++ at word.Dot z ∷ e.rest); i = e.i; read = λ x. left_rest Elems stage place label left (at word.Open x ∷ at word.Close z ∷ []) [] e.rest e.i (elems _ (at word.Open x ∷ at word.Close z ∷ []) [] [] [] (elem_unit _ x z) (no_stars _)) e.read }
unit_ends (Some right) stage place label left =
    let e = rule_end_ends stage (record { at = place; label = label; left = left; right = right ++ [] }) in
    record { rest = at word.Close z ∷ at word.Dot z ∷ e.rest; i = e.i; read = λ x. right_rest Elems stage place label left right (at word.Open x ∷ at word.Close z ∷ []) [] e.rest e.i (elems _ (at word.Open x ∷ at word.Close z ∷ []) [] [] [] (elem_unit _ x z) (no_stars _)) e.read }

stage_ends : (stage : Option StageSoFar) (right : Option (List RawElem)) (place : ℕ) (label : Option Span) (left : List RawElem) → Ends (StageRest stage right place label left)
stage_ends (Some stage) right place label left = record { rest = []; i = some_item; read = tt }
stage_ends None None place label left =
    let e = rule_end_ends None (record { at = place; label = label; left = left ++ elem.Stage z ∷ []; right = [] }) in
    record { rest = at word.Name z ∷ at word.Lolli z ∷ (unit_symbols ++ at word.Dot z ∷ e.rest); i = e.i; read = λ x. left_rest Elems None place label left (at word.Stage x ∷ at word.Name z ∷ []) (elem.Stage z ∷ []) e.rest e.i (elems _ (at word.Stage x ∷ at word.Name z ∷ []) [] (elem.Stage z ∷ []) [] (elem_stage false x z) (no_stars _)) e.read }
stage_ends None (Some right) place label left =
    let e = rule_end_ends None (record { at = place; label = label; left = left; right = right ++ elem.Stage z ∷ [] }) in
    record { rest = at word.Name z ∷ at word.Dot z ∷ e.rest; i = e.i; read = λ x. right_rest Elems None place label left right (at word.Stage x ∷ at word.Name z ∷ []) (elem.Stage z ∷ []) e.rest e.i (elems _ (at word.Stage x ∷ at word.Name z ∷ []) [] (elem.Stage z ∷ []) [] (elem_stage true x z) (no_stars _)) e.read }

rule_ends : (r : RuleSoFar) (place : RulePlace) → Ends (RuleRest place r)
rule_ends r rule.Before = before_ends r.right r.stage r.at r.label r.left
rule_ends r rule.Kept = kept_ends r.right r.stage r.at r.label r.left
rule_ends r rule.Unit = unit_ends r.right r.stage r.at r.label r.left
rule_ends r rule.Stage = stage_ends r.stage r.right r.at r.label r.left
rule_ends r rule.Behind = behind_ends r.right r.stage r.at r.label r.left

goals_ends : (c : ClauseSoFar) → Ends (GoalsRest c)
goals_ends c = record { rest = at word.Dot z ∷ []; i = item.Clause c.label c.head (c.goals ++ []); read = record { front = []; dot = z; more = []; cut = refl; read = no_goals; is = refl } }

goal_ends : (c : ClauseSoFar) → Ends (GoalRest c)
goal_ends c =
    let e = goals_ends (record { label = c.label; head = c.head; goals = c.goals ++ z_atom ∷ [] }) in
    record { rest = at word.Name z ∷ e.rest; i = e.i; read = record { front = at word.Name z ∷ []; behind = e.rest; goal = z_atom; cut = refl; read = atom z [] 0 [] no_args; after = e.read } }

bag_end_ends : (home_ : BagHome) (atoms : List RawAtom) → Ends (BagEnd home_ atoms)
bag_end_ends (home.Context name) atoms = record { rest = []; i = item.Context name atoms; read = (no_dot, refl) }
bag_end_ends (home.Trace place limit stage) atoms = record { rest = at word.Dot z ∷ []; i = item.Trace place limit stage (Listed atoms); read = record { dot = z; cut = refl; is = refl } }

bag_more_ends : (home_ : BagHome) (atoms : List RawAtom) → Ends (BagMoreRest home_ atoms)
bag_more_ends home_ atoms = let e = bag_end_ends home_ (atoms ++ []) in record { rest = at word.CloseBrace z ∷ e.rest; i = e.i; read = record { front = []; close = z; behind = e.rest; more = []; cut = refl; read = no_atoms; end = e.read } }

bag_ends : (b : BagSoFar) (place : BagPlace) → Ends (BagRest place b)
bag_ends b bag.First = let e = bag_end_ends b.home (b.atoms ++ []) in record { rest = at word.CloseBrace z ∷ e.rest; i = e.i; read = record { front = at word.CloseBrace z ∷ []; behind = e.rest; more = []; cut = refl; read = empty_bag z; end = e.read } }
bag_ends b bag.Next = let e = bag_more_ends b.home (b.atoms ++ []) in record { rest = at word.Open z ∷ at word.Close z ∷ e.rest; i = e.i; read = record { front = unit_symbols; behind = e.rest; more = []; cut = refl; read = bag_unit_elem z z; after = e.read } }
bag_ends b bag.Unit = let e = bag_more_ends b.home b.atoms in record { rest = at word.Close z ∷ e.rest; i = e.i; read = record { close = z; behind = e.rest; cut = refl; after = e.read } }
bag_ends b bag.Behind = bag_more_ends b.home b.atoms

-- an atom ends
up_ends : (levels : List Level) (name : Span) (args : ℕ) (nodes : List RawNode) → Ends (Up levels name args nodes)
up_ends [] name args nodes = record { rest = []; i = record { name = name; args = args + 1 + 0; nodes = nodes ++ [] }; read = record { count = 0; more = []; read = no_args; is = refl } }
up_ends (Node index count ∷ levels) name args nodes = let e = up_ends levels name args (set_args (nodes ++ []) index (count + 1 + 0)) in record { rest = at word.Close z ∷ e.rest; i = e.i; read = record { front = []; close = z; rest = e.rest; count = 0; more = []; cut = refl; read = no_args; after = e.read } }
up_ends (Empty ∷ levels) name args nodes = let e = up_ends levels name args nodes in record { rest = at word.Close z ∷ e.rest; i = e.i; read = record { close = z; rest = e.rest; cut = refl; after = e.read } }
up_ends (Whole ∷ levels) name args nodes = let e = up_ends levels name args nodes in record { rest = at word.Close z ∷ e.rest; i = e.i; read = record { close = z; rest = e.rest; cut = refl; after = e.read } }

atom_ends : (levels : List Level) (name : Span) (args : ℕ) (nodes : List RawNode) → Ends (AtomRest levels name args nodes)
atom_ends [] name args nodes = record { rest = []; i = record { name = name; args = args + 0; nodes = nodes ++ [] }; read = record { count = 0; more = []; read = no_args; is = refl } }
atom_ends (Node index count ∷ levels) name args nodes = let e = up_ends levels name args (set_args (nodes ++ []) index (count + 0)) in record { rest = at word.Close z ∷ e.rest; i = e.i; read = record { front = []; close = z; rest = e.rest; count = 0; more = []; cut = refl; read = no_args; after = e.read } }
atom_ends (Empty ∷ levels) name args nodes = let e = up_ends levels name args (nodes ++ node App z 0 ∷ []) in record { rest = at word.Name z ∷ at word.Close z ∷ e.rest; i = e.i; read = record { front = at word.Name z ∷ []; close = z; rest = e.rest; more = node App z 0 ∷ []; cut = refl; read = applied z [] 0 [] no_args; after = e.read } }
atom_ends (Whole ∷ levels) name args nodes = let e = up_ends levels name args nodes in record { rest = at word.Close z ∷ e.rest; i = e.i; read = record { close = z; rest = e.rest; cut = refl; after = e.read } }

use_ends : (used : Use) (a : RawAtom) → Ends (UseRest used a)
use_ends (use_.First place label) a = record { rest = at word.Dot z ∷ []; i = head_alone label a; read = alone (record { dot = z; cut = refl; is = refl }) }
use_ends (use_.Goal c) a = let e = goals_ends (record { label = c.label; head = c.head; goals = c.goals ++ a ∷ [] }) in record { rest = e.rest; i = e.i; read = e.read }
use_ends (use_.Elem r keeps) a = let e = rule_ends (with_elem r (elem.Atom keeps a)) rule.Behind in record { rest = e.rest; i = e.i; read = e.read }
use_ends (use_.Bag b) a = let e = bag_more_ends b.home (b.atoms ++ a ∷ []) in record { rest = e.rest; i = e.i; read = e.read }

in_atom_ends : (a : AtomSoFar) (used : Use) → Ends (InAtomRest a used)
in_atom_ends a used = let e = atom_ends a.levels a.name a.args a.nodes in let f = use_ends used e.i in record { rest = e.rest ++ f.rest; i = f.i; read = record { front = e.rest; behind = f.rest; atom = e.i; cut = refl; read = e.read; after = f.read } }

rule_named_ends : (stage : StageSoFar) (a : Span) → Ends (λ rest i. RulesRest stage (at word.Name a ∷ rest) i)
rule_named_ends stage a =
    record {
      rest = at word.Colon z ∷ (((unit_symbols ++ at word.Lolli z ∷ (unit_symbols ++ at word.Dot z ∷ [])) ++ []) ++ at word.CloseBrace z ∷ []);
      i = item.Stage stage.name (stage.rules ++ record { at = a.from; label = Some a; left = []; right = [] } ∷ []);
      read = record {
        front = at word.Name a ∷ at word.Colon z ∷ ((unit_symbols ++ at word.Lolli z ∷ (unit_symbols ++ at word.Dot z ∷ [])) ++ []);
        close = z;
        ending = [];
        more = record { at = a.from; label = Some a; left = []; right = [] } ∷ [];
        cut = refl;
        read = more_rules a z _ [] [] [] [] (unit_sides false) no_rules;
        may_dot = no_dot;
        is = refl;
      };
    }

plain_ends : (p : Plain) → Ends (PlainRest p)
plain_ends plain.Ended = record { rest = []; i = some_item; read = tt }
plain_ends plain.Top = record { rest = at word.Interactive z ∷ at word.Name z ∷ at word.Dot z ∷ []; i = some_item; read = interactive z z z }
plain_ends (plain.Labelled a) = record { rest = at word.Type z ∷ at word.Dot z ∷ []; i = item.Sort a; read = λ c. sort a c z z }
plain_ends (plain.Blank place) =
    record {
      rest = at word.Colon z ∷ (unit_symbols ++ at word.Lolli z ∷ (unit_symbols ++ at word.Dot z ∷ []));
      i = item.Outer (record { at = place; label = None; left = []; right = [] });
      read = λ b is. subst (λ p. Item (at word.Blank b ∷ at word.Colon z ∷ (unit_symbols ++ at word.Lolli z ∷ (unit_symbols ++ at word.Dot z ∷ []))) (item.Outer (record { at = p; label = None; left = []; right = [] }))) is (unnamed b z _ [] [] (unit_sides true));
    }
plain_ends (plain.StageWord place) = record { rest = at word.Name z ∷ at word.Equals z ∷ at word.OpenBrace z ∷ at word.CloseBrace z ∷ []; i = item.Stage z []; read = λ s is. stage_item s z z z z [] [] [] no_rules no_dot }
plain_ends (plain.StageNamed place a) = record { rest = at word.Equals z ∷ at word.OpenBrace z ∷ at word.CloseBrace z ∷ []; i = item.Stage a []; read = λ s is. stage_item s a z z z [] [] [] no_rules no_dot }
plain_ends (plain.StageEquals a) = record { rest = at word.OpenBrace z ∷ at word.CloseBrace z ∷ []; i = item.Stage a []; read = λ s e. stage_item s a e z z [] [] [] no_rules no_dot }
plain_ends plain.ContextWord = record { rest = at word.Name z ∷ at word.Equals z ∷ at word.OpenBrace z ∷ at word.CloseBrace z ∷ []; i = item.Context z []; read = λ c. context c z z z (at word.CloseBrace z ∷ []) [] [] (empty_bag z) no_dot }
plain_ends (plain.ContextNamed a) = record { rest = at word.Equals z ∷ at word.OpenBrace z ∷ at word.CloseBrace z ∷ []; i = item.Context a []; read = λ c. context c a z z (at word.CloseBrace z ∷ []) [] [] (empty_bag z) no_dot }
plain_ends (plain.ContextEquals a) = record { rest = at word.OpenBrace z ∷ at word.CloseBrace z ∷ []; i = item.Context a []; read = λ c e. context c a e z (at word.CloseBrace z ∷ []) [] [] (empty_bag z) no_dot }
plain_ends plain.InteractiveWord = record { rest = at word.Name z ∷ at word.Dot z ∷ []; i = item.Interactive z; read = λ d. interactive d z z }
plain_ends (plain.TraceWord place) = record { rest = at word.Blank z ∷ at word.Name z ∷ at word.Name z ∷ at word.Dot z ∷ []; i = item.Trace place None z (Named z); read = λ d is. subst (λ p. Item (at word.Trace d ∷ at word.Blank z ∷ at word.Name z ∷ at word.Name z ∷ at word.Dot z ∷ []) (item.Trace p None z (Named z))) is (trace_named d z z z (at word.Blank z) None (blank_limit z)) }
plain_ends (plain.TraceLimit place limit) = record { rest = at word.Name z ∷ at word.Name z ∷ at word.Dot z ∷ []; i = item.Trace place limit z (Named z); read = λ d m is l. subst (λ p. Item (at word.Trace d ∷ m ∷ at word.Name z ∷ at word.Name z ∷ at word.Dot z ∷ []) (item.Trace p limit z (Named z))) is (trace_named d z z z m limit l) }
plain_ends (plain.TraceStage place limit a) = record { rest = at word.Name z ∷ at word.Dot z ∷ []; i = item.Trace place limit a (Named z); read = λ d m is l. subst (λ p. Item (at word.Trace d ∷ m ∷ at word.Name a ∷ at word.Name z ∷ at word.Dot z ∷ []) (item.Trace p limit a (Named z))) is (trace_named d a z z m limit l) }

-- each state has some ending
pub state_ends : (s : State) → Ends (Rest s)
state_ends (state.Plain p) = plain_ends p
state_ends (state.Names name args) = record { rest = at word.Colon z ∷ at word.Pred z ∷ at word.Dot z ∷ []; i = item.Pred name args Linear; read = pred name z z z args }
state_ends (state.Declared name args) = record { rest = at word.Pred z ∷ at word.Dot z ∷ []; i = item.Pred name args Linear; read = λ c. pred name c z z args }
state_ends (state.Ending given) = record { rest = at word.Dot z ∷ []; i = given; read = record { dot = z; cut = refl; is = refl } }
state_ends (state.Rules stage) = rules_ends stage
state_ends (state.RuleNamed stage a) = rule_named_ends stage a
state_ends (state.Rule r place) = rule_ends r place
state_ends (state.Goal c) = goal_ends c
state_ends (state.Bag b place) = bag_ends b place
state_ends (state.Atom a used) = in_atom_ends a used

-- The same for each state.

-- an item, its last symbol and what it is being known
given_item : (front : List Symbol → List Symbol) (given : RawItem) (rest : List Symbol) (i : RawItem) → DotRest given rest i → ((dot : Span) → Item (front (at word.Dot dot ∷ [])) given) → Item (front rest) i
given_item front given rest i h build = subst (λ j. Item (front rest) j) (sym h.is) (subst (λ r. Item (front r) given) (sym h.cut) (build h.dot))

-- the sides of an outer rule
record OuterRest (place : ℕ) (label : Option Span) (rest : List Symbol) (i : RawItem) : Type 0 where
  left : List RawElem
  right : List RawElem
  read : Sides true rest left right
  is : i ≡ item.Outer (record { at = place; label = label; left = left; right = right })

outer_of : (place : ℕ) (label : Option Span) (rest : List Symbol) (i : RawItem) → LeftRest Elems None place label [] rest i → OuterRest place label rest i
outer_of place label rest i up = record {
  left = up.more;
  right = up.right;
  read = subst (λ r. Sides true r up.more up.right) (sym (up.cut ∙ ap (λ b. up.front ++ at word.Lolli up.arrow ∷ (up.after ++ at word.Dot up.dot ∷ b)) up.end.0)) (sides true up.arrow up.dot up.front up.after up.more up.right up.read up.reads);
  is = up.end.1;
}

-- an outer rule after its label
outer_item : (before : List Symbol) (label : Option Span) → Label before label → (place : ℕ) (rest : List Symbol) (i : RawItem) → place ≡ place_of (before ++ rest) → LeftRest Elems None place label [] rest i → Item (before ++ rest) i
outer_item before label l place rest i at_place up =
    let o = outer_of place label rest i up in
    subst (λ j. Item (before ++ rest) j) (sym (o.is ∙ ap (λ p. item.Outer (record { at = p; label = label; left = o.left; right = o.right })) at_place)) (item_outer before rest label o.left o.right l o.read)

-- a clause or an outer rule, from its first atom on
head_item : (before : List Symbol) (label : Option Span) → Label before label → (place : ℕ) (front : List Symbol) (head : RawAtom) → Atom front head → (behind : List Symbol) (i : RawItem)
    → place ≡ place_of (before ++ (front ++ behind)) → ((dot : Span) → Item (before ++ (front ++ at word.Dot dot ∷ [])) (head_alone label head))
    → HeadRest place label head behind i → Item (before ++ (front ++ behind)) i
head_item before label l place front head h behind i at_place build (alone d) = given_item (λ r. before ++ (front ++ r)) (head_alone label head) behind i d build
head_item before label l place front head h behind i at_place build (goals arrow behind' cut g) =
    rw (g.after.is, cut, g.cut, g.after.cut) (clause arrow g.after.dot before front g.front g.after.front label head g.goal g.after.more l h g.read g.after.read)
head_item before label l place front head h behind i at_place build (with_side up) =
    outer_item before label l place (front ++ behind) i at_place (elem_back_left None front (elem.Atom false head ∷ []) (elem_atom _ front head h) place label [] behind i up)

-- the dot after a label and an atom
labelled_alone : (a c : Span) (front : List Symbol) (head : RawAtom) → Atom front head → (dot : Span) → Item (at word.Name a ∷ at word.Colon c ∷ (front ++ at word.Dot dot ∷ [])) (head_alone (Some a) head)
labelled_alone a c front head (atom name symbols count nodes no_args) dot_ = item_colon a c name dot_ []
labelled_alone a c front head (atom name symbols count nodes (more_args first others n ms ms' h args)) dot_ =
    rw (ne_eqb (n + 1) 0 (λ e. absurd (omega arith))) (labelled_item a c dot_ _ (record { name = name; args = n + 1; nodes = ms ++ ms' }) (atom name _ (n + 1) _ (more_args first others n ms ms' h args)) (omega arith))

-- after a name and a colon
labelled_back : (a : Span) (w : Word) (x : Span) (rest : List Symbol) (i : RawItem) → NextRest (labelled a w x) rest i → (c : Span) → Item (at word.Name a ∷ at word.Colon c ∷ at w x ∷ rest) i
labelled_back a word.Type x rest i h c = given_item (λ r. at word.Name a ∷ at word.Colon c ∷ at word.Type x ∷ r) (item.Sort a) rest i h (sort a c x)
labelled_back a word.Pred x rest i h c = given_item (λ r. at word.Name a ∷ at word.Colon c ∷ at word.Pred x ∷ r) (item.Pred a [] Linear) rest i h (λ dot. pred a c x dot [])
labelled_back a word.Bwd x rest i h c = given_item (λ r. at word.Name a ∷ at word.Colon c ∷ at word.Bwd x ∷ r) (item.Pred a [] Back) rest i h (λ dot. back_pred a c x dot [])
labelled_back a word.Fact x rest i h c = given_item (λ r. at word.Name a ∷ at word.Colon c ∷ at word.Fact x ∷ r) (item.Pred a [] Fact) rest i h (λ dot. fact_pred a c x dot [])
labelled_back a word.Name x rest i up c =
    rw up.cut (head_item (at word.Name a ∷ at word.Colon c ∷ []) (Some a) (a_label a c) a.from (at word.Name x ∷ up.front) up.atom (whole_atom_of x up.front up.atom up.read) up.behind i refl (labelled_alone a c (at word.Name x ∷ up.front) up.atom (whole_atom_of x up.front up.atom up.read)) up.after)
labelled_back a w x rest i h c = outer_item (at word.Name a ∷ at word.Colon c ∷ []) (Some a) (a_label a c) a.from (at w x ∷ rest) i refl (before_elem_back None None a.from (Some a) [] w x rest i h)

-- names, with one more
names_push : (args : List Span) (x : Span) (rest : List Symbol) → names (args ++ x ∷ []) ++ rest ≡ names args ++ at word.Name x ∷ rest
names_push [] x rest = refl
names_push (a ∷ args) x rest = ap (λ r. at word.Name a ∷ r) (names_push args x rest)

-- names before arguments
names_args : (args : List Span) (front : List Symbol) (count : ℕ) (more : List RawNode) → Args front count more → Args (names args ++ front) (length args + count) (map (λ a. node App a 0) args ++ more)
names_args [] front count more h = subst (λ n. Args front n more) (let e : count ≡ 0 + count = omega arith in e) h
names_args (a ∷ args) front count more h =
    subst (λ n. Args (at word.Name a ∷ (names args ++ front)) n (node App a 0 ∷ (map (λ b. node App b 0) args ++ more))) (let e : length args + count + 1 ≡ suc (length args) + count = omega arith in e)
    (more_args (at word.Name a ∷ []) (names args ++ front) (length args + count) (node App a 0 ∷ []) _ (arg_name a) (names_args args front count more h))

-- names, and what completes an atom of them
names_item : (name : Span) (args : List Span) (s : Symbol) (rest : List Symbol) (i : RawItem) → InAtomRest (atom_of_names name args) (use_.First name.from None) (s ∷ rest) i → Item (at word.Name name ∷ (names args ++ s ∷ rest)) i
names_item name args s rest i up =
    let h : Atom (at word.Name name ∷ (names args ++ up.front)) up.atom =
    subst (λ b. Atom (at word.Name name ∷ (names args ++ up.front)) b) (sym up.read.is) (atom name _ _ _ (names_args args up.front up.read.count up.read.more up.read.read)) in
    subst (λ r. Item (at word.Name name ∷ r) i) (append_assoc (names args) up.front up.behind ∙ ap (λ r. names args ++ r) (sym up.cut))
    (head_item [] None no_label name.from (at word.Name name ∷ (names args ++ up.front)) up.atom h up.behind i refl (λ dot. bare_clause dot (at word.Name name ∷ (names args ++ up.front)) up.atom h) up.after)

named_back : (name : Span) (args : List Span) (x : Span) (rest : List Symbol) (i : RawItem) → NextRest (names_begun name args) rest i → Item (at word.Name name ∷ (names args ++ at word.Colon x ∷ rest)) i
named_back name args x rest i h = grind arith

-- after names
names_back : (name : Span) (args : List Span) (w : Word) (x : Span) (rest : List Symbol) (i : RawItem) → NextRest (step_names name args w x) rest i → Item (at word.Name name ∷ (names args ++ at w x ∷ rest)) i
names_back name args w x rest i h = grind (arith, names_push, named_back, names_item, atom_back')

-- after the colon of names
declared_back : (name : Span) (args : List Span) (w : Word) (x : Span) (rest : List Symbol) (i : RawItem) → NextRest (step_declared name args w x) rest i → (c : Span) → Item (at word.Name name ∷ (names args ++ at word.Colon c ∷ at w x ∷ rest)) i
declared_back name args word.Pred x rest i h c = given_item (λ r. at word.Name name ∷ (names args ++ at word.Colon c ∷ at word.Pred x ∷ r)) (item.Pred name args Linear) rest i h (λ dot. pred name c x dot args)
declared_back name args word.Bwd x rest i h c = given_item (λ r. at word.Name name ∷ (names args ++ at word.Colon c ∷ at word.Bwd x ∷ r)) (item.Pred name args Back) rest i h (λ dot. back_pred name c x dot args)
declared_back name args word.Fact x rest i h c = given_item (λ r. at word.Name name ∷ (names args ++ at word.Colon c ∷ at word.Fact x ∷ r)) (item.Pred name args Fact) rest i h (λ dot. fact_pred name c x dot args)
declared_back name args word.Name x rest i h c = given_item (λ r. at word.Name name ∷ (names args ++ at word.Colon c ∷ at word.Name x ∷ r)) (item.Colon name args x) rest i h (λ dot. item_colon name c x dot args)
declared_back name args _ x rest i h c = absurd h

-- before an item
pub begin_back : (w : Word) (x : Span) (rest : List Symbol) (i : RawItem) → NextRest (begin w x) rest i → Item (at w x ∷ rest) i
begin_back word.Name x rest i h = h
begin_back word.Blank x rest i h = h x refl
begin_back word.Stage x rest i h = h x refl
begin_back word.Context x rest i h = h x
begin_back word.Interactive x rest i h = h x
begin_back word.Trace x rest i h = h x refl
begin_back w x rest i h = outer_item [] None no_label x.from (at w x ∷ rest) i refl (before_elem_back None None x.from None [] w x rest i h)

-- after `_`
blank_back : (place : ℕ) (w : Word) (x : Span) (rest : List Symbol) (i : RawItem) → NextRest (behind_blank place w) rest i → (b : Span) → b.from ≡ place → Item (at word.Blank b ∷ at w x ∷ rest) i
blank_back place word.Colon x rest i h b is =
    let o = outer_of place None rest i h in
    subst (λ j. Item (at word.Blank b ∷ at word.Colon x ∷ rest) j) (sym (o.is ∙ ap (λ p. item.Outer (record { at = p; label = None; left = o.left; right = o.right })) (sym is))) (unnamed b x rest o.left o.right o.read)
blank_back place _ x rest i h b is = absurd h

-- after `stage`
stage_word_back : (place : ℕ) (w : Word) (x : Span) (rest : List Symbol) (i : RawItem) → NextRest (stage_word place w x) rest i → (s : Span) → s.from ≡ place → Item (at word.Stage s ∷ at w x ∷ rest) i
stage_word_back place w x rest i h = grind arith

stage_outer : (place : ℕ) (a : Span) (w : Word) (x : Span) (rest : List Symbol) (i : RawItem) → LeftRest Stars None place None (elem.Stage a ∷ []) (at w x ∷ rest) i → (s : Span) → s.from ≡ place → Item (at word.Stage s ∷ at word.Name a ∷ at w x ∷ rest) i
stage_outer place a w x rest i up s is = outer_item [] None no_label place (at word.Stage s ∷ at word.Name a ∷ at w x ∷ rest) i (sym is) (elem_back_left None (at word.Stage s ∷ at word.Name a ∷ []) (elem.Stage a ∷ []) (elem_stage false s a) place None [] (at w x ∷ rest) i up)

stage_named_back : (place : ℕ) (a : Span) (w : Word) (x : Span) (rest : List Symbol) (i : RawItem) → NextRest (stage_begun place a w) rest i → (s : Span) → s.from ≡ place → Item (at word.Stage s ∷ at word.Name a ∷ at w x ∷ rest) i
stage_named_back place a w x rest i h s is = grind (arith, stage_outer, behind_left_back)

stage_equals_back : (a : Span) (w : Word) (x : Span) (rest : List Symbol) (i : RawItem) → NextRest (stage_equals a w) rest i → (s e : Span) → Item (at word.Stage s ∷ at word.Name a ∷ at word.Equals e ∷ at w x ∷ rest) i
stage_equals_back a word.OpenBrace x rest i up s e =
    rw (up.is, up.cut) (stage_item s a e x up.close up.front up.ending up.more up.read up.may_dot)
stage_equals_back a _ x rest i h s e = absurd h

-- after `context`
context_word_back : (w : Word) (x : Span) (rest : List Symbol) (i : RawItem) → NextRest (context_word w x) rest i → (c : Span) → Item (at word.Context c ∷ at w x ∷ rest) i
context_word_back w x rest i h = grind arith

context_named_back : (a : Span) (w : Word) (x : Span) (rest : List Symbol) (i : RawItem) → NextRest (context_begun a w) rest i → (c : Span) → Item (at word.Context c ∷ at word.Name a ∷ at w x ∷ rest) i
context_named_back a w x rest i h c = grind arith

context_equals_back : (a : Span) (w : Word) (x : Span) (rest : List Symbol) (i : RawItem) → NextRest (context_equals a w) rest i → (c e : Span) → Item (at word.Context c ∷ at word.Name a ∷ at word.Equals e ∷ at w x ∷ rest) i
context_equals_back a word.OpenBrace x rest i up c e =
    rw (up.end.1, up.cut) (context c a e x up.front up.behind up.more up.read up.end.0)
context_equals_back a _ x rest i h c e = absurd h

-- after a directive
interactive_back : (w : Word) (x : Span) (rest : List Symbol) (i : RawItem) → NextRest (interactive_word w x) rest i → (d : Span) → Item (at word.Interactive d ∷ at w x ∷ rest) i
interactive_back word.Name x rest i h d = given_item (λ r. at word.Interactive d ∷ at word.Name x ∷ r) (item.Interactive x) rest i h (interactive d x)
interactive_back _ x rest i h d = absurd h

trace_word_back : (place : ℕ) (w : Word) (x : Span) (rest : List Symbol) (i : RawItem) → NextRest (trace_word place w x) rest i → (d : Span) → d.from ≡ place → Item (at word.Trace d ∷ at w x ∷ rest) i
trace_word_back place word.Blank x rest i h d is = h d (at word.Blank x) is (blank_limit x)
trace_word_back place word.Number x rest i h d is = h d (at word.Number x) is (number_limit x)
trace_word_back place _ x rest i h d is = absurd h

trace_limit_back : (place : ℕ) (limit : Option Span) (w : Word) (x : Span) (rest : List Symbol) (i : RawItem) → NextRest (trace_limit place limit w x) rest i → (d : Span) (m : Symbol) → d.from ≡ place → Limit m limit → Item (at word.Trace d ∷ m ∷ at w x ∷ rest) i
trace_limit_back place limit w x rest i h = grind arith

trace_stage_back : (place : ℕ) (limit : Option Span) (a : Span) (w : Word) (x : Span) (rest : List Symbol) (i : RawItem) → NextRest (trace_stage place limit a w x) rest i
    → (d : Span) (m : Symbol) → d.from ≡ place → Limit m limit → Item (at word.Trace d ∷ m ∷ at word.Name a ∷ at w x ∷ rest) i
trace_stage_back place limit a word.Name x rest i h d m is l =
    given_item (λ r. at word.Trace d ∷ m ∷ at word.Name a ∷ at word.Name x ∷ r) (item.Trace place limit a (Named x)) rest i h
    (λ dot. subst (λ p. Item (at word.Trace d ∷ m ∷ at word.Name a ∷ at word.Name x ∷ at word.Dot dot ∷ []) (item.Trace p limit a (Named x))) is (trace_named d a x dot m limit l))
trace_stage_back place limit a word.OpenBrace x rest i up d m is l =
    let end : DotRest (item.Trace place limit a (Listed up.more)) up.behind i = up.end in
    subst (λ r. Item (at word.Trace d ∷ m ∷ at word.Name a ∷ at word.OpenBrace x ∷ r) i) (sym up.cut)
    (given_item (λ r. at word.Trace d ∷ m ∷ at word.Name a ∷ at word.OpenBrace x ∷ (up.front ++ r)) (item.Trace place limit a (Listed up.more)) up.behind i end
    (λ dot. subst (λ p. Item (at word.Trace d ∷ m ∷ at word.Name a ∷ at word.OpenBrace x ∷ (up.front ++ at word.Dot dot ∷ [])) (item.Trace p limit a (Listed up.more))) is (trace_listed d a x dot m limit up.front up.more l up.read)))
trace_stage_back place limit a _ x rest i h d m is l = absurd h

-- where nothing but names and places are kept
plain_back : (p : Plain) (w : Word) (x : Span) (rest : List Symbol) (i : RawItem) → NextRest (step_plain p w x) rest i → PlainRest p (at w x ∷ rest) i
plain_back p w x rest i h = grind (arith, begin_back, labelled_back, blank_back, stage_word_back, stage_named_back, stage_equals_back, context_word_back, context_named_back, context_equals_back, interactive_back, trace_word_back, trace_limit_back, trace_stage_back)

-- what may stand after a symbol may, with it, stand after the state before it
pub step_back : (s : State) (w : Word) (x : Span) (rest : List Symbol) (i : RawItem) → NextRest (step s w x) rest i → Rest s (at w x ∷ rest) i
step_back (state.Atom a used) w x rest i h = atom_back' a.levels a.name a.args a.nodes used w x rest i h
step_back s w x rest i h = grind (arith, plain_back, names_back, declared_back, ending_back, rules_back, rule_named_back, rule_back, before_goal_back, bag_back)
