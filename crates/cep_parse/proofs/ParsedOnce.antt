-- A derivation of an item, and of a file, runs to it.
use Rattle.std.proofs.Common.{◌≡◌, ℕ, ◌+◌, ◌<◌, Bool, true, false, List, [], ◌∷◌, ◌++◌, Option, None, Some, refl, sym, ap, ◌∙◌, arith, append_assoc, length, subst, ◌⊎◌, ◌≤◌, inl, inr, ⊎_elim, zero, suc, get_or, take, drop, length-append, take-append-drop}
use Rattle.std.proofs.lemmas.Bool.{ne_eqb, false≢true, cases_eq}
use Rattle.std.proofs.lemmas.List.{append-nil, drop_more, length-map, take_all, take_more}
use Rattle.cep_parse.specs.declared.raw.Span.{Span}
use Rattle.cep_parse.specs.declared.raw.RawAtom.{RawAtom}
use Rattle.cep_parse.specs.declared.raw.RawElem.{RawElem}
use Rattle.cep_parse.specs.declared.raw.RawItem.{RawItem}
use Rattle.cep_parse.specs.declared.raw.RawNode.{RawNode}
use Rattle.cep_parse.specs.declared.symbol.Symbol.{Symbol}
use Rattle.cep_parse.specs.declared.symbol.Word.{Word}
use Rattle.cep_parse.specs.declared.state.BagHome.{BagHome}
use Rattle.cep_parse.specs.declared.state.BagPlace.{BagPlace}
use Rattle.cep_parse.specs.declared.state.State.{State}
use Rattle.cep_parse.specs.Grammar.{at, names, place_of, Args, Atom, Side, Elem, Stars, Goals, BagElem, BagMore, Bag, MayDot, Limit, Item, File, IsOneOf}
use Rattle.cep_parse.specs.Grammar.Atom.{atom}
use Rattle.cep_parse.specs.Grammar.Elem.{atom as elem_atom, kept, stage as elem_stage}
use Rattle.cep_parse.specs.Grammar.Stars.{none as no_stars, more as more_stars}
use Rattle.cep_parse.specs.Grammar.Elems.{elems}
use Rattle.cep_parse.specs.Grammar.Sides.{sides}
use Rattle.cep_parse.specs.Grammar.Goals.{none as no_goals, more as more_goals}
use Rattle.cep_parse.specs.Grammar.IsOneOf.{one as is_one, other as is_other}
use Rattle.cep_parse.specs.Grammar.BagElem.{unit as bag_unit, atom as bag_atom}
use Rattle.cep_parse.specs.Grammar.BagMore.{none as no_atoms, more as more_atoms}
use Rattle.cep_parse.specs.Grammar.Bag.{empty as empty_bag, some as some_bag}
use Rattle.cep_parse.specs.Grammar.Label.{none as no_label, named as a_label}
use Rattle.cep_parse.specs.Grammar.Item.{pred, back as back_pred, fact as fact_pred, colon, bare_clause, labelled, clause, outer, unnamed, stage as stage_item, context, trace_named, trace_listed, interactive}
use Rattle.cep_parse.specs.Machine.{atom_begun, bag_ended, step, is_within, begin}
use Rattle.cep_parse.proofs.BackAtoms.{moved, run, run_from, atom_at, state_behind, names_run, StandsBehind, Config, run_append, run_stopped, Rest, NextRest}
use Rattle.cep_parse.proofs.BackItems.{atom_runs, rule_at, EndsElem, regroup, sides_run, sides_run_behind, rules_run, begin_back, step_back, state_ends}
use Rattle.cep_parse.specs.Grammar.File.{none as no_items, more as more_items}
use Rattle.std.specs.Prelude.{Result, Ok, Err}
use Rattle.cep_lex.specs.declared.token.Token.{Token}
use Rattle.cep_parse.specs.declared.fault.ParseFault.{ParseFault}
use Rattle.cep_parse.specs.declared.fault.ParseFault.TheVariants.{Unexpected, Nested}
use Rattle.cep_base.specs.declared.limits.TheConstants.{MOST_OPEN}
use Rattle.cep_parse.specs.Symbols.{symbols_of, symbol_of}
use Rattle.cep_parse.specs.Files.{Begins, open_from, IsShallow, IsUnexpected, IsNested, IsParsed, open_behind}
use Rattle.cep_parse.specs.Files.IsUnexpected.{symbol as at_symbol, ended as at_end}
use Rattle.cep_parse.specs.declared.state.Next.{Next}
use Rattle.cep_parse.specs.declared.state.Next.TheVariants.{Go, Item as ItemEnds, Stop}
use Rattle.cep_parse.specs.Grammar.MayDot.{none as no_dot, dot as a_dot}
use Rattle.cep_parse.proofs.Within.{is_between, begin_within, step_within}
use Rattle.cep_lex.specs.Cuts.{AreTokens, Cuts, StartsWith}
use Rattle.cep_parse.specs.declared.raw.RawElem.TheVariants as elem
use Rattle.cep_parse.specs.declared.raw.RawItem.TheVariants as item
use Rattle.cep_parse.specs.declared.symbol.Word.TheVariants as word
use Rattle.cep_parse.specs.declared.state.BagHome.TheVariants as home
use Rattle.cep_parse.specs.declared.state.BagPlace.TheVariants as bag
use Rattle.cep_parse.specs.declared.state.Plain.TheVariants as plain
use Rattle.cep_parse.specs.declared.state.RulePlace.TheVariants as rule
use Rattle.cep_parse.specs.declared.state.State.TheVariants as state
use Rattle.cep_parse.specs.declared.state.Use.TheVariants as use_
use Rattle.cep_parse.proofs.BackItems as rules

-- goals after the first, up to the dot
goals_run : (symbols : List Symbol) (goals : List RawAtom) → Goals symbols goals → (items : List RawItem) (label : Option Span) (head : RawAtom) (so_far : List RawAtom) (name : Span) (count : ℕ) (nodes : List RawNode) (x : Span) (rest : List Symbol)
    → run items (atom_at name count nodes [] (use_.Goal (record { label = label; head = head; goals = so_far }))) (symbols ++ at word.Dot x ∷ rest)
    ≡ run (items ++ item.Clause label head (so_far ++ record { name = name; args = count; nodes = nodes } ∷ goals) ∷ []) (state.Plain plain.Top) rest
goals_run symbols goals no_goals items label head so_far name count nodes x rest = refl
goals_run symbols goals (more_goals mark a first others goal goals' is_one (atom b inner count' nodes' args) h) items label head so_far name count nodes x rest =
    let so_far' = so_far ++ record { name = name; args = count; nodes = nodes } ∷ [] in
    grind (arith, append_assoc, atom_runs inner count' nodes' args items b (use_.Goal (record { label = label; head = head; goals = so_far' })) (others ++ at word.Dot x ∷ rest), goals_run others goals' h items label head so_far' b count' nodes' x rest)
goals_run symbols goals (more_goals mark a first others goal goals' is_other (atom b inner count' nodes' args) h) items label head so_far name count nodes x rest =
    let so_far' = so_far ++ record { name = name; args = count; nodes = nodes } ∷ [] in
    grind (arith, append_assoc, atom_runs inner count' nodes' args items b (use_.Goal (record { label = label; head = head; goals = so_far' })) (others ++ at word.Dot x ∷ rest), goals_run others goals' h items label head so_far' b count' nodes' x rest)

-- a bag in reading, by its parts
abbrev bag_at : BagHome → List RawAtom → BagPlace → State
bag_at home_ atoms place = state.Bag (record { home = home_; atoms = atoms }) place

-- where an element of a bag is to come
abbrev Awaits : BagPlace → Type 0
Awaits place = (place ≡ bag.First) ⊎ (place ≡ bag.Next)

-- what stands after an element of a bag
abbrev EndsBagElem : Word → Type 0
EndsBagElem mark = (mark ≡ word.Comma) ⊎ (mark ≡ word.Star) ⊎ (mark ≡ word.CloseBrace)

-- after an atom of a bag
bag_atom_ends : (items : List RawItem) (home_ : BagHome) (atoms : List RawAtom) (name : Span) (count : ℕ) (nodes : List RawNode) (mark : Word) (x : Span) (rest : List Symbol) → EndsBagElem mark
    → run items (atom_at name count nodes [] (use_.Bag (record { home = home_; atoms = atoms }))) (at mark x ∷ rest) ≡ run items (bag_at home_ (atoms ++ record { name = name; args = count; nodes = nodes } ∷ []) bag.Behind) (at mark x ∷ rest)
bag_atom_ends items home_ atoms name count nodes mark x rest ends = grind arith

-- an element of a bag
bag_elem_runs : (symbols : List Symbol) (es : List RawAtom) → BagElem symbols es → (items : List RawItem) (home_ : BagHome) (atoms : List RawAtom) (place : BagPlace) (mark : Word) (x : Span) (rest : List Symbol) → Awaits place → EndsBagElem mark
    → run items (bag_at home_ atoms place) (symbols ++ at mark x ∷ rest) ≡ run items (bag_at home_ (atoms ++ es) bag.Behind) (at mark x ∷ rest)
bag_elem_runs symbols es (bag_unit open_ close) items home_ atoms place mark x rest awaits ends = grind (arith, append-nil)
bag_elem_runs symbols es (bag_atom inner a (atom name args count nodes h)) items home_ atoms place mark x rest awaits ends =
    grind (arith, atom_runs args count nodes h items name (use_.Bag (record { home = home_; atoms = atoms })) (at mark x ∷ rest), bag_atom_ends items home_ atoms name count nodes mark x rest ends)

-- what the further elements of a bag begin with
record EndsBagSo (symbols : List Symbol) : Type 0 where
  mark : Word
  x : Span
  rest : List Symbol
  is : symbols ≡ at mark x ∷ rest
  ends : EndsBagElem mark

bag_mark : (mark : Word) → IsOneOf word.Comma word.Star mark → EndsBagElem mark
bag_mark mark is_one = inl refl
bag_mark mark is_other = inr (inl refl)

atoms_end : (symbols : List Symbol) (es : List RawAtom) → BagMore symbols es → (x : Span) (rest : List Symbol) → EndsBagSo (symbols ++ at word.CloseBrace x ∷ rest)
atoms_end symbols es no_atoms x rest = record { mark = word.CloseBrace; x = x; rest = rest; is = refl; ends = grind arith }
atoms_end symbols es (more_atoms mark a first' others fs gs mark_is h g) x rest = record { mark = mark; x = a; rest = (first' ++ others) ++ at word.CloseBrace x ∷ rest; is = refl; ends = bag_mark mark mark_is }

-- the further elements of a bag, and its brace
bag_more_runs : (symbols : List Symbol) (es : List RawAtom) → BagMore symbols es → (items : List RawItem) (home_ : BagHome) (atoms : List RawAtom) (x : Span) (rest : List Symbol)
    → run items (bag_at home_ atoms bag.Behind) (symbols ++ at word.CloseBrace x ∷ rest) ≡ run_from (moved items (bag_ended home_ (atoms ++ es))) rest
bag_more_runs symbols es no_atoms items home_ atoms x rest = grind (arith, append-nil)
bag_more_runs symbols es (more_atoms mark a first' others fs gs is_one h g) items home_ atoms x rest =
    let end = atoms_end others gs g x rest in
    grind (arith, append_assoc, end.is, bag_elem_runs first' fs h items home_ atoms bag.Next end.mark end.x end.rest (inr refl) end.ends, bag_more_runs others gs g items home_ (atoms ++ fs) x rest)
bag_more_runs symbols es (more_atoms mark a first' others fs gs is_other h g) items home_ atoms x rest =
    let end = atoms_end others gs g x rest in
    grind (arith, append_assoc, end.is, bag_elem_runs first' fs h items home_ atoms bag.Next end.mark end.x end.rest (inr refl) end.ends, bag_more_runs others gs g items home_ (atoms ++ fs) x rest)

-- a bag after its opening brace
bag_runs : (symbols : List Symbol) (es : List RawAtom) → Bag symbols es → (items : List RawItem) (home_ : BagHome) (rest : List Symbol)
    → run items (bag_at home_ [] bag.First) (symbols ++ rest) ≡ run_from (moved items (bag_ended home_ es)) rest
bag_runs symbols es (empty_bag close) items home_ rest = refl
bag_runs symbols es (some_bag close first' others fs gs h g) items home_ rest =
    let end = atoms_end others gs g close rest in
    grind (arith, append_assoc, end.is, bag_elem_runs first' fs h items home_ [] bag.First end.mark end.x end.rest (inl refl) end.ends, bag_more_runs others gs g items home_ fs close rest)

-- names of a declaration
decl_names_run : (more : List Span) (items : List RawItem) (name : Span) (so_far : List Span) (rest : List Symbol)
    → run items (state.Names name so_far) (names more ++ rest) ≡ run items (state.Names name (so_far ++ more)) rest
decl_names_run [] items name so_far rest = rw append-nil refl
decl_names_run (a ∷ more) items name so_far rest = grind (arith, append_assoc so_far (a ∷ []) more, decl_names_run more items name (so_far ++ a ∷ []) rest)

-- after the name of a first atom: its arguments, and what stands after them
head_runs : (symbols : List Symbol) (count : ℕ) (nodes : List RawNode) → Args symbols count nodes → (items : List RawItem) (name : Span) (mark : Word) (x : Span) (rest : List Symbol) → StandsBehind mark
    → run items (state.Names name []) (symbols ++ at mark x ∷ rest) ≡ run items (atom_at name count nodes [] (use_.First name.from None)) (at mark x ∷ rest)
head_runs symbols count nodes h items name mark x rest stands = grind (arith, names_run symbols count nodes h items name [] mark x rest stands)

-- what stands after the first element of an outer rule
abbrev pub EndsFirst : Word → Type 0
EndsFirst mark = (mark ≡ word.Star) ⊎ (mark ≡ word.Lolli)

-- the first atom of an outer rule is its first element
head_is_elem : (items : List RawItem) (place : ℕ) (label : Option Span) (name : Span) (count : ℕ) (nodes : List RawNode) (mark : Word) (x : Span) (rest : List Symbol) → EndsFirst mark
    → run items (atom_at name count nodes [] (use_.First place label)) (at mark x ∷ rest)
    ≡ run items (rule_at None place label (elem.Atom false (record { name = name; args = count; nodes = nodes }) ∷ []) None rule.Behind) (at mark x ∷ rest)
head_is_elem items place label name count nodes mark x rest ends = grind arith

-- a stage named by itself is one too
stage_is_elem : (items : List RawItem) (place : ℕ) (a : Span) (mark : Word) (x : Span) (rest : List Symbol) → EndsFirst mark
    → run items (state.Plain (plain.StageNamed place a)) (at mark x ∷ rest) ≡ run items (rule_at None place None (elem.Stage a ∷ []) None rule.Behind) (at mark x ∷ rest)
stage_is_elem items place a mark x rest ends = grind arith

-- the first element of an outer rule without a label
pub first_elem_runs : (symbols : List Symbol) (es : List RawElem) → Elem (record { outer = true; right = false }) symbols es
    → (items : List RawItem) (mark : Word) (x : Span) (rest : List Symbol) → EndsFirst mark
    → run items (state.Plain plain.Top) (symbols ++ at mark x ∷ rest) ≡ run items (rule_at None (place_of symbols) None es None rule.Behind) (at mark x ∷ rest)
first_elem_runs symbols es (elem_atom side inner a (atom name args count nodes h)) items mark x rest ends = rw (head_runs args count nodes h items name mark x rest (grind arith), head_is_elem items name.from None name count nodes mark x rest ends)
first_elem_runs symbols es (kept outer' dollar inner a (atom name args count nodes h)) items mark x rest ends =
    rules.left_elem_runs true _ _ (kept true dollar inner a (atom name args count nodes h)) items None dollar.from None [] mark x rest refl (grind arith)
first_elem_runs symbols es (elem_stage right stage_ a) items mark x rest ends = stage_is_elem items stage_.from a mark x rest ends
first_elem_runs symbols es given items mark x rest ends = refl

-- the same after a label
labelled_elem_runs : (symbols : List Symbol) (es : List RawElem) → Elem (record { outer = true; right = false }) symbols es
    → (items : List RawItem) (a : Span) (mark : Word) (x : Span) (rest : List Symbol) → EndsFirst mark
    → run items (state.Plain (plain.Labelled a)) (symbols ++ at mark x ∷ rest) ≡ run items (rule_at None a.from (Some a) es None rule.Behind) (at mark x ∷ rest)
labelled_elem_runs symbols es (elem_atom side inner b (atom name args count nodes h)) items a mark x rest ends =
    atom_runs args count nodes h items name (use_.First a.from (Some a)) (at mark x ∷ rest) ∙ head_is_elem items a.from (Some a) name count nodes mark x rest ends
labelled_elem_runs symbols es (kept outer' dollar inner b (atom name args count nodes h)) items a mark x rest ends =
    rules.left_elem_runs true _ _ (kept true dollar inner b (atom name args count nodes h)) items None a.from (Some a) [] mark x rest refl (grind arith)
labelled_elem_runs symbols es given items a mark x rest ends = refl

-- what the elements after the first of a left side begin with
record EndsFirstSo (symbols : List Symbol) : Type 0 where
  mark : Word
  x : Span
  rest : List Symbol
  is : symbols ≡ at mark x ∷ rest
  ends : EndsFirst mark

left_end : (side : Side) (symbols : List Symbol) (es : List RawElem) → Stars side symbols es → (x : Span) (rest : List Symbol) → EndsFirstSo (symbols ++ at word.Lolli x ∷ rest)
left_end side symbols es (no_stars side') x rest = record { mark = word.Lolli; x = x; rest = rest; is = refl; ends = inr refl }
left_end side symbols es (more_stars side' s first' others fs gs one' stars) x rest = record { mark = word.Star; x = s; rest = (first' ++ others) ++ at word.Lolli x ∷ rest; is = refl; ends = inl refl }

-- the place of the first element is that of the side
place_first : (side : Side) (symbols : List Symbol) (es : List RawElem) (others rest : List Symbol) → Elem side symbols es → place_of ((symbols ++ others) ++ rest) ≡ place_of symbols
place_first side symbols es others rest given = grind arith

-- the item ended, and a dot may end it still
pub record RunsTo (symbols : List Symbol) (i : RawItem) (items : List RawItem) (rest : List Symbol) : Type 0 where
  pub may_dot : Bool
  pub is : run items (state.Plain plain.Top) (symbols ++ rest) ≡ run (items ++ i ∷ []) (state_behind may_dot) rest

-- an item that its dot ends
dotted : (symbols : List Symbol) (i : RawItem) (items : List RawItem) (rest : List Symbol) → run items (state.Plain plain.Top) (symbols ++ rest) ≡ run (items ++ i ∷ []) (state.Plain plain.Top) rest → RunsTo symbols i items rest
dotted symbols i items rest is = record { may_dot = false; is = is }

-- declarations with names
decl_runs : (a : Span) (args : List Span) (behind : List Symbol) (i : RawItem) (items : List RawItem) (rest : List Symbol) → run items (state.Names a args) (behind ++ rest) ≡ run (items ++ i ∷ []) (state.Plain plain.Top) rest → RunsTo (at word.Name a ∷ (names args ++ behind)) i items rest
decl_runs a args behind i items rest is = dotted _ i items rest (grind (arith, append_assoc (names args) behind rest, decl_names_run args items a [] (behind ++ rest)))

-- a dot that may stand after an item
may_dot_runs : (ending : List Symbol) → MayDot ending → (items : List RawItem) (rest : List Symbol)
    → (b : Bool) × (run items (state.Plain plain.Ended) (ending ++ rest) ≡ run items (state_behind b) rest)
may_dot_runs ending given items rest = grind arith

-- the limit of a trace
limit_runs : (mark : Symbol) (limit : Option Span) → Limit mark limit → (items : List RawItem) (place : ℕ) (rest : List Symbol)
    → run items (state.Plain (plain.TraceWord place)) (mark ∷ rest) ≡ run items (state.Plain (plain.TraceLimit place limit)) rest
limit_runs mark limit given items place rest = grind arith

-- a clause after its head
clause_end : (arrow x : Span) (first' others : List Symbol) (label : Option Span) (head goal : RawAtom) (goals : List RawAtom) → Atom first' goal → Goals others goals → (items : List RawItem) (rest : List Symbol)
    → run items (state.Goal (record { label = label; head = head; goals = [] })) (first' ++ (others ++ at word.Dot x ∷ rest)) ≡ run (items ++ item.Clause label head (goal ∷ goals) ∷ []) (state.Plain plain.Top) rest
clause_end arrow x first' others label head goal goals (atom name inner count nodes args) h items rest =
    atom_runs inner count nodes args items name (use_.Goal (record { label = label; head = head; goals = [] })) (others ++ at word.Dot x ∷ rest)
    ∙ goals_run others goals h items label head [] name count nodes x rest

-- the parts of a clause, regrouped
regroup_clause : (args : List Symbol) (arrow : Symbol) (first' others : List Symbol) (x : Symbol) (rest : List Symbol)
    → (args ++ arrow ∷ (first' ++ (others ++ x ∷ []))) ++ rest ≡ args ++ arrow ∷ (first' ++ (others ++ x ∷ rest))
regroup_clause args arrow first' others x rest = simp (append_assoc)

-- the dot of a clause with a label, whose head has arguments
labelled_dot : (items : List RawItem) (a name : Span) (count : ℕ) (nodes : List RawNode) (x : Span) (rest : List Symbol) → 0 < count
    → run items (atom_at name count nodes [] (use_.First a.from (Some a))) (at word.Dot x ∷ rest) ≡ run (items ++ item.Clause (Some a) (record { name = name; args = count; nodes = nodes }) [] ∷ []) (state.Plain plain.Top) rest
labelled_dot items a name count nodes x rest some = rw (ne_eqb count 0 (λ e. absurd (omega arith))) refl

-- an item
pub item_runs : (symbols : List Symbol) (i : RawItem) → Item symbols i → (items : List RawItem) (rest : List Symbol) → RunsTo symbols i items rest
item_runs symbols i (pred a colon_ p x args) items rest = decl_runs a args _ _ items rest (grind arith)
item_runs symbols i (back_pred a colon_ p x args) items rest = decl_runs a args _ _ items rest (grind arith)
item_runs symbols i (fact_pred a colon_ p x args) items rest = decl_runs a args _ _ items rest (grind arith)
item_runs symbols i (colon a colon_ b x args) items rest = decl_runs a args _ _ items rest (grind arith)
item_runs symbols i (bare_clause x inner head (atom name args count nodes h)) items rest =
    dotted _ _ items rest (ap (run items (state.Names name [])) (append_assoc args (at word.Dot x ∷ []) rest) ∙ head_runs args count nodes h items name word.Dot x rest (inl refl))
item_runs symbols i (labelled a colon_ x inner head (atom name args count nodes h) some) items rest =
    dotted _ _ items rest (ap (run items (state.Atom (atom_begun name) (use_.First a.from (Some a)))) (append_assoc args (at word.Dot x ∷ []) rest)
    ∙ atom_runs args count nodes h items name (use_.First a.from (Some a)) (at word.Dot x ∷ rest) ∙ labelled_dot items a name count nodes x rest some)
item_runs symbols i (clause arrow x before inner first' others label head goal goals no_label (atom name args count nodes h) g k) items rest =
    dotted _ _ items rest (ap (run items (state.Names name [])) (regroup_clause args (at word.Back arrow) first' others (at word.Dot x) rest)
    ∙ head_runs args count nodes h items name word.Back arrow _ (inr (inl refl)) ∙ clause_end arrow x first' others None (record { name = name; args = count; nodes = nodes }) goal goals g k items rest)
item_runs symbols i (clause arrow x before inner first' others label head goal goals (a_label a colon_) (atom name args count nodes h) g k) items rest =
    dotted _ _ items rest (ap (run items (state.Atom (atom_begun name) (use_.First a.from (Some a)))) (regroup_clause args (at word.Back arrow) first' others (at word.Dot x) rest)
    ∙ atom_runs args count nodes h items name (use_.First a.from (Some a)) _ ∙ clause_end arrow x first' others (Some a) (record { name = name; args = count; nodes = nodes }) goal goals g k items rest)
item_runs symbols i (outer before inner label left right no_label (sides outer' arrow x before' after left' right' (elems side first' others fs gs one' stars) g)) items rest =
    let next = left_end side others gs stars arrow (after ++ at word.Dot x ∷ rest) in
    dotted _ _ items rest
    (grind (arith, regroup first' others (at word.Lolli arrow) after (at word.Dot x) rest, next.is, first_elem_runs first' fs one' items next.mark next.x next.rest next.ends, sides_run_behind true others after gs right stars g items None (place_of first') None fs arrow x rest refl, place_first side first' fs others (at word.Lolli arrow ∷ (after ++ at word.Dot x ∷ [])) one'))
item_runs symbols i (outer before inner label left right (a_label a colon_) (sides outer' arrow x before' after left' right' (elems side first' others fs gs one' stars) g)) items rest =
    let next = left_end side others gs stars arrow (after ++ at word.Dot x ∷ rest) in
    dotted _ _ items rest
    (grind (arith, regroup first' others (at word.Lolli arrow) after (at word.Dot x) rest, next.is, labelled_elem_runs first' fs one' items a next.mark next.x next.rest next.ends, sides_run_behind true others after gs right stars g items None a.from (Some a) fs arrow x rest refl))
item_runs symbols i (unnamed blank colon_ inner left right h) items rest = dotted _ _ items rest (sides_run true inner left right h items None blank.from None rest refl)
item_runs symbols i (stage_item stage_ a equals open_ close inner ending rules' h d) items rest =
    let dot' = may_dot_runs ending d (items ++ item.Stage a rules' ∷ []) rest in
    record { may_dot = dot'.0; is = ap (run items (state.Rules (record { name = a; rules = [] }))) (append_assoc inner (at word.CloseBrace close ∷ ending) rest) ∙ rules_run inner rules' h items a [] (at word.CloseBrace close ∷ (ending ++ rest)) ∙ dot'.1 }
item_runs symbols i (context context_ a equals open_ inner ending atoms h d) items rest =
    let dot' = may_dot_runs ending d (items ++ item.Context a atoms ∷ []) rest in
    record { may_dot = dot'.0; is = ap (run items (bag_at (home.Context a) [] bag.First)) (append_assoc inner ending rest) ∙ bag_runs inner atoms h items (home.Context a) (ending ++ rest) ∙ dot'.1 }
item_runs symbols i (trace_named directive stage_ a x mark limit l) items rest = dotted _ _ items rest (limit_runs mark limit l items directive.from (at word.Name stage_ ∷ at word.Name a ∷ at word.Dot x ∷ rest))
item_runs symbols i (trace_listed directive stage_ open_ x mark limit inner atoms l h) items rest =
    dotted _ _ items rest
    (limit_runs mark limit l items directive.from (at word.Name stage_ ∷ at word.OpenBrace open_ ∷ ((inner ++ at word.Dot x ∷ []) ++ rest))
    ∙ ap (run items (bag_at (home.Trace directive.from limit stage_) [] bag.First)) (append_assoc inner (at word.Dot x ∷ []) rest)
    ∙ bag_runs inner atoms h items (home.Trace directive.from limit stage_) (at word.Dot x ∷ rest))
item_runs symbols i given items rest = grind (arith, dotted)

-- A derivation of a file runs to it, so symbols are one raw file at most.

-- what begins with a symbol that is no dot
record StartsAfresh (symbols : List Symbol) : Type 0 where
  word_ : Word
  x : Span
  rest : List Symbol
  is : symbols ≡ at word_ x ∷ rest
  same : step (state.Plain plain.Ended) word_ x ≡ step (state.Plain plain.Top) word_ x

-- the elements of a side begin so
elem_starts : (side : Side) (symbols : List Symbol) (es : List RawElem) → Elem side symbols es → (rest : List Symbol) → StartsAfresh (symbols ++ rest)
elem_starts side symbols es given rest = grind arith

starts_name : (a : Span) (rest : List Symbol) → StartsAfresh (at word.Name a ∷ rest)
starts_name a rest = record { word_ = word.Name; x = a; rest = rest; is = refl; same = refl }

-- so does an item
item_starts : (symbols : List Symbol) (i : RawItem) → Item symbols i → StartsAfresh symbols
item_starts symbols i (bare_clause x inner head (atom name args count nodes h)) = starts_name name _
item_starts symbols i (clause arrow x before inner first' others label head goal goals no_label (atom name args count nodes h) g k) = starts_name name _
item_starts symbols i (outer before inner label left right no_label (sides outer' arrow x before' after left' right' (elems side first' others fs gs one' stars) g)) = grind (arith, append_assoc, elem_starts)
item_starts symbols i (unnamed blank colon_ inner left right h) = record { word_ = word.Blank; x = blank; rest = at word.Colon colon_ ∷ inner; is = refl; same = refl }
item_starts symbols i (stage_item stage_ a equals open_ close inner ending rules' h d) = record { word_ = word.Stage; x = stage_; rest = _; is = refl; same = refl }
item_starts symbols i (context context_ a equals open_ inner ending atoms h d) = record { word_ = word.Context; x = context_; rest = _; is = refl; same = refl }
item_starts symbols i (interactive directive a x) = record { word_ = word.Interactive; x = directive; rest = _; is = refl; same = refl }
item_starts symbols i (trace_named directive stage_ a x mark limit l) = record { word_ = word.Trace; x = directive; rest = _; is = refl; same = refl }
item_starts symbols i (trace_listed directive stage_ open_ x mark limit inner atoms l h) = record { word_ = word.Trace; x = directive; rest = _; is = refl; same = refl }
item_starts symbols i given = grind (arith, starts_name)

-- an item runs alike after one that a dot may end
from_behind : (b : Bool) (symbols : List Symbol) (i : RawItem) → Item symbols i → (items : List RawItem) (rest : List Symbol)
    → run items (state_behind b) (symbols ++ rest) ≡ run items (state.Plain plain.Top) (symbols ++ rest)
from_behind b symbols i h items rest = grind (arith, item_starts, run, run_from, moved)

-- a file is read to its end
pub record IsRead (symbols : List Symbol) (file : List RawItem) (from : Bool) (items : List RawItem) : Type 0 where
  pub may_dot : Bool
  pub is : run items (state_behind from) symbols ≡ Some (record { items = items ++ file; state = state_behind may_dot })

pub file_runs : (symbols : List Symbol) (file : List RawItem) → File symbols file → (from : Bool) (items : List RawItem) → IsRead symbols file from items
file_runs symbols file no_items from items = record { may_dot = from; is = rw append-nil refl }
file_runs symbols file (more_items first' others i more h g) from items =
    let one = item_runs first' i h items others in
    let rest = file_runs others more g one.may_dot (items ++ i ∷ []) in
    record { may_dot = rest.may_dot; is = grind (arith, append_assoc, from_behind from first' i h items others, one.is, rest.is) }

-- the items of a configuration
items_of : Option Config → List RawItem
items_of None = []
items_of (Some c) = c.items

-- symbols are one raw file at most
pub file_once : (symbols : List Symbol) (one other : List RawItem) → File symbols one → File symbols other → one ≡ other
unfolding items_of
file_once symbols one other h g =
    let first' = file_runs symbols one h false [] in
    let second = file_runs symbols other g false [] in
    ap items_of (sym first'.is ∙ second.is)

-- The tokens of a text are read in one way.

-- Tokens have one raw file or one first fault.

-- what begins a file begins so already before its end
begins_before : (front more_ : List Symbol) → Begins (front ++ more_) → Begins front
begins_before front more_ is = record { more = more_ ++ is.more; items = is.items; file = subst (λ symbols. File symbols is.items) (append_assoc front more_ is.more) is.file }

-- a front that stands before a symbol of another cut, or the same, or one after it
abbrev Compared : List Symbol → Symbol → List Symbol → Symbol → Type 0
Compared front next front' next' = ((mid : List Symbol) × (front' ≡ front ++ next ∷ mid)) ⊎ ((front ≡ front') × (next ≡ next')) ⊎ ((mid : List Symbol) × (front ≡ front' ++ next' ∷ mid))

compare : (front rest : List Symbol) (next : Symbol) (front' rest' : List Symbol) (next' : Symbol) → front ++ next ∷ rest ≡ front' ++ next' ∷ rest' → Compared front next front' next'
compare [] rest next [] rest' next' e = grind arith
compare [] rest next (y ∷ front') rest' next' e = inl (front', grind arith)
compare (x ∷ front) rest next [] rest' next' e = inr (inr (front, grind arith))
compare (x ∷ front) rest next (y ∷ front') rest' next' e = grind (arith, compare front rest next front' rest' next')

-- the front with its symbol, as a prefix of what goes on after it
with_next : (front : List Symbol) (next : Symbol) (mid : List Symbol) → front ++ next ∷ mid ≡ (front ++ next ∷ []) ++ mid
with_next front next mid = sym (append_assoc front (next ∷ []) mid)

-- no file begins so, and one does
never_begins : (front : List Symbol) (next : Symbol) (mid more_ : List Symbol) → (Begins (front ++ next ∷ []) → ⊥) → Begins ((front ++ next ∷ mid) ++ more_) → ⊥
never_begins front next mid more_ no_file is = grind (arith, begins_before, with_next)

never_whole : (front : List Symbol) (next : Symbol) (mid : List Symbol) → (Begins (front ++ next ∷ []) → ⊥) → Begins (front ++ next ∷ mid) → ⊥
never_whole front next mid no_file is = never_begins front next mid [] no_file (rw append-nil is)

unexpected_once : (symbols : List Symbol) (size place place' : ℕ) → IsUnexpected symbols size place → IsUnexpected symbols size place' → place ≡ place'
unexpected_once symbols size place place' one other = grind (arith, compare, never_whole)

-- a front with too many open parentheses is not shallow
too_deep : (symbols front rest : List Symbol) → IsShallow symbols → symbols ≡ front ++ rest → open_from 0 front ≡ MOST_OPEN + 1 → ⊥
too_deep symbols front rest shallow cut deep = let most = shallow front rest cut in omega (arith, most, deep)

nested_or_not : (symbols : List Symbol) (size place place' : ℕ) → IsUnexpected symbols size place → IsNested symbols place' → ⊥
nested_or_not symbols size place place' given nested = grind (arith, compare, never_begins, too_deep, with_next)

nested_once : (symbols : List Symbol) (place place' : ℕ) → IsNested symbols place → IsNested symbols place' → place ≡ place'
nested_once symbols place place' one other = grind (arith, compare, too_deep, with_next)

-- a file has no fault
whole_begins : (symbols : List Symbol) (items : List RawItem) → File symbols items → Begins symbols
whole_begins symbols items file = record { more = []; items = items; file = subst (λ s. File s items) (sym (append-nil symbols)) file }

file_expected : (symbols : List Symbol) (items : List RawItem) (size place : ℕ) → File symbols items → IsUnexpected symbols size place → ⊥
file_expected symbols items size place file given = grind (arith, never_whole, whole_begins symbols items file)

file_shallow : (symbols : List Symbol) (place : ℕ) → IsShallow symbols → IsNested symbols place → ⊥
file_shallow symbols place shallow nested = too_deep symbols (nested.front ++ nested.next ∷ []) nested.rest shallow (nested.cut ∙ with_next nested.front nested.next nested.rest) nested.deeper

pub parsed_once : (file_once : (symbols : List Symbol) (one other : List RawItem) → File symbols one → File symbols other → one ≡ other) (text : List ℕ) (tokens : List Token) (one other : Result (List RawItem) ParseFault) → IsParsed text tokens one → IsParsed text tokens other → one ≡ other
parsed_once file_once text tokens (Ok one) (Ok other) is is' = ap Ok (file_once (symbols_of text tokens) one other is.0 is'.0)
parsed_once file_once text tokens (Ok one) (Err (Unexpected place)) is is' = absurd (file_expected (symbols_of text tokens) one (length text) place is.0 is')
parsed_once file_once text tokens (Ok one) (Err (Nested place)) is is' = absurd (file_shallow (symbols_of text tokens) place is.1 is')
parsed_once file_once text tokens (Err (Unexpected place)) (Ok other) is is' = absurd (file_expected (symbols_of text tokens) other (length text) place is'.0 is)
parsed_once file_once text tokens (Err (Unexpected place)) (Err (Unexpected place')) is is' = ap (λ p. Err (Unexpected p)) (unexpected_once (symbols_of text tokens) (length text) place place' is is')
parsed_once file_once text tokens (Err (Unexpected place)) (Err (Nested place')) is is' = absurd (nested_or_not (symbols_of text tokens) (length text) place place' is is')
parsed_once file_once text tokens (Err (Nested place)) (Ok other) is is' = absurd (file_shallow (symbols_of text tokens) place is'.1 is)
parsed_once file_once text tokens (Err (Nested place)) (Err (Unexpected place')) is is' = absurd (nested_or_not (symbols_of text tokens) (length text) place' place is' is)
parsed_once file_once text tokens (Err (Nested place)) (Err (Nested place')) is is' = ap (λ p. Err (Nested p)) (nested_once (symbols_of text tokens) place place' is is')

-- Where the reading of symbols is: what was read, and what may follow.

-- the rest of an item, and further items
pub record ItemThen (R : List Symbol → RawItem → Type 0) (rest : List Symbol) (more : List RawItem) : Type 0 where
  pub part : List Symbol
  pub others : List Symbol
  pub i : RawItem
  pub items : List RawItem
  pub cut : rest ≡ part ++ others
  pub read : R part i
  pub file : File others items
  pub is : more ≡ i ∷ items

-- a dot, and further items
pub record DotThen (rest : List Symbol) (more : List RawItem) : Type 0 where
  pub dot : Span
  pub others : List Symbol
  pub cut : rest ≡ at word.Dot dot ∷ others
  pub file : File others more

-- what may stand after a state, and the further items
abbrev pub FileRest : State → List Symbol → List RawItem → Type 0
FileRest (state.Plain plain.Top) rest more = File rest more
FileRest (state.Plain plain.Ended) rest more = File rest more ⊎ DotThen rest more
FileRest s rest more = ItemThen (Rest s) rest more

-- what may stand after a step, and the further items
abbrev pub FileNext : Next → List Symbol → List RawItem → Type 0
FileNext (Go s) rest more = FileRest s rest more
FileNext (ItemEnds i may_dot) rest more = (items : List RawItem) × (more ≡ i ∷ items) × FileRest (state_behind may_dot) rest items
FileNext Stop rest more = ⊥

go_then : (s : State) → is_between (Go s) ≡ false → (rest : List Symbol) (more : List RawItem) → FileRest s rest more → ItemThen (Rest s) rest more
go_then s h rest more r = grind arith

-- a step that leads to no beginning of an item is within one
then_of : (n : Next) → is_between n ≡ false → (rest : List Symbol) (more : List RawItem) → FileNext n rest more → ItemThen (NextRest n) rest more
then_of (Go s) h rest more r = go_then s h rest more r
then_of (ItemEnds i false) h rest more r = record { part = []; others = rest; i = i; items = r.0; cut = refl; read = (refl, refl); file = r.2; is = r.1 }
then_of (ItemEnds i true) h rest more r =
    ⊎_elim
    (λ (file : File rest r.0). record { part = []; others = rest; i = i; items = r.0; cut = refl; read = (no_dot, refl); file = file; is = r.1 })
    (λ (d : DotThen rest r.0). record { part = at word.Dot d.dot ∷ []; others = d.others; i = i; items = r.0; cut = d.cut; read = (a_dot d.dot, refl); file = d.file; is = r.1 }) r.2
then_of Stop h rest more r = absurd r

of_then : (s : State) → is_within s ≡ true → (rest : List Symbol) (more : List RawItem) → ItemThen (Rest s) rest more → FileRest s rest more
of_then s h rest more r = grind arith

-- a symbol before an item
begin_file : (w : Word) (x : Span) (rest : List Symbol) (more : List RawItem) → FileNext (begin w x) rest more → File (at w x ∷ rest) more
begin_file w x rest more r =
    let t = then_of (begin w x) (begin_within w x) rest more r in
    subst (λ ms. File (at w x ∷ rest) ms) (sym t.is) (subst (λ b. File (at w x ∷ b) (t.i ∷ t.items)) (sym t.cut) (more_items (at w x ∷ t.part) t.others t.i t.items (begin_back w x t.part t.i t.read) t.file))

within_file : (s : State) → is_within s ≡ true → (w : Word) (x : Span) (rest : List Symbol) (more : List RawItem) → FileNext (step s w x) rest more → FileRest s (at w x ∷ rest) more
within_file s h w x rest more r =
    let t = then_of (step s w x) (step_within s w x h) rest more r in
    of_then s h (at w x ∷ rest) more (record { part = at w x ∷ t.part; others = t.others; i = t.i; items = t.items; cut = ap (λ b. at w x ∷ b) t.cut; read = step_back s w x t.part t.i t.read; file = t.file; is = t.is })

ended_file : (w : Word) (x : Span) (rest : List Symbol) (more : List RawItem) → FileNext (step (state.Plain plain.Ended) w x) rest more → FileRest (state.Plain plain.Ended) (at w x ∷ rest) more
ended_file w x rest more r = grind (arith, begin_file)

-- what may stand after a symbol may, with it, stand after the state before it
file_back : (s : State) (w : Word) (x : Span) (rest : List Symbol) (more : List RawItem) → FileNext (step s w x) rest more → FileRest s (at w x ∷ rest) more
file_back s w x rest more r = grind (arith, ended_file, begin_file, within_file)

-- What was read: with what may stand after the state it is a file.
pub record Reads (items : List RawItem) (s : State) (front : List Symbol) : Type 0 where
  pub file : (rest : List Symbol) (more : List RawItem) → FileRest s rest more → File (front ++ rest) (items ++ more)

reads_next : (items : List RawItem) (front : List Symbol) (sym_ : Symbol) (n : Next) → ((rest : List Symbol) (more : List RawItem) → FileNext n rest more → File (front ++ sym_ ∷ rest) (items ++ more))
    → (c : Config) → moved items n ≡ Some c → Reads c.items c.state (front ++ sym_ ∷ [])
reads_next items front sym_ n back c is = grind (arith, append_assoc)

-- some file begins so
begins_of : (items : List RawItem) (s : State) (front : List Symbol) → Reads items s front → Begins front
begins_of items (state.Plain plain.Ended) front r = record { more = []; items = items ++ []; file = r.file [] [] (inl no_items) }
begins_of items (state.Plain plain.Top) front r = record { more = []; items = items ++ []; file = r.file [] [] no_items }
begins_of items s front r =
    let e = state_ends s in
    record { more = e.rest; items = items ++ e.i ∷ []; file = r.file e.rest (e.i ∷ []) (of_then s refl e.rest (e.i ∷ []) (record { part = e.rest; others = []; i = e.i; items = []; cut = sym (append-nil e.rest); read = e.read; file = no_items; is = refl })) }

-- where the reading is after the symbols
pub record IsAt (front : List Symbol) (items : List RawItem) (s : State) (open_ : ℕ) : Type 0 where
  pub ran : run [] (state.Plain plain.Top) front ≡ Some (record { items = items; state = s })
  pub reads : Reads items s front
  pub open_is : open_ ≡ open_from 0 front
  pub shallow : IsShallow front

-- before the first symbol
pub at_start : IsAt [] [] (state.Plain plain.Top) 0
at_start = record { ran = refl; reads = record { file = λ rest more r. r }; open_is = refl; shallow = λ front rest cut. start_shallow front rest cut } where
  start_shallow : (front rest : List Symbol) → [] ≡ front ++ rest → open_from 0 front ≤ MOST_OPEN
  start_shallow [] rest cut = omega arith
  start_shallow (s ∷ front) rest cut = cc

-- parentheses after one more symbol
open_push : (front : List Symbol) (s : Symbol) (n : ℕ) → open_from n (front ++ s ∷ []) ≡ open_behind s.word (open_from n front)
open_push [] s n = refl
open_push (t ∷ front) s n = open_push front s (open_behind t.word n)

-- a prefix of symbols and one more is all of them, or a prefix of those before the last
last_or_before : (front : List Symbol) (s : Symbol) (f rest : List Symbol) → front ++ s ∷ [] ≡ f ++ rest → (f ≡ front ++ s ∷ []) ⊎ ((r : List Symbol) × (front ≡ f ++ r))
last_or_before front s [] rest cut = inr (front, refl)
last_or_before [] s (t ∷ []) rest cut = inl (grind arith)
last_or_before [] s (t ∷ u ∷ f) rest cut = cc
last_or_before (a ∷ front) s (t ∷ f) rest cut = grind (arith, last_or_before front s f rest)

shallow_push : (front : List Symbol) (s : Symbol) → IsShallow front → open_from 0 (front ++ s ∷ []) ≤ MOST_OPEN → IsShallow (front ++ s ∷ [])
shallow_push front s shallow within f rest cut = grind (arith, last_or_before)

-- one symbol on
pub at_next : (front : List Symbol) (items : List RawItem) (s : State) (open_ : ℕ) (w : Word) (x : Span) (c : Config) → IsAt front items s open_ → moved items (step s w x) ≡ Some c → open_behind w open_ ≤ MOST_OPEN
    → IsAt (front ++ at w x ∷ []) c.items c.state (open_behind w open_)
at_next front items s open_ w x c is goes within = grind (arith, open_push front (at w x) 0, run_append, run_from, reads_next, file_back, shallow_push, is.open_is, is.ran, is.reads.file, is.shallow)

-- where a symbol stops the reading no file goes on so
no_file : (front rest : List Symbol) (items : List RawItem) (s : State) (w : Word) (x : Span) → run [] (state.Plain plain.Top) front ≡ Some (record { items = items; state = s }) → moved items (step s w x) ≡ None
    → (file : List RawItem) → File ((front ++ at w x ∷ []) ++ rest) file → ⊥
no_file front rest items s w x ran stops file h =
    let f = file_runs _ file h false [] in
    let e : run [] (state.Plain plain.Top) ((front ++ at w x ∷ []) ++ rest) ≡ None = grind (arith, append_assoc front (at w x ∷ []) rest, run_append (Some (record { items = []; state = state.Plain plain.Top })) front (at w x ∷ rest), run_stopped rest) in
    let none = sym f.is ∙ e in cc

-- that symbol is unexpected
pub stops_at : (symbols front rest : List Symbol) (items : List RawItem) (s : State) (open_ : ℕ) (w : Word) (x : Span) (size : ℕ) → IsAt front items s open_ → moved items (step s w x) ≡ None → symbols ≡ front ++ at w x ∷ rest → IsUnexpected symbols size x.from
stops_at symbols front rest items s open_ w x size is stops cut = at_symbol front rest (at w x) cut is.shallow (begins_of items s front is.reads) (λ b. no_file front b.more items s w x is.ran stops b.items b.file) refl

-- a parenthesis is one too many
pub nests_at : (symbols front rest : List Symbol) (items : List RawItem) (s : State) (open_ : ℕ) (w : Word) (x : Span) (c : Config) → IsAt front items s open_ → moved items (step s w x) ≡ Some c → w ≡ word.Open → open_ ≡ MOST_OPEN → symbols ≡ front ++ at w x ∷ rest → IsNested symbols x.from
nests_at symbols front rest items s open_ w x c is goes opens full cut =
    record {
      front = front;
      rest = rest;
      next = at w x;
      cut = cut;
      shallow = is.shallow;
      begins = begins_of c.items c.state (front ++ at w x ∷ []) (reads_next items front (at w x) (step s w x) (λ rest more r. is.reads.file (at w x ∷ rest) more (file_back s w x rest more r)) c goes);
      deeper = open_push front (at w x) 0 ∙ ap (λ v. open_behind v (open_from 0 front)) opens ∙ ap (λ n. n + 1) (sym is.open_is ∙ full);
      place_is = refl;
    }

between_file : (symbols : List Symbol) (items : List RawItem) (s : State) → is_within s ≡ false → Reads items s symbols → File symbols items
between_file symbols items (state.Plain plain.Ended) h r = rw (append-nil symbols, append-nil items) at (r.file [] [] (inl no_items))
between_file symbols items (state.Plain plain.Top) h r = rw (append-nil symbols, append-nil items) at (r.file [] [] no_items)
between_file symbols items s h r = absurd (false≢true (sym h))

-- all symbols are a file
pub ends_well : (symbols : List Symbol) (items : List RawItem) (s : State) (open_ : ℕ) → IsAt symbols items s open_ → is_within s ≡ false → File symbols items × IsShallow symbols
ends_well symbols items s open_ is between = (between_file symbols items s between is.reads, is.shallow)

behind_is_between : (b : Bool) → is_within (state_behind b) ≡ false
behind_is_between b = grind arith

abbrev state_of : Option Config → State
state_of None = state.Plain plain.Top
state_of (Some c) = c.state

-- or a proper front of files
pub ends_early : (symbols : List Symbol) (items : List RawItem) (s : State) (open_ size : ℕ) → IsAt symbols items s open_ → is_within s ≡ true → IsUnexpected symbols size size
ends_early symbols items s open_ size is within =
    at_end is.shallow (begins_of items s symbols is.reads) (λ file h. not_whole symbols items s file is.ran within h) refl where
      not_whole : (symbols : List Symbol) (items : List RawItem) (s : State) (file : List RawItem) → run [] (state.Plain plain.Top) symbols ≡ Some (record { items = items; state = s }) → is_within s ≡ true → File symbols file → ⊥
      not_whole symbols items s file ran within h =
          let f = file_runs symbols file h false [] in
          let alike : s ≡ state_behind f.may_dot = ap state_of (sym ran ∙ f.is) in
          false≢true (sym (behind_is_between f.may_dot) ∙ ap is_within (sym alike) ∙ within)

-- The tokens of a text, one by one.

-- a token and what stands after it are within the bytes
token_within : (at : ℕ) (bytes : List ℕ) (token : Token) (later_on : List ℕ) → StartsWith at bytes token later_on → (token.from ≤ token.to) × (token.to + length later_on ≡ at + length bytes)
token_within at bytes token later_on is = grind (arith, length-append, is.split.cut, is.gap, is.word, is.to, is.from)

cuts_within : (at : ℕ) (bytes : List ℕ) (tokens : List Token) (rest : List ℕ) → Cuts at bytes tokens rest → (i : ℕ) (d : Token) → i < length tokens → ((get_or tokens i d).from ≤ (get_or tokens i d).to) × ((get_or tokens i d).to ≤ at + length bytes)
cuts_within at bytes [] rest cut i d within = absurd (omega arith)
cuts_within at bytes (token ∷ tokens) rest cut zero d within = let w = token_within at bytes token cut.0 cut.1 in (w.0, omega (arith, w.1))
cuts_within at bytes (token ∷ tokens) rest cut (suc i) d within = grind (arith, token_within at bytes token cut.0 cut.1, cuts_within token.to cut.0 tokens rest cut.2 i d (omega arith))

-- each token is within the text
pub tokens_within : (text : List ℕ) (tokens items : List Token) → AreTokens text tokens → items ≡ tokens → (i : ℕ) (d : Token) → i < length items → ((get_or items i d).from ≤ (get_or items i d).to) × ((get_or items i d).to ≤ length text)
tokens_within text tokens items are e i d within = grind (arith, cuts_within 0 text tokens are.rest are.cut i d (subst (λ (ts : List Token). i < length ts) e within))

-- the symbol of a token
symbol_at : (text : List ℕ) (tokens : List Token) (i : ℕ) (d : Token) → i < length tokens → get_or (symbols_of text tokens) i (symbol_of text d) ≡ symbol_of text (get_or tokens i d)
symbol_at text (token ∷ tokens) (suc i) d within = symbol_at text tokens i d (omega arith)
symbol_at text tokens i d within = grind arith

in_symbols : (text : List ℕ) (tokens : List Token) (i : ℕ) → i < length tokens → i < length (symbols_of text tokens)
in_symbols text tokens i within = omega (arith, length-map tokens (symbol_of text))

-- the symbols, cut at a token
pub symbols_cut : (text : List ℕ) (tokens items : List Token) (i : ℕ) (d : Token) (s : Symbol) → items ≡ tokens → i < length items → s ≡ symbol_of text (get_or items i d)
    → symbols_of text tokens ≡ take i (symbols_of text tokens) ++ s ∷ drop (i + 1) (symbols_of text tokens)
symbols_cut text tokens items i d s e within is =
    let w : i < length tokens = rw e at within in
    grind (arith, take-append-drop i (symbols_of text tokens), drop_more (symbols_of text tokens) i (symbol_of text d) (in_symbols text tokens i w), symbol_at text tokens i d w)

-- one symbol more
pub symbols_next : (text : List ℕ) (tokens items : List Token) (i : ℕ) (d : Token) (s : Symbol) → items ≡ tokens → i < length items → s ≡ symbol_of text (get_or items i d)
    → take i (symbols_of text tokens) ++ s ∷ [] ≡ take (i + 1) (symbols_of text tokens)
symbols_next text tokens items i d s e within is =
    let w : i < length tokens = rw e at within in
    grind (arith, take_more (symbols_of text tokens) i (symbol_of text d) (in_symbols text tokens i w), symbol_at text tokens i d w)

-- no more parentheses are open than may be
pub open_within : (front : List Symbol) (items : List RawItem) (s : State) (depth : ℕ) → IsAt front items s depth → depth ≤ MOST_OPEN
open_within front items s depth is = let w = is.shallow front [] (sym (append-nil front)) in omega (arith, is.open_is, w)

-- after the last token all symbols were read
pub all_read : (text : List ℕ) (tokens items : List Token) (i : ℕ) → items ≡ tokens → length items ≤ i → take i (symbols_of text tokens) ≡ symbols_of text tokens
all_read text tokens items i e past = grind (arith, length-map, take_all)

-- The tokens of each text have a raw file, or a first fault.

-- a parenthesis is one too many, or no more are open than may be
deep_or_not : (w : Word) (open_ : ℕ) → open_ ≤ MOST_OPEN → ((w ≡ word.Open) × (open_ ≡ MOST_OPEN)) ⊎ (open_behind w open_ ≤ MOST_OPEN)
deep_or_not w open_ within = grind (arith, cases_eq)

module _ (text : List ℕ) (tokens : List Token) where
  abbrev symbols : List Symbol
  symbols = symbols_of text tokens

  abbrev HasAnswer : Type 0
  HasAnswer = (answer : Result (List RawItem) ParseFault) × IsParsed text tokens answer

  -- after the last symbol
  parsed_end : (items : List RawItem) (s : State) (open_ : ℕ) → IsAt symbols items s open_ → HasAnswer
  parsed_end items s open_ is = by (is_within s) refl where
    by : (within : Bool) → is_within s ≡ within → HasAnswer
    by true within = (Err (Unexpected (length text)), ends_early symbols items s open_ (length text) is within)
    by false within = (Ok items, ends_well symbols items s open_ is within)

  -- before a symbol
  parsed_symbol : (front rest : List Symbol) (symbol : Symbol) (items : List RawItem) (s : State) (open_ : ℕ) → IsAt front items s open_ → symbols ≡ front ++ symbol ∷ rest
      → ((c : Config) → IsAt (front ++ symbol ∷ []) c.items c.state (open_behind symbol.word open_) → HasAnswer) → HasAnswer
  parsed_symbol front rest symbol items s open_ is cut next = by (moved items (step s symbol.word symbol.at)) refl where
    by : (goes : Option Config) → moved items (step s symbol.word symbol.at) ≡ goes → HasAnswer
    by None stops = (Err (Unexpected symbol.at.from), stops_at symbols front rest items s open_ symbol.word symbol.at (length text) is stops cut)
    by (Some c) goes = ⊎_elim
        (λ deep. (Err (Nested symbol.at.from), nests_at symbols front rest items s open_ symbol.word symbol.at c is goes deep.0 deep.1 cut))
        (λ within. next c (at_next front items s open_ symbol.word symbol.at c is goes within))
        (deep_or_not symbol.word open_ (open_within front items s open_ is))

  parsed_from : (rest front : List Symbol) (items : List RawItem) (s : State) (open_ : ℕ) → IsAt front items s open_ → symbols ≡ front ++ rest → HasAnswer
  parsed_from [] front items s open_ is cut = parsed_end items s open_ (subst (λ f. IsAt f items s open_) (sym (cut ∙ append-nil front)) is)
  parsed_from (symbol ∷ rest) front items s open_ is cut =
      parsed_symbol front rest symbol items s open_ is cut (λ c there. parsed_from rest (front ++ symbol ∷ []) c.items c.state (open_behind symbol.word open_) there (cut ∙ sym (append_assoc front (symbol ∷ []) rest)))

pub parsed : (text : List ℕ) (tokens : List Token) → (answer : Result (List RawItem) ParseFault) × IsParsed text tokens answer
parsed text tokens = parsed_from text tokens (symbols_of text tokens) [] [] (state.Plain plain.Top) 0 at_start refl
