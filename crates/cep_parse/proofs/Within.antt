-- No symbol within an item leads to where items begin.
use Rattle.std.proofs.Common.{◌≡◌, ℕ, Bool, true, false, List, Option, arith, suc, ◌+◌, ◌≤◌, [], ◌∷◌, ◌++◌, length, refl, sym, subst, append_assoc, length-append, Contains}
use Rattle.cep_parse.specs.declared.raw.Span.{Span}
use Rattle.cep_parse.specs.declared.raw.RawAtom.{RawAtom}
use Rattle.cep_parse.specs.declared.raw.RawElem.{RawElem}
use Rattle.cep_parse.specs.declared.raw.RawItem.{RawItem}
use Rattle.cep_parse.specs.declared.raw.RawRule.{RawRule}
use Rattle.cep_parse.specs.declared.state.BagHome.{BagHome}
use Rattle.cep_parse.specs.declared.state.BagPlace.{BagPlace}
use Rattle.cep_parse.specs.declared.state.BagSoFar.{BagSoFar}
use Rattle.cep_parse.specs.declared.state.Next.{Next}
use Rattle.cep_parse.specs.declared.state.Next.TheVariants.{Go}
use Rattle.cep_parse.specs.declared.state.RulePlace.{RulePlace}
use Rattle.cep_parse.specs.declared.state.RuleSoFar.{RuleSoFar}
use Rattle.cep_parse.specs.declared.state.StageSoFar.{StageSoFar}
use Rattle.cep_parse.specs.declared.state.State.{State}
use Rattle.cep_parse.specs.declared.state.Use.{Use}
use Rattle.cep_parse.specs.declared.symbol.Word.{Word}
use Rattle.cep_parse.specs.Machine.{bag_behind, bag_ended, bag_first, before_elem, begin, behind_atom, behind_in, behind_left, behind_right, Grown, grow_in, grown, is_within, labelled, names_begun, rule_ended, step, step_bag, step_names, step_rule}
use Rattle.std.proofs.lemmas.List.{append-nil, length-map}
use Rattle.std.specs.Prelude.{None}
use Rattle.std.specs.List.{AllByRecursion}
use Rattle.cep_lex.specs.declared.token.Token.{Token}
use Rattle.cep_lex.specs.declared.token.TokenKind.{TokenKind}
use Rattle.cep_parse.specs.declared.raw.RawNode.{RawNode}
use Rattle.cep_parse.specs.declared.symbol.Symbol.{Symbol}
use Rattle.cep_parse.specs.Symbols.{symbol_of, symbols_of, word_of, slice_of, directive_word}
use Rattle.cep_parse.specs.Grammar.{Side, at, place_of, names}
use Rattle.cep_parse.specs.Written.{IsTokenAt, IsTokenFrom, IsNameAt, Fill, IsWrittenAt, IsAtomOf, IsElemOf, IsLabelOf, IsBegunAt, IsRuleOf, IsLimitOf, IsItemOf}
use Rattle.cep_parse.specs.declared.symbol.Word.TheVariants as word
use Rattle.cep_parse.specs.declared.state.Plain.TheVariants as plain
use Rattle.cep_parse.specs.declared.state.State.TheVariants as state
use Rattle.cep_lex.specs.declared.token.TokenKind.TheVariants as token
use Rattle.cep_parse.specs.Grammar as grammar
use Rattle.cep_base.proofs.Elements.{both_all}

-- whether a step leads to where items begin
abbrev pub is_between : Next → Bool
is_between (Go (state.Plain plain.Ended)) = true
is_between (Go (state.Plain plain.Top)) = true
is_between _ = false

before_elem_within : (right : Option (List RawElem)) (stage : Option StageSoFar) (place : ℕ) (label : Option Span) (left : List RawElem) (w : Word) (x : Span)
    → is_between (before_elem (record { stage = stage; at = place; label = label; left = left; right = right }) w x) ≡ false
before_elem_within right stage place label left w x = grind arith

rule_ended_within : (stage : Option StageSoFar) (r : RawRule) → is_between (rule_ended stage r) ≡ false
rule_ended_within stage r = grind arith

behind_left_within : (r : RuleSoFar) (w : Word) → is_between (behind_left r w) ≡ false
behind_left_within r w = grind arith

behind_right_within : (r : RuleSoFar) (right : List RawElem) (w : Word) → is_between (behind_right r right w) ≡ false
behind_right_within r right w = grind (arith, rule_ended_within)

behind_in_within : (right : Option (List RawElem)) (r : RuleSoFar) (w : Word) → is_between (behind_in right r w) ≡ false
behind_in_within right r w = grind (arith, behind_left_within, behind_right_within)

rule_within : (r : RuleSoFar) (place : RulePlace) (w : Word) (x : Span) → is_between (step_rule r place w x) ≡ false
rule_within r place w x = grind (arith, before_elem_within, behind_in_within)

bag_ended_within : (home_ : BagHome) (atoms : List RawAtom) → is_between (bag_ended home_ atoms) ≡ false
bag_ended_within home_ atoms = grind arith

bag_first_within : (b : BagSoFar) (w : Word) (x : Span) → is_between (bag_first b w x) ≡ false
bag_first_within b w x = grind (arith, bag_ended_within)

bag_behind_within : (b : BagSoFar) (w : Word) → is_between (bag_behind b w) ≡ false
bag_behind_within b w = grind (arith, bag_ended_within)

bag_within : (b : BagSoFar) (place : BagPlace) (w : Word) (x : Span) → is_between (step_bag b place w x) ≡ false
bag_within b place w x = grind (arith, bag_first_within, bag_behind_within)

use_within : (used : Use) (a : RawAtom) (w : Word) → is_between (behind_atom used a w) ≡ false
use_within used a w = grind (arith, behind_in_within, bag_behind_within)

grown_within : (g : Grown) (used : Use) (w : Word) → is_between (grown g used w) ≡ false
grown_within g used w = grind (arith, use_within)

named_within : (name : Span) (args : List Span) → is_between (names_begun name args) ≡ false
named_within name args = grind arith

names_within : (name : Span) (args : List Span) (w : Word) (x : Span) → is_between (step_names name args w x) ≡ false
names_within name args w x = grind (arith, named_within, grown_within)

labelled_within : (a : Span) (w : Word) (x : Span) → is_between (labelled a w x) ≡ false
labelled_within a w x = grind (arith, before_elem_within)

pub begin_within : (w : Word) (x : Span) → is_between (begin w x) ≡ false
begin_within w x = grind (arith, before_elem_within)

-- nor does it from within
pub step_within : (s : State) (w : Word) (x : Span) → is_within s ≡ true → is_between (step s w x) ≡ false
step_within (state.Plain (plain.Labelled a)) w x h = labelled_within a w x
step_within (state.Plain (plain.StageNamed place a)) w x h = grind (arith, behind_left_within)
step_within (state.Names name args) w x h = names_within name args w x
step_within (state.Rule r place) w x h = rule_within r place w x
step_within (state.Bag b place) w x h = bag_within b place w x
step_within (state.Atom a used) w x h = grown_within (grow_in a.levels a w x) used w
step_within s w x h = grind arith

-- What the grammar says of each item: the nodes of its atoms are their arguments, and its names and variables are tokens of these kinds.

-- and the other way round
first_all : {A : Type 0} (P : A → Type 0) (xs ys : List A) → AllByRecursion P (xs ++ ys) → AllByRecursion P xs
first_all P [] ys all = tt
first_all P (x ∷ xs) ys all = (all.0, first_all P xs ys all.1)

rest_all : {A : Type 0} (P : A → Type 0) (xs ys : List A) → AllByRecursion P (xs ++ ys) → AllByRecursion P ys
rest_all P [] ys all = all
rest_all P (x ∷ xs) ys all = rest_all P xs ys all.1

module _ (tokens : List Token) where
  -- what is said of a symbol: it is a token of its word's kind
  abbrev IsSaid : Word → Span → Type 0
  IsSaid word.Name span = IsTokenAt tokens token.Name span
  IsSaid word.Variable span = IsTokenAt tokens token.Variable span
  IsSaid word.Blank span = IsTokenAt tokens token.Blank span
  IsSaid word.Number span = IsTokenAt tokens token.Number span
  IsSaid word.Colon span = IsTokenAt tokens token.Colon span
  IsSaid word.Dot span = IsTokenAt tokens token.Dot span
  IsSaid word.Comma span = IsTokenAt tokens token.Comma span
  IsSaid word.Star span = IsTokenAt tokens token.Star span
  IsSaid word.Dollar span = IsTokenAt tokens token.Dollar span
  IsSaid word.Equals span = IsTokenAt tokens token.Equals span
  IsSaid word.Open span = IsTokenAt tokens token.Open span
  IsSaid word.Close span = IsTokenAt tokens token.Close span
  IsSaid word.OpenBrace span = IsTokenAt tokens token.OpenBrace span
  IsSaid word.CloseBrace span = IsTokenAt tokens token.CloseBrace span
  IsSaid word.Lolli span = IsTokenAt tokens token.Lolli span
  IsSaid word.Back span = IsTokenAt tokens token.Back span
  IsSaid word.Type span = IsTokenAt tokens token.KwType span
  IsSaid word.Pred span = IsTokenAt tokens token.KwPred span
  IsSaid word.Bwd span = IsTokenAt tokens token.KwBwd span
  IsSaid word.Fact span = IsTokenAt tokens token.KwFact span
  IsSaid word.Stage span = IsTokenAt tokens token.KwStage span
  IsSaid word.Context span = IsTokenAt tokens token.KwContext span
  IsSaid word.Qui span = IsTokenAt tokens token.KwQui span
  IsSaid word.Interactive span = IsTokenAt tokens token.Directive span
  IsSaid word.Trace span = IsTokenAt tokens token.Directive span
  IsSaid word.Other span = Unit {0}

  abbrev AllSaid : List Symbol → Type 0
  AllSaid symbols = AllByRecursion (λ symbol. IsSaid symbol.word symbol.at) symbols

  -- symbols of the tokens, and no more of them
  record AreSaid (symbols : List Symbol) : Type 0 where
    all : AllSaid symbols
    few : length symbols ≤ length tokens

  -- those after the first, those before others, and those after others
  next : (symbol : Symbol) (symbols : List Symbol) → AreSaid (symbol ∷ symbols) → AreSaid symbols
  next symbol symbols said = record { all = said.all.1; few = omega (arith, said.few) }

  front : (one other : List Symbol) → AreSaid (one ++ other) → AreSaid one
  front one other said = record { all = first_all _ one other said.all; few = omega (arith, said.few, length-append one other) }

  back : (one other : List Symbol) → AreSaid (one ++ other) → AreSaid other
  back one other said = record { all = rest_all _ one other said.all; few = omega (arith, said.few, length-append one other) }

  abbrev AreNodes : List RawNode → Type 0
  AreNodes nodes = AllByRecursion (λ node. IsWrittenAt tokens node.kind node.at) nodes

  abbrev AreAtoms : List RawAtom → Type 0
  AreAtoms atoms = AllByRecursion (IsAtomOf tokens) atoms

  abbrev AreElems : List RawElem → Type 0
  AreElems elems = AllByRecursion (IsElemOf tokens) elems

  abbrev AreRules : List RawRule → Type 0
  AreRules rules = AllByRecursion (IsRuleOf tokens) rules

  abbrev AreItems : List RawItem → Type 0
  AreItems items = AllByRecursion (IsItemOf tokens) items

  one_more : (args terms : ℕ) (nodes : List RawNode) → Fill (suc (args + terms)) nodes → Fill (args + 1 + terms) nodes
  one_more args terms nodes fill = let e : suc (args + terms) ≡ args + 1 + terms = omega arith in subst (λ n. Fill n nodes) e fill

  no_more : (terms : ℕ) (nodes : List RawNode) → Fill terms nodes → Fill (0 + terms) nodes
  no_more terms nodes fill = let e : terms ≡ 0 + terms = omega arith in subst (λ n. Fill n nodes) e fill

  mutual
    arg_fills : (symbols : List Symbol) (nodes : List RawNode) → grammar.Arg symbols nodes → (terms : ℕ) (rest : List RawNode) → Fill terms rest → Fill (suc terms) (nodes ++ rest)
    arg_fills _ _ (grammar.Arg.arg_name a) terms rest fill = (tt, no_more terms rest fill)
    arg_fills _ _ (grammar.Arg.arg_variable a) terms rest fill = (refl, no_more terms rest fill)
    arg_fills _ _ (grammar.Arg.arg_blank a) terms rest fill = (refl, no_more terms rest fill)
    arg_fills _ _ (grammar.Arg.arg_term open_ close symbols nodes term) terms rest fill = term_fills symbols nodes term terms rest fill

    term_fills : (symbols : List Symbol) (nodes : List RawNode) → grammar.Term symbols nodes → (terms : ℕ) (rest : List RawNode) → Fill terms rest → Fill (suc terms) (nodes ++ rest)
    term_fills _ _ (grammar.Term.applied a symbols args nodes all) terms rest fill = (tt, args_fill symbols args nodes all terms rest fill)
    term_fills _ _ (grammar.Term.variable a) terms rest fill = (refl, no_more terms rest fill)
    term_fills _ _ (grammar.Term.blank a) terms rest fill = (refl, no_more terms rest fill)
    term_fills _ _ (grammar.Term.nested open_ close symbols nodes term) terms rest fill = term_fills symbols nodes term terms rest fill

    args_fill : (symbols : List Symbol) (args : ℕ) (nodes : List RawNode) → grammar.Args symbols args nodes → (terms : ℕ) (rest : List RawNode) → Fill terms rest → Fill (args + terms) (nodes ++ rest)
    args_fill _ _ _ grammar.Args.no_args terms rest fill = no_more terms rest fill
    args_fill _ _ _ (grammar.Args.more_args first others args nodes more arg all) terms rest fill =
        one_more args terms ((nodes ++ more) ++ rest)
        (subst (Fill (suc (args + terms))) (sym (append_assoc nodes more rest))
        (arg_fills first nodes arg (args + terms) (more ++ rest) (args_fill others args more all terms rest fill)))

  mutual
    arg_nodes : (symbols : List Symbol) (nodes : List RawNode) → grammar.Arg symbols nodes → AreSaid symbols → AreNodes nodes
    arg_nodes _ _ (grammar.Arg.arg_name a) said = (said.all.0, tt)
    arg_nodes _ _ (grammar.Arg.arg_variable a) said = (said.all.0, tt)
    arg_nodes _ _ (grammar.Arg.arg_blank a) said = (said.all.0, tt)
    arg_nodes _ _ (grammar.Arg.arg_term open_ close symbols nodes term) said = term_nodes symbols nodes term (front symbols _ (next _ _ said))

    term_nodes : (symbols : List Symbol) (nodes : List RawNode) → grammar.Term symbols nodes → AreSaid symbols → AreNodes nodes
    term_nodes _ _ (grammar.Term.applied a symbols args nodes all) said = (said.all.0, args_nodes symbols args nodes all (next _ _ said))
    term_nodes _ _ (grammar.Term.variable a) said = (said.all.0, tt)
    term_nodes _ _ (grammar.Term.blank a) said = (said.all.0, tt)
    term_nodes _ _ (grammar.Term.nested open_ close symbols nodes term) said = term_nodes symbols nodes term (front symbols _ (next _ _ said))

    args_nodes : (symbols : List Symbol) (args : ℕ) (nodes : List RawNode) → grammar.Args symbols args nodes → AreSaid symbols → AreNodes nodes
    args_nodes _ _ _ grammar.Args.no_args said = tt
    args_nodes _ _ _ (grammar.Args.more_args first others args nodes more arg all) said =
        both_all _ nodes more (arg_nodes first nodes arg (front first others said)) (args_nodes others args more all (back first others said))

  whole_fill : (args : ℕ) (nodes : List RawNode) → Fill (args + 0) (nodes ++ []) → Fill args nodes
  whole_fill args nodes fill = let e : args + 0 ≡ args = omega arith in rw (e, append-nil nodes) at fill

  -- there are no more nodes than symbols
  mutual
    arg_few : (symbols : List Symbol) (nodes : List RawNode) → grammar.Arg symbols nodes → length nodes ≤ length symbols
    arg_few _ _ (grammar.Arg.arg_term open_ close symbols nodes term) = omega (arith, term_few symbols nodes term, length-append symbols (at word.Close close ∷ []))
    arg_few _ _' given = omega arith

    term_few : (symbols : List Symbol) (nodes : List RawNode) → grammar.Term symbols nodes → length nodes ≤ length symbols
    term_few _ _ (grammar.Term.applied a symbols args nodes all) = omega (arith, args_few symbols args nodes all)
    term_few _ _ (grammar.Term.nested open_ close symbols nodes term) = omega (arith, term_few symbols nodes term, length-append symbols (at word.Close close ∷ []))
    term_few _ _' given = omega arith

    args_few : (symbols : List Symbol) (args : ℕ) (nodes : List RawNode) → grammar.Args symbols args nodes → length nodes ≤ length symbols
    args_few _ _ _ grammar.Args.no_args = omega arith
    args_few _ _ _ (grammar.Args.more_args first others args nodes more arg all) = omega (arith, arg_few first nodes arg, args_few others args more all, length-append first others, length-append nodes more)

  atom_well : (symbols : List Symbol) (atom : RawAtom) → grammar.Atom symbols atom → AreSaid symbols → IsAtomOf tokens atom
  atom_well _ _ (grammar.Atom.atom a symbols args nodes all) said = record {
    name = said.all.0;
    filled = whole_fill args nodes (args_fill symbols args nodes all 0 [] tt);
    few = let e = args_few symbols args nodes all in let f = said.few in omega arith;
    nodes = args_nodes symbols args nodes all (next _ _ said);
  }

  elem_well : (side : Side) (symbols : List Symbol) (elems : List RawElem) → grammar.Elem side symbols elems → AreSaid symbols → AreElems elems
  elem_well _ _' _'' given said = grind (arith, atom_well, next)

  stars_well : (side : Side) (symbols : List Symbol) (elems : List RawElem) → grammar.Stars side symbols elems → AreSaid symbols → AreElems elems
  stars_well _ _ _ (grammar.Stars.none side) said = tt
  stars_well _ _ _ (grammar.Stars.more side star first rest elems others is further) said =
      both_all (IsElemOf tokens) elems others (elem_well side first elems is (front first rest (next _ _ said))) (stars_well side rest others further (back first rest (next _ _ said)))

  elems_well : (side : Side) (symbols : List Symbol) (elems : List RawElem) → grammar.Elems side symbols elems → AreSaid symbols → AreElems elems
  elems_well _ _ _ (grammar.Elems.elems side first rest elems others is further) said = grind (arith, both_all, elem_well, front, stars_well, back)

  sides_well : (outer : Bool) (symbols : List Symbol) (left right : List RawElem) → grammar.Sides outer symbols left right → AreSaid symbols → AreElems left × AreElems right
  sides_well _ _ _ _ (grammar.Sides.sides outer arrow dot before after left right is is') said = grind (arith, elems_well, front, next, back)

  -- where a token begins
  begun_at : (kind : TokenKind) (span : Span) → IsTokenAt tokens kind span → IsTokenFrom tokens kind span.from
  begun_at kind span is = record { token = is.token; there = is.there; kind_is = is.kind_is; from_is = is.from_is }

  elem_begun : (side : Side) (symbols : List Symbol) (elems : List RawElem) (rest more : List Symbol) → grammar.Elem side symbols elems → AreSaid symbols → IsBegunAt tokens None (place_of ((symbols ++ rest) ++ more))
  elem_begun _ _ _ rest more (grammar.Elem.unit side open_ close) said = (token.Open, begun_at token.Open open_ said.all.0)
  elem_begun _ _ _ rest more (grammar.Elem.atom side _ _ (grammar.Atom.atom a symbols args nodes all)) said = (token.Name, begun_at token.Name a said.all.0)
  elem_begun _ _ _ rest more (grammar.Elem.kept outer dollar symbols a is) said = (token.Dollar, begun_at token.Dollar dollar said.all.0)
  elem_begun _ _ _ rest more (grammar.Elem.qui a) said = (token.KwQui, begun_at token.KwQui a said.all.0)
  elem_begun _ _ _ rest more (grammar.Elem.stage right stage_ a) said = (token.KwStage, begun_at token.KwStage stage_ said.all.0)

  -- a rule without a label begins with its left side
  sides_begun : (outer : Bool) (symbols : List Symbol) (left right : List RawElem) → grammar.Sides outer symbols left right → AreSaid symbols → IsBegunAt tokens None (place_of symbols)
  sides_begun _ _ _ _ (grammar.Sides.sides outer arrow dot _ after _ right (grammar.Elems.elems side first rest elems others is further) is') said =
      elem_begun side first elems rest (at word.Lolli arrow ∷ (after ++ at word.Dot dot ∷ [])) is (front first rest (front (first ++ rest) _ said))

  outer_begun : (before symbols : List Symbol) (label : Option Span) (left right : List RawElem) → grammar.Label before label → grammar.Sides true symbols left right → AreSaid (before ++ symbols) → IsBegunAt tokens label (place_of (before ++ symbols))
  outer_begun _ symbols _' left right given is said = grind (arith, sides_begun)

  -- the turns of a trace
  limit_well : (mark : Symbol) (limit : Option Span) → grammar.Limit mark limit → IsSaid mark.word mark.at → IsLimitOf tokens limit
  limit_well _ _' given said = grind arith

  rules_well : (symbols : List Symbol) (rules : List RawRule) → grammar.Rules symbols rules → AreSaid symbols → AreRules rules
  rules_well _ _ grammar.Rules.none said = tt
  rules_well _ _ (grammar.Rules.more a colon symbols rest left right rules is further) said =
      let sides = sides_well false symbols left right is (front symbols rest (next _ _ (next _ _ said))) in
      (record { begun = refl; label = said.all.0; left = sides.0; right = sides.1 }, rules_well rest rules further (back symbols rest (next _ _ (next _ _ said))))

  goals_well : (symbols : List Symbol) (goals : List RawAtom) → grammar.Goals symbols goals → AreSaid symbols → AreAtoms goals
  goals_well _ _ grammar.Goals.none said = tt
  goals_well _ _ (grammar.Goals.more mark a first rest goal goals mark_is is further) said =
      (atom_well first goal is (front first rest (next _ _ said)), goals_well rest goals further (back first rest (next _ _ said)))

  bag_elem_well : (symbols : List Symbol) (atoms : List RawAtom) → grammar.BagElem symbols atoms → AreSaid symbols → AreAtoms atoms
  bag_elem_well _ _' given said = grind (arith, atom_well)

  bag_more_well : (symbols : List Symbol) (atoms : List RawAtom) → grammar.BagMore symbols atoms → AreSaid symbols → AreAtoms atoms
  bag_more_well _ _ grammar.BagMore.none said = tt
  bag_more_well _ _ (grammar.BagMore.more mark a first rest atoms others mark_is is further) said =
      both_all (IsAtomOf tokens) atoms others (bag_elem_well first atoms is (front first rest (next _ _ said))) (bag_more_well rest others further (back first rest (next _ _ said)))

  bag_well : (symbols : List Symbol) (atoms : List RawAtom) → grammar.Bag symbols atoms → AreSaid symbols → AreAtoms atoms
  bag_well _ _' given said = grind (arith, both_all, bag_elem_well, front, bag_more_well, back)

  names_well : (spans : List Span) (rest : List Symbol) → AreSaid (names spans ++ rest) → AllByRecursion (IsNameAt tokens) spans × AreSaid rest
  names_well [] rest said = (tt, said)
  names_well (span ∷ spans) rest said = let more = names_well spans rest (next _ _ said) in ((said.all.0, more.0), more.1)

  label_well : (before rest : List Symbol) (label : Option Span) → grammar.Label before label → AreSaid (before ++ rest) → IsLabelOf tokens label × AreSaid rest
  label_well _ rest _' given said = grind (arith, next)

  item_well : (symbols : List Symbol) (item_ : RawItem) → grammar.Item symbols item_ → AreSaid symbols → IsItemOf tokens item_
  item_well _ _ (grammar.Item.sort a colon type_ dot) said = said.all.0
  item_well _ _ (grammar.Item.colon a colon_ b dot args) said = let spans = names_well args _ (next _ _ said) in (said.all.0, spans.0, (next _ _ spans.1).all.0)
  item_well _ _ (grammar.Item.bare_clause dot symbols head is) said = (tt, (atom_well symbols head is (front symbols _ said), tt))
  item_well _ _ (grammar.Item.labelled a colon_ dot symbols head is some) said = (said.all.0, (atom_well symbols head is (front symbols _ (next _ _ (next _ _ said))), tt))
  item_well _ _ (grammar.Item.clause arrow dot before symbols first rest label head goal goals labelled is is' further) said = grind (arith, label_well, next, back, atom_well, front, goals_well)
  item_well _ _ (grammar.Item.outer before symbols label left right labelled is) said = grind (arith, label_well before symbols label labelled said, sides_well, outer_begun before symbols label left right labelled is said)
  item_well _ _ (grammar.Item.unnamed blank colon_ symbols left right is) said =
      let sides = sides_well true symbols left right is (next _ _ (next _ _ said)) in
      record { begun = (token.Blank, begun_at token.Blank blank said.all.0); label = tt; left = sides.0; right = sides.1 }
  item_well _ _ (grammar.Item.stage stage_ a equals open_ close symbols ending rules is dot_is) said = grind (arith, next, rules_well, front)
  item_well _ _ (grammar.Item.context context_ a equals open_ symbols ending atoms is dot_is) said = grind (arith, next, bag_well, front)
  item_well _ _ (grammar.Item.interactive directive a dot) said = (next _ _ said).all.0
  item_well _ _ (grammar.Item.trace_named directive stage_ a dot mark limit is) said = grind (arith, begun_at, limit_well, next, said.all.0)
  item_well _ _ (grammar.Item.trace_listed directive stage_ open_ dot mark limit symbols atoms is bag) said = grind (arith, begun_at, limit_well, next, bag_well, front, said.all.0)
  item_well _ _' given said = grind (arith, names_well, next)

  file_well : (symbols : List Symbol) (items : List RawItem) → grammar.File symbols items → AreSaid symbols → AreItems items
  file_well _ _ grammar.File.none said = tt
  file_well _ _ (grammar.File.more first rest item_ items is further) said = grind (arith, item_well, front, back, file_well rest items further (back first rest said))

  -- what a directive is
  directive_said : (bytes : List ℕ) (span : Span) → IsTokenAt tokens token.Directive span → IsSaid (directive_word bytes) span
  directive_said bytes span is = grind arith

  -- a token as a symbol
  token_said : (bytes : List ℕ) (kind : TokenKind) (span : Span) → IsTokenAt tokens kind span → IsSaid (word_of kind bytes) span
  token_said bytes kind span is = grind (arith, directive_said)

  -- tokens among these as symbols
  symbols_said : (text : List ℕ) (some : List Token) → ((one : Token) → Contains some one → Contains tokens one) → AllSaid (symbols_of text some)
  symbols_said text [] among = tt
  symbols_said text (one ∷ some) among = (
    token_said (slice_of text one.from one.to) one.kind (record { from = one.from; to = one.to })
        (record { token = one; there = among one (0, (omega arith), refl); kind_is = refl; from_is = refl; to_is = refl }),
    symbols_said text some (λ other there. among other (suc there.0, (omega (arith, there.1)), there.2)),
  )

pub well_written : (text : List ℕ) (tokens : List Token) (file : List RawItem) → grammar.File (symbols_of text tokens) file → AllByRecursion (IsItemOf tokens) file
well_written text tokens file is = file_well tokens (symbols_of text tokens) file is (record { all = symbols_said tokens text tokens (λ one there. there); few = let e = length-map tokens (symbol_of text) in omega arith })

-- each item has a symbol
item_some : (symbols : List Symbol) (item_ : RawItem) → grammar.Item symbols item_ → 1 ≤ length symbols
item_some _ _ (grammar.Item.bare_clause dot symbols head is) = let e = length-append symbols (at word.Dot dot ∷ []) in omega arith
item_some _ _ (grammar.Item.clause arrow dot before symbols first rest label head goal goals labelled is is' further) = grind (arith, length-append)
item_some _ _ (grammar.Item.outer before symbols label left right labelled is) = let e = length-append before symbols in let f = sides_some symbols left right is in omega arith
  where
    sides_some : (symbols : List Symbol) (left right : List RawElem) → grammar.Sides true symbols left right → 1 ≤ length symbols
    sides_some _ _ _ (grammar.Sides.sides outer arrow dot before after left right is is') = let e = length-append before (at word.Lolli arrow ∷ (after ++ at word.Dot dot ∷ [])) in omega arith
item_some _ _' given = omega arith

items_few : (symbols : List Symbol) (items : List RawItem) → grammar.File symbols items → length items ≤ length symbols
items_few _ _ grammar.File.none = omega arith
items_few _ _ (grammar.File.more first rest item_ items is further) = grind (arith, item_some, length-append, items_few rest items further)

pub no_more_items : (text : List ℕ) (tokens : List Token) (file : List RawItem) → grammar.File (symbols_of text tokens) file → length file ≤ length tokens
no_more_items text tokens file is = let e = items_few (symbols_of text tokens) file is in let f = length-map tokens (symbol_of text) in omega arith
