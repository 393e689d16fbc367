-- Names that are declared, each in its space; the first of those that are declared again; and at which place of a list a name stands.
use Rattle.std.proofs.Common.{◌≡◌, ℕ, ◌+◌, Bool, ◌==◌, ◌&&◌, not, List, [], ◌∷◌, map, length, is_some, refl, ap, ◌∙◌, arith, false, ◌++◌, append-nil, true, if◌then◌else◌, Option, Some, None, Result, OnOk, sym, subst, append_assoc, ◌⊎◌, ⊎_elim, ◌<◌, take, get_or, cond, nat_lt}
use Rattle.std.specs.List.{list_any, position_from, flat_map, Contains, position, position_or_len, prefix_len, find, slice_get}
use Rattle.std.specs.Str.{bytes_eq}
use Rattle.std.proofs.lemmas.Iterator.Adapters.{position_from-zero}
use Rattle.cep_parse.specs.declared.raw.Span.{Span}
use Rattle.cep_parse.specs.declared.raw.RawItem.{RawItem}
use Rattle.cep_base.proofs.Bytes.{any_map, bytes_eq_sym}
use Rattle.cep_source.specs.declared.gathering.Kinds.{Kinds}
use Rattle.cep_source.specs.Kept.{AreKinds, HaveTheirNames, AreClausesAmong, IsGathered, source_of, con_item, pred_item, context_item, rule_item, AreRules}
use Rattle.cep_source.specs.Items.{Source, said, is_said, sorts_of, preds_of, is_labelled, RuleItem, cons_of, contexts_of}
use Rattle.cep_base.specs.FirstNames.{has_name, under_name, added}
use Rattle.cep_source.specs.Firsts.{place_among, IsNamed, IsTable, again_among, text_alone, unlabelled_over}
use Rattle.cep_source.specs.Spaces.{Named, named, names_in, rule_names_from, IsTwice, rule_name, unlabelled_behind}
use Rattle.std.proofs.lemmas.List.{map-append, length-append, length-map, take_more}
use Rattle.std.proofs.lemmas.Grind.{flat_map-append}
use Rattle.cep_parse.specs.declared.raw.RawItem.TheVariants.{Colon}
use Rattle.cep_source.specs.declared.items.RawCon.{RawCon}
use Rattle.cep_source.specs.declared.clauses.Clauses.{Clauses}
use Rattle.std.specs.Map.{lookup}
use Rattle.std.proofs.lemmas.Slice.Eq.{bytes_eq-Decides}
use Rattle.cep_base.proofs.Foremost.{foremost_append, foremost_union, foremost_same, foremost_among}
use Rattle.cep_parse.specs.Symbols.{slice_of}
use Rattle.cep_refusal.specs.declared.fault.Fault.{Fault}
use Rattle.cep_refusal.specs.declared.reason.Reason.TheVariants.{Twice}
use Rattle.cep_refusal.specs.First.{standing, first_of, first_in, wrong, IsFirstOrNone}
use Rattle.cep_source.specs.declared.table.Table.{Table}
use Rattle.std.proofs.lemmas.Simd.{map-map}
use Rattle.cep_source.specs.declared.space.Space.{Space}
use Rattle.cep_source.specs.declared.source.Source.TheInside.{Inside}
use Rattle.std.proofs.lemmas.Bool.{false≢true, or_cases, ltb-false}
use Rattle.std.proofs.lemmas.List.Elements.{Contains-get_or, Contains-append_right}
use Rattle.std.proofs.lemmas.List.Folds.{list_any_at, find_at}
use Rattle.cep_base.proofs.Members.{In, here, in_nil, in_one, in_same, in_left, in_right, in_parts, to_contains, from_contains}
use Rattle.cep_source.specs.Spaces.IsTwice.{again}
use Rattle.std.specs.Option.{option_map, option_and_then}
use Rattle.std.proofs.lemmas.Option.{slice_get_past}
use Rattle.cep_source.specs.declared.items.RuleRef.{RuleRef}
use Rattle.cep_source.specs.declared.rules.Rules.{Rules}
use Rattle.cep_source.specs.declared.space.Space.TheVariants as space

-- A name that has a place is in its space.

has_from : {X : Type 0} (p : X → Bool) (i : ℕ) (xs : List X) → is_some (position_from p i xs) ≡ list_any p xs
has_from p i [] = refl
has_from p i (x ∷ xs) = grind (arith, has_from p (i + 1) xs)

pub has_place : (names : List Named) (name : List ℕ) → is_some (place_among names name) ≡ list_any (λ other. bytes_eq other.name name) names
has_place names name = ap is_some (position_from-zero (λ other. bytes_eq other.name name) names) ∙ has_from (λ other. bytes_eq other.name name) 0 names

pub has_under : (table : List (List ℕ × ℕ)) (name : List ℕ) → has_name table name ≡ is_some (under_name table name)
has_under [] name = refl
has_under (entry ∷ table) name = grind (arith, entry.0, has_under table name, entry.1)

-- a clause has a label by the places of two names
module _ (text : List ℕ) (file : List RawItem) (kinds : Kinds) (are : AreKinds file kinds) (named_by : HaveTheirNames text kinds) where
  abbrev text_source : Source
  text_source = record { text = text; file = file }

  sorts_said : (name : List ℕ) → has_name kinds.sorts.places name ≡ is_said text_source (sorts_of text_source) name
  sorts_said name = rw (has_under kinds.sorts.places name, named_by.sorts.places name, has_place _ name, any_map (λ other. bytes_eq other.name name) (named text_source) kinds.sorts.items.items, are.sorts)

  preds_said : (name : List ℕ) → has_name kinds.preds.places name ≡ is_said text_source (map (λ pred. pred.name) (preds_of text_source)) name
  preds_said name = grind (arith, has_under, has_place, any_map, are.preds)

  pub labelled_by : (args : List Span) (right : Span) (name : List ℕ) → name ≡ said text_source right
      → ((length args == 0) && (not (has_name kinds.sorts.places name) && has_name kinds.preds.places name)) ≡ is_labelled text_source args right
  labelled_by args right name is = rw (is, sorts_said (said text_source right), preds_said (said text_source right)) refl

-- One constructor more.

one_more : {X A : Type 0} (f : X → List A) (before : List X) (x : X) (ys : List A) → f x ≡ ys → flat_map f (before ++ x ∷ []) ≡ flat_map f before ++ ys
one_more f before x ys is = flat_map-append f before (x ∷ []) ∙ ap (λ l. flat_map f before ++ l) (append-nil (f x) ∙ is)

pub same_label : (source : Source) {left right left2 right2 : Span} {args args2 : List Span} → Colon left args right ≡ Colon left2 args2 right2 → is_labelled source args right ≡ is_labelled source args2 right2
same_label source {left} {right} {left2} {right2} {args} {args2} is = grind arith

module _ (source : Source) (before : List RawItem) (item : RawItem) (con : RawCon) (item_is : item ≡ Colon con.name con.args.now con.sort) (unlabelled : is_labelled source con.args.now con.sort ≡ false) where
  pub con_sorted : (old new : Clauses) → AreClausesAmong source before old → new.cons.items.items ≡ old.cons.items.items ++ con ∷ [] → new.clauses ≡ old.clauses
      → IsNamed source.text (λ con. con.name) new.cons → AreClausesAmong source (before ++ item ∷ []) new
  con_sorted old new were pushed kept are = grind (arith, map-append, one_more, append-nil, were.cons, were.clauses)

-- One declaration more, and the places and the faults that are known then.

abbrev or_else : Option ℕ → Option ℕ → Option ℕ
or_else None other = other
or_else (Some place) other = Some place

-- a name at the end
under_push : (test : List ℕ → Bool) (table : List (List ℕ × ℕ)) (name : List ℕ) (place : ℕ) → lookup test (table ++ (name, place) ∷ []) ≡ or_else (lookup test table) (if test name then Some place else None)
under_push test [] name place = refl
under_push test (entry ∷ table) name place = grind (arith, or_else, entry.0, under_push test table name place, entry.1)

from_push : {X : Type 0} (p : X → Bool) (i : ℕ) (xs : List X) (y : X) → position_from p i (xs ++ y ∷ []) ≡ or_else (position_from p i xs) (if p y then Some (i + length xs) else None)
from_push p i [] y = let none : i ≡ i + 0 = omega arith in ap (λ n. if p y then Some n else None) none
from_push p i (x ∷ xs) y = grind (arith, or_else, from_push p (i + 1) xs y)

among_push : (names : List Named) (n : Named) (name : List ℕ) → place_among (names ++ n ∷ []) name ≡ or_else (place_among names name) (if bytes_eq n.name name then Some (length names) else None)
among_push names n name = grind (arith, position_from-zero, from_push, or_else)

-- a name that is there keeps its place
kept_by : (b : Bool) (found : Option ℕ) (place : ℕ) → (b ≡ true → is_some found ≡ true) → found ≡ or_else found (if b then Some place else None)
kept_by b found place h = grind arith

again_push : (before : List (List ℕ)) (names : List Named) (n : Named)
    → again_among before (names ++ n ∷ []) ≡ again_among before names ++ (if list_any (λ name. bytes_eq name n.name) (before ++ map (λ m. m.name) names) then wrong Twice n.at ∷ [] else [])
again_push before [] n = append-nil _ ∙ ap (λ seen. if list_any (λ name. bytes_eq name n.name) seen then wrong Twice n.at ∷ [] else []) (sym (append-nil before))
again_push before (m ∷ names) n = grind (arith, append_assoc, m.name, m.at, again_push (before ++ m.name ∷ []) names n, n.name, n.at)

module _ {T : Type 0} (names : List Named) (n : Named) (old new : Table T) (are : IsTable names old) where
  is_there : has_name old.places n.name ≡ list_any (λ name. bytes_eq name n.name) (map (λ m. m.name) names)
  is_there = has_under old.places n.name ∙ ap is_some (are.places n.name) ∙ has_place names n.name ∙ sym (any_map (λ name. bytes_eq name n.name) (λ (m : Named). m.name) names)

  faults_after : (there : Bool) → has_name old.places n.name ≡ there → first_in (again_among [] (names ++ n ∷ [])) ≡ first_of (first_in (again_among [] names)) (first_in (if there then wrong Twice n.at ∷ [] else []))
  faults_after there e = grind (arith, again_push, is_there, foremost_append, there)

  no_more : (o : Option Fault) → o ≡ first_of o None
  no_more o = grind arith

  module _ (item : T) (place : ℕ) (pushed : new.items.items ≡ old.items.items ++ item ∷ []) (at : place ≡ length old.items.items) (added_is : new.places ≡ added old.places (n.name, place)) where
    count_after : length new.items.items ≡ length (names ++ n ∷ [])
    count_after = ap length pushed ∙ length-append old.items.items (item ∷ []) ∙ ap (λ k. k + 1) are.count ∙ sym (length-append names (n ∷ []))

    places_by : (there : Bool) → has_name old.places n.name ≡ there → new.places ≡ (if there then old.places else old.places ++ (n.name, length names) ∷ [])
    places_by there e = added_is ∙ ap (λ b. if b then old.places else old.places ++ (n.name, place) ∷ []) e ∙ ap (λ p. if there then old.places else old.places ++ (n.name, p) ∷ []) (at ∙ are.count)

    -- one declaration more: a name that is there keeps its place, and its later declaration is wrong; a new name stands at the end
    declared_by : (there : Bool) → has_name old.places n.name ≡ there → new.twice ≡ (if there then first_of old.twice (Some (wrong Twice n.at)) else old.twice) → IsTable (names ++ n ∷ []) new
    declared_by true e is = record {
      count = count_after;
      places = λ name.
          ap (λ table. under_name table name) (places_by true e)
          ∙ kept_by (bytes_eq n.name name) (under_name old.places name) (length names)
          (λ equal. ap (λ key. is_some (under_name old.places key)) (sym ((bytes_eq-Decides n.name name).0 equal)) ∙ sym (has_under old.places n.name) ∙ e)
          ∙ ap (λ o. or_else o (if bytes_eq n.name name then Some (length names) else None)) (are.places name) ∙ sym (among_push names n name);
      twice = is ∙ ap (λ o. first_of o (Some (wrong Twice n.at))) are.twice ∙ sym (faults_after true e);
    }
    declared_by false e is = record {
      count = count_after;
      places = λ name.
          ap (λ table. under_name table name) (places_by false e)
          ∙ under_push (λ key. bytes_eq name key) old.places n.name (length names)
          ∙ ap (λ b. or_else (under_name old.places name) (if b then Some (length names) else None)) (bytes_eq_sym name n.name)
          ∙ ap (λ o. or_else o (if bytes_eq n.name name then Some (length names) else None)) (are.places name) ∙ sym (among_push names n name);
      twice = is ∙ are.twice ∙ no_more (first_in (again_among [] names)) ∙ sym (faults_after false e);
    }

    pub newly_declared : true ≡ not (has_name old.places n.name) → new.twice ≡ old.twice → IsTable (names ++ n ∷ []) new
    newly_declared e = declared_by false (grind arith)

    pub again_declared : false ≡ not (has_name old.places n.name) → new.twice ≡ first_of old.twice (Some (wrong Twice n.at)) → IsTable (names ++ n ∷ []) new
    again_declared e = declared_by true (grind arith)

-- one item more whose name is said at a span
pub named_more : {T : Type 0} (text : List ℕ) (span : T → Span) (old new : Table T) (item : T) (at : Span) → span item ≡ at → (name : List ℕ) → name ≡ slice_of text at.from at.to
    → new.items.items ≡ old.items.items ++ item ∷ []
    → ((names : List Named) → IsTable names old → IsTable (names ++ record { name = name; at = at.from } ∷ []) new)
    → IsNamed text span old → IsNamed text span new
named_more text span old new item at is name said pushed more were = grind (arith, map-append)

pub none_named : {T : Type 0} (text : List ℕ) (span : T → Span) (table : Table T) → table.items.items ≡ [] → IsTable [] table → IsNamed text span table
none_named {T} text span table none = subst (λ (items : List T). IsTable (map (λ item. named (text_alone text) (span item)) items) table) (sym none)

pub both_ok : {T E P Q R : Type 0} (r : Result T E) → (P → Q → R) → OnOk r P → OnOk r Q → OnOk r R
both_ok r f p q = grind arith

-- The names of each space are those of the items that were gathered.

-- the names of items
pub items_named : {X Y : Type 0} (source : Source) (item : X → Y) (span : Y → Span) (refs : List X) (all : List Y) → map item refs ≡ all
    → map (λ x. named (text_alone source.text) (span (item x))) refs ≡ map (λ y. named source (span y)) all
items_named source item span refs all are = sym (map-map (λ y. named source (span y)) item refs) ∙ ap (map (λ y. named source (span y))) are

-- the names of rules
pub names_alone : (source : Source) (unlabelled : ℕ) (rules : List RuleItem) → rule_names_from (text_alone source.text) unlabelled rules ≡ rule_names_from source unlabelled rules
names_alone source unlabelled rules = refl

-- what is known of the names of a space
pub record AreKnown (names : List Named) (table : List (List ℕ × ℕ)) (fault : Option Fault) : Type 0 where
  pub places : (name : List ℕ) → under_name table name ≡ place_among names name
  pub twice : fault ≡ first_in (again_among [] names)

known : {T : Type 0} (table : Table T) (names all : List Named) → names ≡ all → IsTable names table → AreKnown all table.places table.twice
known table names all is are = subst (λ them. AreKnown them table.places table.twice) is (record { places = are.places; twice = are.twice })

abbrev pub places_in : Inside → Space → List (List ℕ × ℕ)
places_in inside space.Sorts = inside.kinds.sorts.places
places_in inside space.Constructors = inside.clauses.cons.places
places_in inside space.Predicates = inside.kinds.preds.places
places_in inside space.Stages = inside.kinds.stages.places
places_in inside space.Contexts = inside.kinds.contexts.places
places_in inside space.Rules = inside.kinds.rules.table.places

abbrev pub twice_in : Inside → Space → Option Fault
twice_in inside space.Sorts = inside.kinds.sorts.twice
twice_in inside space.Constructors = inside.clauses.cons.twice
twice_in inside space.Predicates = inside.kinds.preds.twice
twice_in inside space.Stages = inside.kinds.stages.twice
twice_in inside space.Contexts = inside.kinds.contexts.twice
twice_in inside space.Rules = inside.kinds.rules.table.twice

module _ (inside : Inside) (are : IsGathered inside) where
  abbrev source : Source
  source = source_of inside

  pub known_in : (space_ : Space) → AreKnown (names_in source space_) (places_in inside space_) (twice_in inside space_)
  known_in space.Sorts = known inside.kinds.sorts _ _ (ap (map (named source)) are.kinds.sorts) are.named.sorts
  known_in space.Constructors = known inside.clauses.cons _ _ (items_named source con_item (λ con. con.name) inside.clauses.cons.items.items (cons_of source) are.clauses.cons) are.clauses.named
  known_in space.Predicates = known inside.kinds.preds _ _ (items_named source pred_item (λ pred. pred.name) inside.kinds.preds.items.items (preds_of source) are.kinds.preds) are.named.preds
  known_in space.Stages = known inside.kinds.stages _ _ (ap (map (named source)) are.kinds.stages) are.named.stages
  known_in space.Contexts = known inside.kinds.contexts _ _ (items_named source context_item (λ context. context.name) inside.kinds.contexts.items.items (contexts_of source) are.kinds.contexts) are.named.contexts
  known_in space.Rules = known inside.kinds.rules.table _ _ (names_alone source 0 (map rule_item inside.kinds.rules.table.items.items) ∙ ap (rule_names_from source 0) are.kinds.rules) are.named.rules.table

-- The first of the names that are declared again.

there : (name : List ℕ) (names : List (List ℕ)) → list_any (λ other. bytes_eq other name) names ≡ true → Contains names name
there name [] any = absurd (false≢true any)
there name (other ∷ names) any =
    ⊎_elim
    (λ same. subst (Contains (other ∷ names)) ((bytes_eq-Decides other name).0 same) (Contains-get_or (other ∷ names) 0 other (omega arith)))
    (λ later. Contains-append_right (other ∷ []) names name (there name names later))
    (or_cases (bytes_eq other name) (list_any (λ other. bytes_eq other name) names) any)

found : (name : List ℕ) (names : List (List ℕ)) → Contains names name → list_any (λ other. bytes_eq other name) names ≡ true
found name names at = grind (arith, list_any_at, bytes_eq-Decides)

-- a name among some of which others stand before
record Later (before : List (List ℕ)) (names : List Named) (fault : Fault) : Type 0 where
  front : List Named
  entry : Named
  back : List Named
  are : names ≡ front ++ entry ∷ back
  earlier : Contains (before ++ map (λ entry_here. entry_here.name) front) entry.name
  is : fault ≡ wrong Twice entry.at

here_later : (before : List (List ℕ)) (entry_here : Named) (names : List Named) (fault : Fault) (again : Bool) → list_any (λ name. bytes_eq name entry_here.name) before ≡ again
    → In (let faults : List Fault = if again then wrong Twice entry_here.at ∷ [] else [] in faults) fault → Later before (entry_here ∷ names) fault
here_later before entry_here names fault false e h = absurd (in_nil fault h)
here_later before entry_here names fault true e h = record {
  front = [];
  entry = entry_here;
  back = names;
  are = refl;
  earlier = subst (λ list. Contains list entry_here.name) (sym (append-nil before)) (there entry_here.name before e);
  is = in_one _ fault h;
}

is_later : (before : List (List ℕ)) (names : List Named) (fault : Fault) → In (again_among before names) fault → Later before names fault
is_later before [] fault h = absurd (in_nil fault h)
is_later before (entry_here ∷ names) fault h =
    ⊎_elim (here_later before entry_here names fault (list_any (λ name. bytes_eq name entry_here.name) before) refl)
    (λ k. let l = is_later (before ++ entry_here.name ∷ []) names fault k in record {
      front = entry_here ∷ l.front;
      entry = l.entry;
      back = l.back;
      are = ap (λ rest. entry_here ∷ rest) l.are;
      earlier = subst (λ list. Contains list l.entry.name) (append_assoc before (entry_here.name ∷ []) (map (λ entry_here. entry_here.name) l.front)) l.earlier;
      is = l.is;
    })
    (in_parts (if list_any (λ name. bytes_eq name entry_here.name) before then wrong Twice entry_here.at ∷ [] else []) (again_among (before ++ entry_here.name ∷ []) names) fault h)

later_in : (before : List (List ℕ)) (front back : List Named) (entry : Named) → Contains (before ++ map (λ entry_here. entry_here.name) front) entry.name → In (again_among before (front ++ entry ∷ back)) (wrong Twice entry.at)
later_in before [] back entry at =
    in_left (if list_any (λ name. bytes_eq name entry.name) before then wrong Twice entry.at ∷ [] else []) (again_among (before ++ entry.name ∷ []) back) (wrong Twice entry.at)
    (in_same _ (wrong Twice entry.at ∷ []) (wrong Twice entry.at)
    (ap (λ b. if b then wrong Twice entry.at ∷ [] else []) (found entry.name before (subst (λ list. Contains list entry.name) (append-nil before) at))) (here (wrong Twice entry.at) []))
later_in before (entry_here ∷ front) back entry at =
    in_right (if list_any (λ name. bytes_eq name entry_here.name) before then wrong Twice entry_here.at ∷ [] else []) (again_among (before ++ entry_here.name ∷ []) (front ++ entry ∷ back)) (wrong Twice entry.at)
    (later_in (before ++ entry_here.name ∷ []) front back entry (subst (λ list. Contains list entry.name) (sym (append_assoc before (entry_here.name ∷ []) (map (λ entry_here. entry_here.name) front))) at))

module _ (source : Source) where
  abbrev Again : Space → Fault → Type 0
  Again space_ = Contains (again_among [] (names_in source space_))

  again_twice : (space_ : Space) (fault : Fault) → Again space_ fault → IsTwice source fault
  again_twice space_ fault h = let l = is_later [] (names_in source space_) fault (from_contains (again_among [] (names_in source space_)) fault h) in again space_ l.front l.back l.entry l.are l.earlier l.is

  abbrev first_again : Space → Option Fault
  first_again space_ = first_in (again_among [] (names_in source space_))

  abbrev Any : Fault → Type 0
  Any fault = ((Again space.Sorts fault ⊎ Again space.Predicates fault) ⊎ (Again space.Stages fault ⊎ Again space.Contexts fault)) ⊎ (Again space.Constructors fault ⊎ Again space.Rules fault)

  in_space : (space_ : Space) (fault : Fault) → Again space_ fault → Any fault
  in_space space_ fault h = grind arith

  twice_again : (fault : Fault) → IsTwice source fault → Any fault
  twice_again fault (again space_ before after entry names earlier is) =
      in_space space_ fault (to_contains (again_among [] (names_in source space_)) fault
      (subst (In (again_among [] (names_in source space_))) (sym is)
      (in_same (again_among [] (names_in source space_)) (again_among [] (before ++ entry ∷ after)) (wrong Twice entry.at) (ap (again_among []) names) (later_in [] before after entry earlier))))

  pub first_twice : (sorts preds stages contexts cons rules all : Option Fault)
      → sorts ≡ first_again space.Sorts → preds ≡ first_again space.Predicates → stages ≡ first_again space.Stages → contexts ≡ first_again space.Contexts
      → cons ≡ first_again space.Constructors → rules ≡ first_again space.Rules → all ≡ first_of (first_of (first_of sorts preds) (first_of stages contexts)) (first_of cons rules)
      → IsFirstOrNone (IsTwice source) all
  first_twice sorts preds stages contexts cons rules all a b c d e f is =
      rw (is, a, b, c, d, e, f)
      (foremost_same standing Any (IsTwice source) _
      (λ fault. ⊎_elim (⊎_elim (⊎_elim (again_twice space.Sorts fault) (again_twice space.Predicates fault)) (⊎_elim (again_twice space.Stages fault) (again_twice space.Contexts fault))) (⊎_elim (again_twice space.Constructors fault) (again_twice space.Rules fault)))
      twice_again
      (both _ _ _ _ (both _ _ _ _ (both _ _ _ _ (among space.Sorts) (among space.Predicates)) (both _ _ _ _ (among space.Stages) (among space.Contexts))) (both _ _ _ _ (among space.Constructors) (among space.Rules))))
    where
      both : (P Q : Fault → Type 0) (one two : Option Fault) → IsFirstOrNone P one → IsFirstOrNone Q two → IsFirstOrNone (λ fault. P fault ⊎ Q fault) (first_of one two)
      both = foremost_union standing

      among : (space_ : Space) → IsFirstOrNone (Again space_) (first_again space_)
      among space_ = foremost_among standing (again_among [] (names_in source space_))

-- At which place of a list a name stands, and what stands there.

before_map : {X Y : Type 0} (p : Y → Bool) (f : X → Y) (xs : List X) → prefix_len (λ x. not (p (f x))) xs ≡ prefix_len (λ y. not (p y)) (map f xs)
before_map p f [] = refl
before_map p f (x ∷ xs) = ap (λ (rest : ℕ). cond (not (p (f x))) (1 + rest) 0) (before_map p f xs)

pub position_map : {X Y : Type 0} (p : Y → Bool) (f : X → Y) (xs : List X) → position (λ x. p (f x)) xs ≡ position p (map f xs)
position_map p f xs = rw (before_map p f xs, ← length-map xs f) refl

before_flip : (name : List ℕ) (names : List (List ℕ)) → prefix_len (λ n. not (bytes_eq name n)) names ≡ prefix_len (λ n. not (bytes_eq n name)) names
before_flip name [] = refl
before_flip name (x ∷ names) = rw (bytes_eq_sym name x) (ap (λ (rest : ℕ). cond (not (bytes_eq x name)) (1 + rest) 0) (before_flip name names))

position_flip : (name : List ℕ) (names : List (List ℕ)) → position (λ n. bytes_eq name n) names ≡ position (λ n. bytes_eq n name) names
position_flip name names = rw (before_flip name names) refl

-- the place of a name among entries is that among names
pub number_among : {X : Type 0} (entries : List (List ℕ × X)) (name : List ℕ) → position (λ entry. bytes_eq name entry.0) entries ≡ position (λ n. bytes_eq n name) (map (λ entry. entry.0) entries)
number_among entries name = position_map (λ n. bytes_eq name n) (λ entry. entry.0) entries ∙ position_flip name (map (λ entry. entry.0) entries)

-- what is found first stands at its place
found_placed : {X : Type 0} (p : X → Bool) (xs : List X) → option_and_then (slice_get xs) (position p xs) ≡ find p xs
found_placed p xs = by (nat_lt (position_or_len p xs) (length xs)) refl
  where
    by : (within : Bool) → nat_lt (position_or_len p xs) (length xs) ≡ within → option_and_then (slice_get xs) (cond within (Some (position_or_len p xs)) None) ≡ find p xs
    by within e = grind (arith, find_at, slice_get_past, ltb-false)

found_map : {X Y : Type 0} (p : Y → Bool) (item : X → Y) (xs : List X) → option_map item (find (λ x. p (item x)) xs) ≡ find p (map item xs)
found_map p item [] = refl
found_map p item (x ∷ xs) = grind (arith, found_map p item xs)

-- the item that is declared first of a name
pub told : {X Y : Type 0} (source : Source) (item : X → Y) (span : Y → Span) (table : Table X) (all : List Y) (name : List ℕ) → map item table.items.items ≡ all
    → IsNamed source.text (λ x. span (item x)) table
    → option_map item (option_and_then (slice_get table.items.items) (under_name table.places name)) ≡ find (λ y. bytes_eq (said source (span y)) name) all
told source item span table all name are named_by =
    let refs = table.items.items in
    ap (λ place. option_map item (option_and_then (slice_get refs) place)) (named_by.places name ∙ sym (position_map (λ (other : Named). bytes_eq other.name name) (λ x. named source (span (item x))) refs))
    ∙ ap (option_map item) (found_placed (λ x. bytes_eq (said source (span (item x))) name) refs)
    ∙ found_map (λ y. bytes_eq (said source (span y)) name) item refs ∙ ap (find (λ y. bytes_eq (said source (span y)) name)) are

-- one more item of a loop
pub taken : {X : Type 0} (P : List X → Type 0) (xs : List X) (i : ℕ) (x : X) → i < length xs → x ≡ get_or xs i x → P (take i xs ++ x ∷ []) → P (take (i + 1) xs)
taken P xs i x h at = subst P (sym (take_more xs i x h ∙ ap (λ y. take i xs ++ y ∷ []) (sym at)))

-- one more item of a loop that adds its image
pub push_map : {X Y : Type 0} (f : X → Y) (xs : List X) (i : ℕ) (d : X) (old new : List Y) (y : Y) → i < length xs
    → old ≡ map f (take i xs) → y ≡ f (get_or xs i d) → new ≡ old ++ y ∷ [] → new ≡ map f (take (i + 1) xs)
push_map f xs i d old new y h was is_y is = grind (arith, take_more xs i d h, map-append f (take i xs) (get_or xs i d ∷ []))

-- One rule more, and its name.

over_more : (unlabelled : ℕ) (items : List RuleItem) (item : RuleItem) → unlabelled_over unlabelled (items ++ item ∷ []) ≡ unlabelled_behind (unlabelled_over unlabelled items) item.raw.label
over_more unlabelled [] item = refl
over_more unlabelled (x ∷ items) item = over_more (unlabelled_behind unlabelled x.raw.label) items item

names_push : (source : Source) (unlabelled : ℕ) (items : List RuleItem) (item : RuleItem)
    → rule_names_from source unlabelled (items ++ item ∷ []) ≡ rule_names_from source unlabelled items ++ record { name = rule_name source (unlabelled_over unlabelled items) item.raw.label; at = item.raw.at } ∷ []
names_push source unlabelled [] item = refl
names_push source unlabelled (x ∷ items) item = rw (names_push source (unlabelled_behind unlabelled x.raw.label) items item)

module _ (text : List ℕ) (old new : Rules) (rule : RuleRef) (name : List ℕ) (were : AreRules text old) where
  abbrev label : Option Span
  label = rule.raw.now.label

  abbrev before : List RuleItem
  before = map rule_item old.table.items.items

  abbrev names : List Named
  names = rule_names_from (text_alone text) 0 before

  pub rule_more : name ≡ rule_name (text_alone text) old.unlabelled label → new.unlabelled ≡ unlabelled_behind old.unlabelled label
      → new.names.items ≡ old.names.items ++ name ∷ [] → new.table.items.items ≡ old.table.items.items ++ rule ∷ []
      → ((names : List Named) → IsTable names old.table → IsTable (names ++ record { name = name; at = rule.raw.now.at } ∷ []) new.table)
      → AreRules text new
  rule_more called counted pushed listed declared = grind (arith, before, map-append, names, names_push, label, over_more)

pub none_ruled : (text : List ℕ) (rules : Rules) → rules.table.items.items ≡ [] → rules.names.items ≡ [] → rules.unlabelled ≡ 0 → IsTable [] rules.table → AreRules text rules
none_ruled text rules none nameless counted are = grind (arith, names)
