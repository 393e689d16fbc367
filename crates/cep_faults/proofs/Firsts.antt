-- Of a name that is declared its number of arguments alone is in question, and none is wanted of one that is not.
use Rattle.std.proofs.Common.{◌≡◌, ℕ, Bool, true, false, List, [], ◌∷◌, ◌++◌, Some, None, map, refl, sym, arith, append-nil, ◌<◌, ◌≤◌, ◌+◌, length, take, get_or, Option, ◌∙◌, ap, append_assoc, Bor, suc, not, drop, filter, if◌then◌else◌, ◌-◌, max, nat_le, set, drop-cons, length-set}
use Rattle.std.specs.List.{list_any, find, flat_map, slice_get, repeat}
use Rattle.std.specs.Option.{option_map, MatchOption, IsSomeAnd, IfSome, unwrap_or}
use Rattle.cep_faults.specs.Faults.{lack_faults, arity_faults, past, past_most, is_as, variable_faults}
use Rattle.std.proofs.lemmas.Grind.{flat_map-append}
use Rattle.std.proofs.lemmas.List.{take_all, take_more, take-append-drop, take_more_set, map-append, nil_from_length}
use Rattle.std.proofs.lemmas.List.Folds.{flat_map-map}
use Rattle.cep_refusal.specs.declared.fault.Fault.{Fault}
use Rattle.cep_refusal.specs.First.{standing, first_of, first_in, wrong}
use Rattle.cep_base.proofs.Foremost.{foremost_append, foremost_of_three}
use Rattle.std.specs.Bool.{beq}
use Rattle.std.proofs.lemmas.List.Elements.{filter-append}
use Rattle.std.proofs.lemmas.Option.{slice_get_past, slice_get-map, slice_get-get_or}
use Rattle.cep_base.specs.declared.kind.PredKind.{PredKind}
use Rattle.cep_base.specs.Kinds.{is_backward}
use Rattle.cep_base.specs.declared.limits.TheConstants.{MOST_VARIABLES, MOST_DEPTH}
use Rattle.cep_parse.specs.declared.raw.Span.{Span}
use Rattle.cep_parse.specs.declared.raw.RawAtom.{RawAtom}
use Rattle.cep_source.specs.Items.{Source, TraceItem, traces_of}
use Rattle.cep_source.specs.Variables.{Occurrence}
use Rattle.cep_source.specs.Met.{AreVariables}
use Rattle.cep_source.specs.declared.variables.Variables.{Variables}
use Rattle.std.proofs.lemmas.Bool.Decides.{nat_tests}
use Rattle.cep_parse.specs.declared.raw.RawNode.{RawNode}
use Rattle.cep_faults.specs.declared.limits.Run.{Run}
use Rattle.cep_faults.specs.Levels.{pending, is_shallow}
use Rattle.cep_source.specs.Starts.{levels, greatest}
use Rattle.std.proofs.lemmas.Simd.{map-map}
use Rattle.cep_refusal.specs.declared.reason.Reason.TheVariants.{NoTrace, TwoTraces}
use Rattle.cep_source.specs.declared.items.TraceRef.{TraceRef}
use Rattle.cep_source.specs.Kept.{trace_item}
use Rattle.cep_faults.specs.Totals.{start_faults, two_faults, traces_faults}
use Rattle.cep_base.proofs.Lists.{get_kept}

module _ {X Y : Type 0} (p : Y → Bool) (f : X → Y) where
  there : (xs : List X) (x : X) → Some x ≡ find (λ y. p (f y)) xs → list_any p (map f xs) ≡ true
  there [] x is = absurd cc
  there (y ∷ xs) x is = grind (arith, there xs x)

  nowhere : (xs : List X) → None ≡ find (λ y. p (f y)) xs → list_any p (map f xs) ≡ false
  nowhere [] is = refl
  nowhere (y ∷ xs) is = grind (arith, nowhere xs)

  module _ (xs : List X) (arity : X → ℕ) (anywhere : Bool) (args at : ℕ) where
    pub declared : (x : X) → Some x ≡ find (λ y. p (f y)) xs
        → arity_faults (Some (arity x)) args at ≡ lack_faults (list_any p (map f xs)) anywhere at ++ arity_faults (option_map arity (find (λ y. p (f y)) xs)) args at
    declared x is = rw (← is, there xs x is) refl

    pub undeclared : None ≡ find (λ y. p (f y)) xs
        → lack_faults false anywhere at ≡ lack_faults (list_any p (map f xs)) anywhere at ++ arity_faults (option_map arity (find (λ y. p (f y)) xs)) args at
    undeclared is = rw (← is, nowhere xs is) (sym (append-nil (lack_faults false anywhere at)))

-- The first fault of lists of faults, noted part by part.

-- The first fault of lists of faults, as it is noted part by part.

-- as an attribute can hold it
pub first_in_append : (xs ys : List Fault) → first_in (xs ++ ys) ≡ first_of (first_in xs) (first_in ys)
first_in_append = foremost_append standing

-- one part more
pub followed : (faults more_ : List Fault) (old item new : Option Fault) → old ≡ first_in faults → item ≡ first_in more_ → new ≡ first_of old item → new ≡ first_in (faults ++ more_)
followed faults more_ old item new a b is = is ∙ ap (λ (o : Option Fault). first_of o item) a ∙ ap (first_of (first_in faults)) b ∙ sym (first_in_append faults more_)

-- one item more of a loop, after a front
pub noted : {X : Type 0} (f : X → List Fault) (front : List Fault) (xs : List X) (i : ℕ) (d x : X) (old item new : Option Fault) → i < length xs → x ≡ get_or xs i d
    → old ≡ first_in (front ++ flat_map f (take i xs)) → item ≡ first_in (f x) → new ≡ first_of old item → new ≡ first_in (front ++ flat_map f (take (i + 1) xs))
noted f front xs i d x old item new h at was is_item is =
    let more : flat_map f (take (i + 1) xs) ≡ flat_map f (take i xs) ++ f x = cc (take_more xs i d h, flat_map-append f (take i xs) (get_or xs i d ∷ []), append-nil (f (get_or xs i d)), at) in
    rw (more, ← append_assoc front (flat_map f (take i xs)) (f x)) (followed (front ++ flat_map f (take i xs)) (f x) old item new was is_item is)

-- the same, where items are copied
pub noted_at : {X : Type 0} (f : X → List Fault) (front : List Fault) (xs : List X) (i : ℕ) (d : X) (old item new : Option Fault) → i < length xs
    → old ≡ first_in (front ++ flat_map f (take i xs)) → item ≡ first_in (f (get_or xs i d)) → new ≡ first_of old item → new ≡ first_in (front ++ flat_map f (take (i + 1) xs))
noted_at f front xs i d old item new h was is_item is = noted f front xs i d (get_or xs i d) old item new h refl was is_item is

-- what is noted of one item in two parts
pub noted_then : (one two : List Fault) (old first mid second new : Option Fault) → mid ≡ first_of old first → first ≡ first_in one → second ≡ first_in two → new ≡ first_of mid second → new ≡ first_of old (first_in (one ++ two))
noted_then one two old first mid second new was a b is = cc (is, was, a, b, foremost_of_three standing old (first_in one) (first_in two), first_in_append one two)

-- all items of a loop
pub all_noted : {X : Type 0} (f : X → List Fault) (front : List Fault) (xs : List X) (i : ℕ) (first : Option Fault) → length xs ≤ i → first ≡ first_in (front ++ flat_map f (take i xs)) → first ≡ first_in (front ++ flat_map f xs)
all_noted f front xs i first done is = is ∙ ap (λ ys. first_in (front ++ flat_map f ys)) (take_all i xs done)

-- all items of a loop over references
pub all_mapped : {X Y : Type 0} (f : Y → List Fault) (v : X → Y) (xs : List X) (ys : List Y) (i : ℕ) (first : Option Fault) → length xs ≤ i → map v xs ≡ ys
    → first ≡ first_in (flat_map (λ x. f (v x)) (take i xs)) → first ≡ first_in (flat_map f ys)
all_mapped f v xs ys i first done are is = all_noted (λ x. f (v x)) [] xs i first done is ∙ ap first_in (sym (flat_map-map f v xs)) ∙ ap (λ zs. first_in (flat_map f zs)) are

-- what `map` gives, where its closure computes f
pub mapped_by : {X Y : Type 0} {P : X → Y → Type 0} (f : X → Y) (o : Option X) (r : Option Y) → ((x : X) (y : Y) → P x y → y ≡ f x) → MatchOption o (r ≡ None) (λ x. IsSomeAnd r (P x)) → r ≡ option_map f o
mapped_by f o r gives is = grind arith

pub mapped_twice : {X Y Z : Type 0} (g : Y → Z) (f : X → Y) (o : Option X) (named : Option Y) → option_map f o ≡ named → option_map (λ x. g (f x)) o ≡ option_map g named
mapped_twice g f o named is = grind arith

-- The n-th of what items give.

pub slice_get_at : {X : Type 0} (xs : List X) (y : X) (ys : List X) (n : ℕ) → n ≡ length xs → slice_get (xs ++ y ∷ ys) n ≡ Some y
slice_get_at (x ∷ xs) y ys (suc n) e = slice_get_at xs y ys n (omega (arith, e))
slice_get_at xs y ys n e = grind arith

-- what one more item gives
pub given_more : {X : Type 0} {Y : Type 0} (f : X → List Y) (xs : List X) (i : ℕ) (x : X) → i < length xs → x ≡ get_or xs i x → flat_map f (take (i + 1) xs) ≡ flat_map f (take i xs) ++ f x
given_more f xs i x h at = cc (take_more xs i x h, flat_map-append f (take i xs) (get_or xs i x ∷ []), append-nil (f (get_or xs i x)), at)

-- the first of some items and the rest
pub given_rest : {X : Type 0} {Y : Type 0} (f : X → List Y) (xs : List X) (i : ℕ) → flat_map f xs ≡ flat_map f (take i xs) ++ flat_map f (drop i xs)
given_rest f xs i = ap (flat_map f) (sym (take-append-drop i xs)) ∙ flat_map-append f (take i xs) (drop i xs)

module _ {X Y : Type 0} (f : X → List Y) (place : Y → ℕ) where
  -- the first one too many is found
  pub past_found : (xs : List X) (i : ℕ) (x : X) (y : Y) (before most : ℕ) (result : Option Fault) → i < length xs → x ≡ get_or xs i x
      → before ≡ length (flat_map f (take i xs)) → f x ≡ y ∷ [] → before ≡ most → result ≡ first_in (past (Some (place y))) → result ≡ first_in (past_most place (flat_map f xs) most)
  past_found xs i x y before most result h at was one reached is = grind (arith, given_rest f xs (i + 1), get_kept, given_more f xs i x h, slice_get_at (flat_map f (take i xs)) y [] most (sym reached ∙ was))

  -- there are not too many
  pub past_none : (xs : List X) (i before most : ℕ) → length xs ≤ i → before ≡ length (flat_map f (take i xs)) → before ≤ most → None ≡ first_in (past_most place (flat_map f xs) most)
  past_none xs i before most end is few = grind (arith, take_all, slice_get_past)

-- the one at a place of a list of references
pub past_given : {X Y : Type 0} (place : Y → ℕ) (v : X → Y) (xs : List X) (ys : List Y) (most : ℕ) (o : Option X) (at : Option ℕ) (found : Option Fault) → map v xs ≡ ys → o ≡ slice_get xs most
    → at ≡ option_map (λ x. place (v x)) o → found ≡ first_in (past at) → found ≡ first_in (past_most place ys most)
past_given place v xs ys most o at found are got is finds = rw (finds, is, mapped_twice place v o (slice_get ys most) (ap (option_map v) got ∙ sym (slice_get-map v xs most) ∙ ap (λ zs. slice_get zs most) are))

-- premises, among what elements give
pub filter-flat_map : {X Y : Type 0} (p : Y → Bool) (g : X → List Y) (xs : List X) → filter p (flat_map g xs) ≡ flat_map (λ x. filter p (g x)) xs
filter-flat_map p g [] = refl
filter-flat_map p g (x ∷ xs) = filter-append p (g x) (flat_map g xs) ∙ ap (λ ys. filter p (g x) ++ ys) (filter-flat_map p g xs)

pub is_counted : (back b : Bool) (its : PredKind) (o : Option PredKind) → o ≡ Some its → b ≡ is_backward its → not (beq b back) ≡ false → unwrap_or (option_map (is_as back) o) false ≡ true
is_counted back b its o is backward same = grind arith

pub kept_one : {Y : Type 0} (p : Y → Bool) (y : Y) (ys : List Y) → ys ≡ y ∷ [] → p y ≡ true → filter p ys ≡ y ∷ []
kept_one p y ys one is = ap (filter p) one ∙ ap (λ (b : Bool). if b then y ∷ [] else []) is

-- what `get` gives of a slice
pub got_is : {X : Type 0} (Q : Bor X → Type 0) (xs : List X) (n : ℕ) (o : Option (Bor X)) → IfSome o (λ x. x.now ≡ get_or xs n x.now) → MatchOption o (length xs ≤ n) (λ x. (n < length xs) × Q x)
    → option_map (λ x. x.now) o ≡ slice_get xs n
got_is Q xs n o is within = grind (arith, slice_get_past, slice_get-get_or)

-- the first variable that is one too many
abbrev place_of : Occurrence → ℕ
place_of occurrence = occurrence.at.from

entry_place : (o : Option Occurrence) → option_map (λ (at : Span). at.from) (option_map (λ (entry : List ℕ × Span). entry.1) (option_map (λ occurrence. (occurrence.name, occurrence.at)) o)) ≡ option_map place_of o
entry_place o = grind arith

pub variable_at_most : (source : Source) (atoms : List RawAtom) (variables : Variables) (found : Option Fault) → AreVariables source atoms variables
    → found ≡ first_in (past (option_map (λ (at : Span). at.from) (slice_get (map (λ (entry : List ℕ × Span). entry.1) variables.firsts) MOST_VARIABLES))) → found ≡ first_in (variable_faults source atoms)
variable_at_most source atoms variables found are is = grind (arith, slice_get-map, entry_place, are.firsts)

-- The levels of the terms that are still to come.

pub pending_push : (runs : List Run) (run : Run) → pending (runs ++ run ∷ []) ≡ run.level ∷ (repeat run.more (run.level ∷ []) ++ pending runs)
pending_push [] run = ap (λ ys. run.level ∷ ys) (sym (append-nil (repeat run.more (run.level ∷ []))))
pending_push (other ∷ runs) run = grind (arith, append_assoc, pending_push runs run)

pub repeat_some : (n l : ℕ) → 0 < n → repeat n (l ∷ []) ≡ l ∷ repeat (n - 1) (l ∷ [])
repeat_some n l h = grind arith

-- terms of a level are added
pub opened : (runs later : List Run) (level terms : ℕ) → 0 < terms → later ≡ runs ++ record { level = level; more = terms - 1 } ∷ [] → pending later ≡ repeat terms (level ∷ []) ++ pending runs
opened runs later level terms some is = cc (is, pending_push runs (record { level = level; more = terms - 1 }), repeat_some terms level some)

at_last : (runs : List Run) (last : ℕ) (run : Run) → last + 1 ≡ length runs → run ≡ get_or runs last run → runs ≡ take last runs ++ run ∷ []
at_last runs last run end at = sym (take_all (last + 1) runs (omega arith)) ∙ take_more runs last run (omega arith) ∙ ap (λ x. take last runs ++ x ∷ []) (sym at)

-- the next term, where there are more of its level, or not
pub next_again : (runs later : List Run) (last : ℕ) (run : Run) → last + 1 ≡ length runs → run ≡ get_or runs last run → 0 < run.more
    → later ≡ set runs last (record { level = run.level; more = run.more - 1 }) → pending runs ≡ run.level ∷ pending later
next_again runs later last run end at some is =
    let whole : later ≡ take last runs ++ record { level = run.level; more = run.more - 1 } ∷ [] =
    is ∙ sym (take_all (last + 1) (set runs last (record { level = run.level; more = run.more - 1 })) (simp length-set (omega arith)))
    ∙ take_more_set runs last (record { level = run.level; more = run.more - 1 }) (omega arith) in
    ap pending (at_last runs last run end at) ∙ pending_push (take last runs) run
    ∙ ap (λ ys. run.level ∷ (ys ++ pending (take last runs))) (repeat_some run.more run.level some)
    ∙ ap (λ ys. run.level ∷ ys) (sym (ap pending whole ∙ pending_push (take last runs) (record { level = run.level; more = run.more - 1 })))

pub next_other : (runs later : List Run) (last : ℕ) (run : Run) → last + 1 ≡ length runs → run ≡ get_or runs last run → run.more ≡ 0 → later ≡ take last runs → pending runs ≡ run.level ∷ pending later
next_other runs later last run end at none is = cc (at_last runs last run end at, pending_push (take last runs) run, none, is)

le_lost : (level g : ℕ) → 512 < level → nat_le (max level g) 512 ≡ false
le_lost level g h = grind (arith, nat_tests)

-- a node at a level that is too deep
pub too_deep : (before next : List ℕ) (nodes : List RawNode) (i : ℕ) (d : RawNode) (level : ℕ) → i < length nodes → before ≡ level ∷ next → MOST_DEPTH < level → is_shallow before (drop i nodes) ≡ false
too_deep before next nodes i d level h was deep = rw (was, drop-cons nodes i d h, le_lost level (greatest (levels (repeat (get_or nodes i d).args ((level + 1) ∷ []) ++ next) (drop (suc i) nodes))) deep)

-- The faults of the first trace and of those after it.

abbrev pub two : TraceRef → Fault
two trace = wrong TwoTraces (trace_item trace).at

-- one trace more
pub two_more : (refs : List TraceRef) (i : ℕ) (trace : TraceRef) (old new : Option Fault) → i < length refs → trace ≡ get_or refs i trace
    → old ≡ first_in (map two (take i refs)) → new ≡ first_of old (Some (two trace)) → new ≡ first_in (map two (take (i + 1) refs))
two_more refs i trace old new h at was is = grind (arith, first_in_append, take_more refs i trace h, map-append two (take i refs) (trace ∷ []))

pub two_all : (refs : List TraceRef) (i : ℕ) (first : Option Fault) → length refs ≤ i → first ≡ first_in (map two (take i refs)) → first ≡ first_in (two_faults (map trace_item refs))
two_all refs i first h is = is ∙ ap (λ (ts : List TraceRef). first_in (map two ts)) (take_all i refs h) ∙ ap first_in (sym (map-map (λ (other : TraceItem). wrong TwoTraces other.at) trace_item refs))

module _ (source : Source) (refs : List TraceRef) (are : map trace_item refs ≡ traces_of source) where
  pub some_traces : (trace : TraceRef) (rest : List TraceRef) (one two all : Option Fault) → refs ≡ trace ∷ rest → one ≡ first_in (start_faults source (trace_item trace)) → two ≡ first_in (two_faults (map trace_item rest)) → all ≡ first_of one two
      → all ≡ first_in (traces_faults source (traces_of source))
  some_traces trace rest one two all here is_one is_two is = grind (arith, two, first_in_append)

  pub no_traces : (fault : Fault) → length refs ≡ 0 → fault ≡ wrong NoTrace (length source.text) → Some fault ≡ first_in (traces_faults source (traces_of source))
  no_traces fault none is = rw (is, ← are, nil_from_length refs none) refl
