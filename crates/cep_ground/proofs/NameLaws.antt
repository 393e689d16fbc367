-- The names of a text: each is declared once; they are few, and names of a program.
use Rattle.std.proofs.lemmas.List.Folds.{list_any_at}
use Rattle.cep_base.proofs.Members.{in_filter, to_contains, from_contains}
use Rattle.std.proofs.lemmas.Option.{slice_get_cases}
use Rattle.cep_base.proofs.Bools.{true_false}
use Rattle.cep_base.proofs.Lists.{all_weaker}
use Rattle.std.proofs.Common.{◌≡◌, ◌≢◌, List, [], ◌∷◌, ◌++◌, map, refl, sym, subst, append_assoc, Contains, Bool, true, false, ◌||◌, ◌⊎◌, ⊎_elim, ℕ, zero, suc, ◌+◌, ◌*◌, ◌≤◌, length, filter, arith, length-append, ap, ◌∙◌, get_or, ◌<◌, ◌^◌, IsTrue, not, if◌then◌else◌, ◌%◌}
use Rattle.std.specs.List.{AllByRecursion, find, list_any, AllZip, position, position_or_len, flat_map}
use Rattle.cep_rule.specs.Names.{AllDiffer, IsName, IsVariableName, IsWord, AreNames}
use Rattle.cep_source.specs.declared.space.Space.{Space}
use Rattle.cep_refusal.specs.declared.reason.Reason.TheVariants.{Twice, OverLimit, BadQui}
use Rattle.cep_refusal.specs.declared.fault.Fault.{Fault}
use Rattle.cep_source.specs.Items.{Source, said, PredItem, ConItem, RuleItem, declares, sorts_of, preds_of, cons_in, cons_of, stages_of, rules_of}
use Rattle.cep_source.specs.Spaces.{Named, names_in, named, rule_name, unlabelled_behind, rule_names_from, is_in}
use Rattle.cep_source.specs.Spaces.IsTwice.{again}
use Rattle.cep_faults.specs.Misnamed.{Misnamed, IsQuiRule}
use Rattle.cep_refusal.specs.First.{wrong}
use Rattle.cep_faults.specs.Misnamed.Misnamed.{twice, over, bad_qui}
use Rattle.cep_base.proofs.Elements.{contains_first, contains_behind, contains_cases, all_at, contains_left, contains_right, contains_map, contains_flat, contains_none, flat_cases, map_cases}
use Rattle.std.specs.Prelude.{Option, Some, cond, slice_get, codes, decimal, ◌==◌, unwrap_or, None, ◌↔◌, IsSome, IfSome}
use Rattle.cep_parse.specs.declared.raw.RawAtom.{RawAtom}
use Rattle.cep_parse.specs.Raw.{raw_nodes}
use Rattle.cep_base.proofs.Lists.{none_some}
pub use Rattle.cep_base.proofs.Lists.{all_flat, all_filtered as all_filter}
use Rattle.std.proofs.Math.Seq.{drop-append_seam, take-append_seam}
use Rattle.std.specs.Char.{is_ascii_uppercase}
use Rattle.cep_base.specs.Spelling.{is_name_byte}
use Rattle.cep_lex.specs.declared.token.Token.{Token}
use Rattle.cep_lex.specs.declared.token.TokenKind.{TokenKind}
use Rattle.cep_lex.specs.Words.{SpellsToken, IsShort, Runs}
use Rattle.cep_lex.specs.Cuts.{Cuts, StartsWith}
use Rattle.cep_parse.specs.Symbols.{slice_of}
use Rattle.cep_parse.specs.declared.raw.Span.{Span}
use Rattle.cep_parse.specs.Written.{IsTokenAt, IsNameAt, IsLabelOf, IsRuleOf, IsItemOf}
use Rattle.cep_infer.specs.Shapes.{IsSource}
use Rattle.std.proofs.lemmas.Fmt.{decimal_is_IsNumeral, length-decimal-le, decimal_injective}
use Rattle.std.proofs.lemmas.Str.Parse.{digit_from_value}
use Rattle.std.proofs.lemmas.Bool.{le-leb, lt-ltb}
use Rattle.std.specs.Int.{IsInRange}
use Rattle.std.specs.Str.Parse.{AllDigits}
use Rattle.cep_parse.specs.declared.raw.RawItem.{RawItem}
use Rattle.cep_faults.specs.Limits.{IsOver as overs}
use Rattle.cep_ground.specs.Texts.{IsClean}
use Rattle.std.specs.Str.{bytes_eq}
use Rattle.cep_source.specs.Uses.{uses_in, stages_named}
use Rattle.std.specs.Option.{option_map}
use Rattle.std.proofs.lemmas.Slice.Eq.{bytes_eq-Decides}
use Rattle.std.proofs.lemmas.List.{length-map}
use Rattle.cep_parse.specs.declared.raw.RawKind.{RawKind}
use Rattle.cep_source.specs.Variables.{Occurrence, occurrence_at, blanks_behind, occurrences_from, firsts_beside}
use Rattle.cep_types.specs.Sites.{Site, Wanted, wanted_from}
pub use Rattle.cep_types.proofs.Meeting.{wanted_both, nodes_at}
pub use Rattle.cep_infer.proofs.RulesInTurn.{IsFound, any_found, not_otherwise, same_number, known, IsPredKnown, pred_known, IsConKnown, con_known, pred_types_are, con_types_are}
use Rattle.std.proofs.lemmas.List.Recursion.{is_position_or_len}
use Rattle.cep_types.specs.Heads.{number_of}
use Rattle.std.proofs.Math.Nat.{mul-add-mod_self_left}
use Rattle.cep_parse.specs.declared.raw.RawRule.{RawRule}
use Rattle.cep_infer.specs.Meaning.{stage_named, group_of, next_of, IsRuleBy}
use Rattle.cep_rule.specs.declared.rule.Rule.{Rule}
use Rattle.cep_rule.specs.Program.{IsGroupedRule}
use Rattle.cep_base.proofs.Bytes.{any_map}
use Rattle.cep_lex.specs.declared.token.TokenKind.TheVariants as token
use Rattle.cep_parse.specs.declared.raw.RawItem.TheVariants as item
use Rattle.cep_source.specs.declared.space.Space.TheVariants as space
use Rattle.cep_parse.specs.declared.raw.RawKind.TheVariants as kind

-- Names that are declared once differ.

-- no name of a list stands before itself
abbrev IsOnce : List Named → Type 0
IsOnce all = (before after : List Named) (entry : Named) → all ≡ before ++ entry ∷ after → ¬ (Contains (map (λ other. other.name) before) entry.name)

contains_middle : (before : List Named) (x : Named) (mid : List Named) → Contains (map (λ other. other.name) (before ++ x ∷ mid)) x.name
contains_middle [] x mid = contains_first x.name _
contains_middle (first ∷ before) x mid = contains_behind first.name _ x.name (contains_middle before x mid)

apart : (before : List Named) (x : Named) (mid xs : List Named) → IsOnce (before ++ x ∷ (mid ++ xs)) → AllByRecursion (λ other. x.name ≢ other) (map (λ entry. entry.name) xs)
apart before x mid [] once = tt
apart before x mid (y ∷ ys) once = (
  (λ (same : x.name ≡ y.name).
      once (before ++ x ∷ mid) ys y (sym (append_assoc before (x ∷ mid) (y ∷ ys)))
      (subst (λ name. Contains (map (λ other. other.name) (before ++ x ∷ mid)) name) same (contains_middle before x mid))),
  apart before x (mid ++ y ∷ []) ys (subst (λ tail. IsOnce (before ++ x ∷ tail)) (sym (append_assoc mid (y ∷ []) ys)) once),
)

all_differ : (before items : List Named) → IsOnce (before ++ items) → AllDiffer (map (λ entry. entry.name) items)
all_differ before [] once = tt
all_differ before (x ∷ items) once = (
  apart before x [] items once,
  all_differ (before ++ x ∷ []) items (subst IsOnce (sym (append_assoc before (x ∷ []) items)) once),
)

-- the names of a space of a text in which none is declared again
pub names_differ : (source : Source) → ((fault : Fault) → ¬ (Misnamed source fault)) → (space : Space) → AllDiffer (map (λ entry. entry.name) (names_in source space))
names_differ source clean space =
    all_differ [] (names_in source space)
    (λ before after entry cut earlier. clean (wrong Twice entry.at) (twice (again space before after entry cut earlier refl)))

-- What is found in a list.

-- what is found passes, and stands in the list
pub record IsFoundIn {Y : Type 0} (p : Y → Bool) (ys : List Y) (y : Y) : Type 0 where
  pub passes : p y ≡ true
  pub there : Contains ys y

found_first : {Y : Type 0} (p : Y → Bool) (b : Bool) (z y : Y) (ys : List Y) (further : Option Y) → p z ≡ b → cond b (Some z) further ≡ Some y → (further ≡ Some y → IsFoundIn p ys y) → IsFoundIn p (z ∷ ys) y
found_first p b z y ys further is found later = grind (arith, contains_first, contains_behind)

pub found_in : {Y : Type 0} (p : Y → Bool) (ys : List Y) (y : Y) → find p ys ≡ Some y → IsFoundIn p ys y
found_in p [] y found = absurd cc
found_in p (z ∷ ys) y found = found_first p (p z) z y ys (find p ys) refl found (λ later. found_in p ys y later)

-- something stands at each place within
pub there_within : {Y : Type 0} (ys : List Y) (n : ℕ) → n < length ys → IsFound (slice_get ys n)
there_within ys n within = ⊎_elim (λ some. record { it = some.0; found_is = some.2 }) (λ past. absurd (omega arith)) (slice_get_cases ys n).1

-- How many there are at most.

-- where nothing stands at a place, there are not more
pub at_most : {X : Type 0} (xs : List X) (n : ℕ) → ((x : X) → slice_get xs n ≡ Some x → ⊥) → length xs ≤ n
at_most [] n none = omega arith
at_most (x ∷ xs) zero none = absurd (none x refl)
at_most (x ∷ xs) (suc n) none = let rest = at_most xs n none in omega (arith, rest)

filter_size_by : {X : Type 0} (b c : Bool) (x : X) (n m k : ℕ) → (b ≡ true) ⊎ (c ≡ true) → n ≤ m + k → suc n ≤ cond b (suc m) m + cond c (suc k) k
filter_size_by b c x n m k some few = grind arith

filter_size : {X : Type 0} (p : X → Bool) (x : X) (xs : List X) → length (filter p (x ∷ xs)) ≡ cond (p x) (suc (length (filter p xs))) (length (filter p xs))
filter_size p x xs = grind arith

-- where each passes one of two tests, there are not more than pass them
pub filters_cover : {X : Type 0} (p q : X → Bool) (xs : List X) → ((x : X) → Contains xs x → (p x ≡ true) ⊎ (q x ≡ true)) → length xs ≤ length (filter p xs) + length (filter q xs)
filters_cover p q [] some = omega arith
filters_cover p q (x ∷ xs) some =
    let rest = filters_cover p q xs (λ y there. some y (contains_behind x xs y there)) in
    let all = filter_size_by (p x) (q x) x (length xs) (length (filter p xs)) (length (filter q xs)) (some x (contains_first x xs)) rest in
    omega (arith, all, (filter_size p x xs), (filter_size q x xs))

-- the nodes of some atoms, each of which has not too many
pub nodes_few : (atoms : List RawAtom) → ((raw : RawAtom) → Contains atoms raw → length raw.nodes ≤ 1048576) → length (raw_nodes atoms) ≤ length atoms * 1048576
nodes_few [] few = omega arith
nodes_few (raw ∷ atoms) few = omega (arith, few raw (contains_first raw atoms), nodes_few atoms (λ other there. few other (contains_behind raw atoms other there)), length-append raw.nodes (raw_nodes atoms))

-- and of what is made of each
pub all_map : {X Y : Type 0} (P : Y → Type 0) (f : X → Y) (xs : List X) → AllByRecursion (λ x. P (f x)) xs → AllByRecursion P (map f xs)
all_map P f [] all = tt
all_map P f (x ∷ xs) all = (all.0, all_map P f xs all.1)

pub map_twice : {X Y Z : Type 0} (f : Y → Z) (g : X → Y) (xs : List X) → map f (map g xs) ≡ map (λ x. f (g x)) xs
map_twice f g [] = refl
map_twice f g (x ∷ xs) = ap (λ ys. f (g x) ∷ ys) (map_twice f g xs)

pub all_unmap : {X Y : Type 0} (P : Y → Type 0) (f : X → Y) (xs : List X) → AllByRecursion P (map f xs) → AllByRecursion (λ x. P (f x)) xs
all_unmap P f [] all = tt
all_unmap P f (x ∷ xs) all = (all.0, all_unmap P f xs all.1)

-- and of all to which one of a list is related
pub all_zip : {X Y : Type 0} (R : X → Y → Type 0) (P : Y → Type 0) (xs : List X) (ys : List Y) → ((x : X) (y : Y) → Contains xs x → R x y → P y) → AllZip R xs ys → AllByRecursion P ys
all_zip R P (x ∷ xs) (y ∷ ys) each are = (each x y (contains_first x xs) are.0, all_zip R P xs ys (λ other z there is. each other z (contains_behind x xs other there) is) are.1)
all_zip R P xs ys each are = grind arith

passing_cond : {X : Type 0} (P : X → Type 0) (b : Bool) (x : X) (xs : List X) → (b ≡ true → P x) → AllByRecursion P xs → AllByRecursion P (cond b (x ∷ xs) xs)
passing_cond P b x xs here all = grind arith

-- what holds of each that passes a test holds of all that do
pub all_passing : {X : Type 0} (P Q : X → Type 0) (test : X → Bool) (xs : List X) → ((x : X) → P x → test x ≡ true → Q x) → AllByRecursion P xs → AllByRecursion Q (filter test xs)
all_passing P Q test [] each all = tt
all_passing P Q test (x ∷ xs) each all = passing_cond Q (test x) x (filter test xs) (each x all.0) (all_passing P Q test xs each all.1)

-- an element that passes is among those that do
pub filter_keeps : {X : Type 0} (p : X → Bool) (xs : List X) (x : X) → Contains xs x → p x ≡ true → Contains (filter p xs) x
filter_keeps p xs x there passes = to_contains (filter p xs) x (in_filter p xs x (from_contains xs x there) passes)

-- Names that stand in a text are names of a program, and variables are names of variables.

-- a token's bytes are its word, which is not too long
pub record IsSpelled (text : List ℕ) (token : Token) : Type 0 where
  pub spells : SpellsToken token.kind (slice_of text token.from token.to)
  pub short : IsShort token.kind (slice_of text token.from token.to)

-- a word between what stands before and after it
word_cut : (before gap word behind : List ℕ) (from to : ℕ) → from ≡ length before + length gap → to ≡ from + length word → slice_of (before ++ (gap ++ (word ++ behind))) from to ≡ word
word_cut before gap word behind from to from_is to_is = grind (arith, length-append before gap, append_assoc before gap (word ++ behind), drop-append_seam (before ++ gap) (word ++ behind), take-append_seam word behind)

-- tokens from a place on
all_spelled : (text before bytes : List ℕ) (at : ℕ) (tokens : List Token) (rest : List ℕ) → text ≡ before ++ bytes → at ≡ length before → Cuts at bytes tokens rest → AllByRecursion (IsSpelled text) tokens
all_spelled text before bytes at [] rest whole place cut = tt
all_spelled text before bytes at (one ∷ tokens) rest whole place cut =
    let start : StartsWith at bytes one cut.0 = cut.1 in
    let split = start.split in
    let here : text ≡ before ++ (start.gap ++ (start.word ++ cut.0)) = whole ∙ ap (λ b. before ++ b) split.cut in
    let from : one.from ≡ length before + length start.gap = start.from ∙ ap (λ n. n + length start.gap) place in
    let word : slice_of text one.from one.to ≡ start.word = ap (λ t. slice_of t one.from one.to) here ∙ word_cut before start.gap start.word cut.0 one.from one.to from start.to in
    let next : one.to ≡ length (before ++ (start.gap ++ start.word)) =
    omega (arith, from, start.to, length-append before (start.gap ++ start.word), length-append start.gap start.word) in
    let rest_is : text ≡ (before ++ (start.gap ++ start.word)) ++ cut.0 =
    here ∙ ap (λ b. before ++ b) (sym (append_assoc start.gap start.word cut.0)) ∙ sym (append_assoc before (start.gap ++ start.word) cut.0) in (
      record { spells = subst (SpellsToken one.kind) (sym word) split.spelled; short = subst (IsShort one.kind) (sym word) start.short },
      all_spelled text (before ++ (start.gap ++ start.word)) cut.0 one.to tokens rest rest_is next cut.2,
    )

pub tokens_spelled : (source : Source) (is : IsSource source) → AllByRecursion (IsSpelled source.text) is.tokens
tokens_spelled source is = all_spelled source.text [] source.text 0 is.tokens is.lexed.rest refl refl is.lexed.cut

-- the word of a span that is a token
pub span_spelled : (source : Source) (is : IsSource source) (kind : TokenKind) (span : Span) → IsTokenAt is.tokens kind span → SpellsToken kind (said source span) × IsShort kind (said source span)
span_spelled source is kind span at =
    let one = all_at (IsSpelled source.text) is.tokens at.token (tokens_spelled source is) at.there in
    let word : slice_of source.text at.token.from at.token.to ≡ said source span =
    ap (λ n. slice_of source.text n at.token.to) (sym at.from_is) ∙ ap (λ n. slice_of source.text span.from n) (sym at.to_is) in (
      subst (λ k. SpellsToken k (said source span)) at.kind_is (subst (SpellsToken at.token.kind) word one.spells),
      subst (λ k. IsShort k (said source span)) at.kind_is (subst (IsShort at.token.kind) word one.short),
    )

run_word : (begins : ℕ → Bool) (word : List ℕ) → Runs begins is_name_byte word → IsWord begins word
run_word begins word runs = grind arith

-- a name
pub name_is : (source : Source) (is : IsSource source) (span : Span) → IsNameAt is.tokens span → IsName (said source span)
name_is source is span at = grind (arith, span_spelled source is token.Name span at)

-- a variable
pub variable_is : (source : Source) (is : IsSource source) (span : Span) → IsTokenAt is.tokens token.Variable span → IsVariableName (said source span)
variable_is source is span at = grind (arith, span_spelled source is token.Variable span at)

-- a variable begins with a capital letter
pub variable_word : (source : Source) (is : IsSource source) (span : Span) → IsTokenAt is.tokens token.Variable span → IsWord is_ascii_uppercase (said source span)
variable_word source is span at = run_word is_ascii_uppercase (said source span) (span_spelled source is token.Variable span at).0

some_run : (first next : ℕ → Bool) (word : List ℕ) → Runs first next word → 1 ≤ length word
some_run first next word runs = grind arith

one_byte : (word codes_ : List ℕ) → word ≡ codes_ → 1 ≤ length codes_ → 1 ≤ length word
one_byte word codes_ same some = subst (λ w. 1 ≤ length w) (sym same) some

-- a token has a byte
token_some : (kind : TokenKind) (word : List ℕ) → SpellsToken kind word → 1 ≤ length word
token_some kind word spells = grind (arith, some_run, one_byte)

cuts_few : (at : ℕ) (bytes : List ℕ) (tokens : List Token) (rest : List ℕ) → Cuts at bytes tokens rest → length tokens ≤ length bytes
cuts_few at bytes [] rest cut = omega arith
cuts_few at bytes (one ∷ tokens) rest cut = grind (arith, token_some, length-append, cut.0, cut.1, one.kind, cuts_few one.to cut.0 tokens rest cut.2, one.to, cut.2)

-- there are no more tokens than bytes
pub tokens_few : (source : Source) (is : IsSource source) → length is.tokens ≤ length source.text
tokens_few source is = cuts_few 0 source.text is.tokens is.lexed.rest is.lexed.cut

-- The names of a text are names of a program.

-- a digit goes on with a name
digit_goes_on : (byte : ℕ) → IsInRange 48 57 byte → is_name_byte byte ≡ true
digit_goes_on byte is = grind (arith, le-leb, is.0, is.1)

digits_go_on : (digits : List ℕ) → AllDigits 10 digits → AllByRecursion (λ byte. IsTrue (is_name_byte byte)) digits
digits_go_on [] all = tt
digits_go_on (digit ∷ digits) all = (digit_goes_on digit (digit_from_value digit all.0), digits_go_on digits all.1)

-- whether the fourth byte is a slash
abbrev has_slash : List ℕ → Bool
has_slash bytes = get_or bytes 3 0 == 47

apart_by_slash : (one other : List ℕ) → one ≡ other → has_slash one ≡ true → has_slash other ≡ false → ⊥
apart_by_slash one other same yes_ no_ = let e : true ≡ false = sym yes_ ∙ ap has_slash same ∙ no_ in absurd cc

-- the name of a rule without a label
pub qui_name : (k : ℕ) → k + 1 < 2 ^ 63 → IsName (codes "qui/" ++ decimal (k + 1))
qui_name k few = record {
  word = (refl, (refl, (refl, (refl, digits_go_on (decimal (k + 1)) (decimal_is_IsNumeral (k + 1) (omega arith)).0.1))));
  free = all_weaker (λ word. has_slash word ≡ false) (λ word. codes "qui/" ++ decimal (k + 1) ≢ word) (codes "type" ∷ codes "pred" ∷ codes "bwd" ∷ codes "fact" ∷ codes "stage" ∷ codes "context" ∷ codes "qui" ∷ []) (λ word no_ same. apart_by_slash (codes "qui/" ++ decimal (k + 1)) word same refl no_) (refl, (refl, (refl, (refl, (refl, (refl, (refl, tt)))))));
  short = let size = length-decimal-le 20 (k + 1) (omega arith) (omega arith) (omega arith) in omega (arith, size);
}

module _ (source : Source) (clean : IsClean source) (items : AllByRecursion (IsItemOf clean.is_source.tokens) source.file) where
  name_at : (span : Span) → IsNameAt clean.is_source.tokens span → IsName (said source span)
  name_at span at = name_is source clean.is_source span at

  -- what an item declares has names
  named_sort : (item_ : RawItem) → IsItemOf clean.is_source.tokens item_ → AllByRecursion (λ span. IsName (said source span)) (declares item_).sorts
  named_sort item_ is = grind (arith, name_at)

  named_stage : (item_ : RawItem) → IsItemOf clean.is_source.tokens item_ → AllByRecursion (λ span. IsName (said source span)) (declares item_).stages
  named_stage item_ is = grind (arith, name_at)

  named_pred : (item_ : RawItem) → IsItemOf clean.is_source.tokens item_ → AllByRecursion (λ (pred : PredItem). IsName (said source pred.name)) (declares item_).preds
  named_pred item_ is = grind (arith, name_at)

  con_by_label : (labelled : Bool) (con : ConItem) → IsName (said source con.name) → AllByRecursion (λ (con : ConItem). IsName (said source con.name)) (if not labelled then con ∷ [] else [])
  con_by_label labelled con is = grind arith

  named_con : (item_ : RawItem) → IsItemOf clean.is_source.tokens item_ → AllByRecursion (λ (con : ConItem). IsName (said source con.name)) (cons_in source item_)
  named_con item_ is = grind (arith, con_by_label, name_at)

  rules_made : (item_ : RawItem) → IsItemOf clean.is_source.tokens item_ → AllByRecursion (λ (rule : RuleItem). IsRuleOf clean.is_source.tokens rule.raw) (declares item_).rules
  rules_made item_ is = grind (arith, all_map)

  label_made : (rule : RuleItem) → Contains (rules_of source) rule → IsLabelOf clean.is_source.tokens rule.raw.label
  label_made rule there = (all_at (λ (one : RuleItem). IsRuleOf clean.is_source.tokens one.raw) (rules_of source) rule (all_flat (IsItemOf clean.is_source.tokens) (λ (one : RuleItem). IsRuleOf clean.is_source.tokens one.raw) (λ item_. (declares item_).rules) source.file rules_made items) there).label

  rule_name_is : (unlabelled : ℕ) (label : Option Span) → unlabelled + 1 < 2 ^ 63 → IsLabelOf clean.is_source.tokens label → IsName (rule_name source unlabelled label)
  rule_name_is unlabelled label few is = grind (arith, name_at, qui_name)

  more_rules : (unlabelled size : ℕ) (label : Option Span) → unlabelled + suc size < 2 ^ 62 → unlabelled_behind unlabelled label + size < 2 ^ 62
  more_rules unlabelled size label few = grind arith

  rule_names_are : (unlabelled : ℕ) (rules : List RuleItem) → unlabelled + length rules < 2 ^ 62 → ((rule : RuleItem) → Contains rules rule → Contains (rules_of source) rule) → AllByRecursion IsName (map (λ (n : Named). n.name) (rule_names_from source unlabelled rules))
  rule_names_are unlabelled [] few among = tt
  rule_names_are unlabelled (rule ∷ rules) few among = (
    rule_name_is unlabelled rule.raw.label (omega arith) (label_made rule (among rule (contains_first rule rules))),
    rule_names_are (unlabelled_behind unlabelled rule.raw.label) rules (more_rules unlabelled (length rules) rule.raw.label few) (λ other there. among other (contains_behind rule rules other there)),
  )

  pub rules_few : length (rules_of source) ≤ 4096
  rules_few = at_most (rules_of source) 4096 (λ rule found. clean.names (wrong OverLimit rule.raw.at) (over rule.raw.at (overs.rule rule found refl) refl))

  differ_as : (space_ : Space) (names : List (List ℕ)) → map (λ (n : Named). n.name) (names_in source space_) ≡ names → AllDiffer names
  differ_as space_ names same = subst AllDiffer same (names_differ source clean.names space_)

  pub sort_names : AreNames (map (said source) (sorts_of source))
  sort_names = record {
    each = all_map IsName (said source) (sorts_of source) (all_flat (IsItemOf clean.is_source.tokens) (λ span. IsName (said source span)) (λ item_. (declares item_).sorts) source.file named_sort items);
    differ = differ_as space.Sorts (map (said source) (sorts_of source)) (map_twice (λ (n : Named). n.name) (named source) (sorts_of source));
  }

  pub stage_names : AreNames (map (said source) (stages_of source))
  stage_names = record {
    each = all_map IsName (said source) (stages_of source) (all_flat (IsItemOf clean.is_source.tokens) (λ span. IsName (said source span)) (λ item_. (declares item_).stages) source.file named_stage items);
    differ = differ_as space.Stages (map (said source) (stages_of source)) (map_twice (λ (n : Named). n.name) (named source) (stages_of source));
  }

  pub con_names : AreNames (map (λ (con : ConItem). said source con.name) (cons_of source))
  con_names = record {
    each = all_map IsName (λ (con : ConItem). said source con.name) (cons_of source) (all_flat (IsItemOf clean.is_source.tokens) (λ (con : ConItem). IsName (said source con.name)) (cons_in source) source.file named_con items);
    differ = differ_as space.Constructors (map (λ (con : ConItem). said source con.name) (cons_of source)) (map_twice (λ (n : Named). n.name) (λ (con : ConItem). named source con.name) (cons_of source));
  }

  pub pred_names : AreNames (map (λ (pred : PredItem). said source pred.name) (preds_of source))
  pred_names = record {
    each = all_map IsName (λ (pred : PredItem). said source pred.name) (preds_of source) (all_flat (IsItemOf clean.is_source.tokens) (λ (pred : PredItem). IsName (said source pred.name)) (λ item_. (declares item_).preds) source.file named_pred items);
    differ = differ_as space.Predicates (map (λ (pred : PredItem). said source pred.name) (preds_of source)) (map_twice (λ (n : Named). n.name) (λ (pred : PredItem). named source pred.name) (preds_of source));
  }

  pub rule_names : AreNames (map (λ (n : Named). n.name) (names_in source space.Rules))
  rule_names = record {
    each = rule_names_are 0 (rules_of source) (let few = rules_few in omega (arith, few)) (λ rule there. there);
    differ = names_differ source clean.names space.Rules;
  }

-- The variables of atoms and the types that are wanted of them.

-- the variables of terms are those of their nodes
pub wanted_names : (source : Source) (blanks : ℕ) (sites : List Site) → map (λ (w : Wanted). w.name) (wanted_from source blanks sites) ≡ map (λ (o : Occurrence). o.name) (occurrences_from source blanks (nodes_at sites))
wanted_names source blanks [] = refl
wanted_names source blanks (site ∷ sites) = grind (arith, site.node.kind, site.node.at, wanted_names source (blanks_behind blanks site.node.kind) sites, site.wants)

-- what equal bytes say
pub same_bytes : (xs ys : List ℕ) → bytes_eq xs ys ≡ true → xs ≡ ys
same_bytes xs ys e = (bytes_eq-Decides xs ys).0 e

pub bytes_same : (xs : List ℕ) → bytes_eq xs xs ≡ true
bytes_same xs = (bytes_eq-Decides xs xs).1 refl

pub same_unless : (xs ys : List ℕ) → ((xs ≡ ys → ⊥) → ⊥) → xs ≡ ys
same_unless xs ys never = same_bytes xs ys (not_otherwise _ (λ differ. never (λ same. true_false _ (rw same (bytes_same ys)) differ)))

-- a name is among names, by test and by place
pub any_is : (names : List (List ℕ)) (name : List ℕ) → list_any (λ other. bytes_eq other name) names ≡ true → Contains names name
any_is [] name any = absurd cc
any_is (other ∷ names) name any = by_test (bytes_eq other name) refl any (λ later. any_is names name later)
  where
    by_test : (b : Bool) → bytes_eq other name ≡ b → (b || list_any (λ other. bytes_eq other name) names) ≡ true → (list_any (λ other. bytes_eq other name) names ≡ true → Contains names name) → Contains (other ∷ names) name
    by_test true e any rest = subst (λ n. Contains (other ∷ names) n) (same_bytes other name e) (contains_first other names)
    by_test false e any rest = contains_behind other names name (rest any)

pub is_any : (names : List (List ℕ)) (name : List ℕ) → Contains names name → list_any (λ other. bytes_eq other name) names ≡ true
is_any names name there = grind (arith, list_any_at, bytes_eq-Decides)

-- a name that occurs was seen before, or occurs first somewhere
first_by : (b : Bool) (seen : List (List ℕ)) (o : Occurrence) (occurrences : List Occurrence) (name : List ℕ)
    → list_any (λ other. bytes_eq other o.name) seen ≡ b
    → (o.name ≡ name) ⊎ Contains (map (λ (p : Occurrence). p.name) occurrences) name
    → (Contains (map (λ (p : Occurrence). p.name) occurrences) name → Contains seen name ⊎ Contains (map (λ (p : Occurrence). p.name) (firsts_beside seen occurrences)) name)
    → (Contains (map (λ (p : Occurrence). p.name) occurrences) name → Contains (o.name ∷ seen) name ⊎ Contains (map (λ (p : Occurrence). p.name) (firsts_beside (o.name ∷ seen) occurrences)) name)
    → Contains seen name ⊎ Contains (map (λ (p : Occurrence). p.name) (if b then firsts_beside seen occurrences else o ∷ firsts_beside (o.name ∷ seen) occurrences)) name
first_by true seen o occurrences name is there old new = grind (arith, any_is seen o.name is, o.name)
first_by false seen o occurrences name is there old new = grind (arith, contains_first, contains_cases, contains_behind, o.name)

pub first_there : (seen : List (List ℕ)) (occurrences : List Occurrence) (name : List ℕ) → Contains (map (λ (o : Occurrence). o.name) occurrences) name
    → Contains seen name ⊎ Contains (map (λ (o : Occurrence). o.name) (firsts_beside seen occurrences)) name
first_there seen [] name there = absurd (contains_none name there)
first_there seen (o ∷ occurrences) name there =
    first_by (list_any (λ other. bytes_eq other o.name) seen) seen o occurrences name refl
    (contains_cases o.name (map (λ (p : Occurrence). p.name) occurrences) name there)
    (λ later. first_there seen occurrences name later)
    (λ later. first_there (o.name ∷ seen) occurrences name later)

-- and each first occurrence is an occurrence
firsts_by : (b : Bool) (seen : List (List ℕ)) (o : Occurrence) (occurrences : List Occurrence) (x : Occurrence)
    → Contains (if b then firsts_beside seen occurrences else o ∷ firsts_beside (o.name ∷ seen) occurrences) x
    → (Contains (firsts_beside seen occurrences) x → Contains occurrences x)
    → (Contains (firsts_beside (o.name ∷ seen) occurrences) x → Contains occurrences x)
    → Contains (o ∷ occurrences) x
firsts_by b seen o occurrences x there old new = grind (arith, contains_behind, contains_first, contains_cases)

pub firsts_there : (seen : List (List ℕ)) (occurrences : List Occurrence) (x : Occurrence) → Contains (firsts_beside seen occurrences) x → Contains occurrences x
firsts_there seen [] x there = there
firsts_there seen (o ∷ occurrences) x there =
    firsts_by (list_any (λ other. bytes_eq other o.name) seen) seen o occurrences x there
    (λ old. firsts_there seen occurrences x old) (λ new. firsts_there (o.name ∷ seen) occurrences x new)

blanks_differ : (one other : ℕ) → one < other → other + 1 < 2 ^ 64 → codes "_" ++ decimal (one + 1) ≡ codes "_" ++ decimal (other + 1) → ⊥
blanks_differ one other less short same = grind (arith, decimal_injective)

-- nor that of a variable
word_differs : (word rest : List ℕ) → IsWord is_ascii_uppercase word → word ≡ 95 ∷ rest → ⊥
word_differs word rest is same = grind arith

-- A variable by its name at a place, or a blank, whose name nothing before it has.
pub data IsFirstIn (source : Source) (blanks : ℕ) (wanted : List Wanted) (sites : List Site) (w : Wanted) : Type 0 where
  written : (site : Site) → Contains sites site → site.node.kind ≡ kind.Var → w.name ≡ said source site.node.at → w.wants ≡ site.wants → IsFirstIn source blanks wanted sites w
  blank : (number : ℕ) → blanks ≤ number → number + 1 < 2 ^ 64 → w.name ≡ codes "_" ++ decimal (number + 1) → find (λ (v : Wanted). bytes_eq v.name w.name) wanted ≡ Some w → IsFirstIn source blanks wanted sites w

not_same : (xs ys : List ℕ) → (xs ≡ ys → ⊥) → bytes_eq xs ys ≡ false
not_same xs ys differ = grind (arith, same_bytes)

find_behind : (v w : Wanted) (rest : List Wanted) → bytes_eq v.name w.name ≡ false → find (λ (x : Wanted). bytes_eq x.name w.name) rest ≡ Some w → find (λ (x : Wanted). bytes_eq x.name w.name) (v ∷ rest) ≡ Some w
find_behind v w rest differ found = ap (λ b. cond b (Some v) (find (λ (x : Wanted). bytes_eq x.name w.name) rest)) differ ∙ found

find_here : (w : Wanted) (rest : List Wanted) → find (λ (x : Wanted). bytes_eq x.name w.name) (w ∷ rest) ≡ Some w
find_here w rest = ap (λ b. cond b (Some w) (find (λ (x : Wanted). bytes_eq x.name w.name) rest)) (bytes_same w.name)

-- each written variable of the terms is a word
abbrev pub AreWords : Source → List Site → Type 0
AreWords source sites = (site : Site) → Contains sites site → site.node.kind ≡ kind.Var → IsWord is_ascii_uppercase (said source site.node.at)

-- what occurs at one node, and after it
abbrev wanted_at : Source → ℕ → Site → RawKind → List Site → List Wanted
wanted_at source blanks site shape sites = map (λ occurrence. record { name = occurrence.name; wants = site.wants }) (occurrence_at source blanks site.node.at shape) ++ wanted_from source (blanks_behind blanks shape) sites

behind_var : (source : Source) (blanks : ℕ) (site : Site) (sites : List Site) (w : Wanted) → IsWord is_ascii_uppercase (said source site.node.at) → IsFirstIn source blanks (wanted_from source blanks sites) sites w → IsFirstIn source blanks (wanted_at source blanks site kind.Var sites) (site ∷ sites) w
behind_var source blanks site sites w word (written other there var name wants) = written other (contains_behind site sites other there) var name wants
behind_var source blanks site sites w word (blank number above short name found) =
    blank number above short name
    (find_behind (record { name = said source site.node.at; wants = site.wants }) w (wanted_from source blanks sites)
    (not_same (said source site.node.at) w.name (λ same. word_differs (said source site.node.at) (decimal (number + 1)) word (same ∙ name))) found)

behind_blank : (source : Source) (blanks : ℕ) (site : Site) (sites : List Site) (w : Wanted) → IsFirstIn source (blanks + 1) (wanted_from source (blanks + 1) sites) sites w → IsFirstIn source blanks (wanted_at source blanks site kind.Blank sites) (site ∷ sites) w
behind_blank source blanks site sites w (written other there var name wants) = written other (contains_behind site sites other there) var name wants
behind_blank source blanks site sites w (blank number above short name found) =
    blank number (omega arith) short name
    (find_behind (record { name = codes "_" ++ decimal (blanks + 1); wants = site.wants }) w (wanted_from source (blanks + 1) sites)
    (not_same (codes "_" ++ decimal (blanks + 1)) w.name (λ same. blanks_differ blanks number (omega arith) short (same ∙ name))) found)

behind_con : (source : Source) (blanks : ℕ) (site : Site) (sites : List Site) (w : Wanted) → IsFirstIn source blanks (wanted_from source blanks sites) sites w → IsFirstIn source blanks (wanted_at source blanks site kind.App sites) (site ∷ sites) w
behind_con source blanks site sites w (written other there var name wants) = written other (contains_behind site sites other there) var name wants
behind_con source blanks site sites w (blank number above short name found) = blank number above short name found

first_step : (source : Source) (blanks : ℕ) (site : Site) (sites : List Site) (w : Wanted) (shape : RawKind) → site.node.kind ≡ shape → blanks + 1 < 2 ^ 64
    → (site.node.kind ≡ kind.Var → IsWord is_ascii_uppercase (said source site.node.at))
    → Contains (wanted_at source blanks site shape sites) w
    → (Contains (wanted_from source (blanks_behind blanks shape) sites) w → IsFirstIn source (blanks_behind blanks shape) (wanted_from source (blanks_behind blanks shape) sites) sites w)
    → IsFirstIn source blanks (wanted_at source blanks site shape sites) (site ∷ sites) w
first_step source blanks site sites w kind.App is short word there later = behind_con source blanks site sites w (later there)
first_step source blanks site sites w kind.Var is short word there later =
    ⊎_elim
    (λ (same : record { name = said source site.node.at; wants = site.wants } ≡ w).
    written site (contains_first site sites) is (sym (ap (λ (v : Wanted). v.name) same)) (sym (ap (λ (v : Wanted). v.wants) same)))
    (λ behind. behind_var source blanks site sites w (word is) (later behind))
    (contains_cases (record { name = said source site.node.at; wants = site.wants }) (wanted_from source blanks sites) w there)
first_step source blanks site sites w kind.Blank is short word there later =
    ⊎_elim
    (λ (same : record { name = codes "_" ++ decimal (blanks + 1); wants = site.wants } ≡ w).
    blank blanks (omega arith) short (sym (ap (λ (v : Wanted). v.name) same))
    (subst (λ (v : Wanted). find (λ (x : Wanted). bytes_eq x.name v.name) (wanted_at source blanks site kind.Blank sites) ≡ Some v) same
    (find_here (record { name = codes "_" ++ decimal (blanks + 1); wants = site.wants }) (wanted_from source (blanks + 1) sites))))
    (λ behind. behind_blank source blanks site sites w (later behind))
    (contains_cases (record { name = codes "_" ++ decimal (blanks + 1); wants = site.wants }) (wanted_from source (blanks + 1) sites) w there)

more_short : (blanks : ℕ) (size : ℕ) (shape : RawKind) → blanks + suc size < 2 ^ 64 → blanks_behind blanks shape + size < 2 ^ 64
more_short blanks size shape short = grind arith

-- each variable of the terms is written somewhere, or a blank with a name of its own
pub first_wanted : (source : Source) (blanks : ℕ) (sites : List Site) (w : Wanted) → AreWords source sites → blanks + length sites < 2 ^ 64 → Contains (wanted_from source blanks sites) w → IsFirstIn source blanks (wanted_from source blanks sites) sites w
first_wanted source blanks [] w words short there = absurd (contains_none w there)
first_wanted source blanks (site ∷ sites) w words short there =
    first_step source blanks site sites w site.node.kind refl (omega arith) (words site (contains_first site sites)) there
    (λ later. first_wanted source (blanks_behind blanks site.node.kind) sites w (λ other in_. words other (contains_behind site sites other in_)) (more_short blanks (length sites) site.node.kind short) later)

-- The groups of rules, the stages that they name, and the numbers of names.

-- The place at which a list has what is found in it, and the numbers of names.

-- how many stand before the first that passes
abbrev pub place : {X : Type 0} → (X → Bool) → List X → ℕ
place p [] = 0
place p (x ∷ xs) = cond (p x) 0 (1 + place p xs)

place_is : {X : Type 0} (p : X → Bool) (xs : List X) → place p xs ≡ position_or_len p xs
place_is p xs = is_position_or_len (place p) p refl (λ x xs. refl) xs

-- the number of what is there
pub position_there : {X : Type 0} (p : X → Bool) (xs : List X) → place p xs < length xs → unwrap_or (position p xs) 0 ≡ place p xs
position_there p xs within = grind (arith, place_is, lt-ltb)

or_rest : (one other : Bool) → one ≡ false → (one || other) ≡ true → other ≡ true
or_rest one other e any = grind arith

within_by : (b : Bool) (n m : ℕ) → (b ≡ false → n < m) → cond b 0 (1 + n) < suc m
within_by b n m later = grind arith

-- what passes somewhere has a place
pub place_within : {X : Type 0} (p : X → Bool) (xs : List X) → list_any p xs ≡ true → place p xs < length xs
place_within p [] any = absurd cc
place_within p (x ∷ xs) any = within_by (p x) (place p xs) (length xs) (λ no. place_within p xs (or_rest (p x) (list_any p xs) no any))

-- a name that is in a space has a number there
pub number_within : (source : Source) (space : Space) (name : List ℕ) → is_in source space name ≡ true → number_of source space name < length (names_in source space)
number_within source space name is = grind (arith, place_within, position_there)

-- what is found stands at the place of the first that passes
pub record IsLocated {X Y : Type 0} (g : Y → X) (p : X → Bool) (ys : List Y) (y : Y) : Type 0 where
  pub here : slice_get ys (unwrap_or (position p (map g ys)) 0) ≡ Some y
  pub within : unwrap_or (position p (map g ys)) 0 < length ys

abbrev IsFoundAt : {Y : Type 0} → List Y → Y → ℕ → Type 0
IsFoundAt ys y n = (slice_get ys n ≡ Some y) × (n < length ys)

found_by : {Y : Type 0} (b : Bool) (z y : Y) (ys : List Y) (further : Option Y) (n : ℕ) → cond b (Some z) further ≡ Some y → (further ≡ Some y → IsFoundAt ys y n) → IsFoundAt (z ∷ ys) y (cond b 0 (1 + n))
found_by b z y ys further n found later = grind arith

module _ {X Y : Type 0} (g : Y → X) (p : X → Bool) where
  found_at : (ys : List Y) (y : Y) → find (λ z. p (g z)) ys ≡ Some y → IsFoundAt ys y (place p (map g ys))
  found_at [] y found = absurd cc
  found_at (z ∷ ys) y found = found_by (p (g z)) z y ys (find (λ z. p (g z)) ys) (place p (map g ys)) found (λ later. found_at ys y later)

  pub located : (ys : List Y) (y : Y) → find (λ z. p (g z)) ys ≡ Some y → IsLocated g p ys y
  located ys y found = grind (arith, found_at, length-map, position_there)

-- The groups of rules, and the stages that they name.

-- the stage of a rule is one of those that are declared
home_at : (next : RawItem) (rule : RuleItem) (stage : Span) → Contains (declares next).rules rule → rule.home ≡ Some stage → Contains (declares next).stages stage
home_at (item.Stage name raws) rule stage there home = grind (arith, map_cases (λ (raw : RawRule). record { home = Some name; raw = raw }) raws rule there)
home_at next rule stage there home = grind (arith, none_some)

home_there : (source : Source) (rule : RuleItem) (stage : Span) → Contains (rules_of source) rule → rule.home ≡ Some stage → Contains (stages_of source) stage
home_there source rule stage there home =
    let from = flat_cases (λ (one : RawItem). (declares one).rules) source.file rule there in
    contains_flat (λ (one : RawItem). (declares one).stages) source.file from.from stage from.there (home_at from.from rule stage from.inside home)

stage_declared : (source : Source) (stage : Span) → Contains (stages_of source) stage → is_in source space.Stages (said source stage) ≡ true
stage_declared source stage there = grind (arith, any_map, is_any (map (said source) (stages_of source)) (said source stage) (contains_map (said source) (stages_of source) stage there), contains_map (said source) (stages_of source) stage there)

module _ (source : Source) (clean : IsClean source) where
  stage_in_range : (name : List ℕ) → is_in source space.Stages name ≡ true → number_of source space.Stages name < length (stages_of source)
  stage_in_range name is = omega (arith, number_within source space.Stages name is, length-map (stages_of source) (named source))

  pub used_stage : (span : Span) → Contains (uses_in source space.Stages) span → number_of source space.Stages (said source span) < length (stages_of source)
  used_stage span there = stage_in_range (said source span) (known source space.Stages span clean.names there)

  -- a side that names one stage
  side_stage : (stages : List Span) → length stages ≡ 1 → ((span : Span) → Contains stages span → Contains (uses_in source space.Stages) span)
      → unwrap_or (option_map (λ name. number_of source space.Stages (said source name)) (slice_get stages 0)) 0 < length (stages_of source)
  side_stage [] one used = absurd (omega (arith, one))
  side_stage (span ∷ stages) one used = used_stage span (used span (contains_first span stages))

  sides_used : (rule : RuleItem) (span : Span) → Contains (rules_of source) rule → Contains (stages_named rule.raw.left ++ stages_named rule.raw.right) span → Contains (uses_in source space.Stages) span
  sides_used rule span there inside =
      let each = λ (one : RuleItem). stages_named one.raw.left ++ stages_named one.raw.right in
      contains_left (flat_map each (rules_of source)) _ span (contains_flat each (rules_of source) rule span there inside)

  left_stage : (rule : RuleItem) → Contains (rules_of source) rule → rule.home ≡ None → stage_named source rule.raw.left < length (stages_of source)
  left_stage rule there none =
      side_stage (stages_named rule.raw.left)
      (same_number _ 1 (λ (no_ : length (stages_named rule.raw.left) ≡ 1 → ⊥). clean.names (wrong BadQui rule.raw.at) (bad_qui rule there none (λ (qui : IsQuiRule rule.raw). no_ qui.from) refl)))
      (λ span inside. sides_used rule span there (contains_left (stages_named rule.raw.left) _ span inside))

  right_stage : (rule : RuleItem) → Contains (rules_of source) rule → rule.home ≡ None → stage_named source rule.raw.right < length (stages_of source)
  right_stage rule there none =
      side_stage (stages_named rule.raw.right)
      (same_number _ 1 (λ (no_ : length (stages_named rule.raw.right) ≡ 1 → ⊥). clean.names (wrong BadQui rule.raw.at) (bad_qui rule there none (λ (qui : IsQuiRule rule.raw). no_ qui.to) refl)))
      (λ span inside. sides_used rule span there (contains_right (stages_named rule.raw.left) _ span inside))

  even_group : (k : ℕ) → (2 * k) % 2 ≡ 0
  even_group k = let e : 2 * k + 0 ≡ 2 * k = omega arith in ap (λ n. n % 2) (sym e) ∙ mul-add-mod_self_left 2 k 0

  odd_group : (k : ℕ) → (2 * k + 1) % 2 ≡ 1
  odd_group k = mul-add-mod_self_left 2 k 1

  grouped_by : (home : Option Span) (rule : RuleItem) → Contains (rules_of source) rule → rule.home ≡ home → (group_of source home rule.raw.left < 2 * length (stages_of source)) × (IsSome (next_of source home rule.raw.right) ↔ (group_of source home rule.raw.left % 2 ≡ 1)) × IfSome (next_of source home rule.raw.right) (λ stage. stage < length (stages_of source))
  grouped_by (Some stage) rule there home = grind (arith, stage_in_range (said source stage) (stage_declared source stage (home_there source rule stage there home)), stage_declared source stage (home_there source rule stage there home), home_there source rule stage there home, even_group)
  grouped_by None rule there home = grind (arith, left_stage, odd_group, right_stage, rule.raw.left)

  pub rule_grouped : (item_ : RuleItem) (rule : Rule) → Contains (rules_of source) item_ → IsRuleBy source item_ rule → IsGroupedRule (length (stages_of source)) rule
  rule_grouped item_ rule there by = grind (arith, grouped_by, item_.home, by.group_is, rule.next, item_.raw.left, by.next_is)

  pub rule_next : (item_ : RuleItem) (rule : Rule) → Contains (rules_of source) item_ → IsRuleBy source item_ rule → IfSome rule.next (λ stage. stage < length (stages_of source))
  rule_next item_ rule there by = subst (λ next. IfSome next (λ stage. stage < length (stages_of source))) (sym by.next_is) (grouped_by item_.home item_ there refl).2
