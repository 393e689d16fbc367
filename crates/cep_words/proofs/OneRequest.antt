-- Words give options one after another, and ask for one thing at most.
use Rattle.std.proofs.Common.{◌≡◌, ◌≢◌, ℕ, ◌+◌, ◌*◌, ◌<◌, ◌≤◌, cond, ◌==◌, Option, None, Some, List, [], ◌∷◌, ◌++◌, ◌-◌, length, map, take, drop, get_or, sym, ap, subst, ◌∙◌, arith, append_assoc, Contains, ⊎_elim}
use Rattle.std.specs.Prelude.{IsSome, MatchOption, codes, decimal}
use Rattle.std.specs.List.{AllByRecursion, sum_by}
use Rattle.std.specs.List.Sorted.{IsPermutation}
use Rattle.std.proofs.Math.Seq.{take-length}
use Rattle.std.proofs.lemmas.List.Sums.{sum_by-append, sum_by-cons}
use Rattle.std.proofs.lemmas.List.{map-append, take_more, take-append-drop, append_cancel_left}
use Rattle.std.proofs.lemmas.Fmt.{decimal_injective}
use Rattle.std.proofs.lemmas.List.Sorted.{IsPermutation-refl, IsPermutation-sym, IsPermutation-trans, IsPermutation-cons, IsPermutation-middle, IsPermutation-to_front, IsPermutation-map, IsPermutation-append_right, Contains-permutation, sum_by-IsPermutation}
use Rattle.cep_base.proofs.Elements.{contains_right, contains_first, map_cases, all_at, all_of, contains_either, contains_left, contains_map}
use Rattle.cep_words.specs.declared.run_option.RunOption.{RunOption}
use Rattle.cep_words.specs.declared.run_option.RunOption.TheVariants.{Seed, Height, Turns, Players}
use Rattle.cep_words.specs.declared.options.Options.{Options}
use Rattle.cep_words.specs.declared.request.Task.{Task}
use Rattle.cep_words.specs.declared.request.Task.TheVariants.{Check, Renew, Cause, Again, Weigh}
use Rattle.cep_words.specs.Adding.{of_its_kind, IsThere, AddsOne}
use Rattle.cep_words.specs.Words.{option_text, IsInBounds, asked_if, all_asked, AreWithin, Give, task_word, options_of, Play, Examine, Dead, World, AskFor, HaveNoForm, play_word, Request}

-- Words that give options, one after another.

-- How many words begin as those of a kind do

initial : RunOption → ℕ
initial (Seed seed) = 115
initial (Height levels) = 104
initial (Turns turns) = 116
initial (Players players) = 112

abbrev begins : ℕ → List ℕ → ℕ
begins first [] = 0
begins first (byte ∷ rest) = cond (byte == first) 1 0

abbrev times : ℕ → List (List ℕ) → ℕ
times first words = sum_by (begins first) words

abbrev present : Option ℕ → ℕ
present None = 0
present (Some n) = 1

-- the words of one kind: each begins so, or none
times-kind : (first count : ℕ) (kind : ℕ → RunOption) (o : Option ℕ) → ((n : ℕ) → begins first (option_text (kind n)) ≡ count) → times first (map option_text (asked_if kind o)) ≡ count * present o
times-kind first count kind o each = grind arith

-- those of all kinds
times-asked_all : (first : ℕ) (options : Options) → times first (map option_text (all_asked options)) ≡ cond (115 == first) 1 0 * present options.seed + (cond (104 == first) 1 0 * present options.height + (cond (116 == first) 1 0 * present options.turns + cond (112 == first) 1 0 * present options.players))
times-asked_all first options = grind (arith, map-append, sum_by-append, times-kind, first)

-- as many words begin as an option's does as ask what is of its kind
asked_once : (option : RunOption) (options : Options) → times (initial option) (map option_text (all_asked options)) ≡ present (of_its_kind options option)
unfolding initial
asked_once option options = grind (arith, times-asked_all (initial option) options)

begins_so : (option : RunOption) → begins (initial option) (option_text option) ≡ 1
unfolding initial
begins_so option = grind arith

at_most_one : (o : Option ℕ) → present o ≤ 1
at_most_one o = grind arith

some_present : (o : Option ℕ) → IsSome o → present o ≡ 1
some_present o some = grind arith

-- Words that were read, and one more

-- the options so far are those of the words that were read
pub record AreRead (words : List (List ℕ)) (options : Options) : Type 0 where
  pub within : AreWithin options
  pub given : IsPermutation (map option_text (all_asked options)) words

abbrev parts : Option ℕ → Option ℕ → Option ℕ → Option ℕ → List RunOption
parts seed height turns players = asked_if Seed seed ++ (asked_if Height height ++ (asked_if Turns turns ++ asked_if Players players))

-- one more after others is one more before them
behind : (before asked : List RunOption) (option : RunOption) (later : List RunOption) → IsPermutation asked (option ∷ later) → IsPermutation (before ++ asked) (option ∷ before ++ later)
behind before asked option later same =
    IsPermutation-trans (before ++ asked) (before ++ option ∷ later) (option ∷ before ++ later) (IsPermutation-append_right before asked (option ∷ later) same) (IsPermutation-middle before option later)

-- options with one more ask one thing more
asks_one_more : (option : RunOption) (seed height turns players : Option ℕ) (after : Options) → AddsOne (record { seed = seed; height = height; turns = turns; players = players }) option after
    → IsPermutation (all_asked after) (option ∷ parts seed height turns players)
asks_one_more (Seed n) seed height turns players after (none, is) = rw (is, none) (IsPermutation-refl (Seed n ∷ parts None height turns players))
asks_one_more (Height n) seed height turns players after (none, is) =
    rw (is, none) (behind (asked_if Seed seed) (parts None (Some n) turns players) (Height n) (parts None None turns players) (IsPermutation-refl _))
asks_one_more (Turns n) seed height turns players after (none, is) =
    rw (is, none) (behind (asked_if Seed seed) (parts None height (Some n) players) (Turns n) (parts None height None players)
    (behind (asked_if Height height) (parts None None (Some n) players) (Turns n) (parts None None None players) (IsPermutation-refl _)))
asks_one_more (Players n) seed height turns players after (none, is) =
    rw (is, none) (behind (asked_if Seed seed) (parts None height turns (Some n)) (Players n) (parts None height turns None)
    (behind (asked_if Height height) (parts None None turns (Some n)) (Players n) (parts None None turns None)
    (behind (asked_if Turns turns) (parts None None None (Some n)) (Players n) (parts None None None None) (IsPermutation-refl _))))

pub one_more_read : (words : List (List ℕ)) (word : List ℕ) (options : Options) (option : RunOption) (after : Options) → AreRead words options → IsInBounds option → word ≡ option_text option → AddsOne options option after → AreRead (words ++ word ∷ []) after
one_more_read words word options option after read bounds is adds =
    let asks = asks_one_more option options.seed options.height options.turns options.players after adds in
    let texts = IsPermutation-map option_text (all_asked after) (option ∷ all_asked options) asks in
    let moved = IsPermutation-trans _ (option_text option ∷ map option_text (all_asked options)) (option_text option ∷ words) texts (IsPermutation-cons (option_text option) (map option_text (all_asked options)) words read.given) in
    let last = IsPermutation-trans _ (option_text option ∷ words) (words ++ option_text option ∷ []) moved (IsPermutation-sym (words ++ option_text option ∷ []) (option_text option ∷ words) (IsPermutation-to_front words (option_text option))) in
    record {
      within = all_of IsInBounds (all_asked after) (λ x there. all_at IsInBounds (option ∷ all_asked options) x (bounds, read.within) (Contains-permutation _ _ x asks there));
      given = subst (λ (w : List ℕ). IsPermutation (map option_text (all_asked after)) (words ++ w ∷ [])) (sym is) last;
    }

-- Words that give no options

-- a word among them asks nothing
pub one_unread : (words : List (List ℕ)) (word : List ℕ) → Contains words word → ((option : RunOption) → IsInBounds option → word ≡ option_text option → ⊥) → (options : Options) → ¬ (Give words options)
one_unread words word there unread options give =
    let from = map_cases option_text (all_asked options) word (Contains-permutation words (map option_text (all_asked options)) word (IsPermutation-sym (map option_text (all_asked options)) words give.1) there) in
    unread from.from (all_at IsInBounds (all_asked options) from.from give.0 from.there) (sym from.same)

-- a kind is asked twice
pub one_twice : (words more : List (List ℕ)) (word : List ℕ) (so_far : Options) (option : RunOption) → AreRead words so_far → word ≡ option_text option → IsThere so_far option → (options : Options) → ¬ (Give (words ++ word ∷ more) options)
one_twice words more word so_far option read is there options give =
    let first = initial option in
    let whole = sum_by-IsPermutation (begins first) (map option_text (all_asked options)) (words ++ word ∷ more) give.1 in
    let asked = asked_once option options in
    let once = at_most_one (of_its_kind options option) in
    let before = sum_by-IsPermutation (begins first) (map option_text (all_asked so_far)) words read.given in
    let asked' = asked_once option so_far in
    let some = some_present (of_its_kind so_far option) there in
    let here = ap (begins first) is ∙ begins_so option in
    let both = sum_by-append (begins first) words (word ∷ more) in
    omega (arith, whole, asked, once, before, asked', some, here, both, sum_by-cons (begins first) word more)

-- Words at a place among others

module _ {A B : Type 0} (f : A → B) (xs : List A) (i : ℕ) (x : A) (within : i < length xs) (here : x ≡ get_or xs i x) where
  -- those up to it are those before it, and it
  pub up_to : map f (take (i + 1) xs) ≡ map f (take i xs) ++ f x ∷ []
  up_to = ap (map f) (take_more xs i x within) ∙ map-append f (take i xs) (get_or xs i x ∷ []) ∙ ap (λ y. map f (take i xs) ++ f y ∷ []) (sym here)

  -- all are those before it, it, and those after
  pub around : map f xs ≡ map f (take i xs) ++ f x ∷ map f (drop (i + 1) xs)
  around =
      ap (map f) (sym (take-append-drop (i + 1) xs)) ∙ map-append f (take (i + 1) xs) (drop (i + 1) xs) ∙ ap (λ ys. ys ++ map f (drop (i + 1) xs)) up_to
      ∙ append_assoc (map f (take i xs)) (f x ∷ []) (map f (drop (i + 1) xs))

  pub is_among : Contains (map f xs) (f x)
  is_among = subst (λ ys. Contains ys (f x)) (sym around) (contains_right (map f (take i xs)) (f x ∷ map f (drop (i + 1) xs)) (f x) (contains_first (f x) (map f (drop (i + 1) xs))))

-- where there is none, what holds then holds
pub none_matches : {A : Type 0} (o : Option A) (P : Type 0) (Q : A → Type 0) → o ≡ None → P → MatchOption o P Q
none_matches o P Q none holds = subst (λ found. MatchOption found P Q) (sym none) holds

-- a slice that begins with two items
pub two_items : {X : Type 0} (items : List X) (one other : X) → 2 ≤ length items → one ≡ get_or items 0 one → other ≡ get_or items 1 other → items ≡ one ∷ other ∷ take (length items - 2) (drop 2 items)
two_items (a ∷ b ∷ more) one other least e f = grind (arith, take-length more)
two_items items one other least e f = absurd (omega arith)

-- what is said of none may be said less strongly
pub none_weaker : {A : Type 0} (o : Option A) (P P' : Type 0) (Q : A → Type 0) → (P → P') → MatchOption o P Q → MatchOption o P' Q
none_weaker None P P' Q less holds = less holds
none_weaker (Some x) P P' Q less holds = holds

-- words that ask for no task in three words or four examine nothing
unexamined : (words : List (List ℕ)) → ((task : Task) (file second : List ℕ) → words ≢ task_word task ∷ file ∷ second ∷ []) → ((seed : ℕ) (file second : List ℕ) → ¬ (AskFor words (Examine (Again (Some seed)) file second)))
    → (task : Task) (file second : List ℕ) → ¬ (AskFor words (Examine task file second))
unexamined words plain seeded task file second ask = grind (arith, second)

-- words that ask for none of these are malformed
pub no_form : (words : List (List ℕ)) → ((file : List ℕ) (options : Options) → ¬ (AskFor words (Play file options))) → ((task : Task) (file second : List ℕ) → words ≢ task_word task ∷ file ∷ second ∷ []) → ((seed : ℕ) (file second : List ℕ) → ¬ (AskFor words (Examine (Again (Some seed)) file second)))
    → ((file : List ℕ) → ¬ (AskFor words (Dead file))) → ((rooms : ℕ) (options : Options) → ¬ (AskFor words (World rooms options))) → HaveNoForm words
no_form words unplayed plain seeded unreported unrun (Play file options) ask = unplayed file options ask
no_form words unplayed plain seeded unreported unrun (Examine task file second) ask = unexamined words plain seeded task file second ask
no_form words unplayed plain seeded unreported unrun (Dead file) ask = unreported file ask
no_form words unplayed plain seeded unreported unrun (World rooms options) ask = unrun rooms options ask

-- an option that is alone after a task's files
pub no_options : (task : Task) (words : List (List ℕ)) (file second : List ℕ) → options_of task ≡ [] → words ≡ task_word task ∷ file ∷ second ∷ [] → AskFor words (Examine task file second)
no_options task words file second none is = (subst (AllByRecursion IsInBounds) (sym none) tt, is ∙ ap (λ options. task_word task ∷ file ∷ second ∷ map option_text options) (sym none))

-- three items
pub three_items : {X : Type 0} (items : List X) (one other third : X) → length items ≡ 3 → one ≡ get_or items 0 one → other ≡ get_or items 1 other → third ≡ get_or items 2 third → items ≡ one ∷ other ∷ third ∷ []
three_items (a ∷ b ∷ c ∷ []) one other third size e f g = cc
three_items (a ∷ b ∷ c ∷ d ∷ more) one other third size e f g = absurd (omega (size, arith))
three_items items one other third size e f g = grind arith

-- and two
pub only_two : {X : Type 0} (items : List X) (one other : X) → length items ≡ 2 → one ≡ get_or items 0 one → other ≡ get_or items 1 other → items ≡ one ∷ other ∷ []
only_two (a ∷ b ∷ []) one other size e f = cc
only_two items one other size e f = grind arith

-- and four
pub four_items : {X : Type 0} (items : List X) (one other third last : X) → length items ≡ 4 → one ≡ get_or items 0 one → other ≡ get_or items 1 other → third ≡ get_or items 2 third → last ≡ get_or items 3 last → items ≡ one ∷ other ∷ third ∷ last ∷ []
four_items (a ∷ b ∷ c ∷ d ∷ []) one other third last size e f g h = cc
four_items (a ∷ b ∷ c ∷ d ∷ e' ∷ more) one other third last size e f g h = absurd (omega (size, arith))
four_items items one other third last size e f g h = grind arith

-- Words ask for one thing at most.

-- one text is that of one option
one_text : (one other : RunOption) → IsInBounds one → IsInBounds other → option_text one ≡ option_text other → one ≡ other
one_text one other low low' same = grind (arith, decimal_injective, append_cancel_left)

-- what is among those of a kind is one of them
among : (kind : ℕ → RunOption) (o : Option ℕ) (option : RunOption) → Contains (asked_if kind o) option → (n : ℕ) × (o ≡ Some n) × (kind n ≡ option)
among kind o option there = grind arith

-- which option of a kind is among all that are asked
abbrev IsAmong : Options → RunOption → Type 0
IsAmong options (Seed n) = options.seed ≡ Some n
IsAmong options (Height n) = options.height ≡ Some n
IsAmong options (Turns n) = options.turns ≡ Some n
IsAmong options (Players n) = options.players ≡ Some n

module _ (options : Options) (option : RunOption) where
  of_kind : (kind : ℕ → RunOption) (o : Option ℕ) → ((n : ℕ) → o ≡ Some n → IsAmong options (kind n)) → Contains (asked_if kind o) option → IsAmong options option
  of_kind kind o is there = let m = among kind o option there in subst (IsAmong options) m.2 (is m.0 m.1)

  or_later : (kind : ℕ → RunOption) (o : Option ℕ) (later : List RunOption) → ((n : ℕ) → o ≡ Some n → IsAmong options (kind n)) → (Contains later option → IsAmong options option) → Contains (asked_if kind o ++ later) option → IsAmong options option
  or_later kind o later is behind there = ⊎_elim (of_kind kind o is) behind (contains_either (asked_if kind o) later option there)

  is_asked : Contains (all_asked options) option → IsAmong options option
  is_asked = or_later Seed options.seed _ (λ n is. is) (or_later Height options.height _ (λ n is. is) (or_later Turns options.turns _ (λ n is. is) (of_kind Players options.players (λ n is. is))))

lone : (kind : ℕ → RunOption) (o : Option ℕ) (n : ℕ) → o ≡ Some n → Contains (asked_if kind o) (kind n)
lone kind o n is = subst (λ p. Contains (asked_if kind p) (kind n)) (sym is) (contains_first (kind n) [])

asks : (options : Options) (option : RunOption) → IsAmong options option → Contains (all_asked options) option
asks options option is = grind (arith, contains_left, lone, contains_right)

-- what one list of options asks, each other one asks that has the same words
also : (words : List (List ℕ)) (one other : Options) → Give words one → Give words other → (option : RunOption) → IsAmong one option → IsAmong other option
also words one other given given' option is =
    let there = asks one option is in
    let said = Contains-permutation (map option_text (all_asked one)) words (option_text option) given.1 (contains_map option_text (all_asked one) option there) in
    let from = map_cases option_text (all_asked other) (option_text option) (Contains-permutation words (map option_text (all_asked other)) (option_text option) (IsPermutation-sym (map option_text (all_asked other)) words given'.1) said) in
    let same = one_text from.from option (all_at IsInBounds (all_asked other) from.from given'.0 from.there) (all_at IsInBounds (all_asked one) option given.0 there) from.same in
    is_asked other option (subst (Contains (all_asked other)) same from.there)

same_option : (o p : Option ℕ) → ((n : ℕ) → o ≡ Some n → p ≡ Some n) → ((n : ℕ) → p ≡ Some n → o ≡ Some n) → o ≡ p
same_option o p there back = grind arith

pub given_once : (words : List (List ℕ)) (one other : Options) → Give words one → Give words other → one ≡ other
given_once words one other given given' =
    let there = also words one other given given' in
    let back = also words other one given' given in
    let seed = same_option one.seed other.seed (λ n. there (Seed n)) (λ n. back (Seed n)) in
    let height = same_option one.height other.height (λ n. there (Height n)) (λ n. back (Height n)) in
    let turns = same_option one.turns other.turns (λ n. there (Turns n)) (λ n. back (Turns n)) in
    let players = same_option one.players other.players (λ n. there (Players n)) (λ n. back (Players n)) in
    λ i. record { seed = seed i; height = height i; turns = turns i; players = players i }

-- words of which the others give options ask for none to be played with another word than theirs says
pub unplayed : (words others : List (List ℕ)) (word name : List ℕ) (given : Options) → words ≡ word ∷ name ∷ others → Give others given → (word ≡ play_word given.players → ⊥)
    → (file : List ℕ) (options : Options) → ¬ (AskFor words (Play file options))
unplayed words others word name given are gives other file options ask =
    let same = sym are ∙ ask.1 in
    let options_same = given_once others given options gives (subst (λ ws. Give ws options) (sym (ap (drop 2) same)) ask.2) in
    other (ap (λ ws. get_or ws 0 []) same ∙ ap (λ (o : Options). play_word o.players) (sym options_same))

-- and for no world if they say how many play
pub unrun : (words others : List (List ℕ)) (word name : List ℕ) (given : Options) (players : ℕ) → words ≡ word ∷ name ∷ others → Give others given → given.players ≡ Some players
    → (rooms : ℕ) (options : Options) → ¬ (AskFor words (World rooms options))
unrun words others word name given players are gives some rooms options ask =
    let options_same = given_once others given options gives (subst (λ ws. Give ws options) (sym (ap (drop 2) (sym are ∙ ask.2.1))) ask.2.2) in
    let none = sym some ∙ ap (λ (o : Options). o.players) options_same ∙ ask.1 in
    cc

-- the fourth letter of a word, which tells requests apart; the one of `rounds` stands for the one of `play`
abbrev fourth : List ℕ → ℕ
fourth (a ∷ (b ∷ (c ∷ (letter ∷ rest)))) = cond (letter == 110) 121 letter
fourth _ = 0

abbrev task_letter : Task → ℕ
task_letter Check = 99
task_letter Renew = 101
task_letter Cause = 115
task_letter (Again seed) = 105
task_letter Weigh = 103

abbrev letter_of : Request → ℕ
letter_of (Play file options) = 121
letter_of (Examine task file second) = task_letter task
letter_of (Dead file) = 100
letter_of (World rooms options) = 108

word_letter : (task : Task) → fourth (task_word task) ≡ task_letter task
word_letter task = grind arith

play_letter : (players : Option ℕ) → fourth (play_word players) ≡ 121
play_letter players = grind arith

tells_letter : (words : List (List ℕ)) (request : Request) → AskFor words request → fourth (get_or words 0 []) ≡ letter_of request
tells_letter words request ask = grind (arith, fourth, play_letter, word_letter)

-- a letter and the options after it name one task at most
one_task : (one other : Task) → task_letter one ≡ task_letter other → AllByRecursion IsInBounds (options_of one) → AllByRecursion IsInBounds (options_of other) → map option_text (options_of one) ≡ map option_text (options_of other) → one ≡ other
one_task one other same low low' texts = grind (arith, decimal_injective, append_cancel_left)

pub one_request : (words : List (List ℕ)) (one other : Request) → AskFor words one → AskFor words other → one ≡ other
one_request words (Play file options) (Play file' options') ask ask' =
    let same : play_word options.players ∷ file ∷ ask.0 ≡ play_word options'.players ∷ file' ∷ ask'.0 = sym ask.1 ∙ ask'.1 in
    let files : file ≡ file' = ap (λ ws. get_or ws 1 []) same in
    λ i. Play (files i) ((given_once ask'.0 options options' (subst (λ ws. Give ws options) (ap (drop 2) same) ask.2) ask'.2) i)
one_request words (Examine task file log) (Examine task' file' log') ask ask' =
    let same : task_word task ∷ file ∷ log ∷ map option_text (options_of task) ≡ task_word task' ∷ file' ∷ log' ∷ map option_text (options_of task') = sym ask.1 ∙ ask'.1 in
    let files : file ≡ file' = ap (λ ws. get_or ws 1 []) same in
    λ i. Examine ((one_task task task' (sym (tells_letter words (Examine task file log) ask) ∙ tells_letter words (Examine task' file' log') ask') ask.0 ask'.0 (ap (drop 3) same)) i) (files i) ((ap (λ ws. get_or ws 2 []) same) i)
one_request words (Dead file) (Dead file') ask ask' = let files : file ≡ file' = ap (λ ws. get_or ws 1 []) (sym ask ∙ ask') in λ i. Dead (files i)
one_request words (World rooms options) (World rooms' options') ask ask' =
    let same : codes "world" ∷ decimal rooms ∷ ask.2.0 ≡ codes "world" ∷ decimal rooms' ∷ ask'.2.0 = sym ask.2.1 ∙ ask'.2.1 in
    let numbers : rooms ≡ rooms' = decimal_injective rooms rooms' (omega (arith, ask.0.1)) (omega (arith, ask'.0.1)) (ap (λ ws. get_or ws 1 []) same) in
    λ i. World (numbers i) ((given_once ask'.2.0 options options' (subst (λ ws. Give ws options) (ap (drop 2) same) ask.2.2) ask'.2.2) i)
one_request words one other ask ask' = grind (arith, task_letter, tells_letter words one ask, tells_letter words other ask')
