-- The longest token at the start of bytes, and that each text has its tokens or a first fault.
use Rattle.std.proofs.Common.{◌≡◌, ℕ, suc, ◌+◌, ◌≤◌, Bool, true, false, cond, List, [], ◌∷◌, ◌++◌, length, take, refl, arith, nat_le, ◌<◌, ◌==◌, codes, sym, ap, subst, ◌∙◌, ◌-◌, get_or, drop, length-take-le, take-append-drop, ◌≢◌, ◌⊎◌, zero, if◌then◌else◌, inl, inr, ⊎_elim, append_assoc, append-nil, length-append, length-drop}
use Rattle.std.specs.List.{prefix_len}
use Rattle.cep_lex.specs.Words.{Pass, Runs, SpellsToken, BeginsNoToken}
use Rattle.std.specs.Char.{is_ascii_alphabetic, is_ascii_digit, is_ascii_lowercase, is_ascii_uppercase}
use Rattle.std.proofs.lemmas.Bool.{or_left, or_right, or_from, and_left, and_parts, leb-true, lt-leb, eqb-true, cases_lt, cases_eq, eq-eqb, and_right}
use Rattle.cep_base.specs.Spelling.{is_name_byte}
use Rattle.cep_lex.specs.declared.token.TokenKind.{TokenKind}
use Rattle.cep_lex.specs.declared.token.TokenKind.TheVariants.{Name, Variable, Number, Directive, KwType, KwPred, KwBwd, KwFact, KwStage, KwContext, KwQui}
use Rattle.cep_lex.specs.declared.words.Class.{Class}
use Rattle.cep_lex.specs.declared.words.Class.TheVariants.{Letter, Digit, Hash, Pair, Mark, Other}
use Rattle.cep_lex.specs.Fronts.{class, IsFront, mark_class, BeginsWith, IsLetters, IsGapLength, IsShortLength, IsLongLength}
use Rattle.std.proofs.lemmas.List.{take_rest}
use Rattle.std.proofs.lemmas.List.Sums.{prefix_len-le-length}
use Rattle.std.specs.Prelude.{Result, Ok, Err}
use Rattle.std.specs.Str.{bytes_eq}
use Rattle.std.proofs.lemmas.Slice.Eq.{bytes_eq-Decides}
use Rattle.cep_base.specs.declared.limits.TheConstants.{MOST_NAME}
use Rattle.cep_lex.specs.declared.fault.LexFault.{LexFault}
use Rattle.cep_lex.specs.declared.fault.LexFault.TheVariants.{BadByte, NameLong}
use Rattle.cep_lex.specs.declared.token.Token.{Token}
use Rattle.cep_lex.specs.Cuts.{is_separator, IsGap, Cuts, IsLexed}
use Rattle.cep_lex.specs.Cuts.IsGap.{empty}
use Rattle.cep_lex.specs.Fronts.IsGapLength.{all, before}
use Rattle.cep_lex.proofs.GapLemmas.{IsGapSoFar, gap_separator, gap_opened, open_more, open_closed, gap_ended}
use Rattle.cep_lex.proofs.Steps.{end_here, gap_stops, bad_byte_here, long_name_here, token_here, token_ends, cut_next}
use Rattle.cep_base.proofs.Bytes.{bytes_differ}
use Rattle.cep_base.proofs.Bools.{true_false}

-- Runs of bytes that pass a test.

-- a run at the front is no longer than the longest one
pub run_is_within : (p : ℕ → Bool) (run rest : List ℕ) → Pass p run → length run ≤ prefix_len p (run ++ rest)
run_is_within p [] rest pass = omega arith
run_is_within p (b ∷ run) rest pass = let more = run_is_within p run rest pass.1 in rw pass.0 (omega arith)

-- one more byte, where it passes
longest_run_from : (p : ℕ → Bool) (b : ℕ) (bytes : List ℕ) (passes : Bool) → p b ≡ passes → Pass p (take (prefix_len p bytes) bytes) → Pass p (take (cond passes (1 + prefix_len p bytes) 0) (b ∷ bytes))
longest_run_from p b bytes passes is more = grind arith

-- the longest run passes
pub longest_run : (p : ℕ → Bool) (bytes : List ℕ) → Pass p (take (prefix_len p bytes) bytes)
longest_run p [] = tt
longest_run p (b ∷ bytes) = longest_run_from p b bytes (p b) refl (longest_run p bytes)

-- The first byte of a token tells what may stand after it.

-- what stands after the first byte of a token
abbrev pub Follows : Class → List ℕ → Type 0
Follows Letter run = Pass is_name_byte run
Follows Digit run = Pass is_ascii_digit run
Follows Hash run = Pass is_ascii_alphabetic run × (0 < length run)
Follows (Pair kind second) run = run ≡ second ∷ []
Follows (Mark kind) run = run ≡ []
Follows Other run = ⊥

-- a byte, and what stands after it in a token
pub record IsShaped (word : List ℕ) : Type 0 where
  pub byte : ℕ
  pub run : List ℕ
  pub is : word ≡ byte ∷ run
  pub follows : Follows (class byte) run

-- a digit is no letter
no_letter : (byte : ℕ) → is_ascii_digit byte ≡ true → is_ascii_alphabetic byte ≡ false
no_letter byte digit = grind (arith, leb-true, and_parts, or_from, and_left, lt-leb)

-- the class of a digit
pub digit_class : (byte : ℕ) → is_ascii_digit byte ≡ true → class byte ≡ Digit
digit_class byte digit = rw (no_letter byte digit, digit) refl

-- so is a letter
pub letter_class : (byte : ℕ) → is_ascii_alphabetic byte ≡ true → class byte ≡ Letter
letter_class byte letter = rw letter refl

-- and `#`
pub hash_class : (byte : ℕ) → (byte == 35) ≡ true → class byte ≡ Hash
hash_class byte hash = subst (λ b. class b ≡ Hash) (sym (eqb-true byte 35 hash)) refl

-- a first byte of a class, and a run
run_shaped : (first next : ℕ → Bool) (class' : Class) (word : List ℕ) → ((byte : ℕ) → first byte ≡ true → class byte ≡ class') → ((run : List ℕ) → (word ≡ [] → ⊥) → Pass next run → length run + 1 ≡ length word → Follows class' run) → Runs first next word → IsShaped word
run_shaped first next class' [] is follows runs = absurd runs
run_shaped first next class' (byte ∷ run) is follows runs = record { byte = byte; run = run; is = refl; follows = subst (λ c. Follows c run) (sym (is byte runs.0)) (follows run (λ e. cc) runs.1 (omega arith)) }

-- each token has such a shape
pub shaped : (kind : TokenKind) (word : List ℕ) → SpellsToken kind word → IsShaped word
shaped kind word h = grind (arith, run_shaped, letter_class, or_right, or_left, digit_class, hash_class)

-- the most bytes of a token after its first
abbrev pub most_behind : Class → List ℕ → ℕ
most_behind Letter tail = prefix_len is_name_byte tail
most_behind Digit tail = prefix_len is_ascii_digit tail
most_behind Hash tail = prefix_len is_ascii_alphabetic tail
most_behind (Pair kind second) tail = 1
most_behind (Mark kind) tail = 0
most_behind Other tail = 0

-- no more bytes follow than these
follows_within : (c : Class) (run rest : List ℕ) → Follows c run → length run ≤ most_behind c (run ++ rest)
follows_within c run rest follows = grind (arith, run_is_within)

-- a token at the front, with its shape there
pub record IsShapedAt (byte : ℕ) (tail word rest : List ℕ) : Type 0 where
  pub run : List ℕ
  pub is : word ≡ byte ∷ run
  pub split : tail ≡ run ++ rest
  pub follows : Follows (class byte) run

-- no token at the front is longer
pub shaped_within : (byte : ℕ) (tail word rest : List ℕ) → IsShapedAt byte tail word rest → length word ≤ suc (most_behind (class byte) tail)
shaped_within byte tail word rest shape = grind (arith, follows_within)

-- The longest token at the front of bytes.

-- a token at the front, by the first byte
shaped_front : (bytes : List ℕ) → 0 < length bytes → (kind : TokenKind) (word rest : List ℕ) → bytes ≡ word ++ rest → SpellsToken kind word → IsShapedAt (get_or bytes 0 0) (drop 1 bytes) word rest
shaped_front bytes some kind word rest cut spelled = grind (arith, shaped)

-- a token of as many bytes as can follow its first is the longest
pub front_from : (bytes : List ℕ) (kind : TokenKind) (size : ℕ) → 0 < length bytes → size ≡ 1 + most_behind (class (get_or bytes 0 0)) (drop 1 bytes) → size ≤ length bytes → SpellsToken kind (take size bytes) → IsFront bytes kind size
front_from bytes kind size some is within spelled = record {
  some = omega arith;
  within = within;
  spelled = spelled;
  longest = λ kind' other rest cut spells.
      let most = shaped_within _ _ other rest (shaped_front bytes some kind' other rest (sym (take-append-drop size bytes) ∙ cut) spells) in
      rw (length-take-le size bytes within) (omega arith);
}

-- where nothing can follow the first byte, no token begins
pub no_front : (bytes : List ℕ) → 0 < length bytes → ((run rest : List ℕ) → drop 1 bytes ≡ run ++ rest → Follows (class (get_or bytes 0 0)) run → ⊥) → BeginsNoToken bytes
no_front bytes some nothing kind word rest cut spelled = grind (arith, shaped_front bytes some kind word rest cut spelled)

-- the longest run after the first byte ends within the bytes
pub run_within : (p : ℕ → Bool) (bytes : List ℕ) (size : ℕ) → 0 < length bytes → size ≡ prefix_len p (take (length bytes - 1) (drop 1 bytes)) → 1 + size ≤ length bytes
run_within p bytes size some is = grind (arith, prefix_len-le-length, take_rest bytes 1)

-- a first byte and the longest run after it
pub run_word : (first p : ℕ → Bool) (bytes : List ℕ) (size : ℕ) → 0 < length bytes → first (get_or bytes 0 0) ≡ true → size ≡ prefix_len p (take (length bytes - 1) (drop 1 bytes)) → Runs first p (take (1 + size) bytes)
run_word first p bytes size some passes is = grind (arith, take_rest bytes 1, longest_run)

-- a token that is a first byte and the longest run of those that may follow it
pub run_front : (p : ℕ → Bool) (told : Class) (bytes : List ℕ) (kind : TokenKind) (size : ℕ) → 0 < length bytes → class (get_or bytes 0 0) ≡ told → ((tail : List ℕ) → most_behind told tail ≡ prefix_len p tail) → size ≡ prefix_len p (take (length bytes - 1) (drop 1 bytes)) → SpellsToken kind (take (1 + size) bytes) → IsFront bytes kind (1 + size)
run_front p told bytes kind size some is most size_is spelled = grind (arith, most_behind (class (get_or bytes 0 0)) (drop 1 bytes), take_rest bytes 1, most_behind, front_from, run_within p bytes size some size_is)

-- the first byte alone spells a token
pub mark_spelled : (bytes : List ℕ) (kind : TokenKind) → 0 < length bytes → SpellsToken kind (get_or bytes 0 0 ∷ []) → SpellsToken kind (take 1 bytes)
mark_spelled bytes kind some spelled = grind arith

-- Each text has its tokens, or a first fault.

-- ---- the gap at the front

abbrev HasGap : List ℕ → Type 0
HasGap bytes = (size : ℕ) × IsGapLength bytes size

gap_behind : (commented : Bool) (front bytes : List ℕ) → IsGapSoFar commented front → HasGap (front ++ bytes)
gap_behind commented front [] so_far = rw append-nil (length front, all refl (gap_ended commented front so_far))
gap_behind commented front (byte ∷ bytes) so_far =
    let rest : (commented : Bool) → IsGapSoFar commented (front ++ byte ∷ []) → HasGap (front ++ byte ∷ bytes) = λ commented so. rw append_assoc at (gap_behind commented (front ++ byte ∷ []) bytes so) in
    let here : IsGap front → is_separator byte ≡ false → byte ≢ 37 → HasGap (front ++ byte ∷ bytes) = λ gap none other. (length front, before front byte bytes refl refl gap (λ e. true_false _ e none) other) in
    grind (arith, here, rest true, rest false, open_closed, open_more, gap_opened, gap_separator, cases_eq byte 10, cases_eq byte 37)

gap_within : (bytes : List ℕ) (size : ℕ) → IsGapLength bytes size → size ≤ length bytes
gap_within bytes size given = grind (arith, length-append)

-- ---- the token at the front

abbrev HasFront : List ℕ → Type 0
HasFront bytes = ((kind : TokenKind) × (size : ℕ) × IsFront bytes kind size) ⊎ BeginsNoToken bytes

abbrev IsSpelled : List ℕ → Type 0
IsSpelled word = (kind : TokenKind) × SpellsToken kind word

same_word : (word other : List ℕ) → (word ≡ other) ⊎ (word ≢ other)
same_word word other = grind (arith, bytes_eq-Decides word other)

-- a word that a lower-case letter begins is a reserved word or a name
lower_word : (word : List ℕ) → Runs is_ascii_lowercase is_name_byte word → IsSpelled word
lower_word word runs =
    ⊎_elim (λ is. (KwType, is)) (λ a. ⊎_elim (λ is. (KwPred, is)) (λ b. ⊎_elim (λ is. (KwBwd, is)) (λ c. ⊎_elim (λ is. (KwFact, is)) (λ d.
    ⊎_elim (λ is. (KwStage, is)) (λ e. ⊎_elim (λ is. (KwContext, is)) (λ f. ⊎_elim (λ is. (KwQui, is)) (λ g. (Name, (runs, (a, (b, (c, (d, (e, (f, (g, tt))))))))))
    (same_word word (codes "qui"))) (same_word word (codes "context"))) (same_word word (codes "stage")))
    (same_word word (codes "fact"))) (same_word word (codes "bwd"))) (same_word word (codes "pred"))) (same_word word (codes "type"))

letter_word : (word : List ℕ) → IsLetters word → IsSpelled word
letter_word [] letters = absurd letters
letter_word (byte ∷ run) letters = by (is_ascii_uppercase byte) refl where
  by : (upper : Bool) → is_ascii_uppercase byte ≡ upper → IsSpelled (byte ∷ run)
  by true upper = (Variable, (upper, letters.1))
  by false upper = lower_word (byte ∷ run) (rw upper at letters.0, letters.1)

-- what the class of a first byte says of it
told_if : (told other : Class) (byte n : ℕ) → (byte ≡ n → BeginsWith told byte) → BeginsWith other byte → BeginsWith (if byte == n then told else other) byte
told_if told other byte n is rest = grind (arith, eqb-true)

mark_told : (byte : ℕ) → BeginsWith (mark_class byte) byte
mark_told byte = grind (arith, told_if)

class_told : (byte : ℕ) → BeginsWith (class byte) byte
class_told byte = grind (arith, mark_told byte)

-- the bytes after the first, as a run is looked for there
abbrev tail_of : List ℕ → List ℕ
tail_of bytes = take (length bytes - 1) (drop 1 bytes)

run_token : (first next : ℕ → Bool) (told : Class) (bytes : List ℕ) → 0 < length bytes → class (get_or bytes 0 0) ≡ told → first (get_or bytes 0 0) ≡ true → ((tail : List ℕ) → most_behind told tail ≡ prefix_len next tail)
    → ((word : List ℕ) → Runs first next word → IsSpelled word) → HasFront bytes
run_token first next told bytes some is passes most spell =
    let size = prefix_len next (tail_of bytes) in
    let spelled = spell (take (1 + size) bytes) (run_word first next bytes size some passes refl) in
    inl (spelled.0, 1 + size, run_front next told bytes spelled.0 size some is most refl spelled.1)

hash_token : (bytes : List ℕ) (size : ℕ) → 0 < length bytes → class (get_or bytes 0 0) ≡ Hash → get_or bytes 0 0 ≡ 35 → size ≡ prefix_len is_ascii_alphabetic (tail_of bytes) → HasFront bytes
hash_token bytes size some is hash size_is =
    ⊎_elim
    (λ (none : size ≡ 0). inr (no_front bytes some (λ run rest cut follows.
    let f : Follows Hash run = subst (λ c. Follows c run) is follows in
    let most = run_is_within is_ascii_alphabetic run rest f.0 in
    let e : size ≡ prefix_len is_ascii_alphabetic (run ++ rest) = size_is ∙ ap (prefix_len is_ascii_alphabetic) (take_rest bytes 1 ∙ cut) in
    absurd (omega (arith, f.1)))))
    (λ (more : size ≢ 0).
    let within = run_within is_ascii_alphabetic bytes size some size_is in
    inl (
      Directive,
      1 + size,
      run_front is_ascii_alphabetic Hash bytes Directive size some is (λ tail. refl) size_is
          (run_word (λ byte. byte == 35) is_ascii_alphabetic bytes size some (eq-eqb _ 35 hash) size_is, rw (length-take-le (1 + size) bytes within) (omega (arith, more))),
    ))
    (cases_eq size 0)

pair_token : (bytes : List ℕ) (kind : TokenKind) (second : ℕ) → 0 < length bytes → class (get_or bytes 0 0) ≡ Pair kind second → SpellsToken kind (get_or bytes 0 0 ∷ second ∷ []) → HasFront bytes
pair_token (byte ∷ next ∷ bytes) kind second some is spelled =
    ⊎_elim
    (λ (same : next ≡ second). inl (kind, 2, front_from (byte ∷ next ∷ bytes) kind 2 some (ap (λ c. 1 + most_behind c (next ∷ bytes)) (sym is)) (omega arith) (subst (λ n. SpellsToken kind (byte ∷ n ∷ [])) (sym same) spelled)))
    (λ (other : next ≢ second). inr (no_front (byte ∷ next ∷ bytes) some (λ run rest cut follows.
    let f : run ≡ second ∷ [] = subst (λ c. Follows c run) is follows in
    let e : next ∷ bytes ≡ second ∷ rest = cut ∙ ap (λ r. r ++ rest) f in other cc)))
    (cases_eq next second)
pair_token bytes kind second some is spelled = grind (arith, no_front)

front_of : (bytes : List ℕ) → 0 < length bytes → HasFront bytes
front_of bytes some = by (class (get_or bytes 0 0)) refl (class_told (get_or bytes 0 0)) where
  by : (told : Class) → class (get_or bytes 0 0) ≡ told → BeginsWith told (get_or bytes 0 0) → HasFront bytes
  by Letter is letter = run_token is_ascii_alphabetic is_name_byte Letter bytes some is letter (λ tail. refl) letter_word
  by Digit is digit = run_token is_ascii_digit is_ascii_digit Digit bytes some is digit (λ tail. refl) (λ word runs. (Number, runs))
  by Hash is hash = hash_token bytes _ some is hash refl
  by (Pair kind second) is spelled = pair_token bytes kind second some is spelled
  by (Mark kind) is spelled = inl (kind, 1, front_from bytes kind 1 some (ap (λ c. 1 + most_behind c (drop 1 bytes)) (sym is)) some (mark_spelled bytes kind some spelled))
  by Other is told = inr (no_front bytes some (λ run rest cut follows. subst (λ c. Follows c run) is follows))

-- ---- token by token

short_or_long : (kind : TokenKind) (size : ℕ) → IsShortLength kind size ⊎ IsLongLength kind size
short_or_long kind size = grind (arith, cases_lt MOST_NAME size)

abbrev HasAnswer : List ℕ → Type 0
HasAnswer text = (answer : Result (List Token) LexFault) × IsLexed text answer

module _ (text : List ℕ) (at gap : ℕ) (tokens : List Token) (within : at ≤ length text) (apart : IsGapLength (take (length text - at) (drop at text)) gap) (cut : Cuts 0 text tokens (drop at text)) where
  -- after the gap stands a token, and so on, or no token
  behind_gap : at + gap < length text → ((token : Token) → at < token.to → token.to ≤ length text → Cuts 0 text (tokens ++ token ∷ []) (drop token.to text) → HasAnswer text) → HasAnswer text
  behind_gap stops rest = ⊎_elim
      (λ found. ⊎_elim
      (λ short.
      let ends = token_ends text at gap stops apart found.0 found.1 found.2 in
      let token : Token = record { kind = found.0; from = at + gap; to = at + gap + found.1 } in
      rest token ends.0 ends.1 (cut_next text at tokens token within cut (token_here text at gap stops apart found.0 found.1 found.2 short)))
      (λ long. (Err (NameLong (at + gap)), long_name_here text at gap stops apart found.0 found.1 found.2 long tokens cut))
      (short_or_long found.0 found.1))
      (λ none. (Err (BadByte (at + gap)), bad_byte_here text at gap stops apart none tokens cut))
      (front_of (take (length text - (at + gap)) (drop (at + gap) text)) (omega (arith, ap length (take_rest text (at + gap)), length-drop (at + gap) text)))

  next_token : ((token : Token) → at < token.to → token.to ≤ length text → Cuts 0 text (tokens ++ token ∷ []) (drop token.to text) → HasAnswer text) → HasAnswer text
  next_token rest = ⊎_elim
      (λ ends. (Ok tokens, record { rest = drop at text; cut = cut; last = end_here text at gap within ends apart }))
      (λ goes_on. behind_gap (gap_stops text at gap within (gap_within _ gap apart) goes_on) rest)
      (cases_eq (at + gap) (length text))

lexed_from : (fuel : ℕ) (text : List ℕ) (at : ℕ) (tokens : List Token) → at ≤ length text → length text ≤ at + fuel → Cuts 0 text tokens (drop at text) → HasAnswer text
lexed_from zero text at tokens within most cut =
    let gap = gap_behind false [] (take (length text - at) (drop at text)) empty in
    next_token text at gap.0 tokens within gap.1 cut (λ token further ends cut. absurd (omega arith))
lexed_from (suc fuel) text at tokens within most cut =
    let gap = gap_behind false [] (take (length text - at) (drop at text)) empty in
    next_token text at gap.0 tokens within gap.1 cut (λ token further ends cut. lexed_from fuel text token.to (tokens ++ token ∷ []) ends (omega arith) cut)

pub lexed : (text : List ℕ) → (answer : Result (List Token) LexFault) × IsLexed text answer
lexed text = lexed_from (length text) text 0 [] (omega arith) (omega arith) refl

-- A word spells one kind of token at most.

-- the kind of a word that a lower-case letter begins
abbrev reserved_kind : List ℕ → TokenKind
reserved_kind word =
    cond (bytes_eq word (codes "type")) KwType
    (cond (bytes_eq word (codes "pred")) KwPred
    (cond (bytes_eq word (codes "bwd")) KwBwd
    (cond (bytes_eq word (codes "fact")) KwFact
    (cond (bytes_eq word (codes "stage")) KwStage
    (cond (bytes_eq word (codes "context")) KwContext
    (cond (bytes_eq word (codes "qui")) KwQui Name))))))

-- the kind of a word of a class
abbrev kind_in : Class → List ℕ → TokenKind
kind_in Letter word = cond (is_ascii_uppercase (get_or word 0 0)) Variable (reserved_kind word)
kind_in Digit word = Number
kind_in Hash word = Directive
kind_in (Pair kind second) word = kind
kind_in (Mark kind) word = kind
kind_in Other word = Name

-- the kind of a word
abbrev kind_of : List ℕ → TokenKind
kind_of word = kind_in (class (get_or word 0 0)) word

-- a lower-case letter is no upper-case one
lower_not_upper : (byte : ℕ) → is_ascii_lowercase byte ≡ true → is_ascii_uppercase byte ≡ false
lower_not_upper byte lower = let above : 97 ≤ byte = leb-true 97 byte (and_parts (nat_le 97 byte) (nat_le byte 122) lower).0 in and_right _ _ (lt-leb byte 90 (omega arith))

-- a word spells the one kind
spelled_kind : (kind : TokenKind) (word : List ℕ) → SpellsToken kind word → kind_of word ≡ kind
spelled_kind kind word h = grind (arith, letter_class, or_right, lower_not_upper, bytes_differ, or_left, digit_class, hash_class, kind_of)

pub same_kind : (one other : TokenKind) (word : List ℕ) → SpellsToken one word → SpellsToken other word → one ≡ other
same_kind one other word is is' = sym (spelled_kind one word is) ∙ spelled_kind other word is'
