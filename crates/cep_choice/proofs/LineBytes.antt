-- When the bytes of a line may still choose a place.
use Rattle.std.proofs.Common.{◌≡◌, ◌≢◌, ℕ, ◌+◌, ◌-◌, ◌*◌, ◌<◌, ◌≤◌, ◌^◌, ◌⊎◌, inl, inr, List, [], ◌∷◌, ◌++◌, length, append_assoc, length-append, sym, ap, ◌∙◌, subst, arith}
use Rattle.std.proofs.lemmas.Bool.{cases_lt}
use Rattle.std.proofs.lemmas.List.{append-nil}
use Rattle.std.proofs.lemmas.Str.Parse.{digit_from_value}
use Rattle.std.proofs.lemmas.Fmt.{decimal_is_IsNumeral, decimal_nonempty, decimal_digit, decimal_step, first_decimal}
use Rattle.std.specs.Fmt.{decimal}
use Rattle.std.specs.Int.{IsInRange}
use Rattle.std.specs.Char.{digit_value}
use Rattle.std.specs.Str.Parse.{AllDigits, digits_value, digits_value_after}
use Rattle.cep_choice.specs.declared.typed.Typed.{Typed}
use Rattle.cep_choice.specs.declared.typed.Typed.TheVariants.{Empty, Number, Closed, Bad}
use Rattle.cep_choice.specs.TypedLine.{Chooses, ChoosesNone}
use Rattle.cep_choice.specs.Typed.{Reads, IsWithin}

-- Numbers: one whose digits begin another's is no greater

pub not_empty : (number : ℕ) (more : List ℕ) → number < 2 ^ 64 → decimal number ++ more ≡ [] → ⊥
not_empty number more small e = omega (arith, decimal_nonempty number small, ap length e, length-append (decimal number) more)

value_front : (n : ℕ) (xs ys : List ℕ) → digits_value_after 10 n xs ≤ digits_value_after 10 n (xs ++ ys)
value_front n [] [] = omega arith
value_front n [] (y ∷ ys) = omega (arith, value_front (n * 10 + digit_value y) [] ys)
value_front n (x ∷ xs) ys = value_front (n * 10 + digit_value x) xs ys

no_less : (least number : ℕ) (more : List ℕ) → least < 2 ^ 64 → number < 2 ^ 64 → decimal least ++ more ≡ decimal number → least ≤ number
no_less least number more small within e =
    omega (arith, value_front 0 (decimal least) more, ap (digits_value 10) e, (decimal_is_IsNumeral least small).1, (decimal_is_IsNumeral number within).1)

-- Lines that choose: each byte is a digit, or the CR at the end

digit_within : (digits : List ℕ) (byte : ℕ) (more : List ℕ) → AllDigits 10 (digits ++ byte ∷ more) → IsInRange 48 57 byte
digit_within [] byte more all = digit_from_value byte all.0
digit_within (digit ∷ digits) byte more all = digit_within digits byte more all.1

-- the byte is a digit of the number, after these digits
abbrev HasDigit : ℕ → List ℕ → ℕ → Type 0
HasDigit number digits byte = IsInRange 48 57 byte × (after : List ℕ) × (digits ++ byte ∷ after ≡ decimal number)

digit_of : (number : ℕ) (digits : List ℕ) (byte : ℕ) (more : List ℕ) → number < 2 ^ 64 → digits ++ byte ∷ more ≡ decimal number → HasDigit number digits byte
digit_of number digits byte more small e =
    (digit_within digits byte more (subst (AllDigits 10) (sym e) (decimal_is_IsNumeral number small).0.1), more, e)

-- a byte of a number and a CR is the CR, or one of the number
byte_before : (bytes : List ℕ) (byte : ℕ) (more number : List ℕ) → bytes ++ byte ∷ more ≡ number ++ 13 ∷ []
    → ((after : List ℕ) × (bytes ++ byte ∷ after ≡ number)) ⊎ ((byte ≡ 13) × (bytes ≡ number) × (more ≡ []))
byte_before [] byte more [] e = grind arith
byte_before [] byte more (digit ∷ digits) e = inl (digits, grind arith)
byte_before (first ∷ bytes) byte more [] e = absurd (omega (arith, ap length e, length-append bytes (byte ∷ more)))
byte_before (first ∷ bytes) byte more (digit ∷ digits) e = grind (arith, byte_before bytes byte more digits)

byte_of_choice : (n place : ℕ) (bytes : List ℕ) (byte : ℕ) (more : List ℕ) → n < 2 ^ 32 → Chooses n (bytes ++ byte ∷ more) place
    → HasDigit place bytes byte ⊎ ((byte ≡ 13) × (bytes ≡ decimal place) × (more ≡ []))
byte_of_choice n place bytes byte more small (some, within, inl plain) = inl (digit_of place bytes byte more (omega arith) plain)
byte_of_choice n place bytes byte more small (some, within, inr closed) =
    elim (byte_before bytes byte more (decimal place) closed) [
      | inl part ↦ inl (digit_of place bytes byte part.0 (omega arith) part.1)
      | inr all ↦ inr all
    ]

-- Whole lines

-- a line without bytes, and one that is bad, choose nothing
pub says_none : (n : ℕ) (now : Typed) (line : List ℕ) → n < 2 ^ 32 → (now ≡ Empty) ⊎ (now ≡ Bad) → Reads n now line → ChoosesNone n line
says_none n now line small (inl empty) reads place (some, within, inl plain) = not_empty place [] (omega arith) (append-nil (decimal place) ∙ sym plain ∙ rw empty at reads)
says_none n now line small (inl empty) reads place (some, within, inr closed) = not_empty place (13 ∷ []) (omega arith) (sym closed ∙ rw empty at reads)
says_none n now line small (inr bad) reads place chosen = (rw bad at reads) [] place (rw append-nil chosen)

-- One byte more: it makes a line bad where it is neither a digit that may stand there nor the CR

bad_byte : (n : ℕ) (bytes : List ℕ) (byte : ℕ) → n < 2 ^ 32
    → ((place : ℕ) → 0 < place → place ≤ n → HasDigit place bytes byte → ⊥)
    → ((place : ℕ) → place ≤ n → byte ≡ 13 → bytes ≡ decimal place → ⊥)
    → Reads n Bad (bytes ++ byte ∷ [])
bad_byte n bytes byte small no_digit no_end more place chosen =
    let moved = subst (λ line. Chooses n line place) (append_assoc bytes (byte ∷ []) more) chosen in
    elim (byte_of_choice n place bytes byte more small moved) [
      | inl digit ↦ no_digit place chosen.0 chosen.1 digit
      | inr end ↦ no_end place chosen.1 end.0 end.1
    ]

-- the first byte is none of 1 to 9
pub bad_first : (n : ℕ) (now : Typed) (byte : ℕ) → n < 2 ^ 32 → now ≡ Empty → (49 ≤ byte → byte ≤ 57 → ⊥)
    → (bytes : List ℕ) → Reads n now bytes → Reads n Bad (bytes ++ byte ∷ [])
bad_first n now byte small empty other bytes reads =
    let no_digit : (place : ℕ) → 0 < place → place ≤ n → HasDigit place [] byte → ⊥ = λ place some within digit. other (rw (← digit.2) at (first_decimal place some (omega arith))) digit.0.1 in
    rw (rw empty at reads) (bad_byte n [] byte small no_digit (λ place within end none. not_empty place [] (omega arith) (append-nil (decimal place) ∙ sym none)))

-- a byte after a number is neither a digit nor the CR
pub bad_later : (n : ℕ) (now : Typed) (byte : ℕ) → n < 2 ^ 32 → (48 ≤ byte → byte ≤ 57 → ⊥) → byte ≢ 13
    → (bytes : List ℕ) → Reads n now bytes → Reads n Bad (bytes ++ byte ∷ [])
bad_later n now byte small other no_end bytes reads =
    bad_byte n bytes byte small (λ place some within digit. other digit.0.0 digit.0.1) (λ place within end same. no_end end)

-- the CR before a byte is neither a digit nor at the end
bad_closed : (n value byte : ℕ) → n < 2 ^ 32 → (more : List ℕ) → ChoosesNone n (decimal value ++ 13 ∷ (byte ∷ more))
bad_closed n value byte small more place chosen =
    elim (byte_of_choice n place (decimal value) 13 (byte ∷ more) small chosen) [
      | inl digit ↦ (let low = digit.0.0 in omega arith)
      | inr end ↦ (let none = ap length end.2 in omega (arith, none))
    ]

-- no byte may stand after the CR, nor does one mend a bad line
pub bad_end : (n : ℕ) (now : Typed) (byte : ℕ) → n < 2 ^ 32 → ((value : ℕ) × (now ≡ Closed value)) ⊎ (now ≡ Bad)
    → (bytes : List ℕ) → Reads n now bytes → Reads n Bad (bytes ++ byte ∷ [])
bad_end n now byte small (inl closed) bytes reads more =
    let same : bytes ≡ decimal closed.0 ++ 13 ∷ [] = rw closed.1 at reads in
    rw same (simp append_assoc (bad_closed n closed.0 byte small more))
bad_end n now byte small (inr bad) bytes reads more = rw append_assoc ((rw bad at reads) (byte ∷ more))

-- One digit more: a number is kept where it is no greater than n

too_large : (n value byte : ℕ) (bytes : List ℕ) → n < 2 ^ 32 → value < 2 ^ 64 → bytes ++ byte ∷ [] ≡ decimal value → n < value
    → (place : ℕ) → 0 < place → place ≤ n → HasDigit place bytes byte → ⊥
too_large n value byte bytes small fits spelled above place some within digit =
    omega (arith, no_less value place digit.1 fits (omega arith) (rw (← spelled, append_assoc) digit.2))

number_read : (n value byte : ℕ) (next : Typed) (bytes : List ℕ) → n < 2 ^ 32 → value < 2 ^ 64 → 48 ≤ byte → bytes ++ byte ∷ [] ≡ decimal value
    → (value ≤ n → next ≡ Number value) → (n < value → next ≡ Bad) → Reads n next (bytes ++ byte ∷ [])
number_read n value byte next bytes small fits digit spelled kept large =
    elim (cases_lt n value) [
      | inl above ↦ rw (large above) (bad_byte n bytes byte small (too_large n value byte bytes small fits spelled above) (λ place within end same. omega arith))
      | inr within ↦ rw (kept within) spelled
    ]

pub first_digit : (n value byte : ℕ) (now next : Typed) → n < 2 ^ 32 → now ≡ Empty → 49 ≤ byte → byte ≤ 57 → value ≡ byte - 48
    → (value ≤ n → next ≡ Number value) → (n < value → next ≡ Bad)
    → (bytes : List ℕ) → Reads n now bytes → Reads n next (bytes ++ byte ∷ [])
first_digit n value byte now next small empty low high same kept large bytes reads =
    let spelled : bytes ++ byte ∷ [] ≡ decimal value = grind (arith, decimal_digit value, rw empty at reads) in
    number_read n value byte next bytes small (omega arith) (omega arith) spelled kept large

pub next_digit : (n front value byte : ℕ) (now next : Typed) → n < 2 ^ 32 → IsWithin n now → now ≡ Number front → 48 ≤ byte → byte ≤ 57 → value ≡ front * 10 + (byte - 48)
    → (value ≤ n → next ≡ Number value) → (n < value → next ≡ Bad)
    → (bytes : List ℕ) → Reads n now bytes → Reads n next (bytes ++ byte ∷ [])
next_digit n front value byte now next small within number low high same kept large bytes reads =
    let place = rw number at within in
    let spelled : bytes ++ byte ∷ [] ≡ decimal value = grind (arith, decimal_step value, rw number at reads) in
    number_read n value byte next bytes small (omega arith) (omega arith) spelled kept large
