-- Decimals, and what std reads of them.
use Rattle.std.proofs.Common.{◌≡◌, ℕ, ◌^◌, ◌<◌, true, false, List, length, get_or, IsUtf8, sym, ap, subst, ◌∙◌, arith}
use Rattle.std.proofs.lemmas.Bool.{ltb-true, leb-true, le-leb, lt-ltb, eqb-true}
use Rattle.std.proofs.lemmas.Str.{IsUtf8-from_ascii}
use Rattle.std.specs.Fmt.{decimal}
use Rattle.std.specs.Str.{all_ascii_digits}
use Rattle.std.proofs.lemmas.Fmt.{decimal_digit, decimal_is_IsNumeral, decimal_nonempty, first_decimal, IsAscii-decimal, decimal-digits_value}
use Rattle.std.proofs.lemmas.Str.Parse.{IsNumeralModel, numerals_by_value, tells_all_ascii_digits}
use Rattle.cep_words.specs.Numerals.{begins_as_decimal}
use Rattle.std.specs.Str.Parse.{IsNumeral, digits_value, without_leading_plus}

numerals : IsNumeralModel (λ digits. all_ascii_digits digits ≡ true) (digits_value 10)
numerals = numerals_by_value _ tells_all_ascii_digits

-- some bytes of which the first is greater than `0` begin a decimal
greater_first : (bytes : List ℕ) → 0 < length bytes → 48 < get_or bytes 0 0 → begins_as_decimal bytes ≡ true
greater_first bytes some first = grind (arith, le-leb, lt-ltb)

decimal_begins : (n : ℕ) → n < 2 ^ 64 → begins_as_decimal (decimal n) ≡ true
decimal_begins n small = grind (arith, decimal_digit, greater_first, decimal_nonempty, first_decimal)

-- bytes that begin otherwise are no decimal
pub begins_otherwise : (bytes : List ℕ) (n : ℕ) → begins_as_decimal bytes ≡ false → n < 2 ^ 64 → bytes ≡ decimal n → ⊥
begins_otherwise bytes n not small is = grind (arith, decimal_begins n small)

-- a decimal is text
pub no_text : (bytes : List ℕ) (n : ℕ) → ¬ (IsUtf8 bytes) → n < 2 ^ 64 → bytes ≡ decimal n → ⊥
no_text bytes n none small is = none (subst IsUtf8 (sym is) (IsUtf8-from_ascii (decimal n) (IsAscii-decimal n small)))

-- what begins as a decimal has no plus before it
no_plus : (bytes : List ℕ) → begins_as_decimal bytes ≡ true → without_leading_plus bytes ≡ bytes
no_plus bytes begins = grind (arith, leb-true, eqb-true, ltb-true)

-- alone, a digit that is `0` is one digit
lone_zero : (bytes : List ℕ) → begins_as_decimal bytes ≡ true → get_or bytes 0 0 ≡ 48 → length bytes ≡ 1
lone_zero bytes begins first = grind (arith, ltb-true)

-- the number that std reads of a text with these bytes is the one whose decimal this is
pub text_spells : (bytes text : List ℕ) (n : ℕ) → text ≡ bytes → begins_as_decimal bytes ≡ true → IsNumeral 10 (without_leading_plus text) × (digits_value 10 (without_leading_plus text) < 2 ^ 64) → n ≡ digits_value 10 (without_leading_plus text) → bytes ≡ decimal n
text_spells bytes text n same begins numeral is =
    let plain : without_leading_plus text ≡ bytes = ap without_leading_plus same ∙ no_plus bytes begins in
    let is_numeral = subst (IsNumeral 10) plain numeral.0 in
    let low : digits_value 10 bytes < 2 ^ 64 = subst (λ (digits : List ℕ). digits_value 10 digits < 2 ^ 64) plain numeral.1 in
    sym (ap decimal (is ∙ ap (digits_value 10) plain) ∙ decimal-digits_value numerals bytes (numerals.from bytes is_numeral.1) is_numeral.0 (lone_zero bytes begins) low)

-- what std reads no number of is no decimal
pub text_spells_none : (bytes text : List ℕ) (n : ℕ) → text ≡ bytes → begins_as_decimal bytes ≡ true → ¬ (IsNumeral 10 (without_leading_plus text) × (digits_value 10 (without_leading_plus text) < 2 ^ 64)) → n < 2 ^ 64 → bytes ≡ decimal n → ⊥
text_spells_none bytes text n same begins none small is = grind (arith, no_plus, decimal_is_IsNumeral)
