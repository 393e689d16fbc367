-- Numbers of turns that are read.
use Rattle.std.proofs.Common.{◌≡◌, ℕ, ◌^◌, ◌<◌, ◌≤◌, Bool, true, List, [], ◌∷◌, length, Option, Some, None, ◌&&◌, if◌then◌else◌, nat_le, IsUtf8, IsAscii, sym, ap, subst, ◌∙◌, arith}
use Rattle.std.proofs.lemmas.Bool.{leb-true, le-leb, eqb-true, and_parts, and_from}
use Rattle.std.proofs.lemmas.Fmt.{IsAscii-from_digits}
use Rattle.std.proofs.lemmas.Str.{IsUtf8-from_ascii}
use Rattle.std.proofs.lemmas.Str.Parse.{IsNumeralModel, numerals_by_value, tells_all_ascii_digits}
use Rattle.std.specs.Str.{all_ascii_digits}
use Rattle.std.specs.Str.Parse.{IsNumeral, digits_value, without_leading_plus}
use Rattle.cep_base.specs.declared.limits.TheConstants.{MOST_TURNS}

numerals : IsNumeralModel (λ digits. all_ascii_digits digits ≡ true) (digits_value 10)
numerals = numerals_by_value _ tells_all_ascii_digits

-- whether digits say a number of turns, and which the bytes of a text say
abbrev are_turns : List ℕ → Bool
are_turns digits = let turns = digits_value 10 digits in all_ascii_digits digits && (nat_le 1 turns && nat_le turns MOST_TURNS)

abbrev pub turns_in : List ℕ → Option ℕ
turns_in bytes = let digits = without_leading_plus bytes in if are_turns digits then Some (digits_value 10 digits) else None

none_by : (b : Bool) (turns : ℕ) → (b ≡ true → ⊥) → (let said : Option ℕ = if b then Some turns else None in said) ≡ None
none_by b turns never = grind arith

some_by : (b : Bool) (turns : ℕ) → b ≡ true → (let said : Option ℕ = if b then Some turns else None in said) ≡ Some turns
some_by b turns e = grind arith

ascii : (bytes : List ℕ) → IsAscii (without_leading_plus bytes) → IsAscii bytes
ascii bytes is = grind (arith, eqb-true)

-- bytes that are no text say no number
pub no_text : (bytes : List ℕ) → ¬ (IsUtf8 bytes) → turns_in bytes ≡ None
no_text bytes none = let digits = without_leading_plus bytes in rw (none_by (are_turns digits) (digits_value 10 digits) (λ e. none (IsUtf8-from_ascii bytes (ascii bytes (IsAscii-from_digits digits (numerals.to digits (and_parts _ _ e).0))))))

some_digit : (digits : List ℕ) → 1 ≤ digits_value 10 digits → 0 < length digits
some_digit [] none = none
some_digit (d ∷ digits) some = omega arith

are_numeral : (digits : List ℕ) → are_turns digits ≡ true → IsNumeral 10 digits × (digits_value 10 digits < 2 ^ 32)
are_numeral digits e =
    let both = and_parts _ _ e in let limits = and_parts _ _ both.1 in
    let few = leb-true (digits_value 10 digits) MOST_TURNS limits.1 in
    ((some_digit digits (leb-true 1 (digits_value 10 digits) limits.0), numerals.to digits both.0), omega (arith, few))

-- nor does a text that is no numeral, or one that is too great
pub no_numeral : (bytes : List ℕ) → (let digits = without_leading_plus bytes in ¬ (IsNumeral 10 digits × (digits_value 10 digits < 2 ^ 32))) → turns_in bytes ≡ None
no_numeral bytes none = let digits = without_leading_plus bytes in none_by (are_turns digits) (digits_value 10 digits) (λ e. none (are_numeral digits e))

-- the number of a numeral says turns, if there are some and not too many
pub some_turns : (bytes : List ℕ) (turns : ℕ) → IsNumeral 10 (without_leading_plus bytes) → turns ≡ digits_value 10 (without_leading_plus bytes) → 1 ≤ turns → turns ≤ MOST_TURNS → turns_in bytes ≡ Some turns
some_turns bytes turns numeral is some few =
    let digits = without_leading_plus bytes in
    some_by (are_turns digits) (digits_value 10 digits)
    (and_from _ _ (numerals.from digits numeral.1) (and_from _ _ (le-leb 1 (digits_value 10 digits) (subst (λ n. 1 ≤ n) is some)) (le-leb (digits_value 10 digits) MOST_TURNS (subst (λ n. n ≤ MOST_TURNS) is few))))
    ∙ ap Some (sym is)
