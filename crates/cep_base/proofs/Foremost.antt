-- The foremost of two, and of a list.
use Rattle.std.proofs.Common.{◌≡◌, ℕ, ◌⊎◌, ⊎_elim, true, false, List, [], ◌∷◌, ◌++◌, Option, Some, None, refl, arith}
use Rattle.std.specs.List.{Contains}
use Rattle.std.proofs.lemmas.List.Elements.{Contains-append_right}
use Rattle.cep_base.specs.Foremost.{StandsNoLater, IsForemostOrNone, stands_no_later, foremost_of, foremost_in}

module _ {Z : Type 0} (standing : Z → ℕ × ℕ) where
  pub no_later_true : (one two : Z) → stands_no_later standing one two ≡ true → StandsNoLater standing one two
  no_later_true one two e = grind arith

  pub no_later_false : (one two : Z) → stands_no_later standing one two ≡ false → StandsNoLater standing two one
  no_later_false one two e = grind arith

  -- the foremost of two parts is the foremost of both
  pub foremost_union : (P Q : Z → Type 0) (one two : Option Z) → IsForemostOrNone standing P one → IsForemostOrNone standing Q two → IsForemostOrNone standing (λ item. P item ⊎ Q item) (foremost_of standing one two)
  foremost_union P Q one two p q = grind arith

  -- the foremost of the same items, said otherwise
  pub foremost_same : (P Q : Z → Type 0) (one : Option Z) → ((item : Z) → P item → Q item) → ((item : Z) → Q item → P item) → IsForemostOrNone standing P one → IsForemostOrNone standing Q one
  foremost_same P Q one there back p = grind arith

  -- one item is the foremost of itself
  pub foremost_alone : (item : Z) → IsForemostOrNone standing (λ other. other ≡ item) (Some item)
  foremost_alone item = grind arith

  -- the foremost of a list
  pub foremost_among : (items : List Z) → IsForemostOrNone standing (Contains items) (foremost_in standing items)
  foremost_among [] = grind arith
  foremost_among (item ∷ items) =
      foremost_same (λ other. (other ≡ item) ⊎ Contains items other) (Contains (item ∷ items)) (foremost_in standing (item ∷ items))
      (λ other. ⊎_elim (λ is. grind arith) (Contains-append_right (item ∷ []) items other))
      (λ other at. grind arith)
      (foremost_union (λ other. other ≡ item) (Contains items) (Some item) (foremost_in standing items) (foremost_alone item) (foremost_among items))

  -- of three it does not matter which two is foremost
  pub foremost_of_three : (one two three : Option Z) → foremost_of standing one (foremost_of standing two three) ≡ foremost_of standing (foremost_of standing one two) three
  foremost_of_three None two three = refl
  foremost_of_three (Some a) None three = refl
  foremost_of_three (Some a) (Some b) None = refl
  foremost_of_three (Some a) (Some b) (Some c) = grind (arith, no_later_true a b, no_later_false a b, no_later_true b c, no_later_false b c)

  -- the foremost of two lists
  pub foremost_append : (one two : List Z) → foremost_in standing (one ++ two) ≡ foremost_of standing (foremost_in standing one) (foremost_in standing two)
  foremost_append [] two = refl
  foremost_append (item ∷ one) two = rw (foremost_append one two, foremost_of_three)
