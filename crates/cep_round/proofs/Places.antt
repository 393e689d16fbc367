-- The place of an offer in a list.
use Rattle.std.proofs.Common.{◌≡◌, ℕ, ◌<◌, ◌≤◌, List, Contains, Some, slice_get, length, ap, ◌∙◌, arith}
use Rattle.std.proofs.lemmas.Option.{slice_get-get_or}

module _ {X : Type 0} (xs : List X) (x : X) where
  -- it stands at no place before this one
  abbrev pub NotBefore : ℕ → Type 0
  NotBefore place = (earlier : ℕ) → earlier < place → ¬ (slice_get xs earlier ≡ Some x)

  pub nowhere : (place : ℕ) → length xs ≤ place → NotBefore place → ¬ Contains xs x
  nowhere place all before = λ there. before there.0 (let within = there.1 in omega arith) (slice_get-get_or xs there.0 x there.1 ∙ ap Some there.2)
