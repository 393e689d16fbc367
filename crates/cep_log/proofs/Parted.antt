-- Bytes that are parted at the first of some byte.
use Rattle.std.proofs.Common.{◌≡◌, ◌≢◌, ◌⊎◌, inl, inr, ℕ, List, [], ◌∷◌, ◌++◌, refl, ap, arith}
use Rattle.std.proofs.lemmas.Bool.{cases_eq}
use Rattle.std.specs.List.{AllByRecursion}

-- none of the bytes is this one
abbrev pub HasNone : ℕ → List ℕ → Type 0
HasNone stop bytes = AllByRecursion (λ byte. byte ≢ stop) bytes

-- nothing stands after, or the stop byte does
abbrev pub Stops : ℕ → List ℕ → Type 0
Stops stop rest = (rest ≡ []) ⊎ ((behind : List ℕ) × (rest ≡ stop ∷ behind))

-- two ways to part the same bytes are one
pub one_parting : (stop : ℕ) (one other rest rest' : List ℕ) → HasNone stop one → HasNone stop other → Stops stop rest → Stops stop rest' → one ++ rest ≡ other ++ rest' → (one ≡ other) × (rest ≡ rest')
one_parting stop [] [] rest rest' a b s t e = (refl, e)
one_parting stop (x ∷ xs) (y ∷ ys) rest rest' a b s t e = grind (arith, one_parting stop xs ys rest rest' a.1 b.1 s t cc, (one_parting stop xs ys rest rest' a.1 b.1 s t cc).0)
one_parting stop one other rest rest' a b s t e = grind arith

-- bytes are parted at the first stop byte, or have none
pub parting : (stop : ℕ) (bytes : List ℕ) → ((text : List ℕ) × (rest : List ℕ) × (bytes ≡ text ++ stop ∷ rest) × HasNone stop text) ⊎ HasNone stop bytes
parting stop [] = inr tt
parting stop (byte ∷ bytes) = cases (cases_eq byte stop) (parting stop bytes) where
  cases : (byte ≡ stop) ⊎ (byte ≢ stop) → ((text : List ℕ) × (rest : List ℕ) × (bytes ≡ text ++ stop ∷ rest) × HasNone stop text) ⊎ HasNone stop bytes
      → ((text : List ℕ) × (rest : List ℕ) × (byte ∷ bytes ≡ text ++ stop ∷ rest) × HasNone stop text) ⊎ HasNone stop (byte ∷ bytes)
  cases (inl same) later = inl ([], bytes, ap (λ b. b ∷ bytes) same, tt)
  cases (inr other) (inl found) = inl (byte ∷ found.0, found.1, ap (λ rest. byte ∷ rest) found.2, (other, found.3))
  cases (inr other) (inr none) = inr (other, none)

-- a list is empty, or it has a last item
pub has_last : {A : Type 0} (xs : List A) → (xs ≡ []) ⊎ ((front : List A) × (last : A) × (xs ≡ front ++ last ∷ []))
has_last [] = inl refl
has_last (x ∷ xs) = elim (has_last xs) [
  | inl none ↦ inr ([], x, ap (λ rest. x ∷ rest) none)
  | inr some ↦ inr (x ∷ some.0, some.1, ap (λ rest. x ∷ rest) some.2)
]
