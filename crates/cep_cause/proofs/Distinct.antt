-- Lists in which nothing stands twice.
use Rattle.std.proofs.Common.{◌≡◌, ◌⊎◌, inl, inr, ⊎_elim, ℕ, ◌≤◌, Bool, true, false, cond, List, [], ◌∷◌, ◌++◌, refl, sym, ap, ◌∙◌, subst, arith, Contains}
use Rattle.std.specs.List.{filter, sum_by}
use Rattle.std.proofs.lemmas.Bool.{false≢true}
use Rattle.std.proofs.lemmas.List.Sums.{sum_by-append, sum_by-cons}
use Rattle.cep_base.proofs.Elements.{contains_none, contains_first, contains_behind, contains_cases, contains_same, contains_left, contains_right, contains_either}

module _ {X : Type 0} where
  -- Nothing stands twice.
  abbrev pub Differ : List X → Type 0
  Differ [] = Unit {0}
  Differ (x ∷ xs) = (Contains xs x → ⊥) × Differ xs

  -- The list has the element between two parts.
  record IsSplit (ys : List X) (x : X) : Type 0 where
    prefix : List X
    suffix : List X
    is : ys ≡ prefix ++ (x ∷ suffix)

  split : (ys : List X) (x : X) → Contains ys x → IsSplit ys x
  split [] x there = absurd (contains_none x there)
  split (y ∷ ys) x there =
      ⊎_elim
      (λ same. record { prefix = []; suffix = ys; is = ap (λ z. z ∷ ys) same })
      (λ later. let s = split ys x later in record { prefix = y ∷ s.prefix; suffix = s.suffix; is = ap (λ zs. y ∷ zs) s.is })
      (contains_cases y ys x there)

  -- another element stands in one of the parts
  others : (prefix suffix : List X) (x z : X) → Contains (prefix ++ (x ∷ suffix)) z → (x ≡ z → ⊥) → Contains (prefix ++ suffix) z
  others prefix suffix x z there apart =
      ⊎_elim
      (λ here. contains_left prefix suffix z here)
      (λ later. ⊎_elim (λ same. absurd (apart same)) (λ behind. contains_right prefix suffix z behind) (contains_cases x suffix z later))
      (contains_either prefix (x ∷ suffix) z there)

  -- what stands once in one list, and weighs nothing or stands in another, weighs there no less
  pub weighs_less_if : (f : X → ℕ) (xs ys : List X) → Differ xs → ((x : X) → Contains xs x → (f x ≡ 0) ⊎ Contains ys x) → sum_by f xs ≤ sum_by f ys
  weighs_less_if f [] ys differ within = omega arith
  weighs_less_if f (x ∷ xs) ys differ within =
      ⊎_elim
      (λ none. let rest = weighs_less_if f xs ys differ.1 (λ z there. within z (contains_behind x xs z there)) in let first' = sum_by-cons f x xs in omega arith)
      (λ here.
      let s = split ys x here in
      let rest = weighs_less_if f xs (s.prefix ++ s.suffix) differ.1
      (λ z there. ⊎_elim (λ none. inl none) (λ there'. inr (others s.prefix s.suffix x z (subst (λ (zs : List X). Contains zs z) s.is there') (λ same. differ.0 (subst (λ w. Contains xs w) (sym same) there)))) (within z (contains_behind x xs z there))) in
      let whole = ap (sum_by f) s.is in
      let parts = sum_by-append f s.prefix (x ∷ s.suffix) in
      let parts' = sum_by-append f s.prefix s.suffix in
      let first = sum_by-cons f x s.suffix in
      let first' = sum_by-cons f x xs in
      omega arith)
      (within x (contains_first x xs))

  -- what stands once in one list, and stands in another, weighs there no less
  pub weighs_less : (f : X → ℕ) (xs ys : List X) → Differ xs → ((x : X) → Contains xs x → Contains ys x) → sum_by f xs ≤ sum_by f ys
  weighs_less f xs ys differ within = weighs_less_if f xs ys differ (λ x there. inr (within x there))

  -- two lists of the same elements, each once, weigh the same
  pub weigh_the_same : (f : X → ℕ) (xs ys : List X) → Differ xs → Differ ys → ((x : X) → Contains xs x → Contains ys x) → ((x : X) → Contains ys x → Contains xs x) → sum_by f xs ≡ sum_by f ys
  weigh_the_same f xs ys differ differ' within within' =
      let less = weighs_less f xs ys differ within in
      let more = weighs_less f ys xs differ' within' in
      omega arith

  -- two lists that have nothing in common
  pub differ_both : (xs ys : List X) → Differ xs → Differ ys → ((x : X) → Contains xs x → Contains ys x → ⊥) → Differ (xs ++ ys)
  differ_both [] ys differ differ' apart = differ'
  differ_both (x ∷ xs) ys differ differ' apart = (
    λ there. ⊎_elim differ.0 (apart x (contains_first x xs)) (contains_either xs ys x there),
    differ_both xs ys differ.1 differ' (λ z there there'. apart z (contains_behind x xs z there) there'),
  )

  -- a part of a list by a test
  pub filter_cases : (p : X → Bool) (xs : List X) (x : X) → Contains (filter p xs) x → Contains xs x × (p x ≡ true)
  filter_cases p [] x there = absurd (contains_none x there)
  filter_cases p (y ∷ xs) x there = grind (arith, filter_cases p xs x, contains_cases y (filter p xs) x, contains_behind y xs x, contains_same y xs x)

  -- an element that passes the test is in the part
  pub filter_there : (p : X → Bool) (xs : List X) (x : X) → Contains xs x → p x ≡ true → Contains (filter p xs) x
  filter_there p [] x there is = absurd (contains_none x there)
  filter_there p (y ∷ xs) x there is = by (p y) refl (λ later. filter_there p xs x later is) there
    where
      by : (t : Bool) → p y ≡ t → (Contains xs x → Contains (filter p xs) x) → Contains (y ∷ xs) x → Contains (cond t (y ∷ filter p xs) (filter p xs)) x
      by true e rest there = ⊎_elim (λ same. contains_same y (filter p xs) x same) (λ later. contains_behind y (filter p xs) x (rest later)) (contains_cases y xs x there)
      by false e rest there = ⊎_elim (λ (same : y ≡ x). absurd (false≢true (sym e ∙ ap p same ∙ is))) (λ later. rest later) (contains_cases y xs x there)

  pub filter_differ : (p : X → Bool) (xs : List X) → Differ xs → Differ (filter p xs)
  filter_differ p [] differ = tt
  filter_differ p (y ∷ xs) differ = by (p y) (filter_differ p xs differ.1)
    where
      by : (t : Bool) → Differ (filter p xs) → Differ (cond t (y ∷ filter p xs) (filter p xs))
      by true rest = (λ there. differ.0 (filter_cases p xs y there).0, rest)
      by false rest = rest
