-- When the turn of a step comes in another order, every token that it uses is there: it was made, and it was not removed.
use Rattle.std.proofs.Common.{◌≡◌, ◌⊎◌, inl, inr, ⊎_elim, ℕ, ◌+◌, ◌<◌, ◌≤◌, false, List, [], ◌∷◌, ◌++◌, length, append-nil, Some, refl, sym, ap, ◌∙◌, subst, arith, Contains}
use Rattle.std.specs.Prelude.{slice_get, unwrap_or}
use Rattle.std.specs.List.{flat_map, sum_by}
use Rattle.std.proofs.lemmas.List.Sums.{sum_by-append}
use Rattle.std.proofs.lemmas.Grind.{flat_map-append}
use Rattle.cep_base.proofs.Elements.{contains_none, contains_first, contains_cases, contains_left, contains_right, contains_either, contains_flat, flat_cases, all_at}
use Rattle.cep_cause.specs.Tokens.{Token}
use Rattle.cep_cause.specs.Touches.{Touch}
use Rattle.cep_cause.specs.Reorderings.{Precedes, Respects, IsReordering}
use Rattle.cep_cause.proofs.Tokened.{IsMadeBefore}
use Rattle.cep_cause.proofs.Distinct.{Differ, differ_both, weighs_less}

pub three : (a b : ℕ) → (a < b) ⊎ ((a ≡ b) ⊎ (b < a))
three a b = grind arith

-- a step that touches nothing
abbrev pub still : Touch
still = record { uses = []; removes = []; makes = []; barrier = false }

module _ (touches : List Touch) where
  -- the touch at a place
  abbrev pub touch_at : ℕ → Touch
  touch_at place = unwrap_or (slice_get touches place) still

  pub touch_is : (place : ℕ) (touch : Touch) → slice_get touches place ≡ Some touch → touch_at place ≡ touch
  touch_is place touch at = ap (λ o. unwrap_or o still) at

  abbrev pub removed_at : ℕ → List Token
  removed_at place = (touch_at place).removes

  abbrev pub made_at : ℕ → List Token
  made_at place = (touch_at place).makes

  is_there : (place : ℕ) (token : Token) → Contains (removed_at place) token → slice_get touches place ≡ Some (touch_at place)
  is_there place token there = grind (arith, contains_none)

  -- A step is next after those that are done: it is not done, all that precede it are, and none that it precedes is.
  pub record IsNext (done : List ℕ) (place : ℕ) : Type 0 where
    pub new : Contains done place → ⊥
    pub within : (other : ℕ) → Contains done other → other < length touches
    pub before : (earlier : ℕ) → Precedes touches earlier place → Contains done earlier
    pub after : (later : ℕ) → Contains done later → Precedes touches place later → ⊥

  before_apart : (done rest : List ℕ) (place other : ℕ) → Respects touches (done ++ (place ∷ rest)) → Contains done other → ¬ (other ≡ place) × ¬ Precedes touches place other
  before_apart [] rest place other respects there = absurd (contains_none other there)
  before_apart (first ∷ done) rest place other respects there =
      ⊎_elim
      (λ same. subst (λ n. ¬ (n ≡ place) × ¬ Precedes touches place n) same (all_at (λ later. ¬ (first ≡ later) × ¬ Precedes touches later first) (done ++ (place ∷ rest)) place respects.0 (contains_right done (place ∷ rest) place (contains_first place rest))))
      (λ later. before_apart done rest place other respects.1 later)
      (contains_cases first done other there)

  after_apart : (done rest : List ℕ) (place other : ℕ) → Respects touches (done ++ (place ∷ rest)) → Contains rest other → ¬ Precedes touches other place
  after_apart [] rest place other respects there = (all_at (λ later. ¬ (place ≡ later) × ¬ Precedes touches later place) rest other respects.0 there).1
  after_apart (first ∷ done) rest place other respects there = after_apart done rest place other respects.1 there

  -- In a reordering each step is next after its prefix.
  pub is_next : (order done rest : List ℕ) (place : ℕ) → IsReordering touches order → order ≡ done ++ (place ∷ rest) → IsNext done place
  is_next order done rest place is parts =
      let respects : Respects touches (done ++ (place ∷ rest)) = subst (Respects touches) parts is.respects in
      record {
        new = λ there. (before_apart done rest place place respects there).0 refl;
        within = λ other there. (is.steps other).0 (subst (λ (places : List ℕ). Contains places other) (sym parts) (contains_left done (place ∷ rest) other there));
        before = λ earlier precedes.
            let within = (is.steps place).0 (subst (λ (places : List ℕ). Contains places place) (sym parts) (contains_right done (place ∷ rest) place (contains_first place rest))) in
            let less = precedes.is_earlier in
            let there = subst (λ (places : List ℕ). Contains places earlier) parts ((is.steps earlier).1 (omega arith)) in
            ⊎_elim (λ prefix. prefix)
            (λ suffix. absurd (⊎_elim (λ same. omega arith) (λ behind. after_apart done rest place earlier respects behind precedes) (contains_cases place rest earlier suffix)))
            (contains_either done (place ∷ rest) earlier there);
        after = λ later there precedes. (before_apart done rest place later respects there).1 precedes;
      }

  module _ (start : List Token) where
    -- Tokens pass from step to step: each that is used was there at first or was made before, none that is removed is used later, and what is removed is used, and once.
    pub record ArePassed : Type 0 where
      pub comes : (place : ℕ) (touch : Touch) (token : Token) → slice_get touches place ≡ Some touch → Contains touch.uses token → Contains start token ⊎ IsMadeBefore touches place token
      pub gone : (one other : ℕ) (touch touch' : Touch) (token : Token) → one < other → slice_get touches one ≡ Some touch → slice_get touches other ≡ Some touch' → Contains touch.removes token → Contains touch'.uses token → ⊥
      pub used : (place : ℕ) (touch : Touch) (token : Token) → slice_get touches place ≡ Some touch → Contains touch.removes token → Contains touch.uses token
      pub once : (place : ℕ) (touch : Touch) → slice_get touches place ≡ Some touch → Differ touch.removes

    -- the tokens that steps removed, and all that there were
    abbrev pub removed_by : List ℕ → List Token
    removed_by done = flat_map removed_at done

    abbrev pub there_by : List ℕ → List Token
    there_by done = start ++ flat_map made_at done

    -- What was removed differs, and was there.
    pub record AreSpent (done : List ℕ) : Type 0 where
      pub differ : Differ (removed_by done)
      pub within : (token : Token) → Contains (removed_by done) token → Contains (there_by done) token

    module _ (are : ArePassed) (done : List ℕ) (place : ℕ) (next : IsNext done place) (touch : Touch) (at : slice_get touches place ≡ Some touch) where
      -- Each token that the step uses was there.
      pub was_there : (token : Token) → Contains touch.uses token → Contains (there_by done) token
      was_there token uses =
          ⊎_elim
          (λ first. contains_left start (flat_map made_at done) token first)
          (λ made.
          let precedes : Precedes touches made.maker place = record { is_earlier = made.before; earlier = made.touch; at_earlier = made.at; later = touch; at_later = at; why = inl (token, inl (made.makes, uses)) } in
          contains_right start (flat_map made_at done) token
          (contains_flat made_at done made.maker token (next.before made.maker precedes) (subst (λ (t : Touch). Contains t.makes token) (sym (touch_is made.maker made.touch made.at)) made.makes)))
          (are.comes place touch token at uses)

      -- None of them was removed.
      pub not_removed : (token : Token) → Contains touch.uses token → Contains (removed_by done) token → ⊥
      not_removed token uses removed =
          let by = flat_cases removed_at done token removed in
          let other = by.from in
          let at' = is_there other token by.inside in
          ⊎_elim
          (λ less. are.gone other place (touch_at other) touch token less at' at by.inside uses)
          (λ rest. ⊎_elim
          (λ same. next.new (subst (λ n. Contains done n) same by.there))
          (λ more. next.after other by.there (record { is_earlier = more; earlier = touch; at_earlier = at; later = touch_at other; at_later = at'; why = inl (token, inr (uses, by.inside)) }))
          rest)
          (three other place)

      -- So the tokens of a part of what it uses, each once, weigh no more than what is left.
      pub enough : (f : Token → ℕ) (part : List Token) → AreSpent done → Differ part → ((token : Token) → Contains part token → Contains touch.uses token)
          → sum_by f part + sum_by f (removed_by done) ≤ sum_by f (there_by done)
      enough f part spent differ of =
          let less = weighs_less f (part ++ removed_by done) (there_by done)
          (differ_both part (removed_by done) differ spent.differ (λ token here there. not_removed token (of token here) there))
          (λ token there. ⊎_elim (λ here. was_there token (of token here)) (λ here. spent.within token here) (contains_either part (removed_by done) token there)) in
          let sum = sum_by-append f part (removed_by done) in
          omega arith

      removed_more : removed_by (done ++ (place ∷ [])) ≡ removed_by done ++ touch.removes
      removed_more = flat_map-append removed_at done (place ∷ []) ∙ ap (λ rest. removed_by done ++ rest) (append-nil (removed_at place) ∙ ap (λ (t : Touch). t.removes) (touch_is place touch at))

      there_more : (token : Token) → Contains (there_by done) token → Contains (there_by (done ++ (place ∷ []))) token
      there_more token there =
          ⊎_elim
          (λ first. contains_left start (flat_map made_at (done ++ (place ∷ []))) token first)
          (λ made. contains_right start (flat_map made_at (done ++ (place ∷ []))) token
          (subst (λ (tokens : List Token). Contains tokens token) (sym (flat_map-append made_at done (place ∷ []))) (contains_left (flat_map made_at done) (flat_map made_at (place ∷ [])) token made)))
          (contains_either start (flat_map made_at done) token there)

      -- One step more is done.
      pub spent_more : AreSpent done → AreSpent (done ++ (place ∷ []))
      spent_more spent = record {
        differ = subst Differ (sym removed_more)
            (differ_both (removed_by done) touch.removes spent.differ (are.once place touch at) (λ token there here. not_removed token (are.used place touch token at here) there));
        within = λ token there.
            there_more token (⊎_elim (λ before. spent.within token before) (λ here. was_there token (are.used place touch token at here)) (contains_either (removed_by done) touch.removes token (subst (λ (tokens : List Token). Contains tokens token) removed_more there)));
      }

    -- At first nothing is done.
    pub none_spent : AreSpent []
    none_spent = record { differ = tt; within = λ token there. absurd (contains_none token there) }
