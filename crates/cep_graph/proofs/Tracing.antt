-- What one step more does to traces, and what makers and users tell of steps.
use Rattle.std.proofs.Common.{◌≡◌, ◌↔◌, ◌⊎◌, inl, inr, ⊎_elim, ℕ, suc, ◌+◌, false, List, [], ◌∷◌, ◌++◌, length, Some, sym, ap, ◌∙◌, subst, arith, Contains}
use Rattle.std.specs.Prelude.{slice_get}
use Rattle.std.specs.List.{AllZip}
use Rattle.cep_base.proofs.Lists.{none_some, some_same, get_kept, get_last}
use Rattle.cep_base.proofs.Elements.{contains_none, contains_first, contains_behind, contains_cases, contains_same, contains_left, contains_right, contains_either}
use Rattle.cep_rule.specs.declared.signature.Signature.{Signature}
use Rattle.cep_rule.specs.Typing.{is_fact}
use Rattle.cep_cause.specs.Tokens.{Token}
use Rattle.cep_cause.specs.Touches.{Touch}
use Rattle.cep_cause.specs.Graphs.{RestsOnAt}
use Rattle.cep_graph.specs.declared.trace.Trace.{Trace}
use Rattle.cep_graph.specs.Traces.{MakesAt, UsesAt, IsTrace, using}

-- what holds of pairs
pub zip_more : {A B : Type 0} (R R' : A → B → Type 0) (xs : List A) (ys : List B) → ((x : A) (y : B) → Contains xs x → R x y → R' x y) → AllZip R xs ys → AllZip R' xs ys
zip_more R R' (x ∷ xs) (y ∷ ys) each all = (each x y (contains_first x xs) all.0, zip_more R R' xs ys (λ z w there. each z w (contains_behind x xs z there)) all.1)
zip_more R R' xs ys each all = grind arith

-- the step at a place of one step more
step_at : (done : List Touch) (touch x : Touch) (place : ℕ) → slice_get (done ++ touch ∷ []) place ≡ Some x → (slice_get done place ≡ Some x) ⊎ ((place ≡ length done) × (touch ≡ x))
step_at (first ∷ done) touch x (suc place) at =
    ⊎_elim (λ earlier. inl earlier) (λ last. inr (ap suc last.0, last.1)) (step_at done touch x place at)
step_at done touch x place at = grind (arith, some_same, none_some)

module _ (part : Touch → List Token) (done : List Touch) (touch : Touch) (token : Token) where
  -- the step at a place has the token in its part
  abbrev pub HasAt : List Touch → ℕ → Type 0
  HasAt steps place = (step : Touch) × (slice_get steps place ≡ Some step) × Contains (part step) token

  pub has_more : (place : ℕ) → HasAt (done ++ touch ∷ []) place → HasAt done place ⊎ ((place ≡ length done) × Contains (part touch) token)
  has_more place has =
      ⊎_elim (λ earlier. inl (has.0, earlier, has.2)) (λ last. inr (last.0, subst (λ (t : Touch). Contains (part t) token) (sym last.1) has.2)) (step_at done touch has.0 place has.1)

  pub had_before : (place : ℕ) → HasAt done place → HasAt (done ++ touch ∷ []) place
  had_before place has = (has.0, get_kept done (touch ∷ []) place has.0 has.1, has.2)

  pub has_last : (place : ℕ) → place ≡ length done → Contains (part touch) token → HasAt (done ++ touch ∷ []) place
  has_last place last there = (touch, ap (slice_get (done ++ touch ∷ [])) last ∙ get_last done touch, there)

  -- a step without the token changes nothing
  pub has_not : (P : ℕ → Type 0) → (Contains (part touch) token → ⊥) → ((place : ℕ) → (P place ↔ HasAt done place)) → (place : ℕ) → (P place ↔ HasAt (done ++ touch ∷ []) place)
  has_not P never is place = (λ p. had_before place ((is place).0 p), λ has. (is place).1 (⊎_elim (λ before. before) (λ last. absurd (never last.1)) (has_more place has)))

module _ (signature : Signature) (done : List Touch) (touch : Touch) (token : Token) where
  -- The step neither makes nor uses the token.
  pub passed_trace : (trace : Trace) → IsTrace signature done token trace → (Contains touch.makes token → ⊥) → (is_fact signature token.atom ≡ false → Contains touch.uses token → ⊥) → IsTrace signature (done ++ touch ∷ []) token trace
  passed_trace trace is not_made not_used = record {
    maker = has_not (λ (t : Touch). t.makes) done touch token (λ place. trace.maker ≡ place + 1) not_made is.maker;
    users = λ linear. has_not (λ (t : Touch). t.uses) done touch token (λ place. Contains trace.users (place + 1)) (not_used linear) (is.users linear);
  }

  -- The step uses the token.
  pub used_trace : (trace trace' : Trace) (number : ℕ) → number ≡ length done + 1 → trace'.maker ≡ trace.maker → trace'.users ≡ trace.users ++ number ∷ [] → IsTrace signature done token trace → (Contains touch.makes token → ⊥) → Contains touch.uses token
      → IsTrace signature (done ++ touch ∷ []) token trace'
  used_trace trace trace' number last maker users is not_made used = record {
    maker = λ place.
        let was = has_not (λ (t : Touch). t.makes) done touch token (λ place. trace.maker ≡ place + 1) not_made is.maker place in
        (λ e. was.0 (sym maker ∙ e), λ has. maker ∙ was.1 has);
    users = λ linear place. (
      λ there. ⊎_elim
          (λ before. had_before (λ (t : Touch). t.uses) done touch token place ((is.users linear place).0 before))
          (λ now. ⊎_elim (λ (e : number ≡ place + 1). has_last (λ (t : Touch). t.uses) done touch token place (omega arith) used) (λ none. absurd (contains_none (place + 1) none)) (contains_cases number [] (place + 1) now))
          (contains_either trace.users (number ∷ []) (place + 1) (subst (λ (ns : List ℕ). Contains ns (place + 1)) users there)),
      λ has. subst (λ (ns : List ℕ). Contains ns (place + 1)) (sym users) (⊎_elim
          (λ before. contains_left trace.users (number ∷ []) (place + 1) ((is.users linear place).1 before))
          (λ now. contains_right trace.users (number ∷ []) (place + 1) (contains_same number [] (place + 1) (last ∙ ap (λ n. n + 1) (sym now.0))))
          (has_more (λ (t : Touch). t.uses) done touch token place has)),
    );
  }

  -- The step makes the token.
  pub made_trace : (trace : Trace) → trace.maker ≡ length done + 1 → trace.users ≡ [] → Contains touch.makes token → (Contains touch.uses token → ⊥)
      → ((place : ℕ) → MakesAt done place token → ⊥) → ((place : ℕ) → UsesAt done place token → ⊥) → IsTrace signature (done ++ touch ∷ []) token trace
  made_trace trace maker users made not_used none_made none_used = record {
    maker = λ place. (
      λ (e : trace.maker ≡ place + 1). has_last (λ (t : Touch). t.makes) done touch token place (omega arith) made,
      λ has. ⊎_elim (λ before. absurd (none_made place before)) (λ now. maker ∙ ap (λ n. n + 1) (sym now.0)) (has_more (λ (t : Touch). t.makes) done touch token place has),
    );
    users = λ linear place. (
      λ there. absurd (contains_none (place + 1) (subst (λ (ns : List ℕ). Contains ns (place + 1)) users there)),
      λ has. ⊎_elim (λ before. absurd (none_used place before)) (λ now. absurd (not_used now.1)) (has_more (λ (t : Touch). t.uses) done touch token place has),
    );
  }

module _ (done : List Touch) (place : ℕ) where
  pub rests_none : RestsOnAt done (using [] []) place → ⊥
  rests_none rests = ⊎_elim (λ one. contains_none rests.rests.0 one.1) (λ other. contains_none rests.rests.0 other.1) rests.rests.1

  -- one more token is used, and stays
  pub rests_used : (token : Token) (uses removes : List Token) → (RestsOnAt done (using (token ∷ uses) removes) place ↔ (MakesAt done place token ⊎ RestsOnAt done (using uses removes) place))
  rests_used token uses removes = (
    λ rests. ⊎_elim
        (λ one. ⊎_elim
        (λ (same : token ≡ rests.rests.0). inl (rests.earlier, rests.at, subst (λ (t : Token). Contains rests.earlier.makes t) (sym same) one.0))
        (λ later. inr (record { earlier = rests.earlier; at = rests.at; rests = (rests.rests.0, inl (one.0, later)) }))
        (contains_cases token uses rests.rests.0 one.1))
        (λ other. inr (record { earlier = rests.earlier; at = rests.at; rests = (rests.rests.0, inr other) }))
        rests.rests.1,
    λ either. ⊎_elim
        (λ made. record { earlier = made.0; at = made.1; rests = (token, inl (made.2, contains_first token uses)) })
        (λ rests. record {
          earlier = rests.earlier;
          at = rests.at;
          rests = (rests.rests.0, ⊎_elim (λ one. inl (one.0, contains_behind token uses rests.rests.0 one.1)) (λ other. inr other) rests.rests.1);
        })
        either,
  )

  -- one more token is removed
  pub rests_removed : (token : Token) (uses removes : List Token) → (RestsOnAt done (using uses (token ∷ removes)) place ↔ (UsesAt done place token ⊎ RestsOnAt done (using uses removes) place))
  rests_removed token uses removes = (
    λ rests. ⊎_elim
        (λ one. inr (record { earlier = rests.earlier; at = rests.at; rests = (rests.rests.0, inl one) }))
        (λ other. ⊎_elim
        (λ (same : token ≡ rests.rests.0). inl (rests.earlier, rests.at, subst (λ (t : Token). Contains rests.earlier.uses t) (sym same) other.0))
        (λ later. inr (record { earlier = rests.earlier; at = rests.at; rests = (rests.rests.0, inr (other.0, later)) }))
        (contains_cases token removes rests.rests.0 other.1))
        rests.rests.1,
    λ either. ⊎_elim
        (λ used. record { earlier = used.0; at = used.1; rests = (token, inr (used.2, contains_first token removes)) })
        (λ rests. record {
          earlier = rests.earlier;
          at = rests.at;
          rests = (rests.rests.0, ⊎_elim (λ one. inl one) (λ other. inr (other.0, contains_behind token removes rests.rests.0 other.1)) rests.rests.1);
        })
        either,
  )
