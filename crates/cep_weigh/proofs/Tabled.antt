-- Tables of names: which names stand in them after an addition.
use Rattle.std.proofs.Common.{◌≡◌, ⊎_elim, ℕ, Bool, true, false, ◌||◌, List, [], ◌∷◌, ◌++◌, map, refl, sym, ap, ◌∙◌, subst, arith, Contains}
use Rattle.std.specs.Prelude.{if◌then◌else◌}
use Rattle.std.specs.Str.{bytes_eq}
use Rattle.std.proofs.lemmas.Slice.Eq.{bytes_eq-Decides}
use Rattle.std.proofs.lemmas.List.{map-append}
use Rattle.std.proofs.lemmas.Bool.{false≢true}
use Rattle.cep_base.specs.FirstNames.{has_name, added}
use Rattle.cep_base.proofs.Elements.{contains_left, contains_right, contains_either, contains_first, contains_cases, contains_none}
use Rattle.cep_claim.specs.declared.weight.Weight.{Weight}
use Rattle.cep_weigh.specs.Tables.{NamesClaims}
use Rattle.cep_claim.proofs.Tabled.{same_bytes}

abbrev Table : Type 0
Table = List (List ℕ × ℕ)

has_pushed : (name : List ℕ) (table : Table) (other : List ℕ) (number : ℕ) → has_name (table ++ (other, number) ∷ []) name ≡ (has_name table name || bytes_eq name other)
has_pushed name [] other number = grind arith
has_pushed name (entry ∷ table) other number = grind (arith, entry.0, has_pushed name table other number)

has_added : (name : List ℕ) (table : Table) (other : List ℕ) (number : ℕ) → has_name (added table (other, number)) name ≡ (has_name table name || bytes_eq name other)
has_added name table other number = by (has_name table other) refl where
  there : (b : Bool) → bytes_eq name other ≡ b → has_name table other ≡ true → has_name table name ≡ (has_name table name || b)
  there true same is = ap (λ n. has_name table n) (same_bytes name other same) ∙ is ∙ sym (ap (λ n. has_name table n || true) (same_bytes name other same) ∙ ap (λ b. b || true) is)
  there false same is = or_false (has_name table name) where
    or_false : (b : Bool) → b ≡ (b || false)
    or_false true = refl
    or_false false = refl

  by : (b : Bool) → has_name table other ≡ b → has_name (if b then table else table ++ (other, number) ∷ []) name ≡ (has_name table name || bytes_eq name other)
  by true is = there (bytes_eq name other) refl is
  by false is = has_pushed name table other number

pub one_claim_more : (weights : List Weight) (weight : Weight) (old new : Table) (number : ℕ) → NamesClaims weights old → new ≡ added old (weight.name, number) → NamesClaims (weights ++ weight ∷ []) new
one_claim_more weights weight old new number names is name =
    let after : has_name new name ≡ (has_name old name || bytes_eq name weight.name) = ap (λ t. has_name t name) is ∙ has_added name old weight.name number in (
      (λ found. from (has_name old name) (bytes_eq name weight.name) refl (names name).0 (sym after ∙ found)),
      (λ there. after ∙ to (has_name old name) (bytes_eq name weight.name) refl (names name).1 there),
    )
  where
    from : (a b : Bool) → bytes_eq name weight.name ≡ b → (a ≡ true → Contains (map (λ (w : Weight). w.name) weights) name) → (a || b) ≡ true → Contains (map (λ (w : Weight). w.name) (weights ++ weight ∷ [])) name
    from true b same before found = rw (map-append (λ (w : Weight). w.name) weights (weight ∷ [])) (contains_left (map (λ w. w.name) weights) (weight.name ∷ []) name (before refl))
    from false true same before found =
        rw (map-append (λ (w : Weight). w.name) weights (weight ∷ [])) (contains_right (map (λ w. w.name) weights) (weight.name ∷ []) name (subst (λ n. Contains (weight.name ∷ []) n) (sym (same_bytes name weight.name same)) (contains_first weight.name [])))
    from false false same before found = absurd (false≢true found)

    to : (a b : Bool) → bytes_eq name weight.name ≡ b → (Contains (map (λ (w : Weight). w.name) weights) name → a ≡ true) → Contains (map (λ (w : Weight). w.name) (weights ++ weight ∷ [])) name → (a || b) ≡ true
    to true b same before there = refl
    to false true same before there = refl
    to false false same before there =
        ⊎_elim
        (λ (earlier : Contains (map (λ (w : Weight). w.name) weights) name). before earlier)
        (λ (last : Contains (weight.name ∷ []) name). ⊎_elim
        (λ (is : weight.name ≡ name). absurd (false≢true (sym same ∙ (bytes_eq-Decides name weight.name).1 (sym is))))
        (λ (nothing : Contains [] name). absurd (contains_none name nothing))
        (contains_cases weight.name [] name last))
        (contains_either (map (λ w. w.name) weights) (weight.name ∷ []) name (rw (map-append (λ (w : Weight). w.name) weights (weight ∷ [])) at there))
