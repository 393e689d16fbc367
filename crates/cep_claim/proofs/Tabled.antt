-- Tables of names: what a look-up gives after an addition.
use Rattle.std.proofs.Common.{◌≡◌, ℕ, zero, suc, ◌+◌, ◌<◌, Bool, true, false, List, [], ◌∷◌, ◌++◌, length, Option, Some, None, is_some, refl, sym, ap, ◌∙◌, subst, arith, slice_get, IsSomeAnd}
use Rattle.std.specs.Prelude.{MatchOption, if◌then◌else◌}
use Rattle.std.specs.List.{list_any}
use Rattle.std.specs.Str.{bytes_eq}
use Rattle.std.proofs.lemmas.Slice.Eq.{bytes_eq-Decides}
use Rattle.std.proofs.lemmas.Bool.{false≢true, cases_lt}
use Rattle.cep_rule.specs.declared.signature.PredDecl.{PredDecl}
use Rattle.cep_rule.specs.declared.signature.Signature.{Signature}
use Rattle.cep_base.specs.declared.kind.PredKind.TheVariants.{Linear}
use Rattle.cep_base.specs.FirstNames.{under_name, added}
use Rattle.cep_claim.specs.Written.{IsLinearNamed}
use Rattle.cep_claim.specs.Tables.{NamesLinearBelow, NamesLinear}

abbrev Table : Type 0
Table = List (List ℕ × ℕ)

-- the first of two numbers that is there
abbrev first_number : Option ℕ → Option ℕ → Option ℕ
first_number None other = other
first_number (Some n) other = Some n

-- what each look-up gives after a name was added
abbrev AddsName : Table → List ℕ → ℕ → Table → Type 0
AddsName old name number new = (other : List ℕ) → under_name new other ≡ first_number (under_name old other) (if bytes_eq other name then Some number else None)

number_pushed : (other : List ℕ) (table : Table) (name : List ℕ) (number : ℕ) → under_name (table ++ (name, number) ∷ []) other ≡ first_number (under_name table other) (if bytes_eq other name then Some number else None)
number_pushed other [] name number = refl
number_pushed other (entry ∷ table) name number = grind (arith, entry.0, number_pushed other table name number, entry.1)

any_found : (name : List ℕ) (table : Table) → list_any (λ entry. bytes_eq name entry.0) table ≡ is_some (under_name table name)
any_found name [] = refl
any_found name (entry ∷ table) = grind (arith, entry.0, any_found name table, entry.1)

pub same_bytes : (a b : List ℕ) → bytes_eq a b ≡ true → a ≡ b
same_bytes a b e = (bytes_eq-Decides a b).0 e

adds_there : (table : Table) (name : List ℕ) (number : ℕ) → list_any (λ entry. bytes_eq name entry.0) table ≡ true → AddsName table name number table
adds_there table name number there other = by (under_name table other) refl (bytes_eq other name) refl where
  by : (o : Option ℕ) → under_name table other ≡ o → (b : Bool) → bytes_eq other name ≡ b → o ≡ first_number o (if b then Some number else None)
  by (Some n) is b same = refl
  by None is false same = refl
  by None is true same =
      absurd (false≢true (sym (ap (λ n. is_some (under_name table n)) (sym (same_bytes other name same)) ∙ ap is_some is) ∙ (sym (any_found name table) ∙ there)))

adds_new : (table new : Table) (name : List ℕ) (number : ℕ) → new ≡ table ++ (name, number) ∷ [] → AddsName table name number new
adds_new table new name number is other = ap (λ t. under_name t other) is ∙ number_pushed other table name number

pub adds_by : (table new : Table) (name : List ℕ) (number : ℕ) → new ≡ added table (name, number) → AddsName table name number new
adds_by table new name number is = grind (arith, adds_there, adds_new)

pub linear_found : (signature : Signature) (table : Table) → NamesLinear signature table → (name : List ℕ) (o : Option ℕ) (pred : ℕ) → o ≡ under_name table name → o ≡ Some pred → IsLinearNamed signature pred name
linear_found signature table names name o pred is there = grind arith

pub below_none : (signature : Signature) → NamesLinearBelow signature 0 []
below_none signature name pred low = absurd (omega arith)

named_at : (signature : Signature) (i : ℕ) (decl : PredDecl) (name : List ℕ) → slice_get signature.preds i ≡ Some decl → IsLinearNamed signature i name → (decl.name ≡ name) × (decl.kind ≡ Linear)
named_at signature i decl name at is = subst (λ o. IsSomeAnd o (λ d. (d.name ≡ name) × (d.kind ≡ Linear))) at is

to_named : (signature : Signature) (i : ℕ) (decl : PredDecl) (name : List ℕ) → slice_get signature.preds i ≡ Some decl → decl.name ≡ name → decl.kind ≡ Linear → IsLinearNamed signature i name
to_named signature i decl name at named linear = subst (λ o. IsSomeAnd o (λ d. (d.name ≡ name) × (d.kind ≡ Linear))) (sym at) (named, linear)

module _ (signature : Signature) (i : ℕ) (decl : PredDecl) (at : slice_get signature.preds i ≡ Some decl) where
  pub below_other : (table : Table) → (decl.kind ≡ Linear → ⊥) → NamesLinearBelow signature i table → NamesLinearBelow signature (i + 1) table
  below_other table other below name = grind (arith, named_at, cases_lt)

  pub below_linear : (old new : Table) → decl.kind ≡ Linear → AddsName old decl.name i new → NamesLinearBelow signature i old → NamesLinearBelow signature (i + 1) new
  below_linear old new linear adds below name = grind (arith, to_named, same_bytes, named_at, bytes_eq-Decides, cases_lt, decl.name)

pub below_all : (signature : Signature) (table : Table) → NamesLinearBelow signature (length signature.preds) table → NamesLinear signature table
below_all signature table below name = by (under_name table name) (below name) where
  within : (preds : List PredDecl) (pred : ℕ) → IsSomeAnd (slice_get preds pred) (λ d. (d.name ≡ name) × (d.kind ≡ Linear)) → pred < length preds
  within [] pred is = absurd is
  within (d ∷ preds) zero is = omega arith
  within (d ∷ preds) (suc pred) is = let low = within preds pred is in omega arith

  by : (o : Option ℕ) → MatchOption o ((pred : ℕ) → pred < length signature.preds → ¬ IsLinearNamed signature pred name) (λ pred. IsLinearNamed signature pred name)
      → MatchOption o ((pred : ℕ) → ¬ IsLinearNamed signature pred name) (λ pred. IsLinearNamed signature pred name)
  by (Some n) is = is
  by None never = λ pred named. never pred (within signature.preds pred named) named
