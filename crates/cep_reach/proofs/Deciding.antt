-- The tests of what a table holds decide the definitions.
use Rattle.std.proofs.Common.{◌≡◌, ◌⊎◌, ⊎_elim, inl, inr, ℕ, zero, suc, ◌+◌, ◌==◌, Bool, true, false, not, ◌&&◌, ◌||◌, List, [], ◌∷◌, Contains, refl, sym, ap, subst, ◌∙◌, eqb-true, eq-eqb, zero-add, arith}
use Rattle.std.specs.Prelude.{Option, Some, option_map, unwrap_or, IsSomeAnd}
use Rattle.std.proofs.lemmas.Bool.{false≢true}
use Rattle.cep_base.proofs.Lists.{none_some, some_same}
use Rattle.cep_base.proofs.Elements.{contains_first, contains_behind, contains_cases, contains_none}
use Rattle.cep_term.specs.Tree.{Tree, Trees, AtomTree, variable, node, none, more}
use Rattle.cep_rule.specs.declared.signature.Con.{Con}
use Rattle.cep_rule.specs.declared.signature.Signature.{Signature}
use Rattle.cep_reach.specs.Tables.{Possibility, of_stage, of_pred, of_con, nth_argument, HasConAt, HasVarAt, StandsAlone, IsOpen, CanBegin}
use Rattle.cep_reach.specs.Held.{is_term_open, are_args_open, is_open, is_variable, is_among, stands_alone, is_kept_among, is_kept, can_begin, is_begun, is_added_among, is_added}
use Rattle.cep_base.proofs.Bools.{or_cases as case_or, and_from as both, or_left as either_first, or_right as either_second}

pub or_first : (a b : Bool) → (a || b) ≡ false → a ≡ false
or_first a b e = grind arith

pub or_second : (a b : Bool) → (a || b) ≡ false → b ≡ false
or_second a b e = grind arith

pub first_of : (a b : Bool) → (a && b) ≡ true → a ≡ true
first_of a b e = grind arith

pub second_of : (a b : Bool) → (a && b) ≡ true → b ≡ true
second_of a b e = grind arith

from_not_or : (a b : Bool) → (not a || b) ≡ true → a ≡ true → b ≡ true
from_not_or a b e e' = grind arith

to_not_or : (a b : Bool) → (a ≡ true → b ≡ true) → (not a || b) ≡ true
to_not_or a b h = grind arith

var_true : (v : ℕ) (t : Tree) → is_variable v t ≡ true → t ≡ variable v
var_true v t e = grind (arith, eqb-true)

var_is : (v : ℕ) (t : Tree) → t ≡ variable v → is_variable v t ≡ true
var_is v t e = ap (is_variable v) e ∙ eq-eqb v v refl

next_place : (i j : ℕ) → (i + 1) + j ≡ i + suc j
next_place i j = omega arith

this_place : (i : ℕ) → i + 0 ≡ i
this_place i = omega arith

-- an atom is among those of a list if and only if the variable is one of its arguments
among_true : (v : ℕ) (args : Trees) → is_among v args ≡ true → (i : ℕ) × (nth_argument args i ≡ Some (variable v))
among_true v none e = absurd (false≢true e)
among_true v (more t rest) e =
    ⊎_elim (λ (here : is_variable v t ≡ true). (0, ap Some (var_true v t here))) (λ (later : is_among v rest ≡ true). let at = among_true v rest later in (suc at.0, at.1)) (case_or (is_variable v t) (is_among v rest) e)

among_is : (v : ℕ) (args : Trees) (i : ℕ) → nth_argument args i ≡ Some (variable v) → is_among v args ≡ true
among_is v (more t rest) (suc i) at = either_second (is_variable v t) (is_among v rest) (among_is v rest i at)
among_is v args i at = grind (arith, none_some, either_first, var_is, some_same)

pub alone_true : (atoms : List AtomTree) (v : ℕ) → stands_alone atoms v ≡ true → StandsAlone atoms v
alone_true [] v e = absurd (false≢true e)
alone_true (a ∷ atoms) v e = ⊎_elim
    (λ (here : is_among v a.args ≡ true). (a, contains_first a atoms, among_true v a.args here))
    (λ (later : stands_alone atoms v ≡ true). let is = alone_true atoms v later in (is.0, contains_behind a atoms is.0 is.1, is.2))
    (case_or (is_among v a.args) (stands_alone atoms v) e)

pub alone_is : (atoms : List AtomTree) (v : ℕ) → StandsAlone atoms v → stands_alone atoms v ≡ true
alone_is [] v is = absurd (contains_none is.0 is.1)
alone_is (a ∷ atoms) v is = ⊎_elim
    (λ (same : a ≡ is.0). either_first (is_among v a.args) (stands_alone atoms v) (among_is v a.args is.2.0 (ap (λ (b : AtomTree). nth_argument b.args is.2.0) same ∙ is.2.1)))
    (λ (later : Contains atoms is.0). either_second (is_among v a.args) (stands_alone atoms v) (alone_is atoms v (is.0, later, is.2)))
    (contains_cases a atoms is.0 is.1)

module _ (has : Possibility → Bool) where
  abbrev table : Possibility → Type 0
  table item = has item ≡ true

  args_true : (p i : ℕ) (args : Trees) → are_args_open has p i args ≡ true → (j c : ℕ) (sub : Trees) → nth_argument args j ≡ Some (node c sub) → has (of_con p (i + j) c) ≡ true
  args_true p i (more t rest) e (suc j) c sub at = grind (arith, next_place, second_of, args_true p (i + 1) rest (second_of (is_term_open has p i t) (are_args_open has p (i + 1) rest) e) j c sub)
  args_true p i args e j c sub at = grind (arith, none_some, this_place, some_same, first_of)

  args_are : (p i : ℕ) (args : Trees) → ((j c : ℕ) (sub : Trees) → nth_argument args j ≡ Some (node c sub) → has (of_con p (i + j) c) ≡ true) → are_args_open has p i args ≡ true
  args_are p i none each = refl
  args_are p i (more t rest) each = both (is_term_open has p i t) (are_args_open has p (i + 1) rest) (here t (λ c sub same. rw (← this_place i) (each zero c sub (ap Some same)))) (args_are p (i + 1) rest (λ j c sub at. rw (next_place i j) (each (suc j) c sub at)))
    where
      here : (u : Tree) → ((c : ℕ) (sub : Trees) → u ≡ node c sub → has (of_con p i c) ≡ true) → is_term_open has p i u ≡ true
      here (variable v) each' = refl
      here (node c sub) each' = each' c sub refl

  pub open_true : (a : AtomTree) → is_open has a ≡ true → IsOpen table a
  open_true a e = record {
    pred = first_of (has (of_pred a.pred)) (are_args_open has a.pred 0 a.args) e;
    cons = λ i c at. rw (← zero-add i) (args_true a.pred 0 a.args (second_of (has (of_pred a.pred)) (are_args_open has a.pred 0 a.args) e) i c at.0 at.1);
  }

  pub open_is : (a : AtomTree) → IsOpen table a → is_open has a ≡ true
  open_is a is = both (has (of_pred a.pred)) (are_args_open has a.pred 0 a.args) is.pred (args_are a.pred 0 a.args (λ j c sub at. rw (zero-add j) (is.cons j c (sub, at))))

  kept_args_true : (p i : ℕ) (args : Trees) (v c : ℕ) → is_kept_among has p i args v c ≡ true → (j : ℕ) → nth_argument args j ≡ Some (variable v) → has (of_con p (i + j) c) ≡ true
  kept_args_true p i (more t rest) v c e (suc j) at =
      rw (← next_place i j) (kept_args_true p (i + 1) rest v c (second_of (not (is_variable v t) || has (of_con p i c)) (is_kept_among has p (i + 1) rest v c) e) j at)
  kept_args_true p i args v c e j at = grind (arith, none_some, this_place, from_not_or, first_of, var_is, some_same)

  kept_args_are : (p i : ℕ) (args : Trees) (v c : ℕ) → ((j : ℕ) → nth_argument args j ≡ Some (variable v) → has (of_con p (i + j) c) ≡ true) → is_kept_among has p i args v c ≡ true
  kept_args_are p i none v c each = refl
  kept_args_are p i (more t rest) v c each =
      both (not (is_variable v t) || has (of_con p i c)) (is_kept_among has p (i + 1) rest v c)
      (to_not_or (is_variable v t) (has (of_con p i c)) (λ is. rw (← this_place i) (each zero (ap Some (var_true v t is)))))
      (kept_args_are p (i + 1) rest v c (λ j at. rw (next_place i j) (each (suc j) at)))

  kept_true : (atoms : List AtomTree) (v c : ℕ) → is_kept has atoms v c ≡ true → (a : AtomTree) (i : ℕ) → Contains atoms a → HasVarAt a i v → has (of_con a.pred i c) ≡ true
  kept_true [] v c e a i there at = absurd (contains_none a there)
  kept_true (b ∷ atoms) v c e a i there at = ⊎_elim
      (λ (same : b ≡ a). rw (← zero-add i) (kept_args_true a.pred 0 a.args v c (subst (λ (x : AtomTree). is_kept_among has x.pred 0 x.args v c ≡ true) same (first_of (is_kept_among has b.pred 0 b.args v c) (is_kept has atoms v c) e)) i at))
      (λ (later : Contains atoms a). kept_true atoms v c (second_of (is_kept_among has b.pred 0 b.args v c) (is_kept has atoms v c) e) a i later at)
      (contains_cases b atoms a there)

  kept_are : (atoms : List AtomTree) (v c : ℕ) → ((a : AtomTree) (i : ℕ) → Contains atoms a → HasVarAt a i v → has (of_con a.pred i c) ≡ true) → is_kept has atoms v c ≡ true
  kept_are [] v c each = refl
  kept_are (b ∷ atoms) v c each =
      both (is_kept_among has b.pred 0 b.args v c) (is_kept has atoms v c)
      (kept_args_are b.pred 0 b.args v c (λ j at. rw (zero-add j) (each b j (contains_first b atoms) at)))
      (kept_are atoms v c (λ a i there. each a i (contains_behind b atoms a there)))

  module _ (signature : Signature) (kinds : List ℕ) (premises : List AtomTree) (v c : ℕ) where
    of_sort_true : (kind : Option ℕ) (con : Option Con) → unwrap_or (option_map (λ sort. unwrap_or (option_map (λ (k : Con). k.sort == sort) con) false) kind) false ≡ true → IsSomeAnd con (λ k. kind ≡ Some k.sort)
    of_sort_true kind con e = grind (arith, eqb-true)

    of_sort_is : (kind : Option ℕ) (con : Option Con) → IsSomeAnd con (λ k. kind ≡ Some k.sort) → unwrap_or (option_map (λ sort. unwrap_or (option_map (λ (k : Con). k.sort == sort) con) false) kind) false ≡ true
    of_sort_is kind con is = grind (arith, none_some, eq-eqb, some_same)

    pub begin_true : can_begin signature has kinds premises v c ≡ true → CanBegin signature table kinds premises v c
    begin_true e = grind (arith, kept_true, alone_true, alone_is, of_sort_true, signature.cons)

    pub begin_is : CanBegin signature table kinds premises v c → can_begin signature has kinds premises v c ≡ true
    begin_is is = grind (arith, kept_are, of_sort_is, alone_is, is.at_each, signature.cons, is.typed)

-- what arguments add, from a position on
module _ (sets : ℕ → ℕ → Bool) where
  -- An argument adds the constructor at the position.
  pub record AddsAt (args : Trees) (i k c : ℕ) : Type 0 where
    pub place : ℕ
    pub t : Tree
    pub at : nth_argument args place ≡ Some t
    pub here : k ≡ i + place
    pub begun : is_begun sets t c ≡ true

  added_true : (p i : ℕ) (args : Trees) (q k c : ℕ) → is_added_among sets p i args (of_con q k c) ≡ true → (q ≡ p) × AddsAt args i k c
  added_true p i none q k c e = absurd (false≢true e)
  added_true p i (more t rest) q k c e = ⊎_elim
      (λ (here : (((q == p) && (k == i)) && is_begun sets t c) ≡ true).
      let at = first_of ((q == p) && (k == i)) (is_begun sets t c) here in
      (eqb-true q p (first_of (q == p) (k == i) at), record { place = 0; t = t; at = refl; here = eqb-true k i (second_of (q == p) (k == i) at) ∙ sym (this_place i); begun = second_of ((q == p) && (k == i)) (is_begun sets t c) here }))
      (λ (later : is_added_among sets p (i + 1) rest (of_con q k c) ≡ true).
      let is = added_true p (i + 1) rest q k c later in
      (is.0, record { place = suc is.1.place; t = is.1.t; at = is.1.at; here = is.1.here ∙ next_place i is.1.place; begun = is.1.begun }))
      (case_or (((q == p) && (k == i)) && is_begun sets t c) (is_added_among sets p (i + 1) rest (of_con q k c)) e)

  added_is : (p i : ℕ) (args : Trees) (k c j : ℕ) (t : Tree) → nth_argument args j ≡ Some t → k ≡ i + j → is_begun sets t c ≡ true → is_added_among sets p i args (of_con p k c) ≡ true
  added_is p i (more u rest) k c (suc j) t at here begun = grind (arith, either_second, next_place, added_is p (i + 1) rest k c j t)
  added_is p i args k c j t at here begun = grind (arith, none_some, either_first, both, eq-eqb, this_place, some_same)

  no_pred : (p i : ℕ) (args : Trees) (q : ℕ) → is_added_among sets p i args (of_pred q) ≡ true → ⊥
  no_pred p i none q e = false≢true e
  no_pred p i (more t rest) q e = no_pred p (i + 1) rest q e

  no_stage : (p i : ℕ) (args : Trees) (k : ℕ) → is_added_among sets p i args (of_stage k) ≡ true → ⊥
  no_stage p i none k e = false≢true e
  no_stage p i (more t rest) k e = no_stage p (i + 1) rest k e

  -- An atom adds the constructor at a position: it stands there, or a variable in whose set it is.
  abbrev pub AddsCon : AtomTree → ℕ → ℕ → Type 0
  AddsCon a i c = HasConAt a i c ⊎ ((v : ℕ) × HasVarAt a i v × (sets v c ≡ true))

  pub con_true : (a : AtomTree) (q i c : ℕ) → is_added sets a (of_con q i c) ≡ true → (q ≡ a.pred) × AddsCon a i c
  con_true a q i c e =
      let is = added_true a.pred 0 a.args q i c e in
      (is.0, by is.1.t (ap (nth_argument a.args) (is.1.here ∙ zero-add is.1.place) ∙ is.1.at) is.1.begun)
    where
      by : (t : Tree) → nth_argument a.args i ≡ Some t → is_begun sets t c ≡ true → AddsCon a i c
      by (variable v) at begun = inr (v, at, begun)
      by (node d sub) at begun = inl (sub, subst (λ x. nth_argument a.args i ≡ Some (node x sub)) (sym (eqb-true c d begun)) at)

  pub con_is : (a : AtomTree) (i c : ℕ) → AddsCon a i c → is_added sets a (of_con a.pred i c) ≡ true
  con_is a i c by = ⊎_elim
      (λ (con : HasConAt a i c). added_is a.pred 0 a.args i c i (node c con.0) con.1 (sym (zero-add i)) (eq-eqb c c refl))
      (λ (var : (v : ℕ) × HasVarAt a i v × (sets v c ≡ true)). added_is a.pred 0 a.args i c i (variable var.0) var.1 (sym (zero-add i)) var.2)
      by

  pub pred_true : (a : AtomTree) (q : ℕ) → is_added sets a (of_pred q) ≡ true → q ≡ a.pred
  pred_true a q e = ⊎_elim (λ (here : (q == a.pred) ≡ true). eqb-true q a.pred here) (λ (later : is_added_among sets a.pred 0 a.args (of_pred q) ≡ true). absurd (no_pred a.pred 0 a.args q later)) (case_or (q == a.pred) (is_added_among sets a.pred 0 a.args (of_pred q)) e)

  pub pred_is : (a : AtomTree) (q : ℕ) → q ≡ a.pred → is_added sets a (of_pred q) ≡ true
  pred_is a q e = either_first (q == a.pred) (is_added_among sets a.pred 0 a.args (of_pred q)) (eq-eqb q a.pred e)

  pub stage_true : (a : AtomTree) (k : ℕ) → is_added sets a (of_stage k) ≡ true → ⊥
  stage_true a k e = no_stage a.pred 0 a.args k e
