-- What a store holds: ground terms and atoms, whose ids are their places.
use Rattle.std.specs.Prelude.{◌≡◌, ℕ, List, [], ◌∷◌, ◌++◌, ◌⊎◌, slice_get, slice_index_or, Some, Contains, refl}
use Rattle.std.specs.List.{AllByRecursion}
use Rattle.std.specs.Option.{option_map_or}
use Rattle.std.specs.Coded.{Coded, code_by, coded×, coded_list}
use Rattle.cep_term.specs.Tree.{Tree, Trees, AtomTree, variable, node, none, more, IsGround, IsGroundAtom}
use Rattle.cep_term.specs.Codes.{tree_code, atom_code}

-- What is held: terms and atoms, each at the place that is its id.
pub record Held : Type 0 where
  pub terms : List Tree
  pub atoms : List AtomTree

-- what is held, as the pair of its lists
abbrev pub held_code : Coded Held
held_code =
    code_by (List Tree × List AtomTree) (coded× (coded_list tree_code) (coded_list atom_code)) (λ held. (held.terms, held.atoms)) (λ lists. record { terms = lists.0; atoms = lists.1 }) (λ _. refl)

-- the trees of a list of arguments
abbrev pub trees_in : Trees → List Tree
trees_in none = []
trees_in (more t rest) = t ∷ trees_in rest

-- the arguments of a term
abbrev pub parts_in : Tree → List Tree
parts_in (variable v) = []
parts_in (node c args) = trees_in args

-- the arguments with these ids
abbrev pub args_by : List Tree → List ℕ → Trees
args_by terms [] = none
args_by terms (id ∷ ids) = more (slice_index_or terms id (variable 0)) (args_by terms ids)

-- the arguments of the term with this id, and none where no term has it
abbrev pub parts_at : Held → ℕ → List Tree
parts_at held id = option_map_or parts_in (slice_get held.terms id) []

-- the arguments of the atom with this id, and none where no atom has it
abbrev pub args_at : Held → ℕ → List Tree
args_at held id = option_map_or (λ a. trees_in a.args) (slice_get held.atoms id) []

-- No two places have the same.
abbrev pub AreApart : {A : Type 0} → List A → Type 0
AreApart {A} xs = (i j : ℕ) (x : A) → slice_get xs i ≡ Some x → slice_get xs j ≡ Some x → i ≡ j

-- The later list has the earlier one as its front.
abbrev pub IsFrontOf : {A : Type 0} → List A → List A → Type 0
IsFrontOf {A} earlier later = (behind : List A) × (later ≡ earlier ++ behind)

-- What was held is held under the same ids, and maybe more after it.
pub record StaysHeld (old new : Held) : Type 0 where
  pub terms : IsFrontOf old.terms new.terms
  pub atoms : IsFrontOf old.atoms new.atoms

-- The term is the other one, or stands in it at some depth.
abbrev mutual
  pub IsPartOf : Tree → Tree → Type 0
  IsPartOf t (variable v) = t ≡ variable v
  IsPartOf t (node c args) = (t ≡ node c args) ⊎ IsPartAmong t args

  pub IsPartAmong : Tree → Trees → Type 0
  IsPartAmong t none = ⊥
  IsPartAmong t (more u rest) = IsPartOf t u ⊎ IsPartAmong t rest

-- Each of the later terms was there, or is one that may be added.
pub record AddsOnly (MayBe : Tree → Type 0) (earlier later : List Tree) : Type 0 where
  pub each : (id : ℕ) (t : Tree) → slice_get later id ≡ Some t → (slice_get earlier id ≡ Some t) ⊎ MayBe t

-- Ids are equal exactly for equal trees, all is ground, and each argument is a term that is held.
pub record AreIds (held : Held) : Type 0 where
  pub terms_apart : AreApart held.terms
  pub atoms_apart : AreApart held.atoms
  pub ground_terms : AllByRecursion IsGround held.terms
  pub ground_atoms : AllByRecursion IsGroundAtom held.atoms
  pub parts : (id : ℕ) → AllByRecursion (λ part. Contains held.terms part) (parts_at held id)
  pub args : (id : ℕ) → AllByRecursion (λ arg. Contains held.terms arg) (args_at held id)

-- The atom has this id among the later atoms: the one that it had, or else the next one.
pub record HasId (old : List AtomTree) (a : AtomTree) (id : ℕ) (new : List AtomTree) : Type 0 where
  pub stands : slice_get new id ≡ Some a
  pub known : Contains old a → new ≡ old
  pub next : ¬ (Contains old a) → new ≡ old ++ a ∷ []
