-- Trees as lists of numbers, one list for each tree. By these a tree has a code, and the lists compare as the trees do.
use Rattle.std.specs.Prelude.{◌≡◌, ℕ, List, [], ◌∷◌}
use Rattle.std.specs.Coded.{Coded, coded_ℕ, coded_list}
use Rattle.std.proofs.Common.{refl}
use base.Stored.{coded_via}
use Rattle.cep_term.specs.Tree.{Tree, Trees, AtomTree, variable, node, none, more}

-- the tree as numbers, before others
abbrev mutual
  pub flat : Tree → List ℕ → List ℕ
  flat (variable v) behind = 0 ∷ v ∷ behind
  flat (node c args) behind = 1 ∷ c ∷ flats args behind

  pub flats : Trees → List ℕ → List ℕ
  flats none behind = 0 ∷ behind
  flats (more t rest) behind = 1 ∷ flat t (flats rest behind)

-- the atom as numbers
abbrev pub flat_atom : AtomTree → List ℕ
flat_atom a = a.pred ∷ flats a.args []

-- Lists that begin with trees and are equal have equal trees, and the same after them.
mutual
  pub flat_injective : (t u : Tree) (k l : List ℕ) → flat t k ≡ flat u l → (t ≡ u) × (k ≡ l)
  flat_injective (variable v) (variable w) k l e = (cc, cc)
  flat_injective (variable v) (node d us) k l e = cc
  flat_injective (node c ts) (variable w) k l e = cc
  flat_injective (node c ts) (node d us) k l e =
      let same : c ≡ d = cc in
      let rest = flats_injective ts us k l (cc) in
      let args = rest.0 in
      ((cc), rest.1)

  pub flats_injective : (ts us : Trees) (k l : List ℕ) → flats ts k ≡ flats us l → (ts ≡ us) × (k ≡ l)
  flats_injective none none k l e = (refl, cc)
  flats_injective none (more u us) k l e = cc
  flats_injective (more t ts) none k l e = cc
  flats_injective (more t ts) (more u us) k l e =
      let first = flat_injective t u (flats ts k) (flats us l) (cc) in
      let rest = flats_injective ts us k l first.1 in
      let head = first.0 in
      let tail = rest.0 in
      ((cc), rest.1)

pub flat_tree_injective : (t u : Tree) → flat t [] ≡ flat u [] → t ≡ u
flat_tree_injective t u e = (flat_injective t u [] [] e).0

pub flat_atom_injective : (a b : AtomTree) → flat_atom a ≡ flat_atom b → a ≡ b
flat_atom_injective a b e =
    let preds : a.pred ≡ b.pred = cc in
    let args = (flats_injective a.args b.args [] [] (cc)).0 in
    λ i. record { pred = preds i; args = args i }

-- the code of a tree, by which proofs tell trees apart
abbrev pub tree_code : Coded Tree
tree_code = coded_via (coded_list coded_ℕ) (λ t. flat t []) flat_tree_injective

-- the code of an atom
abbrev pub atom_code : Coded AtomTree
atom_code = coded_via (coded_list coded_ℕ) flat_atom flat_atom_injective
