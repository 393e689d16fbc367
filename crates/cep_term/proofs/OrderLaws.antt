-- The order of trees is total, and only equal trees tie.
use Rattle.std.proofs.Common.{◌≡◌, ◌≢◌, ◌⊎◌, ℕ, List, [], Bool, IsTrue, ◌↔◌, ap, subst, ◌∙◌, arith}
use Rattle.std.specs.declared.cmp.Ordering.{Ordering}
use Rattle.std.specs.declared.cmp.Ordering.TheVariants.{Equal}
use Rattle.std.specs.Ordering.{nat_cmp, ordering_then, is_eq}
use Rattle.std.specs.Cmp.{IsTotalOrder, on_total, tied_itself}
use Rattle.std.specs.Cmp.Lexicographic.{slice_cmp, nat_list_cmp_total}
use Rattle.std.specs.FinMap.{IsAntisymmetric, nat_cmp-IsAntisymmetric, slice_cmp-IsAntisymmetric}
use Rattle.cep_term.specs.Tree.{Tree, Trees, AtomTree, node, more}
use Rattle.cep_term.specs.Order.{tree_cmp, trees_cmp, atom_cmp}
use Rattle.cep_term.specs.Codes.{flat, flats, flat_atom, flat_tree_injective, flat_atom_injective}

then_assoc : (a b c : Ordering) → ordering_then a (ordering_then b c) ≡ ordering_then (ordering_then a b) c
then_assoc a b c = grind arith

then_Equal : (a : Ordering) → ordering_then a Equal ≡ a
then_Equal a = grind arith

-- the numbers of trees compare as the trees do, and then as what stands after them
mutual
  flat_cmp : (t u : Tree) (k l : List ℕ) → slice_cmp nat_cmp (flat t k) (flat u l) ≡ ordering_then (tree_cmp t u) (slice_cmp nat_cmp k l)
  flat_cmp (node c ts) (node d us) k l = ap (ordering_then (nat_cmp c d)) (flats_cmp ts us k l) ∙ then_assoc (nat_cmp c d) (trees_cmp ts us) (slice_cmp nat_cmp k l)
  flat_cmp t u k l = grind arith

  flats_cmp : (ts us : Trees) (k l : List ℕ) → slice_cmp nat_cmp (flats ts k) (flats us l) ≡ ordering_then (trees_cmp ts us) (slice_cmp nat_cmp k l)
  flats_cmp (more t ts) (more u us) k l = flat_cmp t u (flats ts k) (flats us l) ∙ ap (ordering_then (tree_cmp t u)) (flats_cmp ts us k l) ∙ then_assoc (tree_cmp t u) (trees_cmp ts us) (slice_cmp nat_cmp k l)
  flats_cmp ts us k l = grind arith

tree_cmp_flat : (t u : Tree) → slice_cmp nat_cmp (flat t []) (flat u []) ≡ tree_cmp t u
tree_cmp_flat t u = flat_cmp t u [] [] ∙ then_Equal (tree_cmp t u)

atom_cmp_flat : (a b : AtomTree) → slice_cmp nat_cmp (flat_atom a) (flat_atom b) ≡ atom_cmp a b
atom_cmp_flat a b = ap (ordering_then (nat_cmp a.pred b.pred)) (flats_cmp a.args b.args [] [] ∙ then_Equal (trees_cmp a.args b.args))

pub tree_cmp_total : IsTotalOrder tree_cmp
tree_cmp_total = subst IsTotalOrder (λ i t u. tree_cmp_flat t u i) (on_total (λ t. flat t []) nat_list_cmp_total)

pub atom_cmp_total : IsTotalOrder atom_cmp
atom_cmp_total = subst IsTotalOrder (λ i a b. atom_cmp_flat a b i) (on_total flat_atom nat_list_cmp_total)

pub tree_cmp_ties : IsAntisymmetric tree_cmp
tree_cmp_ties t u e = flat_tree_injective t u (slice_cmp-IsAntisymmetric nat_cmp-IsAntisymmetric _ _ (tree_cmp_flat t u ∙ e))

pub atom_cmp_ties : IsAntisymmetric atom_cmp
atom_cmp_ties a b e = flat_atom_injective a b (slice_cmp-IsAntisymmetric nat_cmp-IsAntisymmetric _ _ (atom_cmp_flat a b ∙ e))

-- the test whether the answer is `Equal` is the test whether the atoms are equal
pub same_by_cmp : (a b : AtomTree) (r : Ordering) (t : Bool) → r ≡ atom_cmp a b → t ≡ is_eq r → IsTrue t ↔ (a ≡ b)
same_by_cmp a b r t e f = grind (arith, atom_cmp_ties a b, tied_itself atom_cmp_total a)

-- two atoms are one or not
pub atoms_apart : (a b : AtomTree) → (a ≡ b) ⊎ (a ≢ b)
atoms_apart a b = grind (arith, atom_cmp_ties a b, tied_itself atom_cmp_total a)
