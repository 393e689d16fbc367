-- The order of terms and atoms. On ground ones it is by head and then by arguments; a variable stands before each other term.
use Rattle.std.specs.declared.cmp.Ordering.{Ordering}
use Rattle.std.specs.declared.cmp.Ordering.TheVariants.{Less, Equal, Greater}
use Rattle.std.specs.Ordering.{nat_cmp, ordering_then}
use Rattle.cep_term.specs.Tree.{Tree, Trees, AtomTree, variable, node, none, more}

-- Terms go by their head's number, and then by the arguments from left to right. Where one list of arguments goes on and the other ends, the shorter is less.
abbrev mutual
  pub tree_cmp : Tree → Tree → Ordering
  tree_cmp (variable v) (variable w) = nat_cmp v w
  tree_cmp (variable v) (node d us) = Less
  tree_cmp (node c ts) (variable w) = Greater
  tree_cmp (node c ts) (node d us) = ordering_then (nat_cmp c d) (trees_cmp ts us)

  pub trees_cmp : Trees → Trees → Ordering
  trees_cmp none none = Equal
  trees_cmp none (more u us) = Less
  trees_cmp (more t ts) none = Greater
  trees_cmp (more t ts) (more u us) = ordering_then (tree_cmp t u) (trees_cmp ts us)

-- Atoms go by their predicate's number, and then by the arguments.
abbrev pub atom_cmp : AtomTree → AtomTree → Ordering
atom_cmp a b = ordering_then (nat_cmp a.pred b.pred) (trees_cmp a.args b.args)
