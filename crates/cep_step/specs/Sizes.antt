-- Private.
-- Sizes of instances, by the sizes of the values, in numbers that are counted up to a last one.
use Rattle.std.specs.Prelude.{◌≡◌, ◌⊎◌, ℕ, ◌+◌, ◌-◌, ◌<◌, ◌≤◌, ◌^◌, List, max, min, slice_index_or}
use Rattle.cep_base.specs.declared.limits.TheConstants.{MOST_DEPTH, MOST_NODES}
use Rattle.cep_term.specs.Tree.{Tree, Trees, AtomTree, variable, node, none, more, term_nodes, term_depth, atom_nodes, atom_depth}
use Rattle.cep_step.specs.declared.size.Size.{Size}

-- a number as it is counted: the number itself up to the last one that a counter holds
abbrev pub capped : ℕ → ℕ
capped n = min n (2 ^ 64 - 1)

-- how many nodes and levels a term has
abbrev pub size_of : Tree → Size
size_of t = record { nodes = capped (term_nodes t); depth = capped (term_depth t) }

-- the size of what has this below one node
abbrev pub one_more : Size → Size
one_more size = record { nodes = capped (size.nodes + 1); depth = capped (size.depth + 1) }

-- the size at a variable's place, and that of the variable itself where there is none
abbrev pub size_at : List Size → ℕ → Size
size_at sizes v = slice_index_or sizes v (record { nodes = 1; depth = 1 })

-- the size of a term, and of arguments, where each variable has the size at its place
abbrev mutual
  pub size_by : List Size → Tree → Size
  size_by sizes (variable v) = size_at sizes v
  size_by sizes (node c args) = one_more (size_among sizes args)

  pub size_among : List Size → Trees → Size
  size_among sizes none = record { nodes = 0; depth = 0 }
  size_among sizes (more t rest) =
      record {
        nodes = capped ((size_by sizes t).nodes + (size_among sizes rest).nodes);
        depth = max (size_by sizes t).depth (size_among sizes rest).depth;
      }

-- An atom is too large by a number, as far as this is counted.
abbrev pub IsBeyond : AtomTree → ℕ → Type 0
IsBeyond a number =
    ((MOST_NODES < atom_nodes a) × (number ≡ capped (atom_nodes a)))
    ⊎ ((atom_nodes a ≤ MOST_NODES) × (MOST_DEPTH < atom_depth a) × (number ≡ atom_depth a))
