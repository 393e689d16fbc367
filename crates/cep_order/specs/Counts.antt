-- Private.
-- A binary tree of counts over blocks of 64 flags. Its root is at 1, the children of a node are at
-- twice its place and after that, and its leaves are the second half.
use Rattle.std.specs.Prelude.{◌≡◌, ℕ, ◌+◌, ◌-◌, ◌*◌, ◌^◌, ◌<◌, ◌≤◌, ◌==◌, Bool, cond, List, length, slice_index}
use Rattle.cep_order.specs.Flags.{set_before}

-- A node counts what its children do, and a leaf the flags of its block that are set: but for so
-- many more, and so many less.
pub record Counts (flags : List Bool) (counts : List ℕ) (leaves node more less : ℕ) : Type 0 where
  pub inner : node < leaves → slice_index counts node + more
      ≡ slice_index counts (2 * node) + slice_index counts (2 * node + 1) + less
  pub leaf : leaves ≤ node
      → set_before flags ((node - leaves) * 64) + slice_index counts node + more
      ≡ set_before flags ((node - leaves + 1) * 64) + less

-- so many at this node, and none at others
abbrev pub only_at : ℕ → ℕ → ℕ → ℕ
only_at here amount node = cond (node == here) amount 0

-- A tree over flags. Each node counts rightly, but for this one, which counts so many too few and
-- so many too many; 0 is no node.
pub record IsNearly (flags : List Bool) (counts : List ℕ) (height here lacks exceeds : ℕ)
    : Type 0 where
  pub size : length counts ≡ 2 * 2 ^ height
  pub room : length flags ≤ 2 ^ height * 64
  pub few : length flags ≤ 67108864
  pub few_leaves : 2 ^ height ≤ 67108864
  pub each : (node : ℕ) → 0 < node → node < length counts
      → Counts flags counts (2 ^ height) node (only_at here lacks node) (only_at here exceeds node)

-- Each node counts rightly.
abbrev pub IsTree : List Bool → List ℕ → ℕ → Type 0
IsTree flags counts height = IsNearly flags counts height 0 0 0

-- The leaf has the flag before which k are set, this many of them of its own block.
pub record IsLeafOf (flags : List Bool) (counts : List ℕ) (height k leaf left : ℕ) : Type 0 where
  pub before : set_before flags ((leaf - 2 ^ height) * 64) + left ≡ k
  pub within : left < slice_index counts leaf

-- whatever the flags of the tree are, this is the leaf of the one before which k are set
abbrev pub FindsLeaf : List ℕ → ℕ → ℕ → ℕ → ℕ → Type 0
FindsLeaf counts height k leaf left =
    (flags : List Bool) → IsTree flags counts height → k < set_before flags (length flags)
    → IsLeafOf flags counts height k leaf left
