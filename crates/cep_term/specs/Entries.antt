-- Lists of entries, each an atom with its count, in blocks, on which a bag stands: what they stand for, their edits, and the places of atoms among them.
use Rattle.std.specs.Prelude.{◌≡◌, ℕ, zero, suc, ◌+◌, ◌-◌, ◌<◌, ◌==◌, if◌then◌else◌, Bool, List, [], ◌∷◌, ◌++◌, length, map, Option, Some, None, sum_by, unwrap_or, true, false, not}
use Rattle.std.specs.List.{AllByRecursion, flat_map}
use Rattle.std.specs.List.Sorted.{IsPartitionPoint}
use Rattle.std.specs.Ordering.{is_le, eq_by_cmp}
use Rattle.std.specs.declared.cmp.Ordering.TheVariants.{Less}
use Rattle.std.specs.declared.alloc.Global.{Global}
use Rattle.std.specs.declared.vec.Vec.{Vec}
use Rattle.std.specs.FinMap as finite
use Rattle.std.specs.FinMap.Entries.{put, where_key, below_all}
use Rattle.cep_base.specs.Sorted.{IsPlaceOf, IsGapOf}
use Rattle.cep_term.specs.declared.blocks.Blocks.{Blocks}
use Rattle.cep_term.specs.declared.entries.Entry.{Entry}
use Rattle.cep_term.specs.Tree.{AtomTree, atom_of}
use Rattle.cep_term.specs.Order.{atom_cmp}
use Rattle.cep_term.specs.Multiset.{Multiset, IsEntry}

-- what an entry with boxes stands for: its atom and its count
abbrev pub entry_of : Entry → AtomTree × ℕ
entry_of e = (atom_of e.atom.value, e.count)

-- the same for each entry of a list
abbrev pub entries_of : List Entry → List (AtomTree × ℕ)
entries_of entries = map entry_of entries

-- a block of them
abbrev pub Block : Type 0
Block = Vec Entry Global

-- the entries of later blocks, one block after another
abbrev pub later_entries : List Block → List (AtomTree × ℕ)
later_entries blocks = flat_map (λ block. entries_of block.items) blocks

-- all entries
abbrev pub entries_in : Blocks → List (AtomTree × ℕ)
entries_in blocks = entries_of blocks.first.items ++ later_entries blocks.later.items

-- the multiset of blocks of entries with increasing atoms
abbrev pub bag_of : Blocks → Multiset
bag_of blocks = finite.from_sorted (entries_in blocks)

-- The entries' atoms are strictly increasing.
abbrev pub IsRising : List (AtomTree × ℕ) → Type 0
IsRising entries = finite.is_sorted atom_cmp entries ≡ true

-- how many copies of the atom a list of entries has
abbrev pub find_count : List (AtomTree × ℕ) → AtomTree → ℕ
find_count entries a = unwrap_or (finite.find atom_cmp a entries) 0

-- the entries with this count of the atom, and without an entry of it where the count is 0
abbrev pub set_among : List (AtomTree × ℕ) → AtomTree → ℕ → List (AtomTree × ℕ)
set_among entries a count = if count == 0 then where_key atom_cmp (λ b. not (eq_by_cmp atom_cmp a b)) entries else put atom_cmp a count entries

-- the entries with one copy of the atom more, and with one less
abbrev pub one_more_among : List (AtomTree × ℕ) → AtomTree → List (AtomTree × ℕ)
one_more_among entries a = set_among entries a (find_count entries a + 1)

abbrev pub one_less_among : List (AtomTree × ℕ) → AtomTree → List (AtomTree × ℕ)
one_less_among entries a = set_among entries a (find_count entries a - 1)

-- What holds of the entries of a bag: their atoms increase, each is of a ground atom and has a copy, and the copies are as many as this.
pub record AreKept (entries : List (AtomTree × ℕ)) (copies : ℕ) : Type 0 where
  pub rising : IsRising entries
  pub each : AllByRecursion IsEntry entries
  pub counted : sum_by (λ e. e.1) entries ≡ copies

-- Each block has an entry.
abbrev pub HaveEntries : List Block → Type 0
HaveEntries blocks = AllByRecursion (λ block. 0 < length block.items) blocks

-- What holds of the blocks of a bag: none but the first is empty, and all of their entries are kept.
pub record AreBlocksOf (blocks : Blocks) (copies : ℕ) : Type 0 where
  pub filled : HaveEntries blocks.later.items
  pub kept : AreKept (entries_in blocks) copies

-- All atoms of these entries are less than this one.
abbrev pub AreBefore : List (AtomTree × ℕ) → AtomTree → Type 0
AreBefore entries a = AllByRecursion (λ e. atom_cmp e.0 a ≡ Less) entries

-- The atom's entry is in the later block at this place or would go there: the atoms of those before, the first of which is this, are less, and of those after greater.
abbrev pub IsLaterFor : List (AtomTree × ℕ) → List Block → AtomTree → ℕ → Type 0
IsLaterFor first [] a i = ⊥
IsLaterFor first (block ∷ blocks) a zero = AreBefore first a × (below_all atom_cmp a (later_entries blocks) ≡ true)
IsLaterFor first (block ∷ blocks) a (suc i) = AreBefore first a × IsLaterFor (entries_of block.items) blocks a i

-- The same of all blocks, where no place is that of the first.
abbrev pub IsBlockFor : Blocks → AtomTree → Option ℕ → Type 0
IsBlockFor blocks a None = below_all atom_cmp a (later_entries blocks.later.items) ≡ true
IsBlockFor blocks a (Some i) = IsLaterFor (entries_of blocks.first.items) blocks.later.items a i

-- whether the first of these entries is of the atom or of a lesser one
abbrev pub begins_by : List (AtomTree × ℕ) → AtomTree → Bool
begins_by [] a = false
begins_by (e ∷ entries) a = is_le (atom_cmp e.0 a)

-- The first so many blocks begin so, and no others.
abbrev pub IsBegunTo : List Block → AtomTree → ℕ → Type 0
IsBegunTo blocks a = IsPartitionPoint (λ block. begins_by (entries_of block.items) a ≡ true) (λ block. begins_by (entries_of block.items) a ≡ false) blocks

-- The entry at this place is the atom's; and the atom has no entry and would go here.
abbrev pub IsAt : List (AtomTree × ℕ) → AtomTree → ℕ → Type 0
IsAt = IsPlaceOf (λ e. e.0) atom_cmp

abbrev pub IsGapFor : List (AtomTree × ℕ) → AtomTree → ℕ → Type 0
IsGapFor = IsGapOf (λ e. e.0) atom_cmp
