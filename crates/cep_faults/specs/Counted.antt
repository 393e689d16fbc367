-- Private.
-- What counts of the atoms of a start state, one after another.
use Rattle.std.specs.Prelude.{◌≡◌, ℕ, List, [], ◌+◌, ◌-◌, ◌^◌, Some, map, filter, not, length, min, sum_by, Contains}
use Rattle.cep_parse.specs.declared.raw.RawAtom.{RawAtom}
use Rattle.cep_source.specs.Items.{Source}
use Rattle.cep_base.specs.FirstNames.{under_name}
use Rattle.cep_source.specs.Starts.{listed_in, nodes_written, is_of_fact, counting}
use Rattle.cep_faults.specs.declared.traces.Size.{Size}
use Rattle.cep_faults.specs.declared.traces.Counted.{Counted}
use Rattle.cep_faults.specs.FactKeys.{atom_key}

-- how many atoms there are, and how many nodes they have
abbrev pub written_size : List RawAtom → Size
written_size atoms = record { copies = length atoms; nodes = sum_by nodes_written atoms }

-- the most that is counted
abbrev pub most_counted : ℕ
most_counted = 2 ^ 64 - 1

abbrev pub cut : Size → Size
cut size = record { copies = min size.copies most_counted; nodes = min size.nodes most_counted }

-- the sum of two sizes
abbrev pub total_size : Size → Size → Size
total_size one other = record { copies = one.copies + other.copies; nodes = one.nodes + other.nodes }

-- those atoms that are no facts, and the facts, each as often as it counts
abbrev pub others : Source → List RawAtom → List RawAtom
others source atoms = filter (λ atom. not (is_of_fact source atom)) atoms

abbrev pub facts_counting : Source → List RawAtom → List RawAtom
facts_counting source atoms = filter (is_of_fact source) (counting source atoms)

-- nothing was listed
abbrev pub nothing_counted : Counted
nothing_counted = record { size = record { copies = 0; nodes = 0 }; facts = []; contexts = [] }

-- The context of this name was listed among the atoms, and this is the size of its other atoms than facts.
pub record IsPassed (source : Source) (atoms : List RawAtom) (name : List ℕ) (size : Size) : Type 0 where
  pub size_is : size ≡ cut (written_size (others source (listed_in source name)))
  pub among : (atom : RawAtom) → Contains (listed_in source name) atom → Contains atoms atom

-- This is what counts of the atoms so far.
pub record IsCountOf (source : Source) (atoms : List RawAtom) (counted : Counted) : Type 0 where
  pub size : counted.size ≡ cut (written_size (counting source atoms))
  pub facts : map (λ entry. entry.0) counted.facts ≡ map (atom_key source) (facts_counting source atoms)
  pub contexts : (name : List ℕ) (size_ : Size) → under_name counted.contexts name ≡ Some size_ → IsPassed source atoms name size_
