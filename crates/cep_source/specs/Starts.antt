-- The start state of a trace and its turns, and the sizes of atoms as they are written.
use Rattle.std.specs.Prelude.{ℕ, ◌+◌, ◌≤◌, nat_le, Bool, true, false, ◌&&◌, ◌==◌, if◌then◌else◌, List, [], ◌∷◌, ◌++◌, Option, Some, None, unwrap_or, length, max}
use Rattle.std.specs.Option.{option_map}
use Rattle.std.specs.Str.{bytes_eq, all_ascii_digits}
use Rattle.std.specs.Str.Parse.{digits_value, without_leading_plus}
use Rattle.std.specs.List.{flat_map, list_any, repeat}
use Rattle.cep_parse.specs.Symbols.{slice_of}
use Rattle.cep_parse.specs.declared.raw.Span.{Span}
use Rattle.cep_parse.specs.declared.raw.RawNode.{RawNode}
use Rattle.cep_parse.specs.declared.raw.RawAtom.{RawAtom}
use Rattle.cep_parse.specs.declared.raw.RawStart.{RawStart}
use Rattle.cep_parse.specs.declared.raw.RawStart.TheVariants as start
use Rattle.cep_base.specs.Kinds.{is_of_facts}
use Rattle.cep_base.specs.declared.limits.TheConstants.{MOST_DEPTH, MOST_NODES, MOST_TURNS}
use Rattle.cep_source.specs.Items.{Source, said}
use Rattle.cep_source.specs.Spaces.{context_named, kind_of}
use Rattle.cep_source.specs.Uses.{stands_for_context}

-- the atoms of the context of this name, and none where there is no such context
abbrev pub listed_in : Source → List ℕ → List RawAtom
listed_in source name = unwrap_or (option_map (λ context. context.atoms) (context_named source name)) []

-- the atoms of a start state, each a copy: an atom in braces lists itself, or the atoms of the context for which it stands
abbrev pub start_atoms : Source → RawStart → List RawAtom
start_atoms source (start.Named name) = listed_in source (said source name)
start_atoms source (start.Listed atoms) = flat_map (λ atom. if stands_for_context source atom then listed_in source (said source atom.name) else atom ∷ []) atoms

-- whether an atom's predicate is declared as one of facts
abbrev pub is_of_fact : Source → RawAtom → Bool
is_of_fact source atom = unwrap_or (option_map is_of_facts (kind_of source atom)) false

-- whether two nodes, and two atoms, are written alike: the same names in the same order, with as many arguments
abbrev pub is_node_alike : Source → RawNode → RawNode → Bool
is_node_alike source one other = bytes_eq (said source one.at) (said source other.at) && (one.args == other.args)

abbrev pub are_nodes_alike : Source → List RawNode → List RawNode → Bool
are_nodes_alike source [] [] = true
are_nodes_alike source [] (node ∷ nodes) = false
are_nodes_alike source (node ∷ nodes) [] = false
are_nodes_alike source (one ∷ ones) (other ∷ others) = is_node_alike source one other && are_nodes_alike source ones others

abbrev pub is_written_alike : Source → RawAtom → RawAtom → Bool
is_written_alike source one other =
    bytes_eq (said source one.name) (said source other.name) && (one.args == other.args) && are_nodes_alike source one.nodes other.nodes

-- the atoms that count, after others: all but a fact that is written like one before it
abbrev pub counting_behind : Source → List RawAtom → List RawAtom → List RawAtom
counting_behind source before [] = []
counting_behind source before (atom ∷ atoms) =
    if is_of_fact source atom && list_any (is_written_alike source atom) before then counting_behind source before atoms
    else atom ∷ counting_behind source (atom ∷ before) atoms

abbrev pub counting : Source → List RawAtom → List RawAtom
counting source atoms = counting_behind source [] atoms

-- how many nodes an atom has: its own and those of its arguments
abbrev pub nodes_written : RawAtom → ℕ
nodes_written atom = 1 + length atom.nodes

-- the level of each node, where the next ones stand on these levels: a term's arguments stand one level below it
abbrev pub levels : List ℕ → List RawNode → List ℕ
levels [] nodes = []
levels (level ∷ next) [] = []
levels (level ∷ next) (node ∷ nodes) = level ∷ levels (repeat node.args ((level + 1) ∷ []) ++ next) nodes

-- the greatest of all
abbrev pub greatest : List ℕ → ℕ
greatest [] = 0
greatest (n ∷ ns) = max n (greatest ns)

-- how many levels an atom has, its own included
abbrev pub depth_written : RawAtom → ℕ
depth_written atom = max 1 (greatest (levels (repeat atom.args (2 ∷ [])) atom.nodes))

-- An atom is small enough to be kept in a state.
pub record IsFitWritten (atom : RawAtom) : Type 0 where
  pub nodes : nodes_written atom ≤ MOST_NODES
  pub depth : depth_written atom ≤ MOST_DEPTH

-- how many turns the digits at a span say, if a program may ask for as many; a plus may stand before them, as std reads numbers
abbrev pub turns_said : List ℕ → Span → Option ℕ
turns_said text span =
    let digits = without_leading_plus (slice_of text span.from span.to) in
    let turns = digits_value 10 digits in
    if all_ascii_digits digits && (nat_le 1 turns && nat_le turns MOST_TURNS) then Some turns else None
