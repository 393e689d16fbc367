-- What stands in raw items: atoms and nodes.
use Rattle.std.specs.Prelude.{List, [], ◌∷◌}
use Rattle.std.specs.List.{flat_map}
use Rattle.cep_parse.specs.declared.raw.RawNode.{RawNode}
use Rattle.cep_parse.specs.declared.raw.RawAtom.{RawAtom}
use Rattle.cep_parse.specs.declared.raw.RawElem.{RawElem}
use Rattle.cep_parse.specs.declared.raw.RawElem.TheVariants as elem
use Rattle.cep_parse.specs.declared.raw.RawStart.{RawStart}
use Rattle.cep_parse.specs.declared.raw.RawStart.TheVariants as start

-- the nodes of atoms, one after another
abbrev pub raw_nodes : List RawAtom → List RawNode
raw_nodes atoms = flat_map (λ atom. atom.nodes) atoms

-- the atoms of a side
abbrev pub atoms_in : RawElem → List RawAtom
atoms_in (elem.Atom kept atom) = atom ∷ []
atoms_in (elem.Qui span) = []
atoms_in (elem.Stage name) = []

abbrev pub atoms_of : List RawElem → List RawAtom
atoms_of side = flat_map atoms_in side

-- the atoms that a start state lists
abbrev pub start_listed : RawStart → List RawAtom
start_listed (start.Named name) = []
start_listed (start.Listed atoms) = atoms
