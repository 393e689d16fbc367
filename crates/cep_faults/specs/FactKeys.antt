-- Private.
-- Keys of atoms: equal if and only if two atoms are written alike. Each byte of a name stands after a mark, each argument is a mark, and a stop ends both.
use Rattle.std.specs.Prelude.{ℕ, List, [], ◌∷◌, ◌++◌, replicate}
use Rattle.std.specs.List.{flat_map}
use Rattle.cep_parse.specs.declared.raw.RawNode.{RawNode}
use Rattle.cep_parse.specs.declared.raw.RawAtom.{RawAtom}
use Rattle.cep_source.specs.Items.{Source, said}

-- a plus and a dot
abbrev pub mark : ℕ
mark = 43

abbrev pub stop : ℕ
stop = 46

abbrev pub name_key : List ℕ → List ℕ
name_key bytes = flat_map (λ byte. mark ∷ byte ∷ []) bytes ++ stop ∷ []

abbrev pub count_key : ℕ → List ℕ
count_key n = replicate n mark ++ stop ∷ []

abbrev pub node_key : Source → RawNode → List ℕ
node_key source node = name_key (said source node.at) ++ count_key node.args

abbrev pub atom_key : Source → RawAtom → List ℕ
atom_key source atom = name_key (said source atom.name) ++ (count_key atom.args ++ flat_map (node_key source) atom.nodes)
