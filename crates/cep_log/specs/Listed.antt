-- What the lines of a listing stand for.
use Rattle.std.specs.Prelude.{ℕ}
use Rattle.cep_term.specs.Tree.{AtomTree, atom_of}
use Rattle.cep_log.specs.declared.listing.Have.{Have}

-- the entry of a listing: an atom, and how many copies of it there are
abbrev pub have_of : Have → AtomTree × ℕ
have_of have = (atom_of have.atom, have.count)
