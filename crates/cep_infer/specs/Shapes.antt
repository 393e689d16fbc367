-- What a source is: a text, and the raw file that its tokens are.
use Rattle.std.specs.Prelude.{◌≡◌, List, map, Contains}
use Rattle.cep_lex.specs.declared.token.Token.{Token}
use Rattle.cep_lex.specs.Cuts.{AreTokens}
use Rattle.cep_parse.specs.declared.raw.RawAtom.{RawAtom}
use Rattle.cep_parse.specs.Symbols.{symbols_of}
use Rattle.cep_parse.specs.Grammar.{File}
use Rattle.cep_parse.specs.Files.{IsShallow}
use Rattle.cep_parse.specs.Written.{Fill}
use Rattle.cep_source.specs.Items.{Source}
use Rattle.cep_source.specs.Uses.{atoms_written}
use Rattle.cep_parse.specs.Raw.{raw_nodes}
use Rattle.cep_types.specs.Sites.{sites_of}

-- The file is the raw file of the text's tokens, with never too many parentheses open.
pub record IsSource (source : Source) : Type 0 where
  pub tokens : List Token
  pub lexed : AreTokens source.text tokens
  pub parsed : File (symbols_of source.text tokens) source.file
  pub shallow : IsShallow (symbols_of source.text tokens)

-- The nodes of an atom are its arguments.
abbrev pub IsFilled : RawAtom → Type 0
IsFilled atom = Fill atom.args atom.nodes

-- The nodes of each atom of a source are its arguments.
abbrev pub AreFilled : Source → Type 0
AreFilled source = (atom : RawAtom) → Contains (atoms_written source) atom → IsFilled atom

-- Each node of the atoms is a term of which a type is wanted.
abbrev pub AreCovered : Source → List RawAtom → Type 0
AreCovered source atoms = map (λ site. site.node) (sites_of source atoms) ≡ raw_nodes atoms
