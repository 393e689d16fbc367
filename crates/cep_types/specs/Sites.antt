-- Which type is wanted of each term of a rule, a clause or a state, and which term is of another.
use Rattle.std.specs.Prelude.{◌≡◌, ◌≢◌, ℕ, List, [], ◌∷◌, ◌++◌, Option, Some, map, unwrap_or, Contains}
use Rattle.std.specs.Option.{option_map}
use Rattle.std.specs.Str.{bytes_eq}
use Rattle.std.specs.List.{flat_map, find}
use Rattle.cep_parse.specs.declared.raw.Span.{Span}
use Rattle.cep_parse.specs.declared.raw.RawKind.{RawKind}
use Rattle.cep_parse.specs.declared.raw.RawKind.TheVariants as kind
use Rattle.cep_parse.specs.declared.raw.RawNode.{RawNode}
use Rattle.cep_parse.specs.declared.raw.RawAtom.{RawAtom}
use Rattle.cep_refusal.specs.declared.fault.Fault.{Fault}
use Rattle.cep_refusal.specs.declared.reason.Reason.TheVariants.{TypeClash}
use Rattle.cep_source.specs.Items.{Source, ConItem, ClauseItem, RuleItem, said, clauses_of, rules_of}
use Rattle.cep_source.specs.Spaces.{pred_named, con_named}
use Rattle.cep_source.specs.Variables.{occurrence_at, blanks_behind}
use Rattle.cep_parse.specs.Raw.{atoms_of}
use Rattle.cep_source.specs.Uses.{state_atoms}
use Rattle.cep_refusal.specs.First.{wrong}

-- A term by its node, and the name of the type that is wanted of it.
pub record Site : Type 0 where
  pub node : RawNode
  pub wants : List ℕ

-- the types that a predicate of this name, and a node, wants of its arguments
abbrev pub pred_types : Source → List ℕ → List (List ℕ)
pred_types source name = map (said source) (unwrap_or (option_map (λ pred. pred.args) (pred_named source name)) [])

abbrev pub node_types : Source → RawKind → Span → List (List ℕ)
node_types source kind.App span = map (said source) (unwrap_or (option_map (λ con. con.args) (con_named source (said source span))) [])
node_types source kind.Blank span = []
node_types source kind.Var span = []

-- Each node with the type wanted of it, where the next terms are to be of these types: the first of them is the node's, and then come those of its arguments.
abbrev pub sites_from : Source → List (List ℕ) → List RawNode → List Site
sites_from source [] nodes = []
sites_from source (wants ∷ next) [] = []
sites_from source (wants ∷ next) (node ∷ nodes) =
    record { node = node; wants = wants } ∷ sites_from source (node_types source node.kind node.at ++ next) nodes

-- the terms of an atom, and of atoms in written order
abbrev pub sites_in : Source → RawAtom → List Site
sites_in source atom = sites_from source (pred_types source (said source atom.name)) atom.nodes

abbrev pub sites_of : Source → List RawAtom → List Site
sites_of source atoms = flat_map (sites_in source) atoms

-- A variable by its name, and the name of the type that is wanted where it occurs.
pub record Wanted : Type 0 where
  pub name : List ℕ
  pub wants : List ℕ

-- the variables among terms, where so many blanks stand before them
abbrev pub wanted_from : Source → ℕ → List Site → List Wanted
wanted_from source blanks [] = []
wanted_from source blanks (site ∷ sites) =
    map (λ occurrence. record { name = occurrence.name; wants = site.wants }) (occurrence_at source blanks site.node.at site.node.kind)
    ++ wanted_from source (blanks_behind blanks site.node.kind) sites

-- the type that is wanted where a variable of these atoms occurs first
abbrev pub type_of : Source → List RawAtom → List ℕ → Option (List ℕ)
type_of source atoms name = option_map (λ wanted. wanted.wants) (find (λ wanted. bytes_eq wanted.name name) (wanted_from source 0 (sites_of source atoms)))

-- the atoms of a rule in written order, and those of a clause
abbrev pub rule_scope : RuleItem → List RawAtom
rule_scope rule = atoms_of rule.raw.left ++ atoms_of rule.raw.right

abbrev pub clause_scope : ClauseItem → List RawAtom
clause_scope clause = clause.head ∷ clause.goals

-- Atoms that share their variables: those of a rule, those of a clause, and each atom of a state by itself.
pub data IsScope (source : Source) (atoms : List RawAtom) : Type 0 where
  rule : (item : RuleItem) → Contains (rules_of source) item → atoms ≡ rule_scope item → IsScope source atoms
  clause : (item : ClauseItem) → Contains (clauses_of source) item → atoms ≡ clause_scope item → IsScope source atoms
  state : (atom : RawAtom) → Contains (state_atoms source) atom → atoms ≡ atom ∷ [] → IsScope source atoms

-- A term at a place that wants another type, case by case.
pub data Mistyped (source : Source) (fault : Fault) : Type 0 where
  -- a constructor makes a term of another type
  constructor : (atoms : List RawAtom) (site : Site) (con : ConItem) → IsScope source atoms → Contains (sites_of source atoms) site → site.node.kind ≡ kind.App → con_named source (said source site.node.at) ≡ Some con → said source con.sort ≢ site.wants → fault ≡ wrong TypeClash site.node.at.from → Mistyped source fault
  -- a variable occurs first where another type is wanted
  variable : (atoms : List RawAtom) (site : Site) (first : List ℕ) → IsScope source atoms → Contains (sites_of source atoms) site → site.node.kind ≡ kind.Var → type_of source atoms (said source site.node.at) ≡ Some first → first ≢ site.wants → fault ≡ wrong TypeClash site.node.at.from → Mistyped source fault
