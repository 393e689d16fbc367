-- Private.
-- The terms of atoms that share their variables, which are of another type than is wanted, one after another.
use Rattle.std.specs.Prelude.{ℕ, List, [], ◌∷◌, ◌++◌, Option, Some, None, if◌then◌else◌}
use Rattle.std.specs.Option.{option_map}
use Rattle.std.specs.Str.{bytes_eq}
use Rattle.std.specs.List.{flat_map}
use Rattle.cep_parse.specs.declared.raw.Span.{Span}
use Rattle.cep_parse.specs.declared.raw.RawKind.{RawKind}
use Rattle.cep_parse.specs.declared.raw.RawKind.TheVariants as kind
use Rattle.cep_parse.specs.declared.raw.RawAtom.{RawAtom}
use Rattle.cep_refusal.specs.declared.fault.Fault.{Fault}
use Rattle.cep_refusal.specs.declared.reason.Reason.TheVariants.{TypeClash}
use Rattle.cep_source.specs.Items.{Source, said, rules_of, clauses_of, contexts_of, traces_of}
use Rattle.cep_source.specs.Spaces.{con_named}
use Rattle.cep_parse.specs.Raw.{start_listed}
use Rattle.cep_refusal.specs.First.{wrong}
use Rattle.cep_types.specs.Sites.{Site, sites_in, type_of, rule_scope, clause_scope}

-- the type of the term at a node, as variables have types
abbrev pub type_at : Source → (List ℕ → Option (List ℕ)) → RawKind → Span → Option (List ℕ)
type_at source type_under kind.App span = option_map (λ con. said source con.sort) (con_named source (said source span))
type_at source type_under kind.Var span = type_under (said source span)
type_at source type_under kind.Blank span = None

-- the fault of a term of this type where that one is wanted
abbrev pub clash_if : Option (List ℕ) → List ℕ → ℕ → List Fault
clash_if None wants at = []
clash_if (Some is) wants at = if bytes_eq is wants then [] else wrong TypeClash at ∷ []

abbrev pub clash_of : Source → (List ℕ → Option (List ℕ)) → Site → List Fault
clash_of source type_under site = clash_if (type_at source type_under site.node.kind site.node.at) site.wants site.node.at.from

-- the faults of atoms that share their variables
abbrev pub atom_clashes : Source → (List ℕ → Option (List ℕ)) → RawAtom → List Fault
atom_clashes source type_under atom = flat_map (clash_of source type_under) (sites_in source atom)

abbrev pub scope_clashes : Source → List RawAtom → List Fault
scope_clashes source atoms = flat_map (atom_clashes source (type_of source atoms)) atoms

-- the faults of atoms of states, each of which has variables of its own
abbrev pub state_clashes : Source → List RawAtom → List Fault
state_clashes source atoms = flat_map (λ atom. scope_clashes source (atom ∷ [])) atoms

-- those of all rules and clauses, and of all contexts and traces
abbrev pub rule_clashes : Source → List Fault
rule_clashes source = flat_map (λ rule. scope_clashes source (rule_scope rule)) (rules_of source)

abbrev pub clause_clashes : Source → List Fault
clause_clashes source = flat_map (λ clause. scope_clashes source (clause_scope clause)) (clauses_of source)

abbrev pub context_clashes : Source → List Fault
context_clashes source = flat_map (λ context. state_clashes source context.atoms) (contexts_of source)

abbrev pub trace_clashes : Source → List Fault
trace_clashes source = flat_map (λ trace. state_clashes source (start_listed trace.start)) (traces_of source)

-- all of them
abbrev pub clashes_of : Source → List Fault
clashes_of source = (rule_clashes source ++ clause_clashes source) ++ (context_clashes source ++ trace_clashes source)
