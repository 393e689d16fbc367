-- Nodes are met one after another.
use Rattle.std.proofs.Common.{◌≡◌, ℕ, ◌+◌, ◌<◌, ◌≤◌, Bool, ◌||◌, List, [], ◌∷◌, ◌++◌, map, fold, length, take, drop, get_or, refl, ap, subst, ◌∙◌, append_assoc, arith, Option, None, false, sym, ◌≢◌, ⊎_elim, true, not, filter, Some}
use Rattle.std.specs.List.{list_any, flat_map, find}
use Rattle.std.specs.Str.{bytes_eq}
use Rattle.std.proofs.lemmas.List.{map-append, append-nil, take_more, drop_more, drop_all, take_all}
use Rattle.std.proofs.lemmas.List.Sums.{fold-append}
use Rattle.std.proofs.lemmas.Grind.{flat_map-append}
use Rattle.cep_parse.specs.declared.raw.Span.{Span}
use Rattle.cep_parse.specs.declared.raw.RawKind.{RawKind}
use Rattle.cep_parse.specs.declared.raw.RawNode.{RawNode}
use Rattle.cep_parse.specs.declared.raw.RawAtom.{RawAtom}
use Rattle.cep_source.specs.Items.{Source, said, ConItem, ContextItem, TraceItem, rules_of, clauses_of, contexts_of, traces_of}
use Rattle.cep_source.specs.Variables.{occurrence_at, blanks_behind, blanks_after}
use Rattle.cep_types.specs.Sites.{Site, Wanted, pred_types, sites_from, sites_in, wanted_from, sites_of, type_of, node_types, rule_scope, clause_scope, IsScope, Mistyped}
use Rattle.cep_types.specs.Met.{wanted_in, further, AreMet, type_met, is_variable_or_blank}
use Rattle.cep_source.specs.declared.variables.Variables.{Variables}
use Rattle.cep_base.specs.FirstNames.{has_name, added, under_name}
use Rattle.cep_source.specs.Met.{met_site, none_met}
use Rattle.std.specs.Option.{option_map}
use Rattle.cep_base.proofs.Bytes.{bytes_eq_sym, any_map}
use Rattle.cep_base.proofs.FirstNamed.{found, found_kept}
use Rattle.cep_refusal.specs.declared.fault.Fault.{Fault}
use Rattle.cep_refusal.specs.First.{standing, first_of, first_in, IsFirstOrNone, wrong}
use Rattle.cep_types.specs.Clashes.{type_at, clash_of, atom_clashes, scope_clashes, clash_if, state_clashes, rule_clashes, clause_clashes, context_clashes, trace_clashes, clashes_of}
use Rattle.cep_base.proofs.Foremost.{foremost_append, foremost_of_three, foremost_among, foremost_same}
use Rattle.cep_base.proofs.ForemostLoops.{foremost_parts}
use Rattle.std.proofs.lemmas.Bool.{or_parts}
use Rattle.std.proofs.lemmas.Slice.Eq.{bytes_eq-Decides}
use Rattle.cep_parse.specs.Raw.{start_listed}
use Rattle.cep_refusal.specs.declared.reason.Reason.TheVariants.{TypeClash}
use Rattle.cep_source.specs.Spaces.{con_named}
use Rattle.cep_source.specs.Uses.{stands_for_context, state_atoms}
use Rattle.cep_types.specs.Sites.IsScope.{rule, clause, state}
use Rattle.cep_types.specs.Sites.Mistyped.{constructor, variable}
use Rattle.cep_base.proofs.Members.{in_filter, from_filter, In, here, in_nil, in_one, in_left, in_right, in_parts, through, via, to_contains, from_contains, in_same}
use Rattle.cep_parse.specs.declared.raw.RawKind.TheVariants as kind

-- the nodes of terms
abbrev pub nodes_at : List Site → List RawNode
nodes_at sites = map (λ site. site.node) sites

-- where a variable occurs and what is wanted there
abbrev wanted_at : Source → ℕ → RawKind → Span → List ℕ → List Wanted
wanted_at source blanks kind at wants = map (λ occurrence. record { name = occurrence.name; wants = wants }) (occurrence_at source blanks at kind)

module _ (source : Source) where
  any_wanted : (name : List ℕ) (firsts : List (List ℕ × Span)) → has_name firsts name ≡ list_any (λ (other : Wanted). bytes_eq name other.name) (wanted_in source firsts)
  any_wanted name [] = refl
  any_wanted name (entry ∷ firsts) = ap (λ (rest : Bool). bytes_eq name entry.0 || rest) (any_wanted name firsts)

  added_wanted : (firsts : List (List ℕ × Span)) (name : List ℕ) (wants : Span) → wanted_in source (added firsts (name, wants)) ≡ further (wanted_in source firsts) (record { name = name; wants = said source wants })
  added_wanted firsts name wants = grind (arith, any_wanted, map-append)

  met_firsts : (old : Variables) (kind : RawKind) (at wants : Span) → wanted_in source (met_site source old kind at wants).firsts ≡ fold further (wanted_in source old.firsts) (wanted_at source old.blanks kind at (said source wants))
  met_firsts old kind at wants = grind (arith, added_wanted)

  met_blanks : (old : Variables) (kind : RawKind) (at wants : Span) → (met_site source old kind at wants).blanks ≡ blanks_behind old.blanks kind
  met_blanks old kind at wants = grind arith

-- From the start so much was met, and these are still to be met.
pub record IsMeeting (source : Source) (sites : List Site) (start now : Variables) (left : List Site) : Type 0 where
  pub firsts : fold further (wanted_in source start.firsts) (wanted_from source start.blanks sites) ≡ fold further (wanted_in source now.firsts) (wanted_from source now.blanks left)
  pub blanks : blanks_after start.blanks (nodes_at sites) ≡ blanks_after now.blanks (nodes_at left)

pub meeting_more : (source : Source) (sites : List Site) (start old new : Variables) (next later : List (List ℕ)) (nodes : List RawNode) (i : ℕ) (d : RawNode) (wants : Span) → i < length nodes
    → sites_from source next (get_or nodes i d ∷ drop (i + 1) nodes) ≡ record { node = get_or nodes i d; wants = said source wants } ∷ sites_from source later (drop (i + 1) nodes)
    → new ≡ met_site source old (get_or nodes i d).kind (get_or nodes i d).at wants
    → IsMeeting source sites start old (sites_from source next (drop i nodes)) → IsMeeting source sites start new (sites_from source later (drop (i + 1) nodes))
meeting_more source sites start old new next later nodes i d wants h site is was =
    let node = get_or nodes i d in
    let met = rw (drop_more nodes i d h, site) at was in
    grind (arith, met.firsts, met.blanks, is, fold-append further (wanted_in source old.firsts) (wanted_at source old.blanks node.kind node.at (said source wants)) (wanted_from source (blanks_behind old.blanks node.kind) (sites_from source later (drop (i + 1) nodes))), met_firsts source old node.kind node.at wants, met_blanks source old node.kind node.at wants)

pub no_sites : (source : Source) (next : List (List ℕ)) → sites_from source next [] ≡ []
no_sites source next = grind arith

-- all terms of an atom were met
pub meeting_over : (source : Source) (atom : RawAtom) (types : List (List ℕ)) (start now : Variables) (next : List (List ℕ)) (i : ℕ) → sites_from source types atom.nodes ≡ sites_in source atom → length atom.nodes ≤ i
    → IsMeeting source (sites_from source types atom.nodes) start now (sites_from source next (drop i atom.nodes)) → AreMet source (atom ∷ []) start now
meeting_over source atom types start now next i types_are over was =
    let met : IsMeeting source (sites_in source atom) start now [] = rw (drop_all i atom.nodes over, no_sites source next, types_are) at was in
    grind (arith, append-nil (sites_in source atom), met.firsts, met.blanks)

-- ---- atoms are met one after another

pub none_are_met : (source : Source) (now : Variables) → AreMet source [] now now
none_are_met source now = record { firsts = refl; blanks = refl }

pub wanted_both : (source : Source) (blanks : ℕ) (sites others : List Site) → wanted_from source blanks (sites ++ others) ≡ wanted_from source blanks sites ++ wanted_from source (blanks_after blanks (nodes_at sites)) others
wanted_both source blanks [] others = refl
wanted_both source blanks (site ∷ sites) others = grind (arith, wanted_both source (blanks_behind blanks site.node.kind) sites others, append_assoc)

pub blanks_both : (blanks : ℕ) (nodes others : List RawNode) → blanks_after blanks (nodes ++ others) ≡ blanks_after (blanks_after blanks nodes) others
blanks_both blanks [] others = refl
blanks_both blanks (node ∷ nodes) others = blanks_both (blanks_behind blanks node.kind) nodes others

pub both_are_met : (source : Source) (one two : List RawAtom) (start middle now : Variables) → AreMet source one start middle → AreMet source two middle now → AreMet source (one ++ two) start now
both_are_met source one two start middle now first second = grind (arith, flat_map-append, wanted_both, fold-append, blanks_both, map-append)

-- one more part of a loop
pub part_is_met : {X : Type 0} (source : Source) (g : X → List RawAtom) (xs : List X) (i : ℕ) (x : X) (start old new : Variables) → i < length xs → x ≡ get_or xs i x
    → AreMet source (flat_map g (take i xs)) start old → AreMet source (g x) old new → AreMet source (flat_map g (take (i + 1) xs)) start new
part_is_met source g xs i x start old new h at was is = rw (take_more xs i x h, flat_map-append g (take i xs) (get_or xs i x ∷ []), append-nil (g (get_or xs i x)), ← at) (both_are_met source (flat_map g (take i xs)) (g x) start old new was is)

pub atom_is_met : (source : Source) (xs : List RawAtom) (i : ℕ) (x : RawAtom) (start old new : Variables) → i < length xs → x ≡ get_or xs i x
    → AreMet source (take i xs) start old → AreMet source (x ∷ []) old new → AreMet source (take (i + 1) xs) start new
atom_is_met source xs i x start old new h at was is = rw (take_more xs i x h, ← at) (both_are_met source (take i xs) (x ∷ []) start old new was is)

-- The first term that is found of another type than is wanted is the first one that is mistyped.

-- What is met of a scope has the types that are wanted where its variables occur first.

abbrev name_of : Wanted → List ℕ
name_of w = w.name

-- ---- what is met of a scope

module _ (source : Source) (atoms : List RawAtom) (variables : Variables) (met : AreMet source atoms none_met variables) where
  abbrev all : List Wanted
  all = wanted_from source 0 (sites_of source atoms)

  under_found : (firsts_ : List (List ℕ × Span)) (name : List ℕ) → option_map (said source) (under_name firsts_ name) ≡ option_map (λ (w : Wanted). w.wants) (found name_of (wanted_in source firsts_) name)
  under_found (e ∷ firsts_) name = grind (arith, under_found firsts_ name, bytes_eq_sym, found)
  under_found firsts_ name = grind arith

  pub types_met : (name : List ℕ) → type_met source variables.firsts name ≡ type_of source atoms name
  types_met name = grind (arith, under_found variables.firsts name, met.firsts, found_kept name_of [] all name)

-- The first term of another type is found node by node, atom by atom.

pub first_none : (first : Option Fault) → first_of first None ≡ first
first_none first = grind arith

-- of two lists
pub both_found : (xs ys : List Fault) (one two both : Option Fault) → one ≡ first_in xs → two ≡ first_in ys → both ≡ first_of one two → both ≡ first_in (xs ++ ys)
both_found xs ys one two both is_one is_two is_both = is_both ∙ ap (λ o. first_of o two) is_one ∙ ap (first_of (first_in xs)) is_two ∙ sym (foremost_append standing xs ys)

-- what is found of all that is kept of one kind, where a loop over it has ended
pub all_found : {X Y : Type 0} (f : Y → List Fault) (of : X → Y) (xs : List X) (i : ℕ) (items : List Y) (first found : Option Fault) → length xs ≤ i → map of xs ≡ items → first ≡ first_in (flat_map f (map of (take i xs))) → found ≡ first → found ≡ first_in (flat_map f items)
all_found f of xs i items first found over are so_far is = rw (is, so_far, take_all i xs over, are) refl

-- one node more
pub clash_more : (source : Source) (f : Site → List Fault) (all : Option Fault) (nodes : List RawNode) (i : ℕ) (d : RawNode) (next later : List (List ℕ)) (wants : List ℕ) (old item new : Option Fault) → i < length nodes
    → sites_from source next (get_or nodes i d ∷ drop (i + 1) nodes) ≡ record { node = get_or nodes i d; wants = wants } ∷ sites_from source later (drop (i + 1) nodes)
    → all ≡ first_of old (first_in (flat_map f (sites_from source next (drop i nodes)))) → item ≡ first_in (f (record { node = get_or nodes i d; wants = wants })) → new ≡ first_of old item
    → all ≡ first_of new (first_in (flat_map f (sites_from source later (drop (i + 1) nodes))))
clash_more source f all nodes i d next later wants old item new h site was is_item is_new = grind (arith, drop_more nodes i d h, site, foremost_append standing (f (record { node = get_or nodes i d; wants = wants })) (flat_map f (sites_from source later (drop (i + 1) nodes))), foremost_of_three standing old (first_in (f (record { node = get_or nodes i d; wants = wants }))) (first_in (flat_map f (sites_from source later (drop (i + 1) nodes)))), was, is_item, is_new)

pub clash_over : (source : Source) (f : Site → List Fault) (all : Option Fault) (nodes : List RawNode) (i : ℕ) (next : List (List ℕ)) (old : Option Fault) → length nodes ≤ i
    → all ≡ first_of old (first_in (flat_map f (sites_from source next (drop i nodes)))) → old ≡ all
clash_over source f all nodes i next old h was = grind (arith, drop_all, no_sites, first_none)

-- the types may be told otherwise
module _ (source : Source) (f g : List ℕ → Option (List ℕ)) (same : (name : List ℕ) → f name ≡ g name) where
  type_same : (kind : RawKind) (at : Span) → type_at source f kind at ≡ type_at source g kind at
  type_same kind at = grind arith

  sites_same : (sites : List Site) → flat_map (clash_of source f) sites ≡ flat_map (clash_of source g) sites
  sites_same [] = refl
  sites_same (site ∷ sites) = rw (type_same site.node.kind site.node.at, sites_same sites) refl

  pub clashes_same : (atoms : List RawAtom) → flat_map (atom_clashes source f) atoms ≡ flat_map (atom_clashes source g) atoms
  clashes_same [] = refl
  clashes_same (atom ∷ atoms) = rw (sites_same (sites_in source atom), clashes_same atoms) refl

-- what is found of a scope with the types that were met
pub scope_found : (source : Source) (atoms : List RawAtom) (variables : Variables) → AreMet source atoms none_met variables → flat_map (atom_clashes source (type_met source variables.firsts)) atoms ≡ scope_clashes source atoms
scope_found source atoms variables met = clashes_same source (type_met source variables.firsts) (type_of source atoms) (types_met source atoms variables met) atoms

-- an atom without variables and blanks has no variables
none_wanted : (source : Source) (blanks : ℕ) (next : List (List ℕ)) (nodes : List RawNode) → list_any (λ (node : RawNode). is_variable_or_blank node.kind) nodes ≡ false → wanted_from source blanks (sites_from source next nodes) ≡ []
none_wanted source blanks (wants ∷ next) (node ∷ nodes) none = grind (arith, none_wanted source (blanks_behind blanks node.kind) (node_types source node.kind node.at ++ next) nodes)
none_wanted source blanks next nodes none = grind arith

none_blank : (source : Source) (blanks : ℕ) (next : List (List ℕ)) (nodes : List RawNode) → list_any (λ (node : RawNode). is_variable_or_blank node.kind) nodes ≡ false
    → blanks_after blanks (map (λ (site : Site). site.node) (sites_from source next nodes)) ≡ blanks
none_blank source blanks (wants ∷ next) (node ∷ nodes) none = grind (arith, none_blank source (blanks_behind blanks node.kind) (node_types source node.kind node.at ++ next) nodes)
none_blank source blanks next nodes none = grind arith

pub closed_met : (source : Source) (atom : RawAtom) (variables : Variables) → list_any (λ (node : RawNode). is_variable_or_blank node.kind) atom.nodes ≡ false → AreMet source (atom ∷ []) variables variables
closed_met source atom variables closed =
    let types = pred_types source (said source atom.name) in
    record {
      firsts = rw (append-nil (sites_in source atom), none_wanted source variables.blanks types atom.nodes closed) refl;
      blanks = rw (append-nil (sites_in source atom), none_blank source variables.blanks types atom.nodes closed) refl;
    }

-- clashes of one part and of two
pub one_found : (source : Source) (atom : RawAtom) (start variables : Variables) → start ≡ none_met → AreMet source (atom ∷ []) start variables → atom_clashes source (type_met source variables.firsts) atom ≡ scope_clashes source (atom ∷ [])
one_found source atom start variables is met = sym (append-nil (atom_clashes source (type_met source variables.firsts) atom)) ∙ scope_found source (atom ∷ []) variables (subst (λ (v : Variables). AreMet source (atom ∷ []) v variables) is met)

pub two_found : (source : Source) (one two : List RawAtom) (variables : Variables) (first other both : Option Fault) → AreMet source (one ++ two) none_met variables
    → first ≡ first_in (flat_map (atom_clashes source (type_met source variables.firsts)) one) → other ≡ first_in (flat_map (atom_clashes source (type_met source variables.firsts)) two) → both ≡ first_of first other
    → both ≡ first_in (scope_clashes source (one ++ two))
two_found source one two variables first other both met first_is other_is both_is = rw (both_is, first_is, other_is, ← foremost_parts standing (atom_clashes source (type_met source variables.firsts)) one two, scope_found source (one ++ two) variables met) refl

-- A type that is there is not the one that is wanted.
record Clash (is : Option (List ℕ)) (wants : List ℕ) (at : ℕ) (fault : Fault) : Type 0 where
  first : List ℕ
  is_first : is ≡ Some first
  apart : first ≢ wants
  fault_is : fault ≡ wrong TypeClash at

clash_is : (is : Option (List ℕ)) (wants : List ℕ) (at : ℕ) (fault : Fault) → In (clash_if is wants at) fault → Clash is wants at fault
clash_is is wants at fault h = grind (arith, in_nil, bytes_eq-Decides, in_one)

clash_there : (is : Option (List ℕ)) (first wants : List ℕ) (at : ℕ) (fault : Fault) → is ≡ Some first → first ≢ wants → fault ≡ wrong TypeClash at → In (clash_if is wants at) fault
clash_there is first wants at fault is_first apart fault_is = rw (is_first, fault_is) (grind (arith, bytes_eq-Decides first wants, here (wrong TypeClash at) []))

-- ---- atoms of states

abbrev plain : Source → TraceItem → List RawAtom
plain source trace = filter (λ atom. not (stands_for_context source atom)) (start_listed trace.start)

abbrev context_atoms : Source → List RawAtom
context_atoms source = flat_map (λ (context : ContextItem). context.atoms) (contexts_of source)

abbrev trace_atoms : Source → List RawAtom
trace_atoms source = flat_map (plain source) (traces_of source)

found_none : {X : Type 0} (p : X → Bool) (xs : List X) → list_any p xs ≡ false → find p xs ≡ None
found_none p [] e = refl
found_none p (x ∷ xs) e = let both = or_parts (p x) (list_any p xs) e in rw both.0 (found_none p xs both.1)

-- what stands for a context has no predicate, so no types are wanted of its terms
no_terms : (source : Source) (atom : RawAtom) → stands_for_context source atom ≡ true → sites_in source atom ≡ []
no_terms source atom stands = grind (arith, found_none, any_map)

module _ (source : Source) (fault : Fault) where
  no_clash : (atom : RawAtom) → stands_for_context source atom ≡ true → In (scope_clashes source (atom ∷ [])) fault → ⊥
  no_clash atom stands h = grind (arith, through, in_one, no_terms, in_nil, in_same)

  -- ---- what is found is mistyped

  con_sound : (atoms : List RawAtom) (site : Site) (con : Option ConItem) → IsScope source atoms → In (sites_of source atoms) site → site.node.kind ≡ kind.App → con_named source (said source site.node.at) ≡ con
      → In (clash_if (option_map (λ con. said source con.sort) con) site.wants site.node.at.from) fault → Mistyped source fault
  con_sound atoms site None scope within shape is h = absurd (in_nil fault h)
  con_sound atoms site (Some con) scope within shape is h =
      let clash = clash_is (Some (said source con.sort)) site.wants site.node.at.from fault h in
      constructor atoms site con scope (to_contains (sites_of source atoms) site within) shape is (grind (arith, clash.apart, clash.is_first)) clash.fault_is

  site_sound : (atoms : List RawAtom) (site : Site) (shape : RawKind) → IsScope source atoms → In (sites_of source atoms) site → site.node.kind ≡ shape
      → In (clash_if (type_at source (type_of source atoms) shape site.node.at) site.wants site.node.at.from) fault → Mistyped source fault
  site_sound atoms site kind.App scope within is h = con_sound atoms site (con_named source (said source site.node.at)) scope within is refl h
  site_sound atoms site kind.Var scope within is h =
      let clash = clash_is (type_of source atoms (said source site.node.at)) site.wants site.node.at.from fault h in
      variable atoms site clash.first scope (to_contains (sites_of source atoms) site within) is clash.is_first clash.apart clash.fault_is
  site_sound atoms site kind.Blank scope within is h = absurd (in_nil fault h)

  scope_sound : (atoms : List RawAtom) → IsScope source atoms → In (scope_clashes source atoms) fault → Mistyped source fault
  scope_sound atoms scope h =
      let atom = through (atom_clashes source (type_of source atoms)) atoms fault h in
      let site = through (clash_of source (type_of source atoms)) (sites_in source atom.from) fault atom.given in
      site_sound atoms site.from site.from.node.kind scope (via (sites_in source) atoms atom.from site.from atom.member site.member) refl site.given

  states_sound : (atoms : List RawAtom) → ((atom : RawAtom) → In atoms atom → In (scope_clashes source (atom ∷ [])) fault → IsScope source (atom ∷ [])) → In (state_clashes source atoms) fault → Mistyped source fault
  states_sound atoms are h = let atom = through (λ atom. scope_clashes source (atom ∷ [])) atoms fault h in scope_sound (atom.from ∷ []) (are atom.from atom.member atom.given) atom.given

  context_scope : (context : ContextItem) (atom : RawAtom) → In (contexts_of source) context → In context.atoms atom → IsScope source (atom ∷ [])
  context_scope context atom member h = state atom (to_contains (state_atoms source) atom (in_left (context_atoms source) (trace_atoms source) atom (via (λ context. context.atoms) (contexts_of source) context atom member h))) refl

  -- an atom in braces stands for itself, or has no terms
  trace_scope : (trace : TraceItem) (atom : RawAtom) → In (traces_of source) trace → In (start_listed trace.start) atom → In (scope_clashes source (atom ∷ [])) fault → IsScope source (atom ∷ [])
  trace_scope trace atom member h clash =
      let plain_is : stands_for_context source atom ≡ false = grind (arith, no_clash atom) in
      state atom (to_contains (state_atoms source) atom (in_right (context_atoms source) (trace_atoms source) atom (via (plain source) (traces_of source) trace atom member (in_filter (λ a. not (stands_for_context source a)) (start_listed trace.start) atom h (ap not plain_is))))) refl

  sound : In (clashes_of source) fault → Mistyped source fault
  sound h = ⊎_elim
      (λ a. ⊎_elim
      (λ b. let rule_ = through (λ item. scope_clashes source (rule_scope item)) (rules_of source) fault b in scope_sound (rule_scope rule_.from) (rule rule_.from (to_contains (rules_of source) rule_.from rule_.member) refl) rule_.given)
      (λ b. let clause_ = through (λ item. scope_clashes source (clause_scope item)) (clauses_of source) fault b in scope_sound (clause_scope clause_.from) (clause clause_.from (to_contains (clauses_of source) clause_.from clause_.member) refl) clause_.given)
      (in_parts (rule_clashes source) (clause_clashes source) fault a))
      (λ a. ⊎_elim
      (λ b. let context = through (λ item. state_clashes source item.atoms) (contexts_of source) fault b in states_sound context.from.atoms (λ atom m _. context_scope context.from atom context.member m) context.given)
      (λ b. let trace = through (λ item. state_clashes source (start_listed item.start)) (traces_of source) fault b in states_sound (start_listed trace.from.start) (λ atom m clash. trace_scope trace.from atom trace.member m clash) trace.given)
      (in_parts (context_clashes source) (trace_clashes source) fault a))
      (in_parts (rule_clashes source ++ clause_clashes source) (context_clashes source ++ trace_clashes source) fault h)

  -- ---- and what is mistyped is found

  site_found : (atoms : List RawAtom) (site : Site) → In (sites_of source atoms) site → In (clash_of source (type_of source atoms) site) fault → In (scope_clashes source atoms) fault
  site_found atoms site within h = grind (arith, through, via)

  state_among : (atom : RawAtom) → In (state_atoms source) atom → In (scope_clashes source (atom ∷ [])) fault → In (context_clashes source ++ trace_clashes source) fault
  state_among atom member h = grind (arith, through, in_left, via, plain source, in_right, from_filter, in_parts (context_atoms source) (trace_atoms source) atom member, context_atoms source, trace_atoms source)

  scope_among : (atoms : List RawAtom) → IsScope source atoms → In (scope_clashes source atoms) fault → In (clashes_of source) fault
  scope_among atoms (rule item within is) h = grind (arith, in_left, via, from_contains (rules_of source) item within)
  scope_among atoms (clause item within is) h = grind (arith, in_left, in_right, via, from_contains (clauses_of source) item within)
  scope_among atoms (state atom within is) h = grind (arith, in_right, state_among, from_contains (state_atoms source) atom within)

  complete : Mistyped source fault → In (clashes_of source) fault
  complete (constructor atoms site con scope within shape is apart fault_is) =
      scope_among atoms scope (site_found atoms site (from_contains (sites_of source atoms) site within)
      (clash_there (type_at source (type_of source atoms) site.node.kind site.node.at) (said source con.sort) site.wants site.node.at.from fault (rw (shape, is) refl) apart fault_is))
  complete (variable atoms site first scope within shape is apart fault_is) =
      scope_among atoms scope (site_found atoms site (from_contains (sites_of source atoms) site within)
      (clash_there (type_at source (type_of source atoms) site.node.kind site.node.at) first site.wants site.node.at.from fault (rw shape is) apart fault_is))

-- the first one
pub first_mistyped : (source : Source) (first : Option Fault) → first ≡ first_in (clashes_of source) → IsFirstOrNone (Mistyped source) first
first_mistyped source first is = rw is (foremost_same standing _ (Mistyped source) (first_in (clashes_of source))
    (λ fault h. sound source fault (from_contains (clashes_of source) fault h))
    (λ fault h. to_contains (clashes_of source) fault (complete source fault h)) (foremost_among standing (clashes_of source)))
