-- What the rules of a text keep: types, predicates, limits, and where their variables get values.
use Rattle.std.proofs.Common.{◌≡◌, ◌⊎◌, ⊎_elim, ◌<◌, ◌≤◌, ◌^◌, Bool, true, false, not, List, length, refl, sym, ap, subst, ◌∙◌, arith, Contains, length-append, ℕ, suc, ◌+◌, [], ◌∷◌, ◌++◌, map, inl, inr, filter, append_assoc, ◌||◌}
use Rattle.std.proofs.lemmas.List.{length-map}
use Rattle.std.specs.Prelude.{Option, Some, unwrap_or, codes, decimal, slice_get, cond}
use Rattle.std.specs.Option.{option_map}
use Rattle.std.specs.Char.{is_ascii_uppercase}
use Rattle.cep_base.specs.declared.kind.PredKind.{PredKind}
use Rattle.cep_base.specs.Kinds.{is_backward, is_of_facts}
use Rattle.cep_parse.specs.declared.raw.RawKind.{RawKind}
use Rattle.cep_parse.specs.declared.raw.Span.{Span}
use Rattle.cep_parse.specs.declared.raw.RawNode.{RawNode}
use Rattle.cep_parse.specs.declared.raw.RawAtom.{RawAtom}
use Rattle.cep_parse.specs.Written.{IsAtomOf, IsWrittenAt}
use Rattle.cep_lex.specs.declared.token.Token.{Token}
use Rattle.cep_rule.specs.Names.{IsWord, IsVariableName}
use Rattle.cep_refusal.specs.declared.reason.Reason.TheVariants.{OverLimit, BwdInState, LinearInClause}
use Rattle.cep_source.specs.Items.{Source, RuleItem, ClauseItem, PredItem, said, rules_of, clauses_of, ConItem, sorts_of, cons_of, preds_of}
use Rattle.cep_source.specs.Spaces.{kind_of, named, is_in, con_named, pred_named}
use Rattle.cep_parse.specs.Raw.{atoms_of, raw_nodes}
use Rattle.cep_source.specs.Uses.{made_atoms, clause_atoms, atoms_written, state_atoms}
use Rattle.cep_refusal.specs.First.{wrong}
use Rattle.cep_faults.specs.Premises.{state_premises_of, backward_of}
use Rattle.cep_faults.specs.Misnamed.Misnamed.{over, backward_in_state, linear_in_clause}
use Rattle.cep_faults.specs.Limits.{IsOver as overs}
use Rattle.cep_types.specs.Sites.{Site, sites_of, IsScope, rule_scope, clause_scope, IsScope as scopes, Wanted, pred_types, node_types, sites_from, sites_in, wanted_from, type_of}
use Rattle.cep_infer.specs.Shapes.{IsSource}
use Rattle.cep_ground.specs.Texts.{IsClean}
use Rattle.cep_base.proofs.Elements.{both_all, contains_either, contains_map, flat_cases, all_at, contains_none, contains_first, contains_behind, contains_cases, contains_left, contains_right, contains_flat, map_cases, all_of, contains_at}
use Rattle.cep_infer.proofs.RulesInTurn.{made_there, clause_there, rule_written, clause_written}
use Rattle.cep_ground.proofs.NameLaws.{all_unmap, all_passing, there_within, not_otherwise, pred_known, known, at_most, filters_cover, nodes_few, all_map, variable_word, tokens_few, variable_is, any_found, found_in, AreWords, wanted_names, is_any, firsts_there, number_within, IsFound, filter_keeps, all_filter, any_is, nodes_at, wanted_both, located}
use Rattle.cep_ground.proofs.Scopes.{IsHere, scope_nodes, typed_atoms}
use Rattle.std.proofs.lemmas.Fmt.{length-decimal-le}
use Rattle.std.specs.Str.{bytes_eq}
use Rattle.std.specs.List.{AllByRecursion, flat_map, list_any}
use Rattle.cep_source.specs.Variables.{Occurrence, occurrence_at, blanks_behind, occurrences_from, occurrences_of, variables_of, firsts_beside, blanks_after}
use Rattle.cep_types.specs.Heads.{number_of, var, variable_of, head_at, heads_from}
use Rattle.cep_infer.specs.Meaning.{names_of, kinds_of, is_back, ArePremisesBy, IsRuleBy, IsClauseBy, pred_by, is_fact_by, signature_of}
use Rattle.std.proofs.lemmas.Grind.{flat_map-append}
use Rattle.cep_parse.specs.declared.raw.RawElem.{RawElem}
use Rattle.cep_term.specs.Tree.{AtomTree, OccursIn, atom_nodes}
use Rattle.cep_rule.specs.declared.rule.Rule.{Rule}
use Rattle.cep_rule.specs.Patterns.{PremiseTree, ClauseTree}
use Rattle.cep_rule.specs.Binding.{OccursInSome, IsBoundRule, IsBoundClause, needed_of}
use Rattle.cep_infer.specs.Heads.{IsAtomBy, AreAtomsBy}
use Rattle.cep_infer.specs.Places.{unbound_of}
use Rattle.cep_ground.proofs.OneAnswer.{terms_occur, terms_nodes, fact_by}
use Rattle.cep_ground.proofs.EarliestPlaces.{firsts_append, variable_at}
use Rattle.std.proofs.lemmas.Option.{slice_get-map}
use Rattle.cep_base.specs.declared.kind.PredKind.TheVariants.{Back}
use Rattle.cep_rule.specs.Typing.{IsTyped, HasStatePredicate, IsBackward, is_fact}
use Rattle.cep_rule.specs.Program.{IsTypedRule, IsDividedRule, IsTypedClause, IsDividedClause}
use Rattle.cep_source.specs.Starts.{is_of_fact}
pub use Rattle.cep_base.proofs.Lists.{all_weaker as all_follow}
use Rattle.cep_parse.specs.declared.raw.RawKind.TheVariants as kind
use Rattle.cep_source.specs.declared.space.Space.TheVariants as space
use Rattle.cep_parse.specs.declared.raw.RawElem.TheVariants as elem

-- The atoms of rules and clauses: they stand in the file, and there are not too many.

-- what the law of atoms says of a source
abbrev pub AtomsMade : Source → Type 0
AtomsMade source = (is : IsSource source) (raw : RawAtom) → Contains (atoms_written source) raw → IsAtomOf is.tokens raw

-- whether a predicate of this kind, if it is declared, is of states, and whether clauses define it
abbrev pub may_be_state : Option PredKind → Bool
may_be_state found = unwrap_or (option_map (λ its. not (is_backward its)) found) false

abbrev pub may_be_backward : Option PredKind → Bool
may_be_backward found = unwrap_or (option_map is_backward found) false

module _ (source : Source) (clean : IsClean source) (made : AtomsMade source) where
  pub atom_of_tokens : (raw : RawAtom) → Contains (atoms_written source) raw → IsAtomOf clean.is_source.tokens raw
  atom_of_tokens raw there = made clean.is_source raw there

  pub here_at : (raw : RawAtom) → Contains (atoms_written source) raw → IsHere source raw
  here_at raw there = record { there = there; filled = (atom_of_tokens raw there).filled }

  -- the nodes of an atom are no more than the bytes of a text may be
  pub nodes_short : (raw : RawAtom) → IsHere source raw → length raw.nodes < 1048576
  nodes_short raw here = omega (arith, (atom_of_tokens raw here.there).few, tokens_few source clean.is_source, clean.short)

  -- Atoms of a rule or a clause.
  pub record AreHere (atoms : List RawAtom) : Type 0 where
    pub scope : IsScope source atoms
    pub here : (raw : RawAtom) → Contains atoms raw → IsHere source raw
    pub few : length atoms ≤ 4096

  node_word : (tokens : List Token) (is : IsSource source) (shape : RawKind) (at : Span) → tokens ≡ is.tokens → IsWrittenAt tokens shape at → shape ≡ kind.Var → IsWord is_ascii_uppercase (said source at)
  node_word tokens is shape at same node shaped = grind (arith, variable_word)

  pub words : (atoms : List RawAtom) → AreHere atoms → AreWords source (sites_of source atoms)
  words atoms are site there shaped =
      let whole = scope_nodes source clean.names atoms are.here in
      let node : Contains (raw_nodes atoms) site.node = subst (λ ns. Contains ns site.node) whole (contains_map (λ (s : Site). s.node) (sites_of source atoms) site there) in
      let from = flat_cases (λ (atom : RawAtom). atom.nodes) atoms site.node node in
      let is = atom_of_tokens from.from (are.here from.from from.there).there in
      node_word clean.is_source.tokens clean.is_source site.node.kind site.node.at refl (all_at (λ (n : RawNode). IsWrittenAt clean.is_source.tokens n.kind n.at) from.from.nodes site.node is.nodes from.inside) shaped

  -- the terms are not too many to be numbered
  pub short : (atoms : List RawAtom) → AreHere atoms → length (sites_of source atoms) < 2 ^ 64
  short atoms are =
      let whole = scope_nodes source clean.names atoms are.here in
      let size = length-map (sites_of source atoms) (λ (s : Site). s.node) in
      omega (arith, (sym size ∙ ap length whole), (nodes_few atoms (λ raw there. let s = nodes_short raw (are.here raw there) in omega (arith, s))), are.few)

  -- the atoms of a left side stand in the file, and those of a right side
  pub left_here : (rule : RuleItem) → Contains (rules_of source) rule → (raw : RawAtom) → Contains (atoms_of rule.raw.left) raw → IsHere source raw
  left_here rule there raw inside = here_at raw (rule_written source rule there raw (contains_left (atoms_of rule.raw.left) _ raw inside))

  pub right_here : (rule : RuleItem) → Contains (rules_of source) rule → (raw : RawAtom) → Contains (atoms_of rule.raw.right) raw → IsHere source raw
  right_here rule there raw inside = here_at raw (rule_written source rule there raw (contains_right (atoms_of rule.raw.left) _ raw inside))

  either_kind : (its : PredKind) → (may_be_state (Some its) ≡ true) ⊎ (may_be_backward (Some its) ≡ true)
  either_kind its = grind arith

  -- an atom's predicate is of some kind
  pub kind_known : (raw : RawAtom) (here : IsHere source raw) → kind_of source raw ≡ Some (pred_known source raw clean.names here.there).pred.kind
  kind_known raw here = ap (option_map (λ (pred : PredItem). pred.kind)) (pred_known source raw clean.names here.there).found

  pub linear_few : (rule : RuleItem) → Contains (rules_of source) rule → length (state_premises_of source rule.raw) ≤ 16
  linear_few rule there = at_most (state_premises_of source rule.raw) 16 (λ atom found. clean.names (wrong OverLimit atom.name.from) (over atom.name.from (overs.premise rule atom there found refl) refl))

  pub back_few : (rule : RuleItem) → Contains (rules_of source) rule → length (backward_of source rule.raw) ≤ 8
  back_few rule there = at_most (backward_of source rule.raw) 8 (λ atom found. clean.names (wrong OverLimit atom.name.from) (over atom.name.from (overs.back rule atom there found refl) refl))

  pub right_few : (rule : RuleItem) → Contains (rules_of source) rule → length (atoms_of rule.raw.right) ≤ 32
  right_few rule there = at_most (atoms_of rule.raw.right) 32 (λ atom found. clean.names (wrong OverLimit atom.name.from) (over atom.name.from (overs.right rule atom there found refl) refl))

  pub goals_few : (clause : ClauseItem) → Contains (clauses_of source) clause → length clause.goals ≤ 8
  goals_few clause there = at_most clause.goals 8 (λ atom found. clean.names (wrong OverLimit atom.name.from) (over atom.name.from (overs.goal clause atom there found refl) refl))

  left_few : (rule : RuleItem) → Contains (rules_of source) rule → length (atoms_of rule.raw.left) ≤ 24
  left_few rule there =
      let cover = filters_cover (λ atom. may_be_state (kind_of source atom)) (λ atom. may_be_backward (kind_of source atom)) (atoms_of rule.raw.left)
      (λ raw inside.
      let here = left_here rule there raw inside in
      subst (λ found. (may_be_state found ≡ true) ⊎ (may_be_backward found ≡ true)) (sym (kind_known raw here)) (either_kind (pred_known source raw clean.names here.there).pred.kind)) in
      omega (arith, cover, (linear_few rule there), (back_few rule there))

  pub rule_here : (rule : RuleItem) → Contains (rules_of source) rule → AreHere (rule_scope rule)
  rule_here rule there = record {
    scope = scopes.rule rule there refl;
    here = λ raw inside. here_at raw (rule_written source rule there raw inside);
    few = let e = length-append (atoms_of rule.raw.left) (atoms_of rule.raw.right) in let l = left_few rule there in let r = right_few rule there in omega (arith, e, l, r);
  }

  pub clause_here : (clause : ClauseItem) → Contains (clauses_of source) clause → AreHere (clause_scope clause)
  clause_here clause there = record {
    scope = scopes.clause clause there refl;
    here = λ raw inside. here_at raw (clause_written source clause there raw inside);
    few = let g = goals_few clause there in omega (arith, g);
  }

-- The names and the types of variables.

module _ (source : Source) (clean : IsClean source) (made : AtomsMade source) where
  -- a name that is in a space has a number there
  pub in_range : (name : List ℕ) → is_in source space.Sorts name ≡ true → number_of source space.Sorts name < length (sorts_of source)
  in_range name is = omega (arith, number_within source space.Sorts name is, length-map (sorts_of source) (named source))

  -- the types that declarations name are declared
  con_type_known : (con : ConItem) (span : Span) → Contains (cons_of source) con → Contains (con.args ++ con.sort ∷ []) span → is_in source space.Sorts (said source span) ≡ true
  con_type_known con span there inside =
      known source space.Sorts span clean.names
      (contains_right (flat_map (λ (pred : PredItem). pred.args) (preds_of source)) _ span (contains_flat (λ (one : ConItem). one.args ++ one.sort ∷ []) (cons_of source) con span there inside))

  con_arg_known : (con : ConItem) (span : Span) → Contains (cons_of source) con → Contains con.args span → is_in source space.Sorts (said source span) ≡ true
  con_arg_known con span there inside = con_type_known con span there (contains_left con.args _ span inside)

  pub con_sort_known : (con : ConItem) → Contains (cons_of source) con → is_in source space.Sorts (said source con.sort) ≡ true
  con_sort_known con there = con_type_known con con.sort there (contains_right con.args _ con.sort (contains_first con.sort []))

  pred_arg_known : (pred : PredItem) (span : Span) → Contains (preds_of source) pred → Contains pred.args span → is_in source space.Sorts (said source span) ≡ true
  pred_arg_known pred span there inside = rw (known source space.Sorts span clean.names (contains_left (flat_map (λ (one : PredItem). one.args) (preds_of source)) _ span (contains_flat (λ (one : PredItem). one.args) (preds_of source) pred span there inside)))

  pub con_args_known : (con : ConItem) → Contains (cons_of source) con → AllByRecursion (λ name. is_in source space.Sorts name ≡ true) (map (said source) con.args)
  con_args_known con there = all_map (λ name. is_in source space.Sorts name ≡ true) (said source) con.args (all_of (λ span. is_in source space.Sorts (said source span) ≡ true) con.args (λ span inside. con_arg_known con span there inside))

  pub pred_args_known : (pred : PredItem) → Contains (preds_of source) pred → AllByRecursion (λ name. is_in source space.Sorts name ≡ true) (map (said source) pred.args)
  pred_args_known pred there = all_map (λ name. is_in source space.Sorts name ≡ true) (said source) pred.args (all_of (λ span. is_in source space.Sorts (said source span) ≡ true) pred.args (λ span inside. pred_arg_known pred span there inside))

  -- all types that are wanted are declared
  abbrev AreTypes : List (List ℕ) → Type 0
  AreTypes types = AllByRecursion (λ name. is_in source space.Sorts name ≡ true) types

  con_types_known : (found : Option ConItem) (name : List ℕ) → con_named source name ≡ found → AreTypes (map (said source) (unwrap_or (option_map (λ (con : ConItem). con.args) found) []))
  con_types_known found name is = grind (arith, con_args_known, found_in)

  node_types_known : (shape : RawKind) (at : Span) → AreTypes (node_types source shape at)
  node_types_known shape at = grind (arith, con_types_known)

  pred_types_by : (found : Option PredItem) (name : List ℕ) → pred_named source name ≡ found → AreTypes (map (said source) (unwrap_or (option_map (λ (pred : PredItem). pred.args) found) []))
  pred_types_by found name is = grind (arith, pred_args_known, found_in)

  pred_types_known : (name : List ℕ) → AreTypes (pred_types source name)
  pred_types_known name = pred_types_by (pred_named source name) name refl

  sites_known : (types : List (List ℕ)) (nodes : List RawNode) → AreTypes types → AllByRecursion (λ (site : Site). is_in source space.Sorts site.wants ≡ true) (sites_from source types nodes)
  sites_known (wants ∷ next) (first ∷ nodes) all = (all.0, sites_known (node_types source first.kind first.at ++ next) nodes (both_all (λ name. is_in source space.Sorts name ≡ true) (node_types source first.kind first.at) next (node_types_known first.kind first.at) all.1))
  sites_known types nodes all = tt

  atom_sites_known : (atoms : List RawAtom) (site : Site) → Contains (sites_of source atoms) site → is_in source space.Sorts site.wants ≡ true
  atom_sites_known atoms site there =
      let from = flat_cases (sites_in source) atoms site there in
      all_at (λ (s : Site). is_in source space.Sorts s.wants ≡ true) (sites_in source from.from) site
      (sites_known (pred_types source (said source from.from.name)) from.from.nodes (pred_types_known (said source from.from.name))) from.inside

  wanted_known : (blanks : ℕ) (sites : List Site) (w : Wanted) → ((site : Site) → Contains sites site → is_in source space.Sorts site.wants ≡ true) → Contains (wanted_from source blanks sites) w → is_in source space.Sorts w.wants ≡ true
  wanted_known blanks [] w all there = absurd (contains_none w there)
  wanted_known blanks (site ∷ sites) w all there =
      ⊎_elim
      (λ here. let from = map_cases (λ (o : Occurrence). record { name = o.name; wants = site.wants }) (occurrence_at source blanks site.node.at site.node.kind) w here in
      subst (λ (v : Wanted). is_in source space.Sorts v.wants ≡ true) from.same (all site (contains_first site sites)))
      (λ later. wanted_known (blanks_behind blanks site.node.kind) sites w (λ other in_. all other (contains_behind site sites other in_)) later)
      (contains_either (map (λ (o : Occurrence). record { name = o.name; wants = site.wants }) (occurrence_at source blanks site.node.at site.node.kind)) (wanted_from source (blanks_behind blanks site.node.kind) sites) w there)

  -- the type of each variable of the atoms is declared
  kind_in_range : (atoms : List RawAtom) → AreHere source clean made atoms → (o : Occurrence) → Contains (variables_of source atoms) o → number_of source space.Sorts (unwrap_or (type_of source atoms o.name) []) < length (sorts_of source)
  kind_in_range atoms are o there =
      let names_are = wanted_names source 0 (sites_of source atoms) ∙ ap (λ ns. map (λ (o : Occurrence). o.name) (occurrences_from source 0 ns)) (scope_nodes source clean.names atoms are.here) in
      let occurs = firsts_there [] (occurrences_of source atoms) o there in
      let named_ : Contains (map (λ (w : Wanted). w.name) (wanted_from source 0 (sites_of source atoms))) o.name = subst (λ ns. Contains ns o.name) (sym names_are) (contains_map (λ (o : Occurrence). o.name) (occurrences_of source atoms) o occurs) in
      let found = any_found (λ (w : Wanted). w.name) (λ name. bytes_eq name o.name) (wanted_from source 0 (sites_of source atoms)) (is_any _ o.name named_) in
      let inside = (found_in (λ (w : Wanted). bytes_eq w.name o.name) (wanted_from source 0 (sites_of source atoms)) found.it found.found_is).there in
      subst (λ f. number_of source space.Sorts (unwrap_or f []) < length (sorts_of source)) (sym (ap (option_map (λ (w : Wanted). w.wants)) found.found_is))
      (in_range found.it.wants (wanted_known 0 (sites_of source atoms) found.it (λ site in_. atom_sites_known atoms site in_) inside))

  pub kinds_in_range : (atoms : List RawAtom) → AreHere source clean made atoms → AllByRecursion (λ sort. sort < length (sorts_of source)) (kinds_of source atoms)
  kinds_in_range atoms are =
      all_map (λ sort. sort < length (sorts_of source)) (λ (o : Occurrence). number_of source space.Sorts (unwrap_or (type_of source atoms o.name) [])) (variables_of source atoms)
      (all_of (λ (o : Occurrence). number_of source space.Sorts (unwrap_or (type_of source atoms o.name) []) < length (sorts_of source)) (variables_of source atoms) (λ o there. kind_in_range atoms are o there))

  -- a blank's name is short
  blank_name : (blanks : ℕ) → blanks < 2 ^ 63 → IsVariableName (codes "_" ++ decimal (blanks + 1))
  blank_name blanks few = grind (arith, length-decimal-le)

  name_at : (blanks : ℕ) (shape : RawKind) (at : Span) (o : Occurrence) → blanks < 2 ^ 63 → IsWrittenAt clean.is_source.tokens shape at → Contains (occurrence_at source blanks at shape) o → IsVariableName o.name
  name_at blanks shape at o few node there = grind (arith, contains_none, variable_is, contains_cases, blank_name)

  fewer : (blanks size : ℕ) (shape : RawKind) → blanks + suc size < 2 ^ 63 → blanks_behind blanks shape + size < 2 ^ 63
  fewer blanks size shape few = grind arith

  names_at : (blanks : ℕ) (nodes : List RawNode) (o : Occurrence) → blanks + length nodes < 2 ^ 63 → ((node : RawNode) → Contains nodes node → IsWrittenAt clean.is_source.tokens node.kind node.at) → Contains (occurrences_from source blanks nodes) o → IsVariableName o.name
  names_at blanks [] o few all there = absurd (contains_none o there)
  names_at blanks (node ∷ nodes) o few all there =
      ⊎_elim
      (λ here. name_at blanks node.kind node.at o (omega arith) (all node (contains_first node nodes)) here)
      (λ later. names_at (blanks_behind blanks node.kind) nodes o (fewer blanks (length nodes) node.kind few) (λ other in_. all other (contains_behind node nodes other in_)) later)
      (contains_either (occurrence_at source blanks node.at node.kind) _ o there)

  pub variable_names : (atoms : List RawAtom) → AreHere source clean made atoms → length (raw_nodes atoms) < 2 ^ 63 → AllByRecursion IsVariableName (names_of source atoms)
  variable_names atoms are few =
      all_map IsVariableName (λ (o : Occurrence). o.name) (variables_of source atoms)
      (all_of (λ (o : Occurrence). IsVariableName o.name) (variables_of source atoms)
      (λ o there. names_at 0 (raw_nodes atoms) o (omega (arith, few))
      (λ node inside.
      let from = flat_cases (λ (atom : RawAtom). atom.nodes) atoms node inside in
      let here = are.here from.from from.there in
      all_at (λ (n : RawNode). IsWrittenAt clean.is_source.tokens n.kind n.at) from.from.nodes node (atom_of_tokens source clean made from.from here.there).nodes from.inside)
      (firsts_there [] (occurrences_of source atoms) o there)))

-- What the rules of a text keep: types, predicates, limits, and where their variables get values.

-- Each variable of a rule or a clause occurs where it gets its value, has a name, and a type.

-- occurrences in two lists of nodes
pub occurrences_both : (source : Source) (blanks : ℕ) (one other : List RawNode) → occurrences_from source blanks (one ++ other) ≡ occurrences_from source blanks one ++ occurrences_from source (blanks_after blanks one) other
occurrences_both source blanks [] other = refl
occurrences_both source blanks (node ∷ one) other = grind (arith, append_assoc, node.at, node.kind, occurrences_both source (blanks_behind blanks node.kind) one other)

-- an occurrence among nodes is the head of one of them
occurs_at : (source : Source) (vars : List (List ℕ)) (blanks : ℕ) (shape : RawKind) (at : Span) (args : ℕ) (o : Occurrence) → Contains (occurrence_at source blanks at shape) o → var (variable_of vars o.name) ≡ head_at source vars blanks shape at args
occurs_at source vars blanks shape at args o there = grind (arith, contains_none, contains_cases)

occurs_in_nodes : (source : Source) (vars : List (List ℕ)) (blanks : ℕ) (nodes : List RawNode) (o : Occurrence) → Contains (occurrences_from source blanks nodes) o → Contains (heads_from source vars blanks nodes) (var (variable_of vars o.name))
occurs_in_nodes source vars blanks [] o there = absurd (contains_none o there)
occurs_in_nodes source vars blanks (first ∷ nodes) o there =
    let rest = heads_from source vars (blanks_behind blanks first.kind) nodes in
    ⊎_elim
    (λ here. subst (λ h. Contains (h ∷ rest) (var (variable_of vars o.name))) (occurs_at source vars blanks first.kind first.at first.args o here) (contains_first (var (variable_of vars o.name)) rest))
    (λ later. contains_behind (head_at source vars blanks first.kind first.at first.args) rest (var (variable_of vars o.name)) (occurs_in_nodes source vars (blanks_behind blanks first.kind) nodes o later))
    (contains_either (occurrence_at source blanks first.at first.kind) _ o there)

-- so the variable occurs in the atom
occurs_in_atom : (source : Source) (vars : List (List ℕ)) (blanks : ℕ) (raw : RawAtom) (atom : AtomTree) (o : Occurrence) → IsAtomBy source vars blanks raw atom → Contains (occurrences_from source blanks raw.nodes) o → OccursIn (variable_of vars o.name) atom
occurs_in_atom source vars blanks raw atom o by there = grind (arith, terms_occur, occurs_in_nodes source vars blanks raw.nodes o there, atom.args, o.name, by.heads, raw.nodes)

-- an occurrence among the atoms of a list is in one of them
in_atoms : (source : Source) (vars : List (List ℕ)) (blanks : ℕ) (raws : List RawAtom) (list : List AtomTree) (o : Occurrence) → AreAtomsBy source vars blanks raws list → Contains (occurrences_from source blanks (raw_nodes raws)) o → OccursInSome (variable_of vars o.name) list
in_atoms source vars blanks (raw ∷ raws) (atom ∷ list) o by there =
    ⊎_elim
    (λ here. inl (occurs_in_atom source vars blanks raw atom o by.0 here))
    (λ later. inr (in_atoms source vars (blanks_after blanks raw.nodes) raws list o by.1 later))
    (contains_either (occurrences_from source blanks raw.nodes) _ o (subst (λ os. Contains os o) (occurrences_both source blanks raw.nodes (raw_nodes raws)) there))
in_atoms source vars blanks raws list o by there = grind (arith, contains_none)

-- the atoms of premises, in turn
pub premise_atoms : (source : Source) (vars : List (List ℕ)) (blanks : ℕ) (elems : List RawElem) (list : List PremiseTree) → ArePremisesBy source vars blanks elems list → AreAtomsBy source vars blanks (atoms_of elems) (map (λ p. p.atom) list)
premise_atoms source vars blanks (elem.Qui span ∷ elems) list by = premise_atoms source vars blanks elems list by
premise_atoms source vars blanks (elem.Stage span ∷ elems) list by = premise_atoms source vars blanks elems list by
premise_atoms source vars blanks (elem.Atom kept raw ∷ elems) (p ∷ list) by = (by.1, premise_atoms source vars (blanks_after blanks raw.nodes) elems list by.2)
premise_atoms source vars blanks elems list by = grind arith

-- what occurs in some premise occurs in one that passes a test, or in one that does not
occurs_either : (v : ℕ) (xs ys : List AtomTree) → OccursInSome v xs ⊎ OccursInSome v ys → OccursInSome v (xs ++ ys)
occurs_either v [] ys there = ⊎_elim (λ never. absurd never) (λ right. right) there
occurs_either v (x ∷ xs) ys there = ⊎_elim (λ left. ⊎_elim (λ here. inl here) (λ later. inr (occurs_either v xs ys (inl later))) left) (λ right. inr (occurs_either v xs ys (inr right))) there

occurs_parted : (v : ℕ) (test : PremiseTree → Bool) (list : List PremiseTree) → OccursInSome v (map (λ p. p.atom) list)
    → OccursInSome v (map (λ p. p.atom) (filter (λ p. not (test p)) list)) ⊎ OccursInSome v (map (λ p. p.atom) (filter test list))
occurs_parted v test [] there = absurd there
occurs_parted v test (p ∷ list) there = by (test p) (⊎_elim (λ here. inl here) (λ later. inr (occurs_parted v test list later)) there)
  where
    by : (b : Bool) → OccursIn v p.atom ⊎ (OccursInSome v (map (λ p. p.atom) (filter (λ p. not (test p)) list)) ⊎ OccursInSome v (map (λ p. p.atom) (filter test list)))
        → OccursInSome v (map (λ (p : PremiseTree). p.atom) (cond (not b) (p ∷ filter (λ p. not (test p)) list) (filter (λ p. not (test p)) list))) ⊎ OccursInSome v (map (λ (p : PremiseTree). p.atom) (cond b (p ∷ filter test list) (filter test list)))
    by b there = grind arith

-- where nothing is left by a test, nothing passes it
none_pass : {X : Type 0} (p : X → Bool) (xs : List X) (x : X) → filter p xs ≡ [] → Contains xs x → p x ≡ false
none_pass p xs x none there = by_test (p x) refl
  where
    by_test : (b : Bool) → p x ≡ b → b ≡ false
    by_test true e = absurd (contains_none x (subst (λ ys. Contains ys x) none (filter_keeps p xs x there e)))
    by_test false e = refl

not_false : (b : Bool) → not b ≡ false → b ≡ true
not_false b e = grind arith

module _ (source : Source) where
  -- a rule with nothing unbound has the variables of its left side
  pub bound_vars : (item : RuleItem) → unbound_of source item ≡ [] → variables_of source (rule_scope item) ≡ variables_of source (atoms_of item.raw.left)
  bound_vars item bound =
      let left = atoms_of item.raw.left in
      let right = atoms_of item.raw.right in
      let right_occurrences = occurrences_from source (blanks_after 0 (raw_nodes left)) (raw_nodes right) in
      ap (λ ns. firsts_beside [] (occurrences_from source 0 ns)) (flat_map-append (λ (atom : RawAtom). atom.nodes) left right)
      ∙ ap (firsts_beside []) (occurrences_both source 0 (raw_nodes left) (raw_nodes right))
      ∙ firsts_append [] (occurrences_from source 0 (raw_nodes left)) right_occurrences
      (λ o there.
      let left_out = none_pass (λ (o : Occurrence). not (list_any (λ name. bytes_eq name o.name) (names_of source left))) right_occurrences o bound there in
      inr (any_is (names_of source left) o.name (not_false (list_any (λ name. bytes_eq name o.name) (names_of source left)) left_out)))

  variable_there : (atoms : List RawAtom) (v : ℕ) → v < length (names_of source atoms) → IsFound (slice_get (variables_of source atoms) v)
  variable_there atoms v within = there_within (variables_of source atoms) v (omega (arith, length-map (variables_of source atoms) (λ (o : Occurrence). o.name)))

  pub rule_bound : (item : RuleItem) (rule : Rule) → unbound_of source item ≡ [] → IsRuleBy source item rule → IsBoundRule rule
  rule_bound item rule bound by v within =
      let left = atoms_of item.raw.left in
      let vars : rule.vars ≡ names_of source left = by.vars_are ∙ ap (map (λ (o : Occurrence). o.name)) (bound_vars item bound) in
      let found = variable_there left v (subst (λ ns. v < length ns) vars within) in
      let number : variable_of (names_of source left) found.it.name ≡ v = variable_at (occurrences_of source left) v found.it found.found_is in
      let occurs = firsts_there [] (occurrences_of source left) found.it (contains_at (variables_of source left) v found.it found.found_is) in
      let some : OccursInSome v (map (λ p. p.atom) by.left) = subst (λ n. OccursInSome n (map (λ p. p.atom) by.left)) (ap (λ ns. variable_of ns found.it.name) vars ∙ number)
      (in_atoms source rule.vars 0 left (map (λ p. p.atom) by.left) found.it (premise_atoms source rule.vars 0 item.raw.left by.left by.left_is) occurs) in
      rw (by.premises_are, by.backs_are) (occurs_either v _ _ (occurs_parted v (λ p. is_back source p.atom) by.left some))

  pub clause_bound : (item : ClauseItem) (clause : ClauseTree) → IsClauseBy source item clause → IsBoundClause clause
  clause_bound item clause by v within =
      let scope = clause_scope item in
      let found = variable_there scope v (subst (λ ns. v < length ns) by.vars_are within) in
      let number : variable_of (names_of source scope) found.it.name ≡ v = variable_at (occurrences_of source scope) v found.it found.found_is in
      let occurs = firsts_there [] (occurrences_of source scope) found.it (contains_at (variables_of source scope) v found.it found.found_is) in
      subst (λ n. OccursInSome n (clause.head ∷ clause.goals)) (ap (λ ns. variable_of ns found.it.name) by.vars_are ∙ number)
      (in_atoms source clause.vars 0 scope (clause.head ∷ clause.goals) found.it by.atoms_are occurs)

-- What the rules of a text keep: types, predicates, limits.

-- the nodes of an atom are as many as are written
heads_size : (source : Source) (vars : List (List ℕ)) (blanks : ℕ) (nodes : List RawNode) → length (heads_from source vars blanks nodes) ≡ length nodes
heads_size source vars blanks [] = refl
heads_size source vars blanks (first ∷ nodes) = ap suc (heads_size source vars (blanks_behind blanks first.kind) nodes)

pub atom_size : (source : Source) (vars : List (List ℕ)) (blanks : ℕ) (raw : RawAtom) (atom : AtomTree) → IsAtomBy source vars blanks raw atom → atom_nodes atom ≡ 1 + length raw.nodes
atom_size source vars blanks raw atom by = grind (arith, terms_nodes, heads_size, atom.args, by.heads, raw.nodes)

-- what holds of each atom that is made holds of all
pub each_atom : (source : Source) (vars : List (List ℕ)) (P : AtomTree → Type 0) (blanks : ℕ) (raws : List RawAtom) (list : List AtomTree)
    → ((raw : RawAtom) (blanks : ℕ) (atom : AtomTree) → Contains raws raw → IsAtomBy source vars blanks raw atom → P atom) → AreAtomsBy source vars blanks raws list → AllByRecursion P list
each_atom source vars P blanks (raw ∷ raws) (atom ∷ list) each by = (
  each raw blanks atom (contains_first raw raws) by.0,
  each_atom source vars P (blanks_after blanks raw.nodes) raws list (λ other more_ a there. each other more_ a (contains_behind raw raws other there)) by.1,
)
each_atom source vars P blanks raws list each by = grind arith

-- The predicate of an atom is this one.
pub record IsOfPred (source : Source) (raw : RawAtom) (atom : AtomTree) (back : Bool) : Type 0 where
  pub pred : PredItem
  pub found : slice_get (map (pred_by source) (preds_of source)) atom.pred ≡ Some (pred_by source pred)
  pub back_is : is_backward pred.kind ≡ back
  pub judged : is_back source atom ≡ back
  pub fact_is : is_fact_by source atom ≡ is_of_fact source raw

not_true : (b : Bool) → not b ≡ true → b ≡ false
not_true b e = grind arith

module _ (source : Source) (clean : IsClean source) (atoms_made : AtomsMade source) where
  pub pred_at : (vars : List (List ℕ)) (blanks : ℕ) (raw : RawAtom) (atom : AtomTree) (here : IsHere source raw) → IsAtomBy source vars blanks raw atom → IsOfPred source raw atom (is_backward (pred_known source raw clean.names here.there).pred.kind)
  pred_at vars blanks raw atom here by =
      let known = pred_known source raw clean.names here.there in
      let spot = located (λ (pred : PredItem). named source pred.name) (λ other. bytes_eq other.name (said source raw.name)) (preds_of source) known.pred known.found in
      let at : slice_get (preds_of source) atom.pred ≡ Some known.pred = ap (slice_get (preds_of source)) by.pred ∙ spot.here in
      record {
        pred = known.pred;
        found = slice_get-map (pred_by source) (preds_of source) atom.pred ∙ ap (option_map (pred_by source)) at;
        back_is = refl;
        judged = ap (λ f. unwrap_or (option_map (λ (pred : PredItem). is_backward pred.kind) f) false) at;
        fact_is = ap (λ f. unwrap_or (option_map (λ (pred : PredItem). is_of_facts pred.kind) f) false) at ∙ sym (ap (λ (its : Option PredKind). unwrap_or (option_map is_of_facts its) false) (kind_known source clean atoms_made raw here));
      }

  -- A premise is judged as its predicate is declared, and it is small.
  pub record IsJudged (atom : AtomTree) : Type 0 where
    pub raw : RawAtom
    pub back : Bool
    pub of_pred : IsOfPred source raw atom back
    pub small : atom_nodes atom ≤ 1048576

  judged_at : (vars : List (List ℕ)) (blanks : ℕ) (raw : RawAtom) (atom : AtomTree) (here : IsHere source raw) → IsAtomBy source vars blanks raw atom → IsJudged atom
  judged_at vars blanks raw atom here by = grind (arith, pred_known source raw clean.names here.there, pred_at vars blanks raw atom here by, atom_size source vars blanks raw atom by, nodes_short source clean atoms_made raw here, clean.names, here.there)

  pub judged_atoms : (vars : List (List ℕ)) (blanks : ℕ) (raws : List RawAtom) (list : List AtomTree) → ((raw : RawAtom) → Contains raws raw → IsHere source raw) → AreAtomsBy source vars blanks raws list → AllByRecursion IsJudged list
  judged_atoms vars blanks raws list here by = each_atom source vars IsJudged blanks raws list (λ raw more_ atom there is. judged_at vars more_ raw atom (here raw there) is) by

  of_state : (atom : AtomTree) (j : IsJudged atom) → is_back source atom ≡ false → HasStatePredicate (signature_of source) atom
  of_state atom j linear = grind (arith, j.of_pred)

  backward_is : (atom : AtomTree) (j : IsJudged atom) → is_back source atom ≡ true → IsBackward (signature_of source) atom
  backward_is atom j yes_ = grind (arith, j.of_pred)

  -- those of some premises that pass a test
  pub part_all : (P : AtomTree → Type 0) (test : PremiseTree → Bool) (list : List PremiseTree) → AllByRecursion P (map (λ p. p.atom) list) → AllByRecursion P (map (λ p. p.atom) (filter test list))
  part_all P test list all = all_map P (λ (p : PremiseTree). p.atom) (filter test list) (all_filter (λ (p : PremiseTree). P p.atom) test list (all_unmap P (λ (p : PremiseTree). p.atom) list all))

  part_passing : (P Q : AtomTree → Type 0) (test : PremiseTree → Bool) (list : List PremiseTree) → ((p : PremiseTree) → P p.atom → test p ≡ true → Q p.atom) → AllByRecursion P (map (λ p. p.atom) list) → AllByRecursion Q (map (λ p. p.atom) (filter test list))
  part_passing P Q test list each all = all_map Q (λ (p : PremiseTree). p.atom) (filter test list) (all_passing (λ (p : PremiseTree). P p.atom) (λ (p : PremiseTree). Q p.atom) test list each (all_unmap P (λ (p : PremiseTree). p.atom) list all))

  -- the premises of a rule are divided as they are counted
  count_step : (b : Bool) (x : PremiseTree) (y : RawAtom) (xs : List PremiseTree) (ys : List RawAtom) (p : Bool) (q : Bool) → p ≡ q → length xs ≡ length ys → length (cond p (x ∷ xs) xs) ≡ length (cond q (y ∷ ys) ys)
  count_step b x y xs ys p q same size = grind arith

  pub premise_count : (test : Bool → Bool) (may : Option PredKind → Bool) (vars : List (List ℕ)) (blanks : ℕ) (elems : List RawElem) (list : List PremiseTree)
      → ((its : PredKind) → test (is_backward its) ≡ may (Some its)) → ((raw : RawAtom) → Contains (atoms_of elems) raw → IsHere source raw) → ArePremisesBy source vars blanks elems list
      → length (filter (λ p. test (is_back source p.atom)) list) ≡ length (filter (λ atom. may (kind_of source atom)) (atoms_of elems))
  premise_count test may vars blanks (elem.Qui span ∷ elems) list same here by = premise_count test may vars blanks elems list same here by
  premise_count test may vars blanks (elem.Stage span ∷ elems) list same here by = premise_count test may vars blanks elems list same here by
  premise_count test may vars blanks (elem.Atom kept raw ∷ elems) (p ∷ list) same here by =
      let is = here raw (contains_first raw (atoms_of elems)) in
      count_step true p raw _ _ (test (is_back source p.atom)) (may (kind_of source raw)) (ap test (pred_at vars blanks raw p.atom is by.1).judged ∙ same _ ∙ ap may (sym (kind_known source clean atoms_made raw is)))
      (premise_count test may vars (blanks_after blanks raw.nodes) elems list same (λ other there. here other (contains_behind raw (atoms_of elems) other there)) by.2)
  premise_count test may vars blanks elems list same here by = grind arith

  -- as many atoms are made as are written
  pub atoms_count : (vars : List (List ℕ)) (blanks : ℕ) (raws : List RawAtom) (list : List AtomTree) → AreAtomsBy source vars blanks raws list → length list ≡ length raws
  atoms_count vars blanks (raw ∷ raws) (atom ∷ list) by = ap suc (atoms_count vars (blanks_after blanks raw.nodes) raws list by.1)
  atoms_count vars blanks raws list by = grind arith

  -- what becomes part of a state is of a predicate that states may have
  pub is_of_state : (raw : RawAtom) (here : IsHere source raw) → Contains (made_atoms source ++ state_atoms source) raw → is_backward (pred_known source raw clean.names here.there).pred.kind ≡ false
  is_of_state raw here there =
      no_back (pred_known source raw clean.names here.there).pred.kind
      (λ (e : (pred_known source raw clean.names here.there).pred.kind ≡ Back). clean.names (wrong BwdInState raw.name.from) (backward_in_state raw there (kind_known source clean atoms_made raw here ∙ ap Some e) refl))
    where
      no_back : (its : PredKind) → (its ≡ Back → ⊥) → is_backward its ≡ false
      no_back its never = grind arith

  -- so are the atoms of a right side
  pub right_of_state : (vars : List (List ℕ)) (blanks : ℕ) (raws : List RawAtom) (list : List AtomTree) → ((raw : RawAtom) → Contains raws raw → Contains (made_atoms source) raw) → ((raw : RawAtom) → Contains raws raw → IsHere source raw) → AreAtomsBy source vars blanks raws list → AllByRecursion (HasStatePredicate (signature_of source)) list
  right_of_state vars blanks raws list at here by =
      each_atom source vars (HasStatePredicate (signature_of source)) blanks raws list (λ raw more_ atom there is.
      let linear = is_of_state raw (here raw there) (contains_left (made_atoms source) (state_atoms source) raw (at raw there)) in
      of_state atom (judged_at vars more_ raw atom (here raw there) is) ((pred_at vars more_ raw atom (here raw there) is).judged ∙ linear)) by

  -- those of a clause are of backward ones
  pub clause_backward : (vars : List (List ℕ)) (blanks : ℕ) (raws : List RawAtom) (list : List AtomTree) → ((raw : RawAtom) → Contains raws raw → Contains (clause_atoms source) raw) → ((raw : RawAtom) → Contains raws raw → IsHere source raw) → AreAtomsBy source vars blanks raws list → AllByRecursion (IsBackward (signature_of source)) list
  clause_backward vars blanks raws list at here by =
      each_atom source vars (IsBackward (signature_of source)) blanks raws list (λ raw more_ atom there is.
      let its = (pred_known source raw clean.names (here raw there).there).pred.kind in
      let yes_ = not_otherwise (is_backward its) (λ e. clean.names (wrong LinearInClause raw.name.from) (linear_in_clause raw its (at raw there) (kind_known source clean atoms_made raw (here raw there)) e refl)) in
      backward_is atom (judged_at vars more_ raw atom (here raw there) is) ((pred_at vars more_ raw atom (here raw there) is).judged ∙ yes_)) by

  -- a premise that is a fact is kept
  kept_by : (marked fact : Bool) → fact ≡ true → (marked || fact) ≡ true
  kept_by marked fact is = grind arith

  kept_facts : (vars : List (List ℕ)) (blanks : ℕ) (elems : List RawElem) (list : List PremiseTree) → ArePremisesBy source vars blanks elems list → AllByRecursion (λ p. is_fact (signature_of source) p.atom ≡ true → p.kept ≡ true) list
  kept_facts vars blanks (elem.Qui span ∷ elems) list by = kept_facts vars blanks elems list by
  kept_facts vars blanks (elem.Stage span ∷ elems) list by = kept_facts vars blanks elems list by
  kept_facts vars blanks (elem.Atom kept raw ∷ elems) (p ∷ list) by = grind (arith, kept_by, fact_by, by.0, p.atom, kept_facts vars (blanks_after blanks raw.nodes) elems list by.2, raw.nodes, by.2)
  kept_facts vars blanks elems list by = grind arith

  kinds_size : (scope : List RawAtom) → length (kinds_of source scope) ≡ length (names_of source scope)
  kinds_size scope = length-map (variables_of source scope) (λ (o : Occurrence). number_of source space.Sorts (unwrap_or (type_of source scope o.name) [])) ∙ sym (length-map (variables_of source scope) (λ (o : Occurrence). o.name))

  -- a rule is well typed
  pub rule_typed : (item : RuleItem) (rule : Rule) → Contains (rules_of source) item → IsRuleBy source item rule → IsTypedRule (signature_of source) rule
  rule_typed item rule there by =
      let all = rule_here source clean atoms_made item there in
      let scope = rule_scope item in
      let left = atoms_of item.raw.left in
      let right = atoms_of item.raw.right in
      let w = words source clean atoms_made scope all in
      let s = short source clean atoms_made scope all in
      let sites_both : sites_of source scope ≡ sites_of source left ++ sites_of source right = flat_map-append _ left right in
      let wanted_all : wanted_from source 0 (sites_of source scope) ≡ wanted_from source 0 (sites_of source left) ++ wanted_from source (blanks_after 0 (nodes_at (sites_of source left))) (sites_of source right) =
      ap (wanted_from source 0) sites_both ∙ wanted_both source 0 (sites_of source left) (sites_of source right) in
      let after : blanks_after 0 (nodes_at (sites_of source left)) ≡ blanks_after 0 (raw_nodes left) = ap (blanks_after 0) (scope_nodes source clean.names left (left_here source clean atoms_made item there)) in
      let list_typed = typed_atoms source clean.names clean.types scope all.scope all.here w s left (map (λ p. p.atom) by.left) 0 (left_here source clean atoms_made item there)
      (λ site inside. subst (λ sites. Contains sites site) (sym sites_both) (contains_left (sites_of source left) (sites_of source right) site inside))
      (λ wanted inside. subst (λ ws. Contains ws wanted) (sym wanted_all) (contains_left (wanted_from source 0 (sites_of source left)) _ wanted inside))
      (subst (λ vars. AreAtomsBy source vars 0 left (map (λ p. p.atom) by.left)) by.vars_are (premise_atoms source rule.vars 0 item.raw.left by.left by.left_is)) in
      let right_typed = typed_atoms source clean.names clean.types scope all.scope all.here w s right rule.right (blanks_after 0 (raw_nodes left)) (right_here source clean atoms_made item there)
      (λ site inside. subst (λ sites. Contains sites site) (sym sites_both) (contains_right (sites_of source left) (sites_of source right) site inside))
      (λ wanted inside. subst (λ ws. Contains ws wanted) (sym wanted_all) (contains_right (wanted_from source 0 (sites_of source left)) _ wanted (subst (λ b. Contains (wanted_from source b (sites_of source right)) wanted) (sym after) inside)))
      (subst (λ vars. AreAtomsBy source vars (blanks_after 0 (raw_nodes left)) right rule.right) by.vars_are by.right_is) in
      record {
        kinds = ap length by.kinds_are ∙ kinds_size scope ∙ ap length (sym by.vars_are);
        premises = subst (λ ks. AllByRecursion (IsTyped (signature_of source) ks) (needed_of rule)) (sym by.kinds_are)
            (subst (λ (ps : List PremiseTree). AllByRecursion (IsTyped (signature_of source) (kinds_of source scope)) (map (λ p. p.atom) ps)) (sym by.premises_are) (part_all (IsTyped (signature_of source) (kinds_of source scope)) _ by.left list_typed));
        backs = subst (λ ks. AllByRecursion (IsTyped (signature_of source) ks) rule.backs) (sym by.kinds_are)
            (subst (AllByRecursion (IsTyped (signature_of source) (kinds_of source scope))) (sym by.backs_are) (part_all (IsTyped (signature_of source) (kinds_of source scope)) _ by.left list_typed));
        right = subst (λ ks. AllByRecursion (IsTyped (signature_of source) ks) rule.right) (sym by.kinds_are) right_typed;
      }

  -- its predicates stand where they may
  pub rule_divided : (item : RuleItem) (rule : Rule) → Contains (rules_of source) item → IsRuleBy source item rule → IsDividedRule (signature_of source) rule
  rule_divided item rule there by =
      let judged = judged_atoms rule.vars 0 (atoms_of item.raw.left) (map (λ p. p.atom) by.left) (left_here source clean atoms_made item there) (premise_atoms source rule.vars 0 item.raw.left by.left by.left_is) in
      record {
        premises = subst (λ (ps : List PremiseTree). AllByRecursion (HasStatePredicate (signature_of source)) (map (λ p. p.atom) ps)) (sym by.premises_are) (part_passing IsJudged _ _ by.left (λ p j is. of_state p.atom j (not_true (is_back source p.atom) is)) judged);
        facts = subst (AllByRecursion (λ (p : PremiseTree). is_fact (signature_of source) p.atom ≡ true → p.kept ≡ true)) (sym by.premises_are)
            (all_filter (λ (p : PremiseTree). is_fact (signature_of source) p.atom ≡ true → p.kept ≡ true) (λ p. not (is_back source p.atom)) by.left (kept_facts rule.vars 0 item.raw.left by.left by.left_is));
        backs = subst (AllByRecursion (IsBackward (signature_of source))) (sym by.backs_are) (part_passing IsJudged _ _ by.left (λ p j is. backward_is p.atom j is) judged);
        right = right_of_state rule.vars _ (atoms_of item.raw.right) rule.right (made_there source item there) (right_here source clean atoms_made item there) by.right_is;
      }

  -- a clause is well typed
  pub clause_typed : (item : ClauseItem) (clause : ClauseTree) → Contains (clauses_of source) item → IsClauseBy source item clause → IsTypedClause (signature_of source) clause
  clause_typed item clause there by =
      let all = clause_here source clean atoms_made item there in
      let scope = clause_scope item in
      let typed = typed_atoms source clean.names clean.types scope all.scope all.here (words source clean atoms_made scope all) (short source clean atoms_made scope all) scope (clause.head ∷ clause.goals) 0 all.here
      (λ site inside. inside) (λ wanted inside. inside)
      (subst (λ vars. AreAtomsBy source vars 0 scope (clause.head ∷ clause.goals)) by.vars_are by.atoms_are) in
      record {
        kinds = ap length by.kinds_are ∙ kinds_size scope ∙ ap length (sym by.vars_are);
        head = subst (λ ks. IsTyped (signature_of source) ks clause.head) (sym by.kinds_are) typed.0;
        goals = subst (λ ks. AllByRecursion (IsTyped (signature_of source) ks) clause.goals) (sym by.kinds_are) typed.1;
      }

  pub clause_divided : (item : ClauseItem) (clause : ClauseTree) → Contains (clauses_of source) item → IsClauseBy source item clause → IsDividedClause (signature_of source) clause
  clause_divided item clause there by = grind (arith, clause_backward clause.vars 0 (clause_scope item) (clause.head ∷ clause.goals) (clause_there source item there) (clause_here source clean atoms_made item there).here by.atoms_are)
