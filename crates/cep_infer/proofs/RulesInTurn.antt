-- The nodes of terms, the variables and blanks among them, the atoms and premises that are built of them, and what holds of them in a text without wrong names.
use Rattle.cep_base.proofs.Members.{in_filter, to_contains, from_contains}
use Rattle.std.proofs.lemmas.List.Folds.{find_at}
use Rattle.std.specs.List.{position_or_len}
use Rattle.cep_base.proofs.Elements.{contains_at}
use Rattle.std.proofs.Common.{List, map, ◌≡◌, ◌≢◌, ◌⊎◌, ⊎_elim, ℕ, ◌+◌, ◌-◌, Bool, true, false, ◌||◌, if◌then◌else◌, cond, [], ◌∷◌, ◌++◌, fold, Option, Some, None, unwrap_or, refl, ap, sym, ◌∙◌, append_assoc, ◌<◌, not, filter, length, take, get_or, subst, arith, Contains, suc, drop, ◌≤◌, length-append}
use Rattle.cep_parse.specs.declared.raw.RawNode.{RawNode}
use Rattle.cep_types.specs.Sites.{Site, Wanted, sites_of, wanted_from, type_of, rule_scope, clause_scope, pred_types, node_types, sites_from, sites_in}
pub use Rattle.cep_types.proofs.Meeting.{blanks_both, nodes_at}
use Rattle.std.specs.Option.{option_map}
use Rattle.std.specs.List.{list_any, flat_map, AllZip, AllByRecursion, find}
use Rattle.std.specs.Str.{bytes_eq}
use Rattle.std.proofs.lemmas.List.{map-append, append-nil, take_more, drop_more, length-map, drop_all}
use Rattle.std.proofs.lemmas.Simd.{map-map}
use Rattle.std.proofs.lemmas.Slice.Eq.{bytes_eq-Decides}
use Rattle.cep_parse.specs.declared.raw.Span.{Span}
use Rattle.cep_parse.specs.declared.raw.RawAtom.{RawAtom}
use Rattle.cep_source.specs.Items.{Source, said, TraceItem, ContextItem, contexts_of, traces_of, RuleItem, rules_of, ConItem, ClauseItem, declares, clauses_in, clauses_of, bare, PredItem, preds_of, cons_of}
use Rattle.cep_parse.specs.Raw.{raw_nodes, atoms_in, atoms_of, start_listed}
use Rattle.cep_source.specs.Variables.{Occurrence, blanks_behind, occurrences_from, firsts_beside, variables_of, blanks_after, occurrence_at}
use Rattle.cep_types.specs.Heads.{number_of, Head, var, con, head_at, heads_from}
use Rattle.cep_types.specs.Met.{kinds_met, further, AreMet}
use Rattle.cep_infer.specs.Meaning.{names_of, kinds_of, ArePremisesBy, is_back, is_fact_by, IsClauseBy, IsRuleBy, group_of, next_of, stage_named}
use Rattle.cep_base.proofs.Bytes.{bytes_eq_sym}
use Rattle.cep_base.proofs.FirstNamed.{found, or_found, found_both, found_kept}
use Rattle.cep_source.specs.declared.variables.Variables.{Variables}
use Rattle.cep_base.specs.FirstNames.{names_among, has_name}
use Rattle.cep_source.specs.Met.{none_met, AreVariables}
use Rattle.std.proofs.lemmas.Grind.{flat_map-append}
use Rattle.cep_parse.specs.declared.raw.RawElem.{RawElem}
use Rattle.cep_term.specs.Tree.{AtomTree, Tree, Trees, variable, node, none as no_trees, more as more_trees, AreGround, IsGround, IsGroundAtom}
use Rattle.cep_rule.specs.Patterns.{PremiseTree}
use Rattle.cep_source.specs.Uses.{stands_for_context, state_atoms, stages_at, stages_named, needed_atoms, made_atoms, clause_atoms, atoms_written, applied_at, uses_in}
use Rattle.cep_source.specs.Starts.{listed_in, start_atoms}
use Rattle.cep_infer.specs.Heads.{IsAtomBy, AreAtomsBy, heads_of, heads_among}
use Rattle.cep_infer.specs.declared.left.LeftSide.{LeftSide}
use Rattle.cep_infer.specs.Built.{AreBuilt, IsLeftBuilt}
use Rattle.std.specs.Prelude.{MatchOption, option_to_list}
use Rattle.cep_parse.specs.declared.raw.RawKind.{RawKind}
use Rattle.cep_parse.specs.declared.raw.RawStart.{RawStart}
use Rattle.cep_refusal.specs.declared.reason.Reason.TheVariants.{VarInContext, Unknown, WrongKind, WrongArity}
use Rattle.cep_refusal.specs.First.{wrong}
use Rattle.cep_source.specs.Spaces.{context_named, Named, unlabelled_behind, rule_names_from, names_in, is_in, named, pred_named, con_named}
use Rattle.cep_faults.specs.Misnamed.Misnamed.{variable_in_state, unknown, wrong_kind, wrong_arity, wrong_term_arity}
use Rattle.cep_infer.specs.Resolved.{IsWellNamed}
use Rattle.cep_infer.specs.States.{AreClosed}
use Rattle.cep_base.proofs.Elements.{contains_none, contains_first, contains_behind, contains_cases, contains_left, contains_right, contains_either, contains_flat, contains_map, flat_cases, all_of, both_all, all_at}
use Rattle.cep_rule.specs.declared.rule.Rule.{Rule}
use Rattle.cep_source.specs.declared.items.ClauseRef.{ClauseRef}
use Rattle.cep_source.specs.declared.items.RuleRef.{RuleRef}
use Rattle.cep_source.specs.Kept.{rule_item, clause_item}
use Rattle.std.proofs.lemmas.List.Elements.{filter-append, filter_agree}
use Rattle.cep_infer.specs.Places.{unbound_at}
use Rattle.cep_lex.specs.declared.token.Token.{Token}
use Rattle.cep_parse.specs.declared.raw.RawItem.{RawItem}
use Rattle.cep_parse.specs.Symbols.{symbols_of}
use Rattle.cep_parse.specs.Grammar.{File}
use Rattle.cep_parse.specs.Written.{Fill, IsNameAt, IsAtomOf, IsElemOf, IsRuleOf, IsStartOf, IsItemOf, IsCount}
use Rattle.cep_infer.specs.Shapes.{IsSource, IsFilled, AreFilled, AreCovered}
use Rattle.cep_base.proofs.Lists.{all_mapped, all_flat, all_filtered as all_passing}
use Rattle.cep_parse.specs.declared.raw.RawKind.TheVariants as kind
use Rattle.cep_source.specs.declared.space.Space.TheVariants as space
use Rattle.cep_parse.specs.declared.raw.RawElem.TheVariants as elem
use Rattle.cep_parse.specs.declared.raw.RawStart.TheVariants as start
use Rattle.cep_parse.specs.declared.raw.RawItem.TheVariants as item
use Rattle.std.proofs.lemmas.Bool.{eqb-true, eqb-false}
use Rattle.cep_source.specs.declared.space.Space.{Space}

-- What is met is each variable once, with the type that is wanted where it occurs first.

-- whether a name is among names
abbrev has : List (List ℕ) → List ℕ → Bool
has names name = list_any (λ other. bytes_eq other name) names

-- the names that were not seen before, each once
abbrev new_names : List (List ℕ) → List (List ℕ) → List (List ℕ)
new_names seen [] = []
new_names seen (name ∷ names) = if has seen name then new_names seen names else name ∷ new_names (name ∷ seen) names

abbrev occurring : List Occurrence → List (List ℕ)
occurring occurrences = map (λ (o : Occurrence). o.name) occurrences

abbrev wanted_names_of : List Wanted → List (List ℕ)
wanted_names_of ws = map (λ (w : Wanted). w.name) ws

firsts_names : (seen : List (List ℕ)) (os : List Occurrence) → occurring (firsts_beside seen os) ≡ new_names seen (occurring os)
firsts_names seen [] = refl
firsts_names seen (o ∷ os) = grind (arith, has, occurring, new_names, o.name, firsts_names seen os, firsts_names (o.name ∷ seen) os)

-- whether the name is that of a wanted one
abbrev has_wanted : List Wanted → List ℕ → Bool
has_wanted ws name = list_any (λ (w : Wanted). bytes_eq name w.name) ws

any_end : (ws : List Wanted) (w : Wanted) (name : List ℕ) → has_wanted (ws ++ w ∷ []) name ≡ (bytes_eq name w.name || has_wanted ws name)
any_end [] w name = refl
any_end (v ∷ ws) w name = grind (arith, has_wanted, v.name, any_end ws w name, w.name)

met_names : (seen : List (List ℕ)) (acc ws : List Wanted) → ((name : List ℕ) → has seen name ≡ has_wanted acc name)
    → wanted_names_of (fold further acc ws) ≡ wanted_names_of acc ++ new_names seen (wanted_names_of ws)
met_names seen acc [] same = sym (append-nil (wanted_names_of acc))
met_names seen acc (w ∷ ws) same = rw (← same w.name) (cases (has seen w.name) (met_names seen acc ws same) (met_names (w.name ∷ seen) (acc ++ w ∷ []) ws more)) where
  more : (name : List ℕ) → has (w.name ∷ seen) name ≡ has_wanted (acc ++ w ∷ []) name
  more name = ap (λ b. bytes_eq w.name name || b) (same name) ∙ ap (λ b. b || has_wanted acc name) (bytes_eq_sym w.name name) ∙ sym (any_end acc w name)

  cases : (b : Bool) → wanted_names_of (fold further acc ws) ≡ wanted_names_of acc ++ new_names seen (wanted_names_of ws)
      → wanted_names_of (fold further (acc ++ w ∷ []) ws) ≡ wanted_names_of (acc ++ w ∷ []) ++ new_names (w.name ∷ seen) (wanted_names_of ws)
      → wanted_names_of (fold further (if b then acc else acc ++ w ∷ []) ws) ≡ wanted_names_of acc ++ (if b then new_names seen (wanted_names_of ws) else w.name ∷ new_names (w.name ∷ seen) (wanted_names_of ws))
  cases true old new = old
  cases false old new =
      new ∙ ap (λ ns. ns ++ new_names (w.name ∷ seen) (wanted_names_of ws)) (map-append (λ (v : Wanted). v.name) acc (w ∷ []))
      ∙ append_assoc (wanted_names_of acc) (w.name ∷ []) (new_names (w.name ∷ seen) (wanted_names_of ws))

-- the variables of terms are those of their nodes
wanted_names : (source : Source) (blanks : ℕ) (sites : List Site) → wanted_names_of (wanted_from source blanks sites) ≡ occurring (occurrences_from source blanks (nodes_at sites))
wanted_names source blanks [] = refl
wanted_names source blanks (site ∷ sites) = grind (arith, wanted_names_of, occurring, nodes_at, site.node.kind, site.node.at, wanted_names source (blanks_behind blanks site.node.kind) sites, site.wants)

abbrev name_of : Wanted → List ℕ
name_of w = w.name

-- each of what is met is found under its own name
abbrev AreFound : List Wanted → List Wanted → Type 0
AreFound all ws = map (λ (w : Wanted). found name_of all w.name) ws ≡ map (λ (w : Wanted). Some w) ws

still_found : (all more ws : List Wanted) → AreFound all ws → AreFound (all ++ more) ws
still_found all more [] are = refl
still_found all more (w ∷ ws) are =
    let head : found name_of all w.name ≡ Some w = cc in
    let tail : AreFound all ws = cc in
    let here : found name_of (all ++ more) w.name ≡ Some w = found_both name_of all more w.name ∙ ap (λ o. or_found name_of o (found name_of more w.name)) head in
    ap (λ o. o ∷ map (λ (v : Wanted). found name_of (all ++ more) v.name) ws) here ∙ ap (λ os. Some w ∷ os) (still_found all more ws tail)

not_found : (acc : List Wanted) (name : List ℕ) → has_wanted acc name ≡ false → found name_of acc name ≡ None
not_found [] name none = refl
not_found (v ∷ acc) name none = cases (bytes_eq name v.name) refl none (λ any. not_found acc name any) where
  cases : (b : Bool) → bytes_eq name v.name ≡ b → (b || has_wanted acc name) ≡ false → (has_wanted acc name ≡ false → found name_of acc name ≡ None) → cond (bytes_eq v.name name) (Some v) (found name_of acc name) ≡ None
  cases true e any rest = absurd cc
  cases false e any rest = ap (λ b. cond b (Some v) (found name_of acc name)) (bytes_eq_sym v.name name ∙ e) ∙ rest any

all_found : (acc ws : List Wanted) → AreFound acc acc → AreFound (fold further acc ws) (fold further acc ws)
all_found acc [] are = are
all_found acc (w ∷ ws) are = cases (has_wanted acc w.name) refl (all_found acc ws are) (λ h. all_found (acc ++ w ∷ []) ws h) where
  end : has_wanted acc w.name ≡ false → AreFound (acc ++ w ∷ []) (acc ++ w ∷ [])
  end e =
      map-append (λ (v : Wanted). found name_of (acc ++ w ∷ []) v.name) acc (w ∷ []) ∙ ap (λ os. os ++ found name_of (acc ++ w ∷ []) w.name ∷ []) (still_found acc (w ∷ []) acc are)
      ∙ ap (λ o. map (λ (v : Wanted). Some v) acc ++ o ∷ []) last ∙ sym (map-append (λ (v : Wanted). Some v) acc (w ∷ []))
    where
      last : found name_of (acc ++ w ∷ []) w.name ≡ Some w
      last = found_both name_of acc (w ∷ []) w.name ∙ ap (λ o. or_found name_of o (found name_of (w ∷ []) w.name)) (not_found acc w.name e) ∙ ap (λ b. cond b (Some w) None) ((bytes_eq-Decides w.name w.name).1 refl)

  cases : (b : Bool) → has_wanted acc w.name ≡ b → AreFound (fold further acc ws) (fold further acc ws) → (AreFound (acc ++ w ∷ []) (acc ++ w ∷ []) → AreFound (fold further (acc ++ w ∷ []) ws) (fold further (acc ++ w ∷ []) ws))
      → AreFound (fold further (if b then acc else acc ++ w ∷ []) ws) (fold further (if b then acc else acc ++ w ∷ []) ws)
  cases true e old new = old
  cases false e old new = new (end e)

-- ---- what is met of a scope

module _ (source : Source) (atoms : List RawAtom) (variables : Variables) (met : AreMet source atoms none_met variables) (covered : AreCovered source atoms) where
  abbrev all : List Wanted
  all = wanted_from source 0 (sites_of source atoms)

  abbrev firsts : List Wanted
  firsts = fold further [] all

  names_of_firsts : wanted_names_of firsts ≡ occurring (variables_of source atoms)
  names_of_firsts = cc (met_names [] [] all (λ name. refl), wanted_names source 0 (sites_of source atoms), covered, firsts_names [] (occurrences_from source 0 (raw_nodes atoms)))

  pub names_met : names_among variables.firsts ≡ names_of source atoms
  names_met = grind (arith, map-map, wanted_names_of, names_of_firsts, variables.firsts, met.firsts)

  abbrev kind_of : Option (List ℕ) → ℕ
  kind_of type = number_of source space.Sorts (unwrap_or type [])

  abbrev kind_found : Option Wanted → ℕ
  kind_found o = kind_of (option_map (λ (w : Wanted). w.wants) o)

  each_kind : (ws : List Wanted) → map (λ (name : List ℕ). kind_of (type_of source atoms name)) (wanted_names_of ws) ≡ map (λ (w : Wanted). kind_found (found name_of firsts w.name)) ws
  each_kind [] = refl
  each_kind (w ∷ ws) = cc (found_kept name_of [] all w.name, each_kind ws)

  pub kinds_are_met : kinds_met source variables.firsts ≡ kinds_of source atoms
  kinds_are_met =
      sym (map-map (λ (w : Wanted). number_of source space.Sorts w.wants) (λ (e : List ℕ × Span). record { name = e.0; wants = said source e.1 }) variables.firsts)
      ∙ ap (map (λ (w : Wanted). number_of source space.Sorts w.wants)) met.firsts
      ∙ sym (map-map kind_found (λ (w : Wanted). Some w) firsts) ∙ ap (map kind_found) (sym (all_found [] all refl))
      ∙ map-map kind_found (λ (w : Wanted). found name_of firsts w.name) firsts
      ∙ sym (each_kind firsts)
      ∙ ap (map (λ (name : List ℕ). kind_of (type_of source atoms name)))
      names_of_firsts
      ∙ map-map (λ (name : List ℕ). kind_of (type_of source atoms name)) (λ (o : Occurrence). o.name) (variables_of source atoms)

-- what is made of those that pass, of two parts
kept_both : {X Y : Type 0} (f : X → Y) (p : X → Bool) (xs ys : List X) → map f (filter p (xs ++ ys)) ≡ map f (filter p xs) ++ map f (filter p ys)
kept_both f p xs ys = ap (map f) (filter-append p xs ys) ∙ map-append f (filter p xs) (filter p ys)

-- Atoms and premises are built one after another.

module _ (source : Source) (vars : List (List ℕ)) where
  pub atoms_both : (blanks : ℕ) (one two : List RawAtom) (ts us : List AtomTree) → AreAtomsBy source vars blanks one ts → AreAtomsBy source vars (blanks_after blanks (raw_nodes one)) two us → AreAtomsBy source vars blanks (one ++ two) (ts ++ us)
  atoms_both blanks (x ∷ one) two (t ∷ ts) us first second =
      (first.0, atoms_both (blanks_after blanks x.nodes) one two ts us first.1 (subst (λ n. AreAtomsBy source vars n two us) (blanks_both blanks x.nodes (raw_nodes one)) second))
  atoms_both blanks one two ts us first second = grind arith

  pub none_built : (blanks : ℕ) (old : List AtomTree) → AreBuilt source vars [] blanks blanks old old
  none_built blanks old = record { more = []; new_is = sym (append-nil old); are = tt; behind_is = refl }

  pub all_built : (raws : List RawAtom) (before behind : ℕ) (none atoms : List AtomTree) → none ≡ [] → AreBuilt source vars raws before behind none atoms → AreAtomsBy source vars before raws atoms
  all_built raws before behind none atoms none_is built = subst (λ (ts : List AtomTree). AreAtomsBy source vars before raws ts) (sym (built.new_is ∙ ap (λ ts. ts ++ built.more) none_is)) built.are

  pub both_built : (one two : List RawAtom) (before middle behind : ℕ) (old between new : List AtomTree) → AreBuilt source vars one before middle old between → AreBuilt source vars two middle behind between new → AreBuilt source vars (one ++ two) before behind old new
  both_built one two before middle behind old between new first second = record {
    more = first.more ++ second.more;
    new_is = second.new_is ∙ ap (λ ts. ts ++ second.more) first.new_is ∙ append_assoc old first.more second.more;
    are = atoms_both before one two first.more second.more first.are (subst (λ n. AreAtomsBy source vars n two second.more) first.behind_is second.are);
    behind_is = second.behind_is ∙ ap (λ n. blanks_after n (raw_nodes two)) first.behind_is ∙ sym (ap (blanks_after before) (flat_map-append (λ (atom : RawAtom). atom.nodes) one two) ∙ blanks_both before (raw_nodes one) (raw_nodes two));
  }

  pub part_built : {X : Type 0} (g : X → List RawAtom) (xs : List X) (i : ℕ) (x : X) (before middle behind : ℕ) (old between new : List AtomTree) → i < length xs → x ≡ get_or xs i x
      → AreBuilt source vars (flat_map g (take i xs)) before middle old between → AreBuilt source vars (g x) middle behind between new → AreBuilt source vars (flat_map g (take (i + 1) xs)) before behind old new
  part_built g xs i x before middle behind old between new h at was is =
      rw (take_more xs i x h, flat_map-append g (take i xs) (get_or xs i x ∷ []), append-nil (g (get_or xs i x)), ← at) (both_built (flat_map g (take i xs)) (g x) before middle behind old between new was is)

  pub atom_built : (xs : List RawAtom) (i : ℕ) (x : RawAtom) (before middle behind : ℕ) (old between new : List AtomTree) → i < length xs → x ≡ get_or xs i x
      → AreBuilt source vars (take i xs) before middle old between → AreBuilt source vars (x ∷ []) middle behind between new → AreBuilt source vars (take (i + 1) xs) before behind old new
  atom_built xs i x before middle behind old between new h given was is = grind (arith, take_more xs i x h, both_built (take i xs) (x ∷ []) before middle behind old between new was is)

  -- an atom in braces, or what it stands for
  pub braces_built : (xs : List RawAtom) (i : ℕ) (x : RawAtom) (stands : Bool) (raws : List RawAtom) (before middle behind : ℕ) (old between new : List AtomTree) → i < length xs → x ≡ get_or xs i x
      → stands ≡ stands_for_context source x → raws ≡ (if stands then listed_in source (said source x.name) else x ∷ [])
      → AreBuilt source vars (start_atoms source (start.Listed (take i xs))) before middle old between → AreBuilt source vars raws middle behind between new → AreBuilt source vars (start_atoms source (start.Listed (take (i + 1) xs))) before behind old new
  braces_built xs i x stands raws before middle behind old between new h given stands_is raws_are was is = grind (arith, part_built)

  -- ---- premises

  pub premises_both : (blanks : ℕ) (one two : List RawElem) (ps qs : List PremiseTree) → ArePremisesBy source vars blanks one ps → ArePremisesBy source vars (blanks_after blanks (raw_nodes (atoms_of one))) two qs → ArePremisesBy source vars blanks (one ++ two) (ps ++ qs)
  premises_both blanks (elem.Qui span ∷ one) two ps qs first second = premises_both blanks one two ps qs first second
  premises_both blanks (elem.Stage span ∷ one) two ps qs first second = premises_both blanks one two ps qs first second
  premises_both blanks (elem.Atom kept raw ∷ one) two (p ∷ ps) qs first second =
      (first.0, first.1, premises_both (blanks_after blanks raw.nodes) one two ps qs first.2 (subst (λ n. ArePremisesBy source vars n two qs) (blanks_both blanks raw.nodes (raw_nodes (atoms_of one))) second))
  premises_both blanks one two ps qs first second = grind arith

  pub left_both : (one two : List RawElem) (before middle behind : ℕ) (old between new : LeftSide) → IsLeftBuilt source vars one before middle old between → IsLeftBuilt source vars two middle behind between new → IsLeftBuilt source vars (one ++ two) before behind old new
  left_both one two before middle behind old between new first second =
      let linear = λ (premise : PremiseTree). not (is_back source premise.atom) in
      let backward = λ (premise : PremiseTree). is_back source premise.atom in
      let atom_in = λ (premise : PremiseTree). premise.atom in
      record {
        more = first.more ++ second.more;
        are = premises_both before one two first.more second.more first.are (subst (λ n. ArePremisesBy source vars n two second.more) first.behind_is second.are);
        premises_are = second.premises_are ∙ ap (λ ps. ps ++ filter linear second.more) first.premises_are ∙ append_assoc old.premises (filter linear first.more) (filter linear second.more)
            ∙ ap (λ ps. old.premises ++ ps) (sym (filter-append linear first.more second.more));
        backs_are = second.backs_are ∙ ap (λ ps. ps ++ map atom_in (filter backward second.more)) first.backs_are ∙ append_assoc old.backs (map atom_in (filter backward first.more)) (map atom_in (filter backward second.more))
            ∙ ap (λ ps. old.backs ++ ps) (sym (kept_both atom_in backward first.more second.more));
        behind_is = second.behind_is ∙ ap (λ n. blanks_after n (raw_nodes (atoms_of two))) first.behind_is
            ∙ sym (ap (blanks_after before) (ap raw_nodes (flat_map-append atoms_in one two) ∙ flat_map-append (λ (atom : RawAtom). atom.nodes) (atoms_of one) (atoms_of two)) ∙ blanks_both before (raw_nodes (atoms_of one)) (raw_nodes (atoms_of two)));
      }

  pub elem_built : (xs : List RawElem) (i : ℕ) (x : RawElem) (before middle behind : ℕ) (old between new : LeftSide) → i < length xs → x ≡ get_or xs i x
      → IsLeftBuilt source vars (take i xs) before middle old between → IsLeftBuilt source vars (x ∷ []) middle behind between new → IsLeftBuilt source vars (take (i + 1) xs) before behind old new
  elem_built xs i x before middle behind old between new h given was is = grind (arith, take_more xs i x h, left_both (take i xs) (x ∷ []) before middle behind old between new was is)

  -- a backward premise more, and one of states
  pub back_built : (marked : Bool) (raw : RawAtom) (before behind : ℕ) (old : LeftSide) (backs : List AtomTree) (atom : AtomTree) → IsAtomBy source vars before raw atom → behind ≡ blanks_after before raw.nodes
      → is_back source atom ≡ true → backs ≡ old.backs ++ atom ∷ [] → IsLeftBuilt source vars (elem.Atom marked raw ∷ []) before behind old (record { premises = old.premises; backs = backs })
  back_built marked raw before behind old backs atom is blanks_are back backs_are = record {
    more = record { atom = atom; kept = marked || is_fact_by source atom } ∷ [];
    are = (refl, is, tt);
    premises_are = rw back (sym (append-nil old.premises));
    backs_are = rw back backs_are;
    behind_is = blanks_are ∙ ap (blanks_after before) (sym (append-nil raw.nodes));
  }

  pub linear_built : (marked kept : Bool) (raw : RawAtom) (before behind : ℕ) (old : LeftSide) (premises : List PremiseTree) (atom : AtomTree) → kept ≡ (marked || is_fact_by source atom) → IsAtomBy source vars before raw atom → behind ≡ blanks_after before raw.nodes
      → is_back source atom ≡ false → premises ≡ old.premises ++ record { atom = atom; kept = kept } ∷ [] → IsLeftBuilt source vars (elem.Atom marked raw ∷ []) before behind old (record { premises = premises; backs = old.backs })
  linear_built marked kept raw before behind old premises atom kept_is is blanks_are linear premises_are = record {
    more = record { atom = atom; kept = kept } ∷ [];
    are = (kept_is, is, tt);
    premises_are = rw linear premises_are;
    backs_are = rw linear (sym (append-nil old.backs));
    behind_is = blanks_are ∙ ap (blanks_after before) (sym (append-nil raw.nodes));
  }

-- a clause is built
pub clause_built : (source : Source) (head : RawAtom) (goals : List RawAtom) (variables : Variables) (names : List (List ℕ)) (kinds : List ℕ) (behind : ℕ) (tree : AtomTree) (atoms : List AtomTree)
    → AreMet source (head ∷ goals) none_met variables → AreCovered source (head ∷ goals) → names ≡ names_among variables.firsts → kinds ≡ kinds_met source variables.firsts
    → IsAtomBy source (names_among variables.firsts) 0 head tree → behind ≡ blanks_after 0 head.nodes → AreAtomsBy source (names_among variables.firsts) behind goals atoms
    → IsClauseBy source (record { head = head; goals = goals }) (record { vars = names; kinds = kinds; head = tree; goals = atoms })
clause_built source head goals variables names kinds behind tree atoms met covered names_are kinds_are first blanks_are others = grind (arith, names_met source (head ∷ goals) variables met covered, kinds_are_met source (head ∷ goals) variables met covered)

-- ---- what stands for each of some things, one after another

zip_push : {A B : Type 0} (R : A → B → Type 0) (xs : List A) (ys : List B) (x : A) (y : B) → AllZip R xs ys → R x y → AllZip R (xs ++ x ∷ []) (ys ++ y ∷ [])
zip_push R (a ∷ xs) (b ∷ ys) x y are is = (are.0, zip_push R xs ys x y are.1 is)
zip_push R xs ys x y are is = grind arith

pub zip_more : {X A B : Type 0} (R : A → B → Type 0) (f : X → A) (xs : List X) (i : ℕ) (x : X) (old new : List B) (y : B) → i < length xs → x ≡ get_or xs i x
    → AllZip R (map f (take i xs)) old → R (f x) y → new ≡ old ++ y ∷ [] → AllZip R (map f (take (i + 1) xs)) new
zip_more R f xs i x old new y h at are is new_is = rw (new_is, take_more xs i x h, map-append f (take i xs) (get_or xs i x ∷ []), ← at) (zip_push R (map f (take i xs)) old (f x) y are is)

-- Rules are built from the tokens of a text, and the atoms of its start state are ground.

-- The atoms of a start state are ground, in a text without wrong names.

-- a constructor is no variable
abbrev IsClosed : Head → Type 0
IsClosed (var v) = ⊥
IsClosed (con c args) = Unit {0}

pub parts_all : {X : Type 0} (P : X → Type 0) (xs ys : List X) → AllByRecursion P (xs ++ ys) → AllByRecursion P xs × AllByRecursion P ys
parts_all P [] ys all = (tt, all)
parts_all P (x ∷ xs) ys all = let rest = parts_all P xs ys all.1 in ((all.0, rest.0), rest.1)

pub all_rest : {X : Type 0} (P : X → Type 0) (xs ys : List X) → AllByRecursion P (xs ++ ys) → AllByRecursion P ys
all_rest P xs ys all = (parts_all P xs ys all).1

-- where no node is a variable, the terms are ground
mutual
  term_ground : (t : Tree) → AllByRecursion IsClosed (heads_of t) → IsGround t
  term_ground (variable v) all = absurd all.0
  term_ground (node c args) all = terms_ground args all.1

  terms_ground : (ts : Trees) → AllByRecursion IsClosed (heads_among ts) → AreGround ts
  terms_ground no_trees all = tt
  terms_ground (more_trees t rest) all = let parts = parts_all IsClosed (heads_of t) (heads_among rest) all in (term_ground t parts.0, terms_ground rest parts.1)

head_closed : (source : Source) (vars : List (List ℕ)) (blanks : ℕ) (shape : RawKind) (at : Span) (args : ℕ) → shape ≡ kind.App → IsClosed (head_at source vars blanks shape at args)
head_closed source vars blanks shape at args is = grind arith

heads_closed : (source : Source) (vars : List (List ℕ)) (blanks : ℕ) (nodes : List RawNode) → AreClosed nodes → AllByRecursion IsClosed (heads_from source vars blanks nodes)
heads_closed source vars blanks [] all = tt
heads_closed source vars blanks (first ∷ nodes) all = (head_closed source vars blanks first.kind first.at first.args all.0, heads_closed source vars (blanks_behind blanks first.kind) nodes all.1)

pub atom_ground : (source : Source) (vars : List (List ℕ)) (blanks : ℕ) (raw : RawAtom) (atom : AtomTree) → IsAtomBy source vars blanks raw atom → AreClosed raw.nodes → IsGroundAtom atom
atom_ground source vars blanks raw atom by all = terms_ground atom.args (subst (AllByRecursion IsClosed) (sym by.heads) (heads_closed source vars blanks raw.nodes all))

atoms_ground : (source : Source) (vars : List (List ℕ)) (blanks : ℕ) (raws : List RawAtom) (atoms : List AtomTree) → ((raw : RawAtom) → Contains raws raw → AreClosed raw.nodes) → AreAtomsBy source vars blanks raws atoms
    → AllByRecursion IsGroundAtom atoms
atoms_ground source vars blanks (raw ∷ raws) (atom ∷ atoms) closed by = (
  atom_ground source vars blanks raw atom by.0 (closed raw (contains_first raw raws)),
  atoms_ground source vars (blanks_after blanks raw.nodes) raws atoms (λ other there. closed other (contains_behind raw raws other there)) by.1,
)
atoms_ground source vars blanks raws atoms closed by = grind arith

module _ (source : Source) where
  abbrev listed_by : ContextItem → List RawAtom
  listed_by context = context.atoms

  abbrev alone : TraceItem → List RawAtom
  alone trace = filter (λ atom. not (stands_for_context source atom)) (start_listed trace.start)

  -- the atoms of contexts, and those in braces that stand for themselves, are atoms of states
  of_context : (found : Option ContextItem) (name : List ℕ) (raw : RawAtom) → context_named source name ≡ found → Contains (unwrap_or (option_map (λ (context : ContextItem). context.atoms) found) []) raw → Contains (state_atoms source) raw
  of_context None name raw is there = absurd (contains_none raw there)
  of_context (Some context) name raw is there =
      let test = λ (c : ContextItem). bytes_eq (said source c.name) name in
      let found = contains_at (contexts_of source) (position_or_len test (contexts_of source)) context (sym (find_at test (contexts_of source)) ∙ is) in
      contains_left (flat_map listed_by (contexts_of source)) _ raw (contains_flat listed_by (contexts_of source) context raw found there)

  of_braces : (trace : TraceItem) (raw : RawAtom) → Contains (traces_of source) trace → Contains (start_listed trace.start) raw → stands_for_context source raw ≡ false → Contains (state_atoms source) raw
  of_braces trace raw there inside alone_ =
      contains_right (flat_map listed_by (contexts_of source)) (flat_map alone (traces_of source)) raw
      (contains_flat alone (traces_of source) trace raw there (to_contains _ raw (in_filter (λ atom. not (stands_for_context source atom)) (start_listed trace.start) raw (from_contains (start_listed trace.start) raw inside) (ap not alone_))))

  in_braces : (trace : TraceItem) (atom raw : RawAtom) (b : Bool) → Contains (traces_of source) trace → Contains (start_listed trace.start) atom → stands_for_context source atom ≡ b
      → Contains (if b then listed_in source (said source atom.name) else atom ∷ []) raw → Contains (state_atoms source) raw
  in_braces trace atom raw true there inside is listed = of_context (context_named source (said source atom.name)) (said source atom.name) raw refl listed
  in_braces trace atom raw false there inside is listed = grind (arith, of_braces trace atom there inside is, contains_none, contains_cases atom [] raw listed)

  by_start : (trace : TraceItem) (start_ : RawStart) (raw : RawAtom) → Contains (traces_of source) trace → trace.start ≡ start_ → Contains (start_atoms source start_) raw → Contains (state_atoms source) raw
  by_start trace (start.Named name) raw there is listed = of_context (context_named source (said source name)) (said source name) raw refl listed
  by_start trace (start.Listed atoms) raw there is listed =
      let from = flat_cases (λ atom. if stands_for_context source atom then listed_in source (said source atom.name) else atom ∷ []) atoms raw listed in
      in_braces trace from.from raw (stands_for_context source from.from) there (subst (λ s. Contains (start_listed s) from.from) (sym is) from.there) refl from.inside

  pub state_written : (trace : TraceItem) (raw : RawAtom) → Contains (traces_of source) trace → Contains (start_atoms source trace.start) raw → Contains (state_atoms source) raw
  state_written trace raw there listed = by_start trace trace.start raw there refl listed

  -- so none of their nodes is a variable or a blank
  closed_by : IsWellNamed source → (node : RawNode) → Contains (raw_nodes (state_atoms source)) node → (shape : RawKind) → node.kind ≡ shape → shape ≡ kind.App
  closed_by named n there kind.App is = refl
  closed_by named n there shape is = absurd (named (wrong VarInContext n.at.from) (variable_in_state n there (λ same. cc) refl))

  pub atom_closed : IsWellNamed source → (raw : RawAtom) → Contains (state_atoms source) raw → AreClosed raw.nodes
  atom_closed named raw there = all_of (λ (n : RawNode). n.kind ≡ kind.App) raw.nodes (λ n inside. closed_by named n (contains_flat (λ (atom : RawAtom). atom.nodes) (state_atoms source) raw n there inside) n.kind refl)

  pub start_ground : (trace : TraceItem) (atoms : List AtomTree) → IsWellNamed source → Contains (traces_of source) trace → AreAtomsBy source [] 0 (start_atoms source trace.start) atoms → AllByRecursion IsGroundAtom atoms
  start_ground trace atoms named there by = atoms_ground source [] 0 (start_atoms source trace.start) atoms (λ raw listed. atom_closed named raw (state_written trace raw there listed)) by

-- A rule is built, and the first stage of a side is found.

-- a rule is built
pub rule_built : (source : Source) (item : RuleItem) (variables : Variables) (rule : Rule) (behind : ℕ) (left : LeftSide)
    → AreMet source (rule_scope item) none_met variables → AreCovered source (rule_scope item) → rule.vars ≡ names_among variables.firsts → rule.kinds ≡ kinds_met source variables.firsts
    → rule.group ≡ group_of source item.home item.raw.left → rule.next ≡ next_of source item.home item.raw.right
    → IsLeftBuilt source (names_among variables.firsts) item.raw.left 0 behind (record { premises = []; backs = [] }) left → rule.premises ≡ left.premises → rule.backs ≡ left.backs
    → AreAtomsBy source (names_among variables.firsts) behind (atoms_of item.raw.right) rule.right
    → IsRuleBy source item rule
rule_built source item variables rule behind left met covered vars_are kinds_are group_is next_is left_is premises_are backs_are right_is = grind (arith, names_met, kinds_are_met)

-- each rule has a name
names_count : (source : Source) (unlabelled : ℕ) (items : List RuleItem) → length (rule_names_from source unlabelled items) ≡ length items
names_count source unlabelled [] = refl
names_count source unlabelled (x ∷ items) = ap suc (names_count source (unlabelled_behind unlabelled x.raw.label) items)

pub named_each : (source : Source) (refs : List RuleRef) (names : List (List ℕ)) → map rule_item refs ≡ rules_of source → names ≡ map (λ (named : Named). named.name) (names_in source space.Rules) → length names ≡ length refs
named_each source refs names refs_are names_are = grind (arith, names_are, length-map, names_count)

pub named_more : {X : Type 0} (f : X → List ℕ) (names : List (List ℕ)) (i : ℕ) (name : List ℕ) (old new : List X) (x : X) → i < length names → name ≡ get_or names i name
    → map f old ≡ take i names → f x ≡ name → new ≡ old ++ x ∷ [] → map f new ≡ take (i + 1) names
named_more f names i name old new x h given was is new_is = grind (arith, map-append, take_more)

-- the first stage of a side
pub none_at : (x : RawElem) → ((name : Span) → x ≡ elem.Stage name → ⊥) → stages_at x ≡ []
none_at x other = grind arith

pub no_stage_yet : (side : List RawElem) (i : ℕ) (x : RawElem) → i < length side → x ≡ get_or side i x → stages_named side ≡ stages_named (drop i side) → stages_at x ≡ []
    → stages_named side ≡ stages_named (drop (i + 1) side)
no_stage_yet side i x h given was nothing = grind (arith, drop_more)

pub stage_here : (source : Source) (side : List RawElem) (i : ℕ) (x : RawElem) (name : Span) → i < length side → x ≡ get_or side i x → stages_named side ≡ stages_named (drop i side) → x ≡ elem.Stage name
    → stage_named source side ≡ number_of source space.Stages (said source name)
stage_here source side i x name h given was one = grind (arith, drop_more)

-- The backward premises of a side, and what is unbound, one after another.

-- one element of a loop more
pub kept_more : {X Y Z : Type 0} (f : Y → Z) (p : Y → Bool) (g : X → List Y) (xs : List X) (i : ℕ) (x : X) (old new further : List Z) → i < length xs → x ≡ get_or xs i x
    → old ≡ map f (filter p (flat_map g (take i xs))) → further ≡ map f (filter p (g x)) → new ≡ old ++ further → new ≡ map f (filter p (flat_map g (take (i + 1) xs)))
kept_more f p g xs i x old new further h given was is new_is = grind (arith, kept_both f p (flat_map g (take i xs)) (g x), take_more xs i x h, flat_map-append g (take i xs) (get_or xs i x ∷ []), append-nil (g (get_or xs i x)))

-- what one element gives, if it passes
pub one_kept : {Y Z : Type 0} (f : Y → Z) (p : Y → Bool) (ys : List Y) (y : Y) (b : Bool) → ys ≡ y ∷ [] → b ≡ p y → (if b then f y ∷ [] else []) ≡ map f (filter p ys)
one_kept f p ys y b are is = grind arith

-- what was pushed, and what is still to come
pushed : {Z : Type 0} (old new front rest whole all : List Z) → new ≡ old ++ front → whole ≡ front ++ rest → old ++ whole ≡ all → new ++ rest ≡ all
pushed old new front rest whole all new_is whole_is was = ap (λ zs. zs ++ rest) new_is ∙ append_assoc old front rest ∙ ap (λ zs. old ++ zs) (sym whole_is) ∙ was

-- the places of the occurrences that pass
abbrev pub places_of : (Occurrence → Bool) → List Occurrence → List ℕ
places_of p occurrences = map (λ (occurrence : Occurrence). occurrence.at.from) (filter p occurrences)

module _ (source : Source) where
  occurrences_both : (blanks : ℕ) (nodes others : List RawNode) → occurrences_from source blanks (nodes ++ others) ≡ occurrences_from source blanks nodes ++ occurrences_from source (blanks_after blanks nodes) others
  occurrences_both blanks [] others = refl
  occurrences_both blanks (one_node ∷ nodes) others = grind (arith, append_assoc, one_node.at, one_node.kind, occurrences_both (blanks_behind blanks one_node.kind) nodes others)

  -- whether a node has a variable that is not there
  pub node_passes : (firsts : List (List ℕ × Span)) (blanks : ℕ) (at : Span) (shape : RawKind) (name : Option (List ℕ)) (b : Bool) → option_to_list name ≡ map (λ (occurrence : Occurrence). occurrence.name) (occurrence_at source blanks at shape)
      → MatchOption name (b ≡ false) (λ n. b ≡ not (has_name firsts n)) → (if b then at.from ∷ [] else []) ≡ places_of (λ occurrence. not (has_name firsts occurrence.name)) (occurrence_at source blanks at shape)
  node_passes firsts blanks at shape name b named passes = grind (arith, one_kept)

  -- one node more
  pub node_pushed : (p : Occurrence → Bool) (nodes : List RawNode) (i blanks behind : ℕ) (d : RawNode) (old further new all : List ℕ) → i < length nodes
      → further ≡ places_of p (occurrence_at source blanks (get_or nodes i d).at (get_or nodes i d).kind) → new ≡ old ++ further → behind ≡ blanks_behind blanks (get_or nodes i d).kind
      → old ++ places_of p (occurrences_from source blanks (drop i nodes)) ≡ all → new ++ places_of p (occurrences_from source behind (drop (i + 1) nodes)) ≡ all
  node_pushed p nodes i blanks behind d old further new all h more_is new_is behind_is was = grind (arith, pushed, places_of, drop_more, kept_both)

  pub node_counted : (nodes : List RawNode) (i blanks behind : ℕ) (d : RawNode) (all : ℕ) → i < length nodes → behind ≡ blanks_behind blanks (get_or nodes i d).kind
      → blanks_after blanks (drop i nodes) ≡ all → blanks_after behind (drop (i + 1) nodes) ≡ all
  node_counted nodes i blanks behind d all h behind_is was = grind (arith, drop_more)

  -- one element more
  elem_nodes : (side : List RawElem) (i : ℕ) (elem : RawElem) → i < length side → elem ≡ get_or side i elem → raw_nodes (atoms_of (drop i side)) ≡ raw_nodes (atoms_in elem) ++ raw_nodes (atoms_of (drop (i + 1) side))
  elem_nodes side i elem h given = grind (arith, drop_more, flat_map-append)

  pub elem_pushed : (p : Occurrence → Bool) (side : List RawElem) (i blanks behind : ℕ) (elem : RawElem) (nodes : List RawNode) (old new all : List ℕ) → i < length side → elem ≡ get_or side i elem → nodes ≡ raw_nodes (atoms_in elem)
      → new ≡ old ++ places_of p (occurrences_from source blanks nodes) → behind ≡ blanks_after blanks nodes
      → old ++ places_of p (occurrences_from source blanks (raw_nodes (atoms_of (drop i side)))) ≡ all → new ++ places_of p (occurrences_from source behind (raw_nodes (atoms_of (drop (i + 1) side)))) ≡ all
  elem_pushed p side i blanks behind elem nodes old new all h at nodes_are new_is behind_is was =
      let rest = raw_nodes (atoms_of (drop (i + 1) side)) in
      pushed old new (places_of p (occurrences_from source blanks nodes)) (places_of p (occurrences_from source behind rest)) (places_of p (occurrences_from source blanks (raw_nodes (atoms_of (drop i side))))) all new_is
      (ap (λ (ns : List RawNode). places_of p (occurrences_from source blanks ns)) (elem_nodes side i elem h at ∙ ap (λ (ns : List RawNode). ns ++ rest) (sym nodes_are))
      ∙ ap (places_of p) (occurrences_both blanks nodes rest)
      ∙ kept_both (λ (occurrence : Occurrence). occurrence.at.from) p (occurrences_from source blanks nodes) (occurrences_from source (blanks_after blanks nodes) rest)
      ∙ ap (λ n. places_of p (occurrences_from source blanks nodes) ++ places_of p (occurrences_from source n rest)) (sym behind_is))
      was

  -- none is left
  pub all_pushed : (p : Occurrence → Bool) (side : List RawElem) (i blanks : ℕ) (ats all : List ℕ) → length side ≤ i → ats ++ places_of p (occurrences_from source blanks (raw_nodes (atoms_of (drop i side)))) ≡ all → ats ≡ all
  all_pushed p side i blanks ats all done was = sym (append-nil ats) ∙ ap (λ (es : List RawElem). ats ++ places_of p (occurrences_from source blanks (raw_nodes (atoms_of es)))) (sym (drop_all i side done)) ∙ was

  -- ---- what is on the left

  abbrev fresh : List (List ℕ × Span) → Occurrence → Bool
  fresh firsts occurrence = not (has_name firsts occurrence.name)

  abbrev unnamed : List RawAtom → Occurrence → Bool
  unnamed atoms occurrence = not (list_any (λ name. bytes_eq name occurrence.name) (names_of source atoms))

  has_names : (firsts : List (List ℕ × Span)) (name : List ℕ) → has_name firsts name ≡ list_any (λ other. bytes_eq other name) (names_among firsts)
  has_names [] name = refl
  has_names (entry ∷ firsts) name = ap (λ b. b || has_name firsts name) (bytes_eq_sym name entry.0) ∙ ap (λ b. bytes_eq entry.0 name || b) (has_names firsts name)

  names_are : (atoms : List RawAtom) (left : Variables) → AreVariables source atoms left → names_among left.firsts ≡ names_of source atoms
  names_are atoms left are = grind (arith, map-map)

  fresh_is : (atoms : List RawAtom) (left : Variables) → AreVariables source atoms left → (occurrence : Occurrence) → fresh left.firsts occurrence ≡ unnamed atoms occurrence
  fresh_is atoms left are occurrence = ap not (has_names left.firsts occurrence.name ∙ ap (λ (names : List (List ℕ)). list_any (λ name. bytes_eq name occurrence.name) names) (names_are atoms left are))

  unbound_met : (atoms : List RawAtom) (right : List RawNode) (left : Variables) → AreVariables source atoms left → places_of (fresh left.firsts) (occurrences_from source left.blanks right) ≡ places_of (unnamed atoms) (occurrences_from source (blanks_after 0 (raw_nodes atoms)) right)
  unbound_met atoms right left are = grind (arith, places_of, fresh, filter_agree, unnamed, fresh_is)

  pub unbound_is : (item : RuleItem) (left_side right_side : List RawElem) (left : Variables) → left_side ≡ item.raw.left → right_side ≡ item.raw.right → AreVariables source (atoms_of left_side) left
      → places_of (λ (occurrence : Occurrence). not (has_name left.firsts occurrence.name)) (occurrences_from source left.blanks (raw_nodes (atoms_of right_side))) ≡ unbound_at source item
  unbound_is item left_side right_side left left_is right_is are = rw (right_is, unbound_met (atoms_of item.raw.left) (raw_nodes (atoms_of item.raw.right)) left (subst (λ (side : List RawElem). AreVariables source (atoms_of side) left) left_is are))

-- Which atoms and names of a raw file are tokens of the text, and that the nodes of an atom are its arguments.

-- what the law of raw files says
abbrev pub MadeOfTokens : Type 0
MadeOfTokens = (text : List ℕ) (tokens : List Token) (file : List RawItem) → File (symbols_of text tokens) file → AllByRecursion (IsItemOf tokens) file

module _ (tokens : List Token) where
  abbrev AreAtoms : List RawAtom → Type 0
  AreAtoms atoms = AllByRecursion (IsAtomOf tokens) atoms

  side_atoms : (side : List RawElem) → AllByRecursion (IsElemOf tokens) side → AreAtoms (atoms_of side)
  side_atoms [] all = tt
  side_atoms (elem.Atom kept atom ∷ side) all = (all.0, side_atoms side all.1)
  side_atoms (elem.Qui span ∷ side) all = side_atoms side all.1
  side_atoms (elem.Stage name ∷ side) all = side_atoms side all.1

  start_all : (start_ : RawStart) → IsStartOf tokens start_ → AreAtoms (start_listed start_)
  start_all start_ is = grind arith

  -- what the items declare is made of tokens
  abbrev IsRuleMade : RuleItem → Type 0
  IsRuleMade rule = IsRuleOf tokens rule.raw

  abbrev IsClauseMade : ClauseItem → Type 0
  IsClauseMade clause = AreAtoms (clause.head ∷ clause.goals)

  abbrev IsContextMade : ContextItem → Type 0
  IsContextMade context = AreAtoms context.atoms

  abbrev IsTraceMade : TraceItem → Type 0
  IsTraceMade trace = AreAtoms (start_listed trace.start)

  rule_made : (item_ : RawItem) → IsItemOf tokens item_ → AllByRecursion IsRuleMade (declares item_).rules
  rule_made (item.Outer rule) is = (is, tt)
  rule_made (item.Stage name rules) is = all_mapped (IsRuleOf tokens) IsRuleMade (λ raw. record { home = Some name; raw = raw }) rules (λ raw made. made) is.1
  rule_made _ is = tt

  labelled_made : (labelled : Bool) (con_item : ConItem) → IsNameAt tokens con_item.sort → AllByRecursion IsClauseMade (map (λ (c : ConItem). record { head = bare c.sort; goals = [] }) (if labelled then con_item ∷ [] else []))
  labelled_made true con_item is = ((record { name = is; filled = tt; few = (let e = is.there.1 in omega arith); nodes = tt }, tt), tt)
  labelled_made false con_item is = tt

  clause_made : (source : Source) (item_ : RawItem) → IsItemOf tokens item_ → AllByRecursion IsClauseMade (clauses_in source item_)
  clause_made source item_ is = grind (arith, labelled_made)

  context_made : (item_ : RawItem) → IsItemOf tokens item_ → AllByRecursion IsContextMade (declares item_).contexts
  context_made item_ is = grind arith

  trace_made : (item_ : RawItem) → IsItemOf tokens item_ → AllByRecursion IsTraceMade (declares item_).traces
  trace_made item_ is = grind (arith, start_all)

  all_made : (source : Source) → AllByRecursion (IsItemOf tokens) source.file → AreAtoms (atoms_written source)
  all_made source all =
      let rules = all_flat (IsItemOf tokens) IsRuleMade (λ item_. (declares item_).rules) source.file rule_made all in
      both_all (IsAtomOf tokens) (needed_atoms source) _
      (all_flat IsRuleMade (IsAtomOf tokens) (λ (rule : RuleItem). atoms_of rule.raw.left) (rules_of source) (λ rule is. side_atoms rule.raw.left is.left) rules)
      (both_all (IsAtomOf tokens) (made_atoms source) _
      (all_flat IsRuleMade (IsAtomOf tokens) (λ (rule : RuleItem). atoms_of rule.raw.right) (rules_of source) (λ rule is. side_atoms rule.raw.right is.right) rules)
      (both_all (IsAtomOf tokens) (clause_atoms source) _
      (all_flat IsClauseMade (IsAtomOf tokens) (λ (clause : ClauseItem). clause.head ∷ clause.goals) (clauses_of source) (λ clause is. is) (all_flat (IsItemOf tokens) IsClauseMade (clauses_in source) source.file (clause_made source) all))
      (both_all (IsAtomOf tokens) (flat_map (λ (context : ContextItem). context.atoms) (contexts_of source)) _
      (all_flat IsContextMade (IsAtomOf tokens) (λ (context : ContextItem). context.atoms) (contexts_of source) (λ context is. is) (all_flat (IsItemOf tokens) IsContextMade (λ item_. (declares item_).contexts) source.file context_made all))
      (all_flat IsTraceMade (IsAtomOf tokens) (λ (trace : TraceItem). filter (λ atom. not (stands_for_context source atom)) (start_listed trace.start)) (traces_of source)
      (λ trace is. all_passing (IsAtomOf tokens) (λ atom. not (stands_for_context source atom)) (start_listed trace.start) is)
      (all_flat (IsItemOf tokens) IsTraceMade (λ item_. (declares item_).traces) source.file trace_made all)))))

-- each atom of the file is made of tokens
pub atom_made : MadeOfTokens → (source : Source) (is : IsSource source) (atom : RawAtom) → Contains (atoms_written source) atom → IsAtomOf is.tokens atom
atom_made law source is atom there = all_at (IsAtomOf is.tokens) (atoms_written source) atom (all_made is.tokens source (law source.text is.tokens source.file is.parsed)) there

pub filled : MadeOfTokens → (source : Source) → IsSource source → AreFilled source
filled law source is atom there = (atom_made law source is atom there).filled

-- The nodes of an atom are its arguments: so many terms are still to come, and then none.

-- some terms are the first of them and the others
pub one_apart : (count more : ℕ) (nodes : List RawNode) → count ≢ 0 → Fill (count + more) nodes → Fill (suc (count - 1 + more)) nodes
one_apart count more nodes some filled = let same : count + more ≡ suc (count - 1 + more) = omega arith in rw same at filled

pub none_more : (count more : ℕ) (nodes : List RawNode) → count ≡ 0 → Fill (count + more) nodes → Fill more nodes
none_more count more nodes none filled = let same : count + more ≡ more = omega arith in rw same at filled

-- before the first node of an atom all terms are to come, and no other
pub to_come : (count : ℕ) (nodes : List RawNode) → Fill count nodes → (more : ℕ) × Fill (count + more) nodes
to_come count nodes filled = let same : count + 0 ≡ count = omega arith in (0, rw same filled)

-- behind them no node is left
pub none_left : (count : ℕ) (nodes left : List RawNode) → Fill count nodes → ((more : ℕ) → Fill (count + more) nodes → Fill more left) → left ≡ []
none_left count nodes left filled read = let same : count + 0 ≡ count = omega arith in let rest : Fill 0 left = read 0 (rw same filled) in grind arith

module _ (nodes : List RawNode) (at more : ℕ) (filled : Fill (suc more) (drop at nodes)) where
  -- a term that is to come has a node
  pub node_there : at < length nodes
  node_there = grind (arith, drop_all)

  -- behind a variable or a blank come the other terms
  pub leaf_behind : (d : RawNode) → ((get_or nodes at d).kind ≡ kind.Var) ⊎ ((get_or nodes at d).kind ≡ kind.Blank) → Fill more (drop (at + 1) nodes)
  leaf_behind d leaf = grind (arith, drop_more, node_there, filled, none_more)

-- So it is with the atoms of a file, and with those of its parts.

-- the atoms of a rule, of a clause and of a state are atoms of the file
pub made_there : (source : Source) (rule : RuleItem) → Contains (rules_of source) rule → (raw : RawAtom) → Contains (atoms_of rule.raw.right) raw → Contains (made_atoms source) raw
made_there source rule there raw inside = contains_flat (λ (one : RuleItem). atoms_of one.raw.right) (rules_of source) rule raw there inside

pub rule_written : (source : Source) (rule : RuleItem) → Contains (rules_of source) rule → (raw : RawAtom) → Contains (rule_scope rule) raw → Contains (atoms_written source) raw
rule_written source rule there raw inside =
    ⊎_elim (λ left. contains_left (needed_atoms source) _ raw (contains_flat (λ (one : RuleItem). atoms_of one.raw.left) (rules_of source) rule raw there left))
    (λ right. contains_right (needed_atoms source) _ raw (contains_left (made_atoms source) _ raw (made_there source rule there raw right))) (contains_either (atoms_of rule.raw.left) (atoms_of rule.raw.right) raw inside)

pub clause_there : (source : Source) (clause : ClauseItem) → Contains (clauses_of source) clause → (raw : RawAtom) → Contains (clause_scope clause) raw → Contains (clause_atoms source) raw
clause_there source clause there raw inside = contains_flat (λ (one : ClauseItem). one.head ∷ one.goals) (clauses_of source) clause raw there inside

pub clause_written : (source : Source) (clause : ClauseItem) → Contains (clauses_of source) clause → (raw : RawAtom) → Contains (clause_scope clause) raw → Contains (atoms_written source) raw
clause_written source clause there raw inside = contains_right (needed_atoms source) _ raw (contains_right (made_atoms source) _ raw (contains_left (clause_atoms source) _ raw (clause_there source clause there raw inside)))

pub state_atom_here : (source : Source) (raw : RawAtom) → Contains (state_atoms source) raw → Contains (atoms_written source) raw
state_atom_here source raw there = contains_right (needed_atoms source) _ raw (contains_right (made_atoms source) _ raw (contains_right (clause_atoms source) (state_atoms source) raw there))

-- what is kept of one of the items is one of them
pub kept_there : {X A : Type 0} (f : X → A) (refs : List X) (all : List A) (i : ℕ) (x : X) → map f refs ≡ all → i < length refs → x ≡ get_or refs i x → Contains all (f x)
kept_there f refs all i x are within is = rw (← are) (contains_map f refs x (i, within, sym is))

pub part_filled : {X : Type 0} (g : X → List RawAtom) (xs : List X) (i : ℕ) (x : X) → AllByRecursion IsFilled (flat_map g xs) → i < length xs → x ≡ get_or xs i x → AllByRecursion IsFilled (g x)
part_filled g xs i x filled within is = all_of IsFilled (g x) (λ raw inside. all_at IsFilled (flat_map g xs) raw filled (contains_flat g xs x raw (i, within, sym is) inside))

-- an atom of a list, and the atoms of an element of a side
pub atom_filled : (raws : List RawAtom) (i : ℕ) (raw : RawAtom) → AllByRecursion IsFilled raws → i < length raws → raw ≡ get_or raws i raw → IsFilled raw
atom_filled raws i raw filled within is = all_at IsFilled raws raw filled (i, within, sym is)

pub elem_filled : (side : List RawElem) (i : ℕ) (elem : RawElem) → AllByRecursion IsFilled (atoms_of side) → i < length side → elem ≡ get_or side i elem → AllByRecursion IsFilled (atoms_in elem)
elem_filled side i elem filled within is = part_filled atoms_in side i elem filled within is

module _ (source : Source) where
  -- an atom in braces, or what it stands for
  pub braces_filled : (raws : List RawAtom) (i : ℕ) (raw : RawAtom) (stands : Bool) (listed : List RawAtom) → AllByRecursion IsFilled (start_atoms source (start.Listed raws)) → i < length raws → raw ≡ get_or raws i raw
      → stands ≡ stands_for_context source raw → listed ≡ (if stands then listed_in source (said source raw.name) else raw ∷ []) → AllByRecursion IsFilled listed
  braces_filled raws i raw stands listed filled within is stands_is listed_are = grind (arith, part_filled, filled)

  module _ (filled : AreFilled source) where
    among : (raws : List RawAtom) → ((raw : RawAtom) → Contains raws raw → Contains (atoms_written source) raw) → AllByRecursion IsFilled raws
    among raws written = all_of IsFilled raws (λ raw inside. filled raw (written raw inside))

    pub rule_filled : (refs : List RuleRef) (i : ℕ) (ref : RuleRef) → map rule_item refs ≡ rules_of source → i < length refs → ref ≡ get_or refs i ref → AllByRecursion IsFilled (rule_scope (rule_item ref))
    rule_filled refs i ref are within is = among (rule_scope (rule_item ref)) (rule_written source (rule_item ref) (kept_there rule_item refs _ i ref are within is))

    pub clause_filled : (refs : List ClauseRef) (i : ℕ) (ref : ClauseRef) → map clause_item refs ≡ clauses_of source → i < length refs → ref ≡ get_or refs i ref → AllByRecursion IsFilled (clause_scope (clause_item ref))
    clause_filled refs i ref are within is = among (clause_scope (clause_item ref)) (clause_written source (clause_item ref) (kept_there clause_item refs _ i ref are within is))

    pub start_filled : (trace : TraceItem) → Contains (traces_of source) trace → AllByRecursion IsFilled (start_atoms source trace.start)
    start_filled trace there = among (start_atoms source trace.start) (λ raw listed. state_atom_here source raw (state_written source trace raw there listed))

-- In a text without wrong names each node of a rule or clause is a term of which a type is wanted.

-- something is found
pub record IsFound {Y : Type 0} (found : Option Y) : Type 0 where
  pub it : Y
  pub found_is : found ≡ Some it

-- where something passes, something is found
pub any_found : {X Y : Type 0} (g : Y → X) (p : X → Bool) (ys : List Y) → list_any p (map g ys) ≡ true → IsFound (find (λ z. p (g z)) ys)
any_found g p [] any = absurd cc
any_found g p (z ∷ ys) any = let later : list_any p (map g ys) ≡ true → IsFound (find (λ w. p (g w)) ys) = λ passes. any_found g p ys passes in grind arith

-- what is not otherwise is so
pub not_otherwise : (b : Bool) → (b ≡ false → ⊥) → b ≡ true
not_otherwise b never = grind arith

not_other : (b : Bool) → (b ≡ true → ⊥) → b ≡ false
not_other b never = grind arith

pub same_number : (n m : ℕ) → ((n ≢ m) → ⊥) → n ≡ m
same_number n m never = grind (arith, eqb-true, eqb-false)

-- a name that is used is in its space, since else no space would have it, or another
pub known : (source : Source) (space : Space) (name : Span) → IsWellNamed source → Contains (uses_in source space) name → is_in source space (said source name) ≡ true
known source space name clean used = not_otherwise _ (λ outside. clean (wrong Unknown name.from) (unknown space name used (λ other.
    not_other _ (λ there. clean (wrong WrongKind name.from) (wrong_kind space other name used outside there refl))) refl))

-- The predicate of an atom is declared, with as many arguments.
pub record IsPredKnown (source : Source) (raw : RawAtom) : Type 0 where
  pub pred : PredItem
  pub found : pred_named source (said source raw.name) ≡ Some pred
  pub count : raw.args ≡ length pred.args

pub pred_known : (source : Source) (raw : RawAtom) → IsWellNamed source → Contains (atoms_written source) raw → IsPredKnown source raw
pred_known source raw clean there =
    let used = contains_map (λ (atom : RawAtom). atom.name) (atoms_written source) raw there in
    let found = any_found (λ (pred : PredItem). named source pred.name) (λ other. bytes_eq other.name (said source raw.name)) (preds_of source) (known source space.Predicates raw.name clean used) in
    record { pred = found.it; found = found.found_is; count = same_number _ _ (λ differ. clean (wrong WrongArity raw.name.from) (wrong_arity raw found.it there found.found_is differ refl)) }

-- The constructor of a node is declared, with as many arguments.
pub record IsConKnown (source : Source) (at : Span) (args : ℕ) : Type 0 where
  pub con : ConItem
  pub found : con_named source (said source at) ≡ Some con
  pub count : args ≡ length con.args

pub con_known : (source : Source) (raw : RawAtom) → IsWellNamed source → Contains (atoms_written source) raw → (one : RawNode) → Contains raw.nodes one → one.kind ≡ kind.App → IsConKnown source one.at one.args
con_known source raw clean there one inside app =
    let written = contains_flat (λ (atom : RawAtom). atom.nodes) (atoms_written source) raw one there inside in
    let used = contains_flat (λ (other : RawNode). applied_at other.kind other.at) (raw_nodes (atoms_written source)) one one.at written (subst (λ shape. Contains (applied_at shape one.at) one.at) (sym app) (contains_first one.at [])) in
    let found = any_found (λ (con : ConItem). named source con.name) (λ other. bytes_eq other.name (said source one.at)) (cons_of source) (known source space.Constructors one.at clean used) in
    record { con = found.it; found = found.found_is; count = same_number _ _ (λ differ. clean (wrong WrongArity one.at.from) (wrong_term_arity one found.it written app found.found_is differ refl)) }

-- the types that a predicate, and a constructor, wants of its arguments
pub pred_types_are : (source : Source) (name : List ℕ) (pred : PredItem) → pred_named source name ≡ Some pred → pred_types source name ≡ map (said source) pred.args
pred_types_are source name pred found = ap (λ (is : Option PredItem). map (said source) (unwrap_or (option_map (λ (one : PredItem). one.args) is) [])) found

pub con_types_are : (source : Source) (at : Span) (item_ : ConItem) → con_named source (said source at) ≡ Some item_ → node_types source kind.App at ≡ map (said source) item_.args
con_types_are source at item_ found = ap (λ (is : Option ConItem). map (said source) (unwrap_or (option_map (λ (one : ConItem). one.args) is) [])) found

-- a constructor wants as many types as there are arguments, and a variable none
types_count : (source : Source) (shape : RawKind) (at : Span) (args : ℕ) → IsCount shape args → (shape ≡ kind.App → IsConKnown source at args) → length (node_types source shape at) ≡ args
types_count source shape at args count known = grind (arith, con_types_are, length-map)

-- each node of terms that are so many stands at a place of its own
pub sites_whole : (source : Source) (types : List (List ℕ)) (nodes : List RawNode) → Fill (length types) nodes → ((one : RawNode) → Contains nodes one → one.kind ≡ kind.App → IsConKnown source one.at one.args) → nodes_at (sites_from source types nodes) ≡ nodes
sites_whole source (wants ∷ next) (first ∷ nodes) fill known =
    let count = types_count source first.kind first.at first.args fill.0 (known first (contains_first first nodes)) in
    let size : first.args + length next ≡ length (node_types source first.kind first.at ++ next) = omega (arith, count, length-append (node_types source first.kind first.at) next) in
    ap (λ ns. first ∷ ns) (sites_whole source (node_types source first.kind first.at ++ next) nodes (rw size at fill.1) (λ one there. known one (contains_behind first nodes one there)))
sites_whole source types nodes fill known = grind arith

-- An atom stands in the file, and its nodes are its arguments.
pub record IsHere (source : Source) (raw : RawAtom) : Type 0 where
  pub there : Contains (atoms_written source) raw
  pub filled : IsFilled raw

module _ (source : Source) (names : IsWellNamed source) where
  -- as many types are wanted as there are arguments
  pub here_count : (raw : RawAtom) → IsHere source raw → raw.args ≡ length (pred_types source (said source raw.name))
  here_count raw here = grind (arith, pred_known source raw names here.there, length-map, pred_types_are, raw.name)

  -- each node of the atom is a term of it
  pub here_nodes : (raw : RawAtom) → IsHere source raw → nodes_at (sites_in source raw) ≡ raw.nodes
  here_nodes raw here = grind (arith, sites_whole, here_count raw here, con_known source raw names here.there, raw.name, raw.nodes, here.filled)

  pub scope_nodes : (atoms : List RawAtom) → ((raw : RawAtom) → Contains atoms raw → IsHere source raw) → nodes_at (sites_of source atoms) ≡ raw_nodes atoms
  scope_nodes [] here = refl
  scope_nodes (raw ∷ atoms) here = rw (map-append (λ (site : Site). site.node) (sites_in source raw) (sites_of source atoms), here_nodes raw (here raw (contains_first raw atoms)), scope_nodes atoms (λ other there. here other (contains_behind raw atoms other there)))

  module _ (filled : AreFilled source) where
    covered_among : (raws : List RawAtom) → ((raw : RawAtom) → Contains raws raw → Contains (atoms_written source) raw) → AreCovered source raws
    covered_among raws written = scope_nodes raws (λ raw inside. let there = written raw inside in record { there = there; filled = filled raw there })

    -- each node of a rule is a term of it, and each node of a clause
    pub rule_covered : (refs : List RuleRef) (i : ℕ) (ref : RuleRef) → map rule_item refs ≡ rules_of source → i < length refs → ref ≡ get_or refs i ref → AreCovered source (rule_scope (rule_item ref))
    rule_covered refs i ref are within is = covered_among (rule_scope (rule_item ref)) (rule_written source (rule_item ref) (kept_there rule_item refs _ i ref are within is))

    pub clause_covered : (refs : List ClauseRef) (i : ℕ) (ref : ClauseRef) → map clause_item refs ≡ clauses_of source → i < length refs → ref ≡ get_or refs i ref → AreCovered source (clause_scope (clause_item ref))
    clause_covered refs i ref are within is = covered_among (clause_scope (clause_item ref)) (clause_written source (clause_item ref) (kept_there clause_item refs _ i ref are within is))

-- what a reader of rules asks, and one of clauses
pub ruleset rule_terms = (rule_filled, rule_covered)

pub ruleset clause_terms = (clause_filled, clause_covered)
