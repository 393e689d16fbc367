-- What a text in order declares is a program, and its start state is one that fits.
use Rattle.std.proofs.Common.{◌≡◌, ⊎_elim, ◌<◌, ◌≤◌, ◌^◌, Bool, true, false, not, List, length, refl, sym, ap, subst, ◌∙◌, arith, Contains, length-append, ℕ, suc, ◌+◌, [], ◌∷◌, ◌++◌, map, filter, append_assoc, ◌||◌, ◌&&◌, if◌then◌else◌, nat_lt, nat_le, zero}
use Rattle.std.proofs.lemmas.List.{length-map, append-nil}
use Rattle.std.specs.Prelude.{Option, Some, codes, decimal, sum_by, IsSomeAnd, None, IfSome}
use Rattle.std.specs.Option.{option_and_then}
use Rattle.cep_base.specs.Kinds.{is_backward}
use Rattle.cep_parse.specs.declared.raw.RawKind.{RawKind}
use Rattle.cep_parse.specs.declared.raw.Span.{Span}
use Rattle.cep_parse.specs.declared.raw.RawNode.{RawNode}
use Rattle.cep_parse.specs.declared.raw.RawAtom.{RawAtom}
use Rattle.cep_parse.specs.Written.{IsItemOf, Fill, IsCount}
use Rattle.cep_rule.specs.Names.{IsVariableName, AreNames}
use Rattle.cep_refusal.specs.declared.reason.Reason.TheVariants.{OverLimit, NoTrace}
use Rattle.cep_source.specs.Items.{Source, RuleItem, ClauseItem, PredItem, said, rules_of, clauses_of, ConItem, sorts_of, cons_of, preds_of, TraceItem, traces_of, declares, stages_of, interactives_of}
use Rattle.cep_source.specs.Spaces.{Named, names_in, rule_names_from, unlabelled_behind}
use Rattle.cep_parse.specs.Raw.{atoms_of, raw_nodes}
use Rattle.cep_source.specs.Uses.{made_atoms, state_atoms, stages_named}
use Rattle.cep_refusal.specs.First.{wrong}
use Rattle.cep_faults.specs.Misnamed.Misnamed.{over, no_trace}
use Rattle.cep_faults.specs.Limits.{IsOver as overs}
use Rattle.cep_types.specs.Sites.{rule_scope, clause_scope, IsScope as scopes}
use Rattle.cep_ground.specs.Texts.{IsClean, IsBound}
use Rattle.cep_base.proofs.Elements.{contains_map, all_at, contains_none, contains_first, contains_behind, contains_cases, contains_left, contains_right, all_of}
use Rattle.cep_infer.proofs.RulesInTurn.{state_atom_here}
use Rattle.cep_ground.proofs.NameLaws.{all_unmap, at_most, nodes_few, all_map, tokens_few, all_filter, map_twice, all_zip, rules_few, sort_names, stage_names, con_names, pred_names, rule_names, used_stage, rule_grouped, rule_next}
use Rattle.cep_ground.proofs.Scopes.{IsHere, typed_atoms, atom_alike, raw_depth, not_greater}
use Rattle.std.specs.List.{AllByRecursion, flat_map, list_any, AllZip}
use Rattle.cep_source.specs.Variables.{Occurrence, blanks_behind, occurrences_from, variables_of, blanks_after}
use Rattle.cep_types.specs.Heads.{number_of, variable_of, head_at, heads_from, sorts_said, Head}
use Rattle.cep_infer.specs.Meaning.{names_of, kinds_of, is_back, ArePremisesBy, IsRuleBy, IsClauseBy, pred_by, is_fact_by, signature_of, IsStartBy, con_by, stage_by, AreParts, group_of, next_of}
use Rattle.cep_parse.specs.declared.raw.RawElem.{RawElem}
use Rattle.cep_term.specs.Tree.{AtomTree, atom_nodes, IsGroundAtom, IsFit, Tree, Trees}
use Rattle.cep_rule.specs.declared.rule.Rule.{Rule}
use Rattle.cep_rule.specs.Patterns.{PremiseTree, ClauseTree}
use Rattle.cep_rule.specs.Binding.{IsBoundRule, IsBoundClause}
use Rattle.cep_infer.specs.Heads.{IsAtomBy, AreAtomsBy, argument_count, heads_of, heads_among}
use Rattle.cep_infer.specs.Places.{unbound_of, backs_at}
use Rattle.cep_ground.proofs.OneAnswer.{fact_by, alike_atoms}
use Rattle.cep_rule.specs.Typing.{IsTyped, HasStatePredicate}
use Rattle.cep_rule.specs.Program.{IsTypedRule, IsDividedRule, IsTypedClause, IsDividedClause, AreSorts, AreNumbersDeclared, IsGroupedRule, IsProgram}
use Rattle.cep_source.specs.Starts.{is_of_fact, start_atoms, nodes_written, IsFitWritten, is_written_alike, counting_behind, counting, turns_said}
pub use Rattle.cep_base.proofs.Lists.{all_weaker as all_follow}
use Rattle.std.proofs.lemmas.List.Sums.{sum_by-cons}
use Rattle.std.specs.declared.cmp.Ordering.{Ordering}
use Rattle.std.proofs.lemmas.Bool.{ltb-true, lt-ltb, leb-true}
use Rattle.cep_term.specs.Order.{atom_cmp}
use Rattle.cep_term.specs.BagLaws.{BagLaws}
use Rattle.cep_term.specs.Multiset.{Multiset, count_of, with_one, gathered, held, gained, once}
use Rattle.cep_rule.specs.declared.signature.PredDecl.{PredDecl}
use Rattle.cep_rule.specs.State.{IsStateAtom, IsState, Fits}
use Rattle.cep_infer.specs.Resolved.{IsWellNamed}
use Rattle.cep_infer.specs.States.{AreClosed}
use Rattle.std.proofs.lemmas.Slice.Zip.{AllZip-long}
use Rattle.cep_parse.specs.declared.raw.RawItem.{RawItem}
use Rattle.cep_rule.specs.declared.signature.Con.{Con}
use Rattle.cep_rule.specs.declared.signature.Signature.{Signature}
use Rattle.cep_rule.specs.declared.parts.Stage.{Stage}
use Rattle.cep_rule.specs.declared.parts.Parts.{Parts}
use Rattle.cep_rule.specs.Limits.{IsSmallPattern, IsSmallSignature, IsSmallRule, IsSmallClause}
use Rattle.cep_base.specs.Bounds.{IsTurnLimit}
use Rattle.cep_base.specs.declared.limits.TheConstants.{MOST_TURNS}
use Rattle.cep_rule.specs.Groundness.{IsGrounded}
use Rattle.cep_modes.specs.Grounding.{AreInOrder}
use Rattle.cep_parse.specs.declared.raw.RawKind.TheVariants as kind
use Rattle.cep_source.specs.declared.space.Space.TheVariants as space
use Rattle.cep_parse.specs.declared.raw.RawElem.TheVariants as elem
use Rattle.std.specs.FinMap as finite
use Rattle.cep_ground.proofs.RuleParts.{AtomsMade, may_be_state, may_be_backward, atom_of_tokens, here_at, nodes_short, AreHere, words, short, left_here, right_here, linear_few, back_few, right_few, goals_few, rule_here, clause_here, in_range, con_sort_known, con_args_known, pred_args_known, kinds_in_range, variable_names, premise_atoms, bound_vars, rule_bound, clause_bound, atom_size, each_atom, pred_at, IsJudged, judged_atoms, part_all, premise_count, atoms_count, is_of_state, rule_typed, rule_divided, clause_typed, clause_divided}

-- The start state of a text is a state that fits.

-- the laws of start states that are needed
pub record StartLaws : Type 0 where
  pub written : (source : Source) (trace : TraceItem) (raw : RawAtom) → Contains (traces_of source) trace → Contains (start_atoms source trace.start) raw → Contains (state_atoms source) raw
  pub closed : (source : Source) (raw : RawAtom) → IsWellNamed source → Contains (state_atoms source) raw → AreClosed raw.nodes
  pub ground : (source : Source) (vars : List (List ℕ)) (blanks : ℕ) (raw : RawAtom) (atom : AtomTree) → IsAtomBy source vars blanks raw atom → AreClosed raw.nodes → IsGroundAtom atom

-- without open nodes there are no variables
no_occurrences : (source : Source) (blanks : ℕ) (nodes_ : List RawNode) → AreClosed nodes_ → occurrences_from source blanks nodes_ ≡ []
no_occurrences source blanks [] all = refl
no_occurrences source blanks (first ∷ nodes_) all = grind (arith, first.kind, first.at, all.0, no_occurrences source (blanks_behind blanks first.kind) nodes_ all.1, all.1, first.args)

module _ (source : Source) (clean : IsClean source) (made : AtomsMade source) (starts : StartLaws) where
  listed_closed : (raw : RawAtom) → Contains (state_atoms source) raw → AreClosed raw.nodes
  listed_closed raw listed = starts.closed source raw clean.names listed

  listed_here : (raw : RawAtom) → Contains (state_atoms source) raw → IsHere source raw
  listed_here raw listed = here_at source clean made raw (state_atom_here source raw listed)

  alone_here : (raw : RawAtom) → Contains (state_atoms source) raw → AreHere source clean made (raw ∷ [])
  alone_here raw listed = record {
    scope = scopes.state raw listed refl;
    here = λ other there. ⊎_elim (λ (same : raw ≡ other). subst (IsHere source) same (listed_here raw listed)) (λ later. absurd (contains_none other later)) (contains_cases raw [] other there);
    few = omega arith;
  }

  no_kinds : (raw : RawAtom) → Contains (state_atoms source) raw → kinds_of source (raw ∷ []) ≡ []
  no_kinds raw listed = grind (arith, append-nil raw.nodes, no_occurrences source 0 raw.nodes (listed_closed raw listed), listed_closed raw listed, raw.nodes)

  listed_typed : (raw : RawAtom) (blanks : ℕ) (atom : AtomTree) (listed : Contains (state_atoms source) raw) → IsAtomBy source [] blanks raw atom → IsTyped (signature_of source) [] atom
  listed_typed raw blanks atom listed by =
      let all = alone_here raw listed in
      let scope = raw ∷ [] in
      let typed = typed_atoms source clean.names clean.types scope all.scope all.here (words source clean made scope all) (short source clean made scope all) scope (atom ∷ []) 0 all.here
      (λ site inside. inside) (λ wanted inside. inside) ((atom_alike source [] (names_of source scope) blanks 0 raw atom (listed_closed raw listed) by), tt) in
      subst (λ ks. IsTyped (signature_of source) ks atom) (no_kinds raw listed) typed.0

  listed_of_state : (raw : RawAtom) (blanks : ℕ) (atom : AtomTree) (listed : Contains (state_atoms source) raw) → IsAtomBy source [] blanks raw atom → HasStatePredicate (signature_of source) atom
  listed_of_state raw blanks atom listed by =
      let here = listed_here raw listed in
      let is = pred_at source clean made [] blanks raw atom here by in
      subst (λ f. IsSomeAnd f (λ (pred : PredDecl). is_backward pred.kind ≡ false)) (sym is.found)
      (is.back_is ∙ is_of_state source clean made raw here (contains_right (made_atoms source) (state_atoms source) raw listed))

  listed_fit : (raw : RawAtom) (blanks : ℕ) (atom : AtomTree) (listed : Contains (state_atoms source) raw) → IsAtomBy source [] blanks raw atom → IsFit atom
  listed_fit raw blanks atom listed by =
      let fits : (¬ IsFitWritten raw) → ⊥ = λ not_fit. clean.names (wrong OverLimit raw.name.from) (over raw.name.from (overs.unfit raw listed not_fit refl) refl) in
      let deep = raw_depth source [] blanks raw atom by (listed_closed raw listed) in
      record {
        nodes = not_greater _ _ (λ more_. fits (λ fit. let n = fit.nodes in omega (arith, n, (atom_size source [] blanks raw atom by), more_)));
        depth = not_greater _ _ (λ more_. fits (λ fit. let d = fit.depth in omega (arith, d, deep, more_)));
      }

  pub listed_state_atom : (raw : RawAtom) (blanks : ℕ) (atom : AtomTree) → Contains (state_atoms source) raw → IsAtomBy source [] blanks raw atom → IsStateAtom (signature_of source) atom
  listed_state_atom raw blanks atom listed by = grind (arith, listed_closed raw listed, listed_typed raw blanks atom listed by, listed_of_state raw blanks atom listed by, listed_fit raw blanks atom listed by, starts.ground)

  pub listed_state_atoms : (raws : List RawAtom) (blanks : ℕ) (list : List AtomTree) → ((raw : RawAtom) → Contains raws raw → Contains (state_atoms source) raw) → AreAtomsBy source [] blanks raws list → AllByRecursion (IsStateAtom (signature_of source)) list
  listed_state_atoms raws blanks list all by = each_atom source [] (IsStateAtom (signature_of source)) blanks raws list (λ raw more_ atom there is. listed_state_atom raw more_ atom (all raw there) is) by

  -- an atom of a state is a fact where it is written as one
  fact_written : (raw : RawAtom) (blanks : ℕ) (atom : AtomTree) (listed : Contains (state_atoms source) raw) → IsAtomBy source [] blanks raw atom → is_fact_by source atom ≡ is_of_fact source raw
  fact_written raw blanks atom listed by = (pred_at source clean made [] blanks raw atom (listed_here raw listed) by).fact_is

  module _ (laws : BagLaws) where
    -- what is there stays there
    stays : (bag : Multiset) (a x : AtomTree) (o : Ordering) → atom_cmp x a ≡ o → 0 < count_of bag x → 0 < count_of (with_one bag a) x
    stays bag a x o is there = grind arith

    -- Each atom that is written like one of these is there.
    abbrev AreThere : List RawAtom → Multiset → Type 0
    AreThere before bag = (raw : RawAtom) (blanks : ℕ) (atom : AtomTree) → Contains (state_atoms source) raw → IsAtomBy source [] blanks raw atom → list_any (is_written_alike source raw) before ≡ true → 0 < count_of bag atom

    one_more : (raw : RawAtom) (blanks : ℕ) (atom : AtomTree) (before : List RawAtom) (bag : Multiset) → Contains (state_atoms source) raw → IsAtomBy source [] blanks raw atom → 0 < count_of bag atom → AreThere before bag → AreThere (raw ∷ before) bag
    one_more raw blanks atom before bag listed by here there other more_ x listed' by' alike = grind (arith, alike_atoms, listed_closed other listed', listed_closed raw listed)

    -- A number of what is gained is no greater than that of what counts.
    module _ (size : AtomTree → ℕ) (width : RawAtom → ℕ) where
      gains_step : (fact was there_ : Bool) (raw : RawAtom) (atom : AtomTree) (same more_ : List AtomTree) (kept next : List RawAtom) → size atom ≤ width raw
          → (was ≡ true → there_ ≡ true) → sum_by size same ≤ sum_by width kept → (there_ ≡ true → sum_by size same ≤ sum_by width next) → (sum_by size more_ ≤ sum_by width next)
          → sum_by size (if fact && there_ then same else atom ∷ more_) ≤ sum_by width (if fact && was then kept else raw ∷ next)
      gains_step fact was there_ raw atom same more_ kept next fits seen one two three = grind (arith, sum_by-cons)

      gains_less : (raws : List RawAtom) (blanks : ℕ) (list : List AtomTree) (before : List RawAtom) (bag : Multiset) → ((raw : RawAtom) → Contains raws raw → Contains (state_atoms source) raw)
          → ((raw : RawAtom) (more_ : ℕ) (atom : AtomTree) → Contains (state_atoms source) raw → IsAtomBy source [] more_ raw atom → size atom ≤ width raw)
          → AreAtomsBy source [] blanks raws list → AreThere before bag → sum_by size (gained (is_fact_by source) bag list) ≤ sum_by width (counting_behind source before raws)
      gains_less (raw ∷ raws) blanks (atom ∷ list) before bag all sized by there =
          let listed = all raw (contains_first raw raws) in
          let further = λ (other : RawAtom) (inside : Contains raws other). all other (contains_behind raw raws other inside) in
          let is = fact_written raw blanks atom listed by.0 in
          let now = blanks_after blanks raw.nodes in
          subst (λ (fact : Bool). sum_by size (if fact && nat_lt 0 (count_of bag atom) then gained (is_fact_by source) bag list else atom ∷ gained (is_fact_by source) (with_one bag atom) list)
          ≤ sum_by width (counting_behind source before (raw ∷ raws))) (sym is)
          (gains_step (is_of_fact source raw) (list_any (is_written_alike source raw) before) (nat_lt 0 (count_of bag atom)) raw atom
          (gained (is_fact_by source) bag list) (gained (is_fact_by source) (with_one bag atom) list) (counting_behind source before raws) (counting_behind source (raw ∷ before) raws)
          (sized raw blanks atom listed by.0)
          (λ alike. lt-ltb 0 (count_of bag atom) (there raw blanks atom listed by.0 alike))
          (gains_less raws now list before bag further sized by.1 there)
          (λ inside. gains_less raws now list (raw ∷ before) bag further sized by.1 (one_more raw blanks atom before bag listed by.0 (ltb-true 0 (count_of bag atom) inside) there))
          (gains_less raws now list (raw ∷ before) (with_one bag atom) further sized by.1
          (one_more raw blanks atom before (with_one bag atom) listed by.0 (let own = laws.own bag atom (count_of bag atom + 1) in omega (arith, own))
          (λ other more_ x listed' by' alike. stays bag atom x (atom_cmp x atom) refl (there other more_ x listed' by' alike)))))
      gains_less raws blanks list before bag all sized by there = grind arith

-- how many there are is a sum of ones
ones_are : {X : Type 0} (xs : List X) → sum_by (λ (_ : X). 1) xs ≡ length xs
ones_are [] = refl
ones_are (x ∷ xs) = let more = sum_by-cons (λ _. 1) x xs in let rest = ones_are xs in omega (arith, more, rest)

-- the start state of a text in order
pub record IsGoodStart (source : Source) (start_ : Multiset) : Type 0 where
  pub state : IsState (signature_of source) start_
  pub fits : Fits start_

pub start_good : (source : Source) (clean : IsClean source) (made : AtomsMade source) (starts : StartLaws) (laws : BagLaws) (trace : TraceItem) (rest : List TraceItem) (start_ : Multiset) → traces_of source ≡ trace ∷ rest → IsStartBy source trace start_ → IsGoodStart source start_
start_good source clean made starts laws trace rest start_ first by =
    let there : Contains (traces_of source) trace = subst (λ ts. Contains ts trace) (sym first) (contains_first trace rest) in
    let raws = start_atoms source trace.start in
    let written = λ (raw : RawAtom) (listed : Contains raws raw). starts.written source trace raw there listed in
    let is_state = listed_state_atoms source clean made starts raws 0 by.atoms written by.atoms_are in
    let test = is_fact_by source in
    let kept = gained test finite.empty by.atoms in
    let ground = ground_all by.atoms is_state in
    let none = λ (raw : RawAtom) (blanks : ℕ) (atom : AtomTree) (listed : Contains (state_atoms source) raw) (is : IsAtomBy source [] blanks raw atom) (never : ◌≡◌ {A = Bool} false true). absurd cc in
    let ones = gains_less source clean made starts laws (λ _. 1) (λ _. 1) raws 0 by.atoms [] finite.empty written (λ raw more_ atom listed is. omega arith) by.atoms_are none in
    let sizes = gains_less source clean made starts laws atom_nodes nodes_written raws 0 by.atoms [] finite.empty written (λ raw more_ atom listed is. let size = atom_size source [] more_ raw atom is in omega (arith, size)) by.atoms_are none in
    let few_copies : length (counting source raws) ≤ 100000 = not_greater _ _ (λ more_. clean.names (wrong OverLimit trace.at) (over trace.at (overs.copies trace rest first more_ refl) refl)) in
    let few_nodes : sum_by nodes_written (counting source raws) ≤ 4194304 = not_greater _ _ (λ more_. clean.names (wrong OverLimit trace.at) (over trace.at (overs.nodes trace rest first more_ refl) refl)) in
    subst (IsGoodStart source) (sym (by.start_is ∙ laws.once_gathered test by.atoms ground))
    (record {
      state = record {
        bag = laws.gathered_kept kept (laws.gained_ground test finite.empty by.atoms ground);
        each = λ a some. all_at (IsStateAtom (signature_of source)) by.atoms a is_state (laws.gained_among test finite.empty by.atoms a ((laws.gathered_there kept a).0 some));
        once = λ a fact. let one = ap (λ bag. count_of bag a) (sym (laws.once_gathered test by.atoms ground)) ∙ laws.once_count test (gathered by.atoms) a in at_most_one (test a) (count_of (gathered by.atoms) a) (count_of (gathered kept) a) (sym (fact_by source a) ∙ fact) one;
      };
      fits = record {
        copies = omega (arith, (laws.gathered_copies kept), (ones_are kept), (ones_are (counting source raws)), ones, few_copies);
        nodes = omega (arith, (laws.gathered_nodes kept), sizes, few_nodes);
      };
    })
  where
    ground_all : (list : List AtomTree) → AllByRecursion (IsStateAtom (signature_of source)) list → AllByRecursion IsGroundAtom list
    ground_all [] all = tt
    ground_all (atom ∷ list) all = (all.0.ground, ground_all list all.1)

    at_most_one : (b : Bool) (n count : ℕ) → b ≡ true → count ≡ held b n → count ≤ 1
    at_most_one true n count is held_ = omega (arith, held_)
    at_most_one false n count is held_ = absurd cc

-- What a text in order declares is a program.

-- a number of turns that is said is one that a program may ask for
turns_few : (digits : Bool) (turns : ℕ) → IfSome (let said : Option ℕ = if digits && (nat_le 1 turns && nat_le turns MOST_TURNS) then Some turns else None in said) IsTurnLimit
turns_few digits turns = grind (arith, leb-true)

-- where each makes one at most, there are not more than of them
flat_few : {X Y : Type 0} (f : X → List Y) (xs : List X) → ((x : X) → length (f x) ≤ 1) → length (flat_map f xs) ≤ length xs
flat_few f [] one = omega arith
flat_few f (x ∷ xs) one = grind (arith, length-append, flat_few f xs one)

one_sort : (item_ : RawItem) → length (declares item_).sorts ≤ 1
one_sort item_ = grind arith

one_stage : (item_ : RawItem) → length (declares item_).stages ≤ 1
one_stage item_ = grind arith

-- the same of numbers that are sorts
sorts_in_range : (source : Source) (spans : List Span) (most : ℕ) → AllByRecursion (λ name. number_of source space.Sorts name < most) (map (said source) spans) → AllByRecursion (λ sort. sort < most) (sorts_said source spans)
sorts_in_range source [] most all = tt
sorts_in_range source (span ∷ spans) most all = (all.0, sorts_in_range source spans most all.1)

module _ (source : Source) (clean : IsClean source) (made : AtomsMade source) (items : AllByRecursion (IsItemOf clean.is_source.tokens) source.file) (few : length source.file ≤ length clean.is_source.tokens) (starts : StartLaws) (laws : BagLaws) (bound : IsBound source) where
  file_few : length source.file ≤ 1048576
  file_few = let tokens = tokens_few source clean.is_source in let s = clean.short in omega (arith, few, tokens, s)

  nodes_of_scope : (atoms : List RawAtom) → AreHere source clean made atoms → length (raw_nodes atoms) < 2 ^ 63
  nodes_of_scope atoms are = omega (arith, nodes_few atoms (λ raw there. let s = nodes_short source clean made raw (are.here raw there) in omega (arith, s)), are.few)

  rule_vars_few : (item_ : RuleItem) → Contains (rules_of source) item_ → length (names_of source (rule_scope item_)) ≤ 32
  rule_vars_few item_ there =
      let size = length-map (variables_of source (rule_scope item_)) (λ (o : Occurrence). o.name) in
      let most = at_most (variables_of source (atoms_of item_.raw.left)) 32 (λ o found. clean.names (wrong OverLimit o.at.from) (over o.at.from (overs.rule_variable item_ o there found refl) refl)) in
      omega (arith, size, (ap length (bound_vars source item_ (all_at (λ (rule : RuleItem). unbound_of source rule ≡ []) (rules_of source) item_ bound there))), most)

  clause_vars_few : (item_ : ClauseItem) → Contains (clauses_of source) item_ → length (names_of source (clause_scope item_)) ≤ 32
  clause_vars_few item_ there =
      let most = at_most (variables_of source (clause_scope item_)) 32 (λ o found. clean.names (wrong OverLimit o.at.from) (over o.at.from (overs.clause_variable item_ o there found refl) refl)) in
      omega (arith, (length-map (variables_of source (clause_scope item_)) (λ (o : Occurrence). o.name)), most)

  small_rule : (item_ : RuleItem) (rule : Rule) → Contains (rules_of source) item_ → IsRuleBy source item_ rule → IsSmallRule rule
  small_rule item_ rule there by =
      let left = premise_atoms source rule.vars 0 item_.raw.left by.left by.left_is in
      let here = left_here source clean made item_ there in
      let small = all_follow (IsJudged source clean made) IsSmallPattern (map (λ p. p.atom) by.left) (λ atom j. j.small) (judged_atoms source clean made rule.vars 0 (atoms_of item_.raw.left) (map (λ p. p.atom) by.left) here left) in
      let linear = premise_count source clean made not may_be_state rule.vars 0 item_.raw.left by.left (λ its. refl) here by.left_is in
      let back = premise_count source clean made (λ b. b) may_be_backward rule.vars 0 item_.raw.left by.left (λ its. refl) here by.left_is in
      let right = atoms_count source clean made rule.vars _ (atoms_of item_.raw.right) rule.right by.right_is in
      let right_judged = judged_atoms source clean made rule.vars _ (atoms_of item_.raw.right) rule.right (right_here source clean made item_ there) by.right_is in
      record {
        vars = let v = ap length by.vars_are in let most = rule_vars_few item_ there in omega (arith, v, most);
        premises = let e = ap length by.premises_are in let most = linear_few source clean made item_ there in omega (arith, e, linear, most);
        backs = let e = ap length by.backs_are ∙ length-map (filter (λ (p : PremiseTree). is_back source p.atom) by.left) (λ (p : PremiseTree). p.atom) in let most = back_few source clean made item_ there in omega (arith, e, back, most);
        right = let most = right_few source clean made item_ there in omega (arith, right, most);
        premise_nodes = subst (AllByRecursion (λ (p : PremiseTree). IsSmallPattern p.atom)) (sym by.premises_are) (all_filter (λ (p : PremiseTree). IsSmallPattern p.atom) (λ p. not (is_back source p.atom)) by.left (all_unmap IsSmallPattern (λ (p : PremiseTree). p.atom) by.left small));
        back_nodes = subst (AllByRecursion IsSmallPattern) (sym by.backs_are) (part_all source clean made IsSmallPattern _ by.left small);
        right_nodes = all_follow (IsJudged source clean made) IsSmallPattern rule.right (λ atom j. j.small) right_judged;
      }

  small_clause : (item_ : ClauseItem) (clause : ClauseTree) → Contains (clauses_of source) item_ → IsClauseBy source item_ clause → IsSmallClause clause
  small_clause item_ clause there by =
      let judged = judged_atoms source clean made clause.vars 0 (clause_scope item_) (clause.head ∷ clause.goals) (clause_here source clean made item_ there).here by.atoms_are in
      let size = atoms_count source clean made clause.vars 0 (clause_scope item_) (clause.head ∷ clause.goals) by.atoms_are in
      record {
        vars = let v = ap length by.vars_are in let most = clause_vars_few item_ there in omega (arith, v, most);
        goals = let most = goals_few source clean made item_ there in omega (arith, size, most);
        head_nodes = judged.0.small;
        goal_nodes = all_follow (IsJudged source clean made) IsSmallPattern clause.goals (λ atom j. j.small) judged.1;
      }

  small_signature : IsSmallSignature (signature_of source)
  small_signature = record {
    sorts = let e = length-map (sorts_of source) (said source) in let f = flat_few (λ item_. (declares item_).sorts) source.file one_sort in let g = file_few in omega (arith, e, f, g);
    cons = let e = length-map (cons_of source) (con_by source) in
        let most = at_most (cons_of source) 65536 (λ con found. clean.names (wrong OverLimit con.name.from) (over con.name.from (overs.constructor con found refl) refl)) in omega (arith, e, most);
    preds = let e = length-map (preds_of source) (pred_by source) in
        let most = at_most (preds_of source) 1024 (λ pred found. clean.names (wrong OverLimit pred.name.from) (over pred.name.from (overs.predicate pred found refl) refl)) in omega (arith, e, most);
    con_args = all_map (λ (con : Con). length con.args ≤ 8) (con_by source) (cons_of source) (all_of (λ (con : ConItem). length (sorts_said source con.args) ≤ 8) (cons_of source)
        (λ con there. let e = length-map con.args (λ span. number_of source space.Sorts (said source span)) in
        let most = at_most con.args 8 (λ name found. clean.names (wrong OverLimit name.from) (over name.from (overs.argument con.args name (contains_left (map (λ (c : ConItem). c.args) (cons_of source)) _ con.args (contains_map (λ (c : ConItem). c.args) (cons_of source) con there)) found refl) refl)) in omega (arith, e, most)));
    pred_args = all_map (λ (pred : PredDecl). length pred.args ≤ 8) (pred_by source) (preds_of source) (all_of (λ (pred : PredItem). length (sorts_said source pred.args) ≤ 8) (preds_of source)
        (λ pred there. let e = length-map pred.args (λ span. number_of source space.Sorts (said source span)) in
        let most = at_most pred.args 8 (λ name found. clean.names (wrong OverLimit name.from) (over name.from (overs.argument pred.args name (contains_right (map (λ (c : ConItem). c.args) (cons_of source)) _ pred.args (contains_map (λ (p : PredItem). p.args) (preds_of source) pred there)) found refl) refl)) in omega (arith, e, most)));
  }

  turns_by : (limit : Option Span) → IfSome (option_and_then (turns_said source.text) limit) IsTurnLimit
  turns_by limit = grind (arith, turns_few)

  -- whose modes can be decided
  pub is_in_order : (parts : Parts) → AreParts source parts → AreInOrder parts
  is_in_order parts are =
      let each_rule : (P : Rule → Type 0) → ((item_ : RuleItem) (rule : Rule) → Contains (rules_of source) item_ → IsRuleBy source item_ rule → P rule) → AllByRecursion P parts.rules = λ P each. all_zip (IsRuleBy source) P (rules_of source) parts.rules each are.rules_are in
      let each_clause : (P : ClauseTree → Type 0) → ((item_ : ClauseItem) (clause : ClauseTree) → Contains (clauses_of source) item_ → IsClauseBy source item_ clause → P clause) → AllByRecursion P parts.clauses = λ P each. all_zip (IsClauseBy source) P (clauses_of source) parts.clauses each are.clauses_are in
      let stage_size : length parts.stages ≡ length (stages_of source) = ap length are.stages_are ∙ length-map (stages_of source) (stage_by source) in
      record {
        small = record {
          signature = subst IsSmallSignature (sym are.signature_is) small_signature;
          stages = let f = flat_few (λ item_. (declares item_).stages) source.file one_stage in let g = file_few in omega (arith, stage_size, f, g);
          rules = let e = AllZip-long (IsRuleBy source) (rules_of source) parts.rules are.rules_are in let most = rules_few source clean items in omega (arith, e, most);
          clauses = let e = AllZip-long (IsClauseBy source) (clauses_of source) parts.clauses are.clauses_are in
              let most = at_most (clauses_of source) 4096 (λ clause found. clean.names (wrong OverLimit clause.head.name.from) (over clause.head.name.from (overs.clause clause found refl) refl)) in omega (arith, e, most);
          each_rule = each_rule IsSmallRule small_rule;
          each_clause = each_clause IsSmallClause small_clause;
          turns = subst (λ turns. IfSome turns IsTurnLimit) (sym are.turns_are) (turns_by are.trace.limit);
        };
        typed_rules = subst (λ s. AllByRecursion (IsTypedRule s) parts.rules) (sym are.signature_is) (each_rule (IsTypedRule (signature_of source)) (rule_typed source clean made));
        typed_clauses = subst (λ s. AllByRecursion (IsTypedClause s) parts.clauses) (sym are.signature_is) (each_clause (IsTypedClause (signature_of source)) (clause_typed source clean made));
      }

  -- a rule has as many backward premises as are written
  pub backs_counted : (item_ : RuleItem) (rule : Rule) → Contains (rules_of source) item_ → IsRuleBy source item_ rule → length rule.backs ≡ length (backs_at source item_)
  backs_counted item_ rule there by = grind (arith, length-map, premise_count source clean made (λ b. b) may_be_backward rule.vars 0 item_.raw.left by.left (λ its. refl) (left_here source clean made item_ there) by.left_is, left_here source clean made item_ there, by.backs_are, by.left, rule.vars, item_.raw.left, by.left_is, item_.raw)

  pub is_program : (parts : Parts) → AreParts source parts → AllByRecursion (IsGrounded parts.clauses) parts.rules → IsProgram parts
  is_program parts are grounded =
      let ordered = is_in_order parts are in
      let each_rule : (P : Rule → Type 0) → ((item_ : RuleItem) (rule : Rule) → Contains (rules_of source) item_ → IsRuleBy source item_ rule → P rule) → AllByRecursion P parts.rules = λ P each. all_zip (IsRuleBy source) P (rules_of source) parts.rules each are.rules_are in
      let each_clause : (P : ClauseTree → Type 0) → ((item_ : ClauseItem) (clause : ClauseTree) → Contains (clauses_of source) item_ → IsClauseBy source item_ clause → P clause) → AllByRecursion P parts.clauses = λ P each. all_zip (IsClauseBy source) P (clauses_of source) parts.clauses each are.clauses_are in
      let trace_there : Contains (traces_of source) are.trace = subst (λ ts. Contains ts are.trace) (sym are.first) (contains_first are.trace are.rest) in
      let start = start_good source clean made starts laws are.trace are.rest parts.start are.first are.start_is in
      let stage_size : length parts.stages ≡ length (stages_of source) = ap length are.stages_are ∙ length-map (stages_of source) (stage_by source) in
      let sort_size : length parts.signature.sorts ≡ length (sorts_of source) = ap (λ (s : Signature). length s.sorts) are.signature_is ∙ length-map (sorts_of source) (said source) in
      record {
        small = ordered.small;
        named = record {
          sorts = subst (λ (s : Signature). AreNames s.sorts) (sym are.signature_is) (sort_names source clean items);
          cons = subst (λ (s : Signature). AreNames (map (λ con. con.name) s.cons)) (sym are.signature_is) (subst AreNames (sym (map_twice (λ (con : Con). con.name) (con_by source) (cons_of source))) (con_names source clean items));
          preds = subst (λ (s : Signature). AreNames (map (λ pred. pred.name) s.preds)) (sym are.signature_is) (subst AreNames (sym (map_twice (λ (pred : PredDecl). pred.name) (pred_by source) (preds_of source))) (pred_names source clean items));
          stages = subst (λ (ss : List Stage). AreNames (map (λ stage. stage.name) ss)) (sym are.stages_are) (subst AreNames (sym (map_twice (λ (stage : Stage). stage.name) (stage_by source) (stages_of source))) (stage_names source clean items));
          rules = subst AreNames (sym are.rule_names_are) (rule_names source clean items);
          rule_vars = each_rule (λ rule. AllByRecursion IsVariableName rule.vars) (λ item_ rule there by.
              let here = rule_here source clean made item_ there in
              subst (AllByRecursion IsVariableName) (sym by.vars_are) (variable_names source clean made (rule_scope item_) here (nodes_of_scope (rule_scope item_) here)));
          clause_vars = each_clause (λ clause. AllByRecursion IsVariableName clause.vars) (λ item_ clause there by.
              let here = clause_here source clean made item_ there in
              subst (AllByRecursion IsVariableName) (sym by.vars_are) (variable_names source clean made (clause_scope item_) here (nodes_of_scope (clause_scope item_) here)));
        };
        in_range = in_range_parts parts are each_rule each_clause sort_size stage_size trace_there;
        typed_rules = ordered.typed_rules;
        typed_clauses = ordered.typed_clauses;
        bound_rules = each_rule IsBoundRule (λ item_ rule there by. rule_bound source item_ rule (all_at (λ (rule : RuleItem). unbound_of source rule ≡ []) (rules_of source) item_ bound there) by);
        bound_clauses = each_clause IsBoundClause (λ item_ clause there by. clause_bound source item_ clause by);
        divided_rules = subst (λ s. AllByRecursion (IsDividedRule s) parts.rules) (sym are.signature_is) (each_rule (IsDividedRule (signature_of source)) (rule_divided source clean made));
        divided_clauses = subst (λ s. AllByRecursion (IsDividedClause s) parts.clauses) (sym are.signature_is) (each_clause (IsDividedClause (signature_of source)) (clause_divided source clean made));
        grouped = subst (λ n. AllByRecursion (IsGroupedRule n) parts.rules) (sym stage_size) (each_rule (IsGroupedRule (length (stages_of source))) (rule_grouped source clean));
        grounded = grounded;
        start = subst (λ s. IsState s parts.start) (sym are.signature_is) start.state;
        start_fits = start.fits;
      }
    where
      in_range_parts : (parts : Parts) (are : AreParts source parts)
          → ((P : Rule → Type 0) → ((item_ : RuleItem) (rule : Rule) → Contains (rules_of source) item_ → IsRuleBy source item_ rule → P rule) → AllByRecursion P parts.rules)
          → ((P : ClauseTree → Type 0) → ((item_ : ClauseItem) (clause : ClauseTree) → Contains (clauses_of source) item_ → IsClauseBy source item_ clause → P clause) → AllByRecursion P parts.clauses)
          → length parts.signature.sorts ≡ length (sorts_of source) → length parts.stages ≡ length (stages_of source) → Contains (traces_of source) are.trace → AreNumbersDeclared parts
      in_range_parts parts are each_rule each_clause sort_size stage_size trace_there = record {
        con_sorts = subst (λ n. AllByRecursion (λ (con : Con). con.sort < n) parts.signature.cons) (sym sort_size)
            (subst (λ (s : Signature). AllByRecursion (λ (con : Con). con.sort < length (sorts_of source)) s.cons) (sym are.signature_is)
            (all_map (λ (con : Con). con.sort < length (sorts_of source)) (con_by source) (cons_of source) (all_of (λ (con : ConItem). number_of source space.Sorts (said source con.sort) < length (sorts_of source)) (cons_of source) (λ con there. in_range source clean made (said source con.sort) (con_sort_known source clean made con there)))));
        con_args = subst (λ (s : Signature). AllByRecursion (λ (con : Con). AreSorts s con.args) s.cons) (sym are.signature_is)
            (all_map (λ (con : Con). AreSorts (signature_of source) con.args) (con_by source) (cons_of source) (all_of (λ (con : ConItem). AreSorts (signature_of source) (sorts_said source con.args)) (cons_of source)
            (λ con there. sorts_of_signature con.args (all_follow _ _ (map (said source) con.args) (λ name is. in_range source clean made name is) (con_args_known source clean made con there)))));
        pred_args = subst (λ (s : Signature). AllByRecursion (λ (pred : PredDecl). AreSorts s pred.args) s.preds) (sym are.signature_is)
            (all_map (λ (pred : PredDecl). AreSorts (signature_of source) pred.args) (pred_by source) (preds_of source) (all_of (λ (pred : PredItem). AreSorts (signature_of source) (sorts_said source pred.args)) (preds_of source)
            (λ pred there. sorts_of_signature pred.args (all_follow _ _ (map (said source) pred.args) (λ name is. in_range source clean made name is) (pred_args_known source clean made pred there)))));
        rule_kinds = subst (λ n. AllByRecursion (λ (rule : Rule). AllByRecursion (λ sort. sort < n) rule.kinds) parts.rules) (sym sort_size)
            (each_rule (λ rule. AllByRecursion (λ sort. sort < length (sorts_of source)) rule.kinds) (λ item_ rule there by.
            subst (AllByRecursion (λ sort. sort < length (sorts_of source))) (sym by.kinds_are) (kinds_in_range source clean made (rule_scope item_) (rule_here source clean made item_ there))));
        clause_kinds = subst (λ n. AllByRecursion (λ (clause : ClauseTree). AllByRecursion (λ sort. sort < n) clause.kinds) parts.clauses) (sym sort_size)
            (each_clause (λ clause. AllByRecursion (λ sort. sort < length (sorts_of source)) clause.kinds) (λ item_ clause there by.
            subst (AllByRecursion (λ sort. sort < length (sorts_of source))) (sym by.kinds_are) (kinds_in_range source clean made (clause_scope item_) (clause_here source clean made item_ there))));
        next_stages = subst (λ n. AllByRecursion (λ (rule : Rule). IfSome rule.next (λ stage. stage < n)) parts.rules) (sym stage_size) (each_rule (λ rule. IfSome rule.next (λ stage. stage < length (stages_of source))) (rule_next source clean));
        start_stage =
            let each = λ (one : RuleItem). stages_named one.raw.left ++ stages_named one.raw.right in
            let used = used_stage source clean are.trace.stage (contains_right (flat_map each (rules_of source)) _ are.trace.stage
            (contains_right (interactives_of source) _ are.trace.stage (contains_map (λ (trace : TraceItem). trace.stage) (traces_of source) are.trace trace_there))) in
            subst (λ n. n < length parts.stages) (sym are.start_stage_is) (subst (λ n. number_of source space.Stages (said source are.trace.stage) < n) (sym stage_size) used);
      }
        where
          sorts_of_signature : (spans : List Span) → AllByRecursion (λ name. number_of source space.Sorts name < length (sorts_of source)) (map (said source) spans) → AreSorts (signature_of source) (sorts_said source spans)
          sorts_of_signature spans all = subst (λ n. AllByRecursion (λ sort. sort < n) (sorts_said source spans)) (sym (length-map (sorts_of source) (said source))) (sorts_in_range source spans (length (sorts_of source)) all)

-- A text in order declares something: there are parts that are what is written.

-- terms, so many in front and so many after
record AreSplit (front back : ℕ) (ts : Trees) : Type 0 where
  first : Trees
  rest : Trees
  first_count : argument_count first ≡ front
  rest_count : argument_count rest ≡ back
  heads : heads_among ts ≡ heads_among first ++ heads_among rest

split : (front back : ℕ) (ts : Trees) → argument_count ts ≡ front + back → AreSplit front back ts
split zero back ts count = record { first = Trees.none; rest = ts; first_count = refl; rest_count = omega (arith, count); heads = refl }
split (suc front) back Trees.none count = absurd (omega (arith, count))
split (suc front) back (Trees.more t ts) count =
    let is = split front back ts (omega (arith, count)) in
    record {
      first = Trees.more t is.first;
      rest = is.rest;
      first_count = ap suc is.first_count;
      rest_count = is.rest_count;
      heads = ap (λ hs. heads_of t ++ hs) is.heads ∙ sym (append_assoc (heads_of t) (heads_among is.first) (heads_among is.rest));
    }

-- terms with these nodes
record AreBuilt (terms : ℕ) (heads : List Head) : Type 0 where
  trees : Trees
  count : argument_count trees ≡ terms
  heads_are : heads_among trees ≡ heads

module _ (source : Source) (vars : List (List ℕ)) where
  build_node : (shape : RawKind) (at : Span) (args terms blanks : ℕ) (heads : List Head) → IsCount shape args → AreBuilt (args + terms) heads → AreBuilt (suc terms) (head_at source vars blanks shape at args ∷ heads)
  build_node kind.App at args terms blanks heads is built =
      let parts = split args terms built.trees built.count in
      let head : Head.con (number_of source space.Constructors (said source at)) (argument_count parts.first) ≡ Head.con (number_of source space.Constructors (said source at)) args = ap (Head.con (number_of source space.Constructors (said source at))) parts.first_count in
      let rest = sym parts.heads ∙ built.heads_are in
      record {
        trees = Trees.more (Tree.node (number_of source space.Constructors (said source at)) parts.first) parts.rest;
        count = ap suc parts.rest_count;
        heads_are = ap (λ h. h ∷ (heads_among parts.first ++ heads_among parts.rest)) head ∙ ap (λ hs. Head.con (number_of source space.Constructors (said source at)) args ∷ hs) rest;
      }
  build_node kind.Var at args terms blanks heads is built = record {
    trees = Trees.more (Tree.variable (variable_of vars (said source at))) built.trees;
    count = let c = built.count in omega (arith, c, is);
    heads_are = ap (λ hs. Head.var (variable_of vars (said source at)) ∷ hs) built.heads_are;
  }
  build_node kind.Blank at args terms blanks heads is built = record {
    trees = Trees.more (Tree.variable (variable_of vars (codes "_" ++ decimal (blanks + 1)))) built.trees;
    count = let c = built.count in omega (arith, c, is);
    heads_are = ap (λ hs. Head.var (variable_of vars (codes "_" ++ decimal (blanks + 1))) ∷ hs) built.heads_are;
  }

  build : (terms : ℕ) (nodes_ : List RawNode) (blanks : ℕ) → Fill terms nodes_ → AreBuilt terms (heads_from source vars blanks nodes_)
  build zero [] blanks fill = record { trees = Trees.none; count = refl; heads_are = refl }
  build (suc terms) (first ∷ nodes_) blanks fill = grind (arith, build_node, first.kind, first.at, first.args, fill.0, build (first.args + terms) nodes_ (blanks_behind blanks first.kind) fill.1, fill.1)
  build terms nodes_ blanks fill = absurd fill

  -- the atoms that are written
  has_atom : (blanks : ℕ) (raw : RawAtom) → Fill raw.args raw.nodes → (atom : AtomTree) × IsAtomBy source vars blanks raw atom
  has_atom blanks raw fill =
      let built = build raw.args raw.nodes blanks fill in
      (record { pred = number_of source space.Predicates (said source raw.name); args = built.trees }, record { pred = refl; count = built.count; heads = built.heads_are })

  has_atoms : (blanks : ℕ) (raws : List RawAtom) → ((raw : RawAtom) → Contains raws raw → Fill raw.args raw.nodes) → (list : List AtomTree) × AreAtomsBy source vars blanks raws list
  has_atoms blanks [] fill = ([], tt)
  has_atoms blanks (raw ∷ raws) fill =
      let here = has_atom blanks raw (fill raw (contains_first raw raws)) in
      let rest = has_atoms (blanks_after blanks raw.nodes) raws (λ other there. fill other (contains_behind raw raws other there)) in
      (here.0 ∷ rest.0, (here.1, rest.1))

  has_premises : (blanks : ℕ) (elems : List RawElem) → ((raw : RawAtom) → Contains (atoms_of elems) raw → Fill raw.args raw.nodes) → (list : List PremiseTree) × ArePremisesBy source vars blanks elems list
  has_premises blanks [] fill = ([], tt)
  has_premises blanks (elem.Qui span ∷ elems) fill = has_premises blanks elems fill
  has_premises blanks (elem.Stage span ∷ elems) fill = has_premises blanks elems fill
  has_premises blanks (elem.Atom kept raw ∷ elems) fill =
      let here = has_atom blanks raw (fill raw (contains_first raw (atoms_of elems))) in
      let rest = has_premises (blanks_after blanks raw.nodes) elems (λ other there. fill other (contains_behind raw (atoms_of elems) other there)) in
      (record { atom = here.0; kept = kept || is_fact_by source here.0 } ∷ rest.0, (refl, here.1, rest.1))

-- as many names as rules
names_from : (source : Source) (unlabelled : ℕ) (rules : List RuleItem) → length (rule_names_from source unlabelled rules) ≡ length rules
names_from source unlabelled [] = refl
names_from source unlabelled (rule ∷ rules) = ap suc (names_from source (unlabelled_behind unlabelled rule.raw.label) rules)

module _ (source : Source) (clean : IsClean source) (made : AtomsMade source) (starts : StartLaws) where
  has_rule : (name : List ℕ) (item : RuleItem) → Contains (rules_of source) item → (rule : Rule) × (rule.name ≡ name) × IsRuleBy source item rule
  has_rule name item there =
      let vars = names_of source (rule_scope item) in
      let left = has_premises source vars 0 item.raw.left (λ raw inside. (left_here source clean made item there raw inside).filled) in
      let right = has_atoms source vars (blanks_after 0 (raw_nodes (atoms_of item.raw.left))) (atoms_of item.raw.right) (λ raw inside. (right_here source clean made item there raw inside).filled) in (
        record {
          name = name;
          group = group_of source item.home item.raw.left;
          vars = vars;
          kinds = kinds_of source (rule_scope item);
          premises = filter (λ (p : PremiseTree). not (is_back source p.atom)) left.0;
          backs = map (λ (p : PremiseTree). p.atom) (filter (λ (p : PremiseTree). is_back source p.atom) left.0);
          right = right.0;
          next = next_of source item.home item.raw.right;
        },
        refl,
        record { group_is = refl; next_is = refl; vars_are = refl; kinds_are = refl; left = left.0; left_is = left.1; premises_are = refl; backs_are = refl; right_is = right.1 },
      )

  has_rules : (names : List (List ℕ)) (items : List RuleItem) → length names ≡ length items → ((item : RuleItem) → Contains items item → Contains (rules_of source) item)
      → (rules : List Rule) × (map (λ (rule : Rule). rule.name) rules ≡ names) × AllZip (IsRuleBy source) items rules
  has_rules [] [] size among = ([], refl, tt)
  has_rules (name ∷ names) (item ∷ items) size among =
      let here = has_rule name item (among item (contains_first item items)) in
      let rest = has_rules names items (omega (arith, size)) (λ other there. among other (contains_behind item items other there)) in
      (here.0 ∷ rest.0, cc (here.1, rest.1), (here.2, rest.2))
  has_rules names items size among = absurd (omega (arith, size))

  clause_from : (item : ClauseItem) (list : List AtomTree) → AreAtomsBy source (names_of source (clause_scope item)) 0 (clause_scope item) list → (clause : ClauseTree) × IsClauseBy source item clause
  clause_from item [] by = absurd by
  clause_from item (head ∷ goals) by = (record { vars = names_of source (clause_scope item); kinds = kinds_of source (clause_scope item); head = head; goals = goals }, record { vars_are = refl; kinds_are = refl; atoms_are = by })

  has_clauses : (items : List ClauseItem) → ((item : ClauseItem) → Contains items item → Contains (clauses_of source) item) → (clauses : List ClauseTree) × AllZip (IsClauseBy source) items clauses
  has_clauses [] among = ([], tt)
  has_clauses (item ∷ items) among =
      let atoms = has_atoms source (names_of source (clause_scope item)) 0 (clause_scope item) (λ raw inside. ((clause_here source clean made item (among item (contains_first item items))).here raw inside).filled) in
      let here = clause_from item atoms.0 atoms.1 in
      let rest = has_clauses items (λ other there. among other (contains_behind item items other there)) in
      (here.0 ∷ rest.0, (here.1, rest.1))

  parts_from : (traces : List TraceItem) → traces_of source ≡ traces → (parts : Parts) × AreParts source parts
  parts_from [] is = absurd (clean.names (wrong NoTrace (length source.text)) (no_trace is refl))
  parts_from (trace ∷ rest) is =
      let there : Contains (traces_of source) trace = subst (λ ts. Contains ts trace) (sym is) (contains_first trace rest) in
      let start = has_atoms source [] 0 (start_atoms source trace.start) (λ raw inside. (atom_of_tokens source clean made raw (state_atom_here source raw (starts.written source trace raw there inside))).filled) in
      let names = map (λ (n : Named). n.name) (names_in source space.Rules) in
      let rules = has_rules names (rules_of source) (length-map (names_in source space.Rules) (λ (n : Named). n.name) ∙ names_from source 0 (rules_of source)) (λ item inside. inside) in
      let clauses = has_clauses (clauses_of source) (λ item inside. inside) in (
        record {
          signature = signature_of source;
          stages = map (stage_by source) (stages_of source);
          rules = rules.0;
          clauses = clauses.0;
          start_stage = number_of source space.Stages (said source trace.stage);
          start = once (is_fact_by source) (gathered start.0);
          turns = option_and_then (turns_said source.text) trace.limit;
        },
        record {
          signature_is = refl;
          stages_are = refl;
          rules_are = rules.2;
          rule_names_are = rules.1;
          clauses_are = clauses.1;
          trace = trace;
          rest = rest;
          first = is;
          start_stage_is = refl;
          start_is = record { atoms = start.0; atoms_are = start.1; start_is = refl };
          turns_are = refl;
        },
      )

  -- what a text in order declares
  pub declared : (parts : Parts) × AreParts source parts
  declared = parts_from (traces_of source) refl
