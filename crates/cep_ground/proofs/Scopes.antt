-- The atoms of states are ground, well typed and as deep as they are written; and so are those of a scope, whose variables have the types that are wanted of them.
use Rattle.std.proofs.Common.{◌≡◌, ◌⊎◌, inl, inr, ⊎_elim, ℕ, ◌+◌, ◌-◌, ◌<◌, ◌≤◌, List, [], ◌∷◌, ◌++◌, refl, sym, ap, ◌∙◌, arith, append_assoc, max, length, map, subst, ◌^◌, Contains}
use Rattle.std.proofs.Math.Nat.{le-max_left, le-max_right, max-le}
use Rattle.std.proofs.lemmas.List.{append-nil, length-map}
use Rattle.std.proofs.lemmas.Bool.{ltb-true, ltb-false}
use Rattle.std.specs.List.{repeat, AllByRecursion, find}
use Rattle.cep_parse.specs.declared.raw.Span.{Span}
use Rattle.cep_parse.specs.declared.raw.RawKind.{RawKind}
use Rattle.cep_parse.specs.declared.raw.RawNode.{RawNode}
use Rattle.cep_parse.specs.declared.raw.RawAtom.{RawAtom}
use Rattle.cep_term.specs.Tree.{Tree, Trees, AtomTree, none, more, term_depth, argument_depth, atom_depth}
use Rattle.cep_source.specs.Items.{Source, said, ConItem, PredItem, cons_of, preds_of}
use Rattle.cep_source.specs.Variables.{blanks_behind, Occurrence, occurrence_at, occurrences_from, variables_of, blanks_after}
use Rattle.cep_source.specs.Starts.{levels, greatest, depth_written}
use Rattle.cep_types.specs.Heads.{Head, var, head_at, heads_from, number_of, variable_of, sorts_said}
use Rattle.cep_infer.specs.Heads.{argument_count, heads_of, heads_among, IsAtomBy, AreAtomsBy}
use Rattle.cep_infer.specs.States.{AreClosed}
use Rattle.std.specs.Prelude.{Some, slice_get, codes, decimal, unwrap_or, IsSomeAnd}
use Rattle.cep_rule.specs.declared.signature.Con.{Con}
use Rattle.cep_rule.specs.Typing.{HasSort, HaveSorts, IsTyped}
use Rattle.cep_types.specs.Sites.{node_types, Site, Wanted, pred_types, sites_from, sites_in, sites_of, wanted_from, type_of, IsScope, Mistyped}
use Rattle.std.proofs.lemmas.Option.{slice_get-map}
use Rattle.std.specs.Option.{option_map}
use Rattle.std.specs.Str.{bytes_eq}
use Rattle.cep_rule.specs.declared.signature.PredDecl.{PredDecl}
use Rattle.cep_refusal.specs.declared.fault.Fault.{Fault}
use Rattle.cep_refusal.specs.declared.reason.Reason.TheVariants.{TypeClash}
use Rattle.cep_source.specs.Spaces.{named, con_named}
use Rattle.cep_parse.specs.Raw.{raw_nodes}
use Rattle.cep_refusal.specs.First.{wrong}
use Rattle.cep_types.specs.Sites.Mistyped.{constructor, variable}
use Rattle.cep_infer.specs.Resolved.{IsWellNamed}
use Rattle.cep_infer.specs.Meaning.{con_by, pred_by, signature_of, names_of, kinds_of}
use Rattle.cep_base.proofs.Elements.{contains_none, contains_first, contains_behind, contains_left, contains_right, contains_map}
use Rattle.cep_ground.proofs.NameLaws.{same_unless, map_twice, IsFound, any_found, found_in, IsConKnown, pred_known, con_known, located, nodes_at, pred_types_are, con_types_are, wanted_both, wanted_names, same_bytes, is_any, first_there, IsFirstIn, AreWords, first_wanted}
pub use Rattle.cep_infer.proofs.RulesInTurn.{IsHere, here_count, here_nodes, scope_nodes}
use Rattle.cep_parse.specs.declared.raw.RawKind.TheVariants as kind
use Rattle.cep_source.specs.declared.space.Space.TheVariants as space

-- The atoms of states: they are ground, and as deep as they are written.

-- such nodes do not depend on variables
head_alike : (source : Source) (vars others : List (List ℕ)) (blanks more_ : ℕ) (shape : RawKind) (at : Span) (args : ℕ) → shape ≡ kind.App → head_at source vars blanks shape at args ≡ head_at source others more_ shape at args
head_alike source vars others blanks more_ shape at args is = grind arith

pub heads_alike : (source : Source) (vars others : List (List ℕ)) (blanks more_ : ℕ) (nodes : List RawNode) → AreClosed nodes → heads_from source vars blanks nodes ≡ heads_from source others more_ nodes
heads_alike source vars others blanks more_ [] all = refl
heads_alike source vars others blanks more_ (first ∷ nodes) all = grind (arith, head_alike, first.kind, first.at, first.args, all.0, heads_alike source vars others (blanks_behind blanks first.kind) (blanks_behind more_ first.kind) nodes all.1, all.1)

pub atom_alike : (source : Source) (vars others : List (List ℕ)) (blanks more_ : ℕ) (raw : RawAtom) (atom : AtomTree) → AreClosed raw.nodes → IsAtomBy source vars blanks raw atom → IsAtomBy source others more_ raw atom
atom_alike source vars others blanks more_ raw atom all by = record { pred = by.pred; count = by.count; heads = by.heads ∙ heads_alike source vars others blanks more_ raw.nodes all }

module _ (source : Source) (vars : List (List ℕ)) where
  -- What stands after terms, no deeper than so many levels.
  record IsBehind (next : List ℕ) (heads : List Head) (most : ℕ) : Type 0 where
    blanks : ℕ
    nodes : List RawNode
    heads_are : heads ≡ heads_from source vars blanks nodes
    closed : AreClosed nodes
    within : greatest (levels next nodes) ≤ most

  con_args : (blanks c count : ℕ) (shape : RawKind) (at : Span) (args : ℕ) → Head.con c count ≡ head_at source vars blanks shape at args → count ≡ args
  con_args blanks c count shape at args e = grind arith

  no_var : (blanks v : ℕ) (shape : RawKind) (at : Span) (args : ℕ) → shape ≡ kind.App → var v ≡ head_at source vars blanks shape at args → ⊥
  no_var blanks v shape at args is e = absurd cc

  mutual
    deep_term : (t : Tree) (level : ℕ) (next : List ℕ) (heads : List Head) (blanks : ℕ) (nodes : List RawNode)
        → heads_of t ++ heads ≡ heads_from source vars blanks nodes → AreClosed nodes
        → (level + term_depth t ≤ 1 + greatest (levels (level ∷ next) nodes)) × IsBehind next heads (greatest (levels (level ∷ next) nodes))
    deep_term (Tree.variable v) level next heads blanks [] e all = absurd cc
    deep_term (Tree.variable v) level next heads blanks (first ∷ nodes) e all = grind (arith, no_var, first.kind, first.at, first.args, all.0)
    deep_term (Tree.node c args) level next heads blanks [] e all = absurd cc
    deep_term (Tree.node c args) level next heads blanks (first ∷ nodes) e all =
        let here : Head.con c (argument_count args) ≡ head_at source vars blanks first.kind first.at first.args = cc in
        let count = con_args blanks c (argument_count args) first.kind first.at first.args here in
        let behind : heads_among args ++ heads ≡ heads_from source vars (blanks_behind blanks first.kind) nodes = cc in
        let rest = deep_args args (level + 1) next heads (blanks_behind blanks first.kind) nodes behind all.1 in
        let deeper = greatest (levels (repeat (argument_count args) ((level + 1) ∷ []) ++ next) nodes) in
        let same : greatest (levels (repeat first.args ((level + 1) ∷ []) ++ next) nodes) ≡ deeper = ap (λ n. greatest (levels (repeat n ((level + 1) ∷ []) ++ next) nodes)) (sym count) in
        let left = le-max_left level (greatest (levels (repeat first.args ((level + 1) ∷ []) ++ next) nodes)) in
        let right = le-max_right level (greatest (levels (repeat first.args ((level + 1) ∷ []) ++ next) nodes)) in
        let behind_ = rest.1 in
        let inside = behind_.within in (
          ⊎_elim
              (λ (zero_ : argument_depth args ≡ 0). omega (arith, zero_, left))
              (λ deep. omega (arith, deep, right, same))
              rest.0,
          record { blanks = behind_.blanks; nodes = behind_.nodes; heads_are = behind_.heads_are; closed = behind_.closed; within = omega (arith, inside, right, same) },
        )

    deep_args : (ts : Trees) (level : ℕ) (next : List ℕ) (heads : List Head) (blanks : ℕ) (nodes : List RawNode)
        → heads_among ts ++ heads ≡ heads_from source vars blanks nodes → AreClosed nodes
        → ((argument_depth ts ≡ 0) ⊎ (level + argument_depth ts ≤ 1 + greatest (levels (repeat (argument_count ts) (level ∷ []) ++ next) nodes))) × IsBehind next heads (greatest (levels (repeat (argument_count ts) (level ∷ []) ++ next) nodes))
    deep_args none level next heads blanks nodes e all = (inl refl, record { blanks = blanks; nodes = nodes; heads_are = e; closed = all; within = omega arith })
    deep_args (more t rest) level next heads blanks nodes e all =
        let first = deep_term t level (repeat (argument_count rest) (level ∷ []) ++ next) (heads_among rest ++ heads) blanks nodes (sym (append_assoc (heads_of t) (heads_among rest) heads) ∙ e) all in
        let behind_ = first.1 in
        let others = deep_args rest level next heads behind_.blanks behind_.nodes behind_.heads_are behind_.closed in
        let most = greatest (levels (level ∷ (repeat (argument_count rest) (level ∷ []) ++ next)) nodes) in
        let here : level + term_depth t ≤ 1 + most = first.0 in
        let inside : greatest (levels (repeat (argument_count rest) (level ∷ []) ++ next) behind_.nodes) ≤ most = behind_.within in
        let one : term_depth t ≤ (1 + most) - level = omega (arith, here) in
        let other : argument_depth rest ≤ (1 + most) - level = ⊎_elim (λ (zero_ : argument_depth rest ≡ 0). omega (arith, zero_)) (λ deep. omega (arith, deep, inside)) others.0 in
        let both : max (term_depth t) (argument_depth rest) ≤ (1 + most) - level = max-le one other in
        let last = others.1 in
        let within : greatest (levels next last.nodes) ≤ most = let w = last.within in omega (arith, w, inside) in (
          inr (omega (arith, both, here)),
          record { blanks = last.blanks; nodes = last.nodes; heads_are = last.heads_are; closed = last.closed; within = within },
        )

-- an atom without variables is no deeper than it is written
pub raw_depth : (source : Source) (vars : List (List ℕ)) (blanks : ℕ) (raw : RawAtom) (atom : AtomTree) → IsAtomBy source vars blanks raw atom → AreClosed raw.nodes → atom_depth atom ≤ depth_written raw
raw_depth source vars blanks raw atom by all =
    let deep = deep_args source vars atom.args 2 [] [] blanks raw.nodes (append-nil (heads_among atom.args) ∙ by.heads) all in
    let same : greatest (levels (repeat (argument_count atom.args) (2 ∷ []) ++ []) raw.nodes) ≡ greatest (levels (repeat raw.args (2 ∷ [])) raw.nodes) =
    ap (λ ls. greatest (levels ls raw.nodes)) (append-nil (repeat (argument_count atom.args) (2 ∷ []))) ∙ ap (λ n. greatest (levels (repeat n (2 ∷ [])) raw.nodes)) by.count in
    let left = le-max_left 1 (greatest (levels (repeat raw.args (2 ∷ [])) raw.nodes)) in
    let right = le-max_right 1 (greatest (levels (repeat raw.args (2 ∷ [])) raw.nodes)) in
    ⊎_elim (λ (zero_ : argument_depth atom.args ≡ 0). omega (arith, zero_, left)) (λ further. omega (arith, further, same, right)) deep.0

-- what is not too great is small enough
pub not_greater : (a b : ℕ) → (b < a → ⊥) → a ≤ b
not_greater a b never = grind (arith, ltb-true, ltb-false)

-- Terms are of the types that are wanted of them.

module _ (source : Source) (vars : List (List ℕ)) (kinds : List ℕ) (cons : List Con) where
  -- the number of a type by its name
  abbrev pub type_number : List ℕ → ℕ
  type_number name = number_of source space.Sorts name

  -- the constructor at a node is of the type that is wanted, and has as many arguments as it wants
  pub record IsGoodCon (wants : List ℕ) (at : Span) (args : ℕ) : Type 0 where
    pub con : Con
    pub found : slice_get cons (number_of source space.Constructors (said source at)) ≡ Some con
    pub sort : con.sort ≡ type_number wants
    pub types : con.args ≡ map type_number (node_types source kind.App at)
    pub count : args ≡ length (node_types source kind.App at)

  -- what stands at a node is of the type that is wanted
  abbrev pub IsGood : ℕ → List ℕ → RawKind → Span → ℕ → Type 0
  IsGood blanks wants kind.App at args = IsGoodCon wants at args
  IsGood blanks wants kind.Var at args = slice_get kinds (variable_of vars (said source at)) ≡ Some (type_number wants)
  IsGood blanks wants kind.Blank at args = slice_get kinds (variable_of vars (codes "_" ++ decimal (blanks + 1))) ≡ Some (type_number wants)

  abbrev pub AreGood : ℕ → List (List ℕ) → List RawNode → Type 0
  AreGood blanks [] nodes = Unit {0}
  AreGood blanks (wants ∷ next) [] = Unit {0}
  AreGood blanks (wants ∷ next) (first ∷ nodes) =
      IsGood blanks wants first.kind first.at first.args × AreGood (blanks_behind blanks first.kind) (node_types source first.kind first.at ++ next) nodes

  -- what stands after a term
  pub record Behind (next : List (List ℕ)) (heads : List Head) : Type 0 where
    pub blanks : ℕ
    pub nodes : List RawNode
    pub heads_are : heads ≡ heads_from source vars blanks nodes
    pub good : AreGood blanks next nodes

  var_good : (kind : RawKind) (at : Span) (args v blanks : ℕ) (wants : List ℕ) → var v ≡ head_at source vars blanks kind at args → IsGood blanks wants kind at args → slice_get kinds v ≡ Some (type_number wants)
  var_good kind at args v blanks wants e good = grind (arith, type_number)

  -- no term stands after a variable as its argument
  no_types : (kind : RawKind) (at : Span) (args v blanks : ℕ) (next : List (List ℕ)) → var v ≡ head_at source vars blanks kind at args → node_types source kind at ++ next ≡ next
  no_types kind at args v blanks next e = grind arith

  -- a constructor stands at a node that is one
  pub record IsConAt (c count : ℕ) (shape : RawKind) (at : Span) (args : ℕ) : Type 0 where
    pub kind_is : shape ≡ kind.App
    pub number : c ≡ number_of source space.Constructors (said source at)
    pub count_is : count ≡ args

  con_at : (kind : RawKind) (at : Span) (args c count blanks : ℕ) → Head.con c count ≡ head_at source vars blanks kind at args → IsConAt c count kind at args
  con_at kind at args c count blanks e = grind arith

  con_typed : (c : ℕ) (args : Trees) (wants : List ℕ) (at : Span) (count : ℕ) (good : IsGoodCon wants at count) → c ≡ number_of source space.Constructors (said source at) → HaveSorts cons kinds good.con.args args → HasSort cons kinds (type_number wants) (Tree.node c args)
  con_typed c args wants at count good number typed = grind (arith, good.found, good.sort)

  mutual
    typed_term : (t : Tree) (wants : List ℕ) (next : List (List ℕ)) (heads : List Head) (blanks : ℕ) (nodes : List RawNode)
        → heads_of t ++ heads ≡ heads_from source vars blanks nodes → AreGood blanks (wants ∷ next) nodes
        → HasSort cons kinds (type_number wants) t × Behind next heads
    typed_term (Tree.variable v) wants next heads blanks [] e good = absurd cc
    typed_term (Tree.variable v) wants next heads blanks (first ∷ nodes) e good =
        let here : var v ≡ head_at source vars blanks first.kind first.at first.args = cc in (
          var_good first.kind first.at first.args v blanks wants here good.0,
          record { blanks = blanks_behind blanks first.kind; nodes = nodes; heads_are = cc; good = subst (λ types. AreGood (blanks_behind blanks first.kind) types nodes) (no_types first.kind first.at first.args v blanks next here) good.1 },
        )
    typed_term (Tree.node c args) wants next heads blanks [] e good = absurd cc
    typed_term (Tree.node c args) wants next heads blanks (first ∷ nodes) e good =
        let here : Head.con c (argument_count args) ≡ head_at source vars blanks first.kind first.at first.args = cc in
        let is = con_at first.kind first.at first.args c (argument_count args) blanks here in
        let one : IsGoodCon wants first.at first.args = subst (λ k. IsGood blanks wants k first.at first.args) is.kind_is good.0 in
        let further : AreGood (blanks_behind blanks first.kind) (node_types source kind.App first.at ++ next) nodes = subst (λ k. AreGood (blanks_behind blanks first.kind) (node_types source k first.at ++ next) nodes) is.kind_is good.1 in
        let behind : heads_among args ++ heads ≡ heads_from source vars (blanks_behind blanks first.kind) nodes = cc in
        let rest = typed_args args (node_types source kind.App first.at) next heads (blanks_behind blanks first.kind) nodes (is.count_is ∙ one.count) behind further in
        (con_typed c args wants first.at first.args one is.number (subst (λ types. HaveSorts cons kinds types args) (sym one.types) rest.0), rest.1)

    pub typed_args : (ts : Trees) (types next : List (List ℕ)) (heads : List Head) (blanks : ℕ) (nodes : List RawNode)
        → argument_count ts ≡ length types → heads_among ts ++ heads ≡ heads_from source vars blanks nodes → AreGood blanks (types ++ next) nodes
        → HaveSorts cons kinds (map type_number types) ts × Behind next heads
    typed_args none [] next heads blanks nodes count e good = (tt, record { blanks = blanks; nodes = nodes; heads_are = e; good = good })
    typed_args none (wants ∷ types) next heads blanks nodes count e good = absurd (omega (arith, count))
    typed_args (more t rest) [] next heads blanks nodes count e good = absurd (omega (arith, count))
    typed_args (more t rest) (wants ∷ types) next heads blanks nodes count e good =
        let first = typed_term t wants (types ++ next) (heads_among rest ++ heads) blanks nodes (sym (append_assoc (heads_of t) (heads_among rest) heads) ∙ e) good in
        let others = typed_args rest types next heads first.1.blanks first.1.nodes (omega (arith, count)) first.1.heads_are first.1.good in
        ((first.0, others.0), others.1)

-- The variables of a scope have the types that are wanted of them, and its atoms are well typed.

module _ (source : Source) (names : IsWellNamed source) (types : (fault : Fault) → ¬ (Mistyped source fault)) where
  module _ (atoms : List RawAtom) (scope : IsScope source atoms) (here : (raw : RawAtom) → Contains atoms raw → IsHere source raw) (words : AreWords source (sites_of source atoms)) (short : length (sites_of source atoms) < 2 ^ 64) where
    -- where a name is wanted it is found
    wanted_found : (w : Wanted) → Contains (wanted_from source 0 (sites_of source atoms)) w → IsFound (find (λ (v : Wanted). bytes_eq v.name w.name) (wanted_from source 0 (sites_of source atoms)))
    wanted_found w there =
        any_found (λ (v : Wanted). v.name) (λ name. bytes_eq name w.name) (wanted_from source 0 (sites_of source atoms))
        (is_any _ w.name (contains_map (λ (v : Wanted). v.name) (wanted_from source 0 (sites_of source atoms)) w there))

    no_clash : (site : Site) (first : List ℕ) → Contains (sites_of source atoms) site → site.node.kind ≡ kind.Var → type_of source atoms (said source site.node.at) ≡ Some first → first ≡ site.wants
    no_clash site first there is type_is = same_unless first site.wants (λ differ. types (wrong TypeClash site.node.at.from) (variable atoms site first scope there is type_is differ refl))

    type_by : (w : Wanted) → Contains (wanted_from source 0 (sites_of source atoms)) w → IsFirstIn source 0 (wanted_from source 0 (sites_of source atoms)) (sites_of source atoms) w → type_of source atoms w.name ≡ Some w.wants
    type_by w there given = grind (arith, wanted_found w there, no_clash)

    -- the type that is wanted of a variable is the same wherever it occurs
    type_once : (w : Wanted) → Contains (wanted_from source 0 (sites_of source atoms)) w → type_of source atoms w.name ≡ Some w.wants
    type_once w there = type_by w there (first_wanted source 0 (sites_of source atoms) w words (omega (arith, short)) there)

    -- a variable that is wanted is one of those of the scope
    variable_found : (w : Wanted) → Contains (wanted_from source 0 (sites_of source atoms)) w → IsFound (find (λ (o : Occurrence). bytes_eq o.name w.name) (variables_of source atoms))
    variable_found w there =
        let names_are = wanted_names source 0 (sites_of source atoms) ∙ ap (λ ns. map (λ (o : Occurrence). o.name) (occurrences_from source 0 ns)) (scope_nodes source names atoms here) in
        let occurs : Contains (map (λ (o : Occurrence). o.name) (occurrences_from source 0 (raw_nodes atoms))) w.name = subst (λ ns. Contains ns w.name) names_are (contains_map (λ (v : Wanted). v.name) _ w there) in
        any_found (λ (o : Occurrence). o.name) (λ name. bytes_eq name w.name) (variables_of source atoms)
        (is_any _ w.name (⊎_elim (λ never. absurd (contains_none w.name never)) (λ first. first) (first_there [] (occurrences_from source 0 (raw_nodes atoms)) w.name occurs)))

    kind_at : (w : Wanted) → Contains (wanted_from source 0 (sites_of source atoms)) w → slice_get (kinds_of source atoms) (variable_of (names_of source atoms) w.name) ≡ Some (number_of source space.Sorts w.wants)
    kind_at w there =
        let found = variable_found w there in
        let same = same_bytes found.it.name w.name (found_in (λ (o : Occurrence). bytes_eq o.name w.name) (variables_of source atoms) found.it found.found_is).passes in
        let at = located (λ (o : Occurrence). o.name) (λ other. bytes_eq other w.name) (variables_of source atoms) found.it found.found_is in
        slice_get-map (λ (o : Occurrence). number_of source space.Sorts (unwrap_or (type_of source atoms o.name) [])) (variables_of source atoms) (variable_of (names_of source atoms) w.name)
        ∙ ap (option_map (λ (o : Occurrence). number_of source space.Sorts (unwrap_or (type_of source atoms o.name) []))) at.here
        ∙ ap (λ name. Some (number_of source space.Sorts (unwrap_or (type_of source atoms name) []))) same
        ∙ ap (λ found. Some (number_of source space.Sorts (unwrap_or found []))) (type_once w there)

    -- no constructor clashes
    sort_same : (site : Site) (con : ConItem) → Contains (sites_of source atoms) site → site.node.kind ≡ kind.App → con_named source (said source site.node.at) ≡ Some con → said source con.sort ≡ site.wants
    sort_same site con there is found = same_unless (said source con.sort) site.wants (λ differ. types (wrong TypeClash site.node.at.from) (constructor atoms site con scope there is found differ refl))

    good_con : (site : Site) (at : Span) (args : ℕ) → site.node.at ≡ at → site.node.kind ≡ kind.App → Contains (sites_of source atoms) site → IsConKnown source at args → IsGoodCon source (names_of source atoms) (kinds_of source atoms) (map (con_by source) (cons_of source)) site.wants at args
    good_con site at args at_is is there known =
        let spot = located (λ (con : ConItem). named source con.name) (λ other. bytes_eq other.name (said source at)) (cons_of source) known.con known.found in
        let found : con_named source (said source site.node.at) ≡ Some known.con = subst (λ a. con_named source (said source a) ≡ Some known.con) (sym at_is) known.found in
        let types_are = con_types_are source at known.con known.found in
        record {
          con = con_by source known.con;
          found = slice_get-map (con_by source) (cons_of source) (number_of source space.Constructors (said source at)) ∙ ap (option_map (con_by source)) spot.here;
          sort = ap (number_of source space.Sorts) (sort_same site known.con there is found);
          types = sym (map_twice (number_of source space.Sorts) (said source) known.con.args) ∙ ap (map (number_of source space.Sorts)) (sym types_are);
          count = known.count ∙ sym (length-map known.con.args (said source)) ∙ ap length (sym types_are);
        }

    -- what stands at a node is of the type that is wanted
    good_node : (site : Site) (shape : RawKind) (at : Span) (args blanks : ℕ) → site.node.at ≡ at → site.node.kind ≡ shape → Contains (sites_of source atoms) site
        → (shape ≡ kind.App → IsConKnown source at args)
        → ((w : Wanted) → Contains (map (λ occurrence. record { name = occurrence.name; wants = site.wants }) (occurrence_at source blanks at shape)) w → Contains (wanted_from source 0 (sites_of source atoms)) w)
        → IsGood source (names_of source atoms) (kinds_of source atoms) (map (con_by source) (cons_of source)) blanks site.wants shape at args
    good_node site kind.App at args blanks at_is is there known among = good_con site at args at_is is there (known refl)
    good_node site kind.Var at args blanks at_is is there known among = kind_at (record { name = said source at; wants = site.wants }) (among (record { name = said source at; wants = site.wants }) (contains_first (record { name = said source at; wants = site.wants }) []))
    good_node site kind.Blank at args blanks at_is is there known among = kind_at (record { name = codes "_" ++ decimal (blanks + 1); wants = site.wants }) (among (record { name = codes "_" ++ decimal (blanks + 1); wants = site.wants }) (contains_first (record { name = codes "_" ++ decimal (blanks + 1); wants = site.wants }) []))

    good_nodes : (types_ : List (List ℕ)) (nodes : List RawNode) (blanks : ℕ)
        → ((node : RawNode) → Contains nodes node → node.kind ≡ kind.App → IsConKnown source node.at node.args)
        → ((site : Site) → Contains (sites_from source types_ nodes) site → Contains (sites_of source atoms) site)
        → ((w : Wanted) → Contains (wanted_from source blanks (sites_from source types_ nodes)) w → Contains (wanted_from source 0 (sites_of source atoms)) w)
        → AreGood source (names_of source atoms) (kinds_of source atoms) (map (con_by source) (cons_of source)) blanks types_ nodes
    good_nodes (wants ∷ next) (first ∷ nodes) blanks known sites_there wanted_there =
        let further = sites_from source (node_types source first.kind first.at ++ next) nodes in
        let site : Site = record { node = first; wants = wants } in (
          good_node site first.kind first.at first.args blanks refl refl (sites_there site (contains_first site further)) (known first (contains_first first nodes))
              (λ w inside. wanted_there w (contains_left (map (λ occurrence. record { name = occurrence.name; wants = wants }) (occurrence_at source blanks first.at first.kind)) (wanted_from source (blanks_behind blanks first.kind) further) w inside)),
          good_nodes (node_types source first.kind first.at ++ next) nodes (blanks_behind blanks first.kind)
              (λ node inside. known node (contains_behind first nodes node inside))
              (λ other inside. sites_there other (contains_behind site further other inside))
              (λ w inside. wanted_there w (contains_right (map (λ occurrence. record { name = occurrence.name; wants = wants }) (occurrence_at source blanks first.at first.kind)) (wanted_from source (blanks_behind blanks first.kind) further) w inside)),
        )
    good_nodes types_ nodes blanks known sites_there wanted_there = tt

    -- an atom is well typed
    typed_atom : (raw : RawAtom) (atom : AtomTree) (blanks : ℕ) → IsHere source raw
        → ((site : Site) → Contains (sites_in source raw) site → Contains (sites_of source atoms) site)
        → ((w : Wanted) → Contains (wanted_from source blanks (sites_in source raw)) w → Contains (wanted_from source 0 (sites_of source atoms)) w)
        → IsAtomBy source (names_of source atoms) blanks raw atom
        → IsTyped (signature_of source) (kinds_of source atoms) atom
    typed_atom raw atom blanks is sites_there wanted_there by =
        let known = pred_known source raw names is.there in
        let spot = located (λ (pred : PredItem). named source pred.name) (λ other. bytes_eq other.name (said source raw.name)) (preds_of source) known.pred known.found in
        let types_ = pred_types source (said source raw.name) in
        let good = good_nodes types_ raw.nodes blanks (con_known source raw names is.there) sites_there wanted_there in
        let typed = typed_args source (names_of source atoms) (kinds_of source atoms) (map (con_by source) (cons_of source)) atom.args types_ [] [] blanks raw.nodes
        (by.count ∙ here_count source names raw is)
        (append-nil (heads_among atom.args) ∙ by.heads)
        (subst (λ ts. AreGood source (names_of source atoms) (kinds_of source atoms) (map (con_by source) (cons_of source)) blanks ts raw.nodes) (sym (append-nil types_)) good) in
        let sorts : map (number_of source space.Sorts) types_ ≡ sorts_said source known.pred.args = ap (map (number_of source space.Sorts)) (pred_types_are source (said source raw.name) known.pred known.found) ∙ map_twice (number_of source space.Sorts) (said source) known.pred.args in
        let found : slice_get (map (pred_by source) (preds_of source)) atom.pred ≡ Some (pred_by source known.pred) =
        ap (slice_get (map (pred_by source) (preds_of source))) by.pred
        ∙ slice_get-map (pred_by source) (preds_of source) (number_of source space.Predicates (said source raw.name))
        ∙ ap (option_map (pred_by source)) spot.here in
        subst (λ f. IsSomeAnd f (λ (pred : PredDecl). HaveSorts (map (con_by source) (cons_of source)) (kinds_of source atoms) pred.args atom.args)) (sym found)
        (subst (λ ts. HaveSorts (map (con_by source) (cons_of source)) (kinds_of source atoms) ts atom.args) sorts typed.0)

    -- atoms one after another are well typed
    pub typed_atoms : (raws : List RawAtom) (list : List AtomTree) (blanks : ℕ) → ((raw : RawAtom) → Contains raws raw → IsHere source raw)
        → ((site : Site) → Contains (sites_of source raws) site → Contains (sites_of source atoms) site)
        → ((w : Wanted) → Contains (wanted_from source blanks (sites_of source raws)) w → Contains (wanted_from source 0 (sites_of source atoms)) w)
        → AreAtomsBy source (names_of source atoms) blanks raws list
        → AllByRecursion (IsTyped (signature_of source) (kinds_of source atoms)) list
    typed_atoms (raw ∷ raws) (atom ∷ list) blanks here' sites_there wanted_there by =
        let is = here' raw (contains_first raw raws) in
        let both = wanted_both source blanks (sites_in source raw) (sites_of source raws) in
        let after : blanks_after blanks (nodes_at (sites_in source raw)) ≡ blanks_after blanks raw.nodes = ap (blanks_after blanks) (here_nodes source names raw is) in (
          typed_atom raw atom blanks is
              (λ site inside. sites_there site (contains_left (sites_in source raw) (sites_of source raws) site inside))
              (λ w inside. wanted_there w (subst (λ ws. Contains ws w) (sym both) (contains_left (wanted_from source blanks (sites_in source raw)) _ w inside)))
              by.0,
          typed_atoms raws list (blanks_after blanks raw.nodes) (λ other there. here' other (contains_behind raw raws other there))
              (λ site inside. sites_there site (contains_right (sites_in source raw) (sites_of source raws) site inside))
              (λ w inside. wanted_there w (subst (λ ws. Contains ws w) (sym both) (contains_right (wanted_from source blanks (sites_in source raw)) _ w (subst (λ b. Contains (wanted_from source b (sites_of source raws)) w) (sym after) inside))))
              by.1,
        )
    typed_atoms raws list blanks here' sites_there wanted_there by = grind arith
