-- The variables that are met node by node are those of the atoms.
use Rattle.std.proofs.Common.{◌≡◌, ℕ, ◌+◌, ◌<◌, Bool, true, false, ◌||◌, if◌then◌else◌, List, [], ◌∷◌, ◌++◌, length, map, take, get_or, codes, decimal, refl, ap, sym, ◌∙◌, append_assoc, append-nil, arith}
use Rattle.std.specs.Str.{bytes_eq}
use Rattle.std.specs.List.{list_any}
use Rattle.std.proofs.lemmas.List.Sums.{fold-append}
use Rattle.std.proofs.lemmas.Grind.{flat_map-append}
use Rattle.cep_base.proofs.Bytes.{bytes_eq_sym}
use Rattle.cep_parse.specs.declared.raw.Span.{Span}
use Rattle.cep_parse.specs.declared.raw.RawKind.{RawKind}
use Rattle.cep_parse.specs.declared.raw.RawKind.TheVariants as kind
use Rattle.cep_parse.specs.declared.raw.RawNode.{RawNode}
use Rattle.cep_parse.specs.declared.raw.RawAtom.{RawAtom}
use Rattle.cep_parse.specs.declared.raw.RawElem.{RawElem}
use Rattle.cep_parse.specs.Raw.{raw_nodes, atoms_in, atoms_of}
use Rattle.cep_source.specs.declared.variables.Variables.{Variables}
use Rattle.cep_source.specs.Items.{Source, said}
use Rattle.cep_source.specs.Variables.{Occurrence, occurrence_at, occurrences_from, firsts_beside, blanks_after, blanks_behind}
use Rattle.cep_base.specs.FirstNames.{has_name, added}
use Rattle.cep_source.specs.Met.{none_met, met_site, met_nodes, AreVariables}
use Rattle.cep_source.proofs.Declaring.{taken}

any_end : {X : Type 0} (p : X → Bool) (xs : List X) (x : X) → list_any p (xs ++ x ∷ []) ≡ (p x || list_any p xs)
any_end p [] x = refl
any_end p (y ∷ xs) x = grind (arith, any_end p xs x)

abbrev pair : Occurrence → List ℕ × Span
pair occurrence = (occurrence.name, occurrence.at)

abbrev Table : Type 0
Table = List (List ℕ × Span)

-- the same names were seen
abbrev AreSeen : List (List ℕ) → Table → Type 0
AreSeen seen table = (name : List ℕ) → list_any (λ n. bytes_eq n name) seen ≡ has_name table name

seen_more : (seen : List (List ℕ)) (table : Table) (o : Occurrence) → AreSeen seen table → AreSeen (o.name ∷ seen) (table ++ pair o ∷ [])
seen_more seen table o same name = ap (λ b. bytes_eq o.name name || b) (same name) ∙ ap (λ b. b || has_name table name) (bytes_eq_sym o.name name) ∙ sym (any_end (λ entry. bytes_eq name entry.0) table (pair o))

module _ (source : Source) where
  -- what nodes add to a table, where so many blanks stand before them
  abbrev IsMet : ℕ → List RawNode → Type 0
  IsMet blanks nodes =
      (seen : List (List ℕ)) (table : Table) → AreSeen seen table
      → (met_nodes source (record { firsts = table; blanks = blanks }) nodes).firsts ≡ table ++ map pair (firsts_beside seen (occurrences_from source blanks nodes))

  one_met : (blanks : ℕ) (nodes : List RawNode) (o : Occurrence) → IsMet blanks nodes → (seen : List (List ℕ)) (table : Table) → AreSeen seen table
      → (met_nodes source (record { firsts = added table (pair o); blanks = blanks }) nodes).firsts ≡ table ++ map pair (firsts_beside seen (o ∷ occurrences_from source blanks nodes))
  one_met blanks nodes o rest seen table same = rw (same o.name) (cases (has_name table o.name)) where
    cases : (there : Bool)
        → (met_nodes source (record { firsts = if there then table else table ++ pair o ∷ []; blanks = blanks }) nodes).firsts
        ≡ table ++ map pair (if there then firsts_beside seen (occurrences_from source blanks nodes) else o ∷ firsts_beside (o.name ∷ seen) (occurrences_from source blanks nodes))
    cases true = rest seen table same
    cases false =
        rest (o.name ∷ seen) (table ++ pair o ∷ []) (seen_more seen table o same)
        ∙ append_assoc table (pair o ∷ []) (map pair (firsts_beside (o.name ∷ seen) (occurrences_from source blanks nodes)))

  firsts_met : (blanks : ℕ) (nodes : List RawNode) → IsMet blanks nodes
  firsts_met blanks [] seen table same = sym (append-nil table)
  firsts_met blanks (node ∷ nodes) seen table same = by_kind node.kind node.at (firsts_met (blanks_behind blanks node.kind) nodes) where
    by_kind : (kind_ : RawKind) (at : Span) → IsMet (blanks_behind blanks kind_) nodes
        → (met_nodes source (met_site source (record { firsts = table; blanks = blanks }) kind_ at at) nodes).firsts
        ≡ table ++ map pair (firsts_beside seen (occurrence_at source blanks at kind_ ++ occurrences_from source (blanks_behind blanks kind_) nodes))
    by_kind kind.App at rest = rest seen table same
    by_kind kind.Var at rest = one_met blanks nodes (record { name = said source at; at = at }) rest seen table same
    by_kind kind.Blank at rest = one_met (blanks + 1) nodes (record { name = codes "_" ++ decimal (blanks + 1); at = at }) rest seen table same

  blanks_met : (old : Variables) (nodes : List RawNode) → (met_nodes source old nodes).blanks ≡ blanks_after old.blanks nodes
  blanks_met old [] = refl
  blanks_met old (node ∷ nodes) = grind (arith, blanks_met (met_site source old node.kind node.at node.at) nodes)

  -- all nodes of the atoms were met
  pub are_variables : (atoms : List RawAtom) (variables : Variables) → variables ≡ met_nodes source none_met (raw_nodes atoms) → AreVariables source atoms variables
  are_variables atoms variables is = record { firsts = ap (λ (v : Variables). v.firsts) is ∙ firsts_met 0 (raw_nodes atoms) [] [] (λ name. refl); blanks = ap (λ (v : Variables). v.blanks) is ∙ blanks_met none_met (raw_nodes atoms) }

  -- the nodes of one more item
  met_more : {X : Type 0} (nodes_of : List X → List RawNode) (xs : List X) (i : ℕ) (x : X) (nodes : List RawNode) → nodes_of (take i xs ++ x ∷ []) ≡ nodes_of (take i xs) ++ nodes → i < length xs → x ≡ get_or xs i x
      → (old new : Variables) → new ≡ met_nodes source old nodes → old ≡ met_nodes source none_met (nodes_of (take i xs)) → new ≡ met_nodes source none_met (nodes_of (take (i + 1) xs))
  met_more nodes_of xs i x nodes grows h at old new is was =
      taken (λ ys. new ≡ met_nodes source none_met (nodes_of ys)) xs i x h at
      (is ∙ ap (λ variables. met_nodes source variables nodes) was
      ∙ sym (ap (met_nodes source none_met) grows ∙ fold-append (λ variables node. met_site source variables node.kind node.at node.at) none_met (nodes_of (take i xs)) nodes))

  pub side_met : (side : List RawElem) (i : ℕ) (elem : RawElem) (nodes : List RawNode) → i < length side → elem ≡ get_or side i elem → nodes ≡ raw_nodes (atoms_in elem)
      → (old new : Variables) → new ≡ met_nodes source old nodes → old ≡ met_nodes source none_met (raw_nodes (atoms_of (take i side))) → new ≡ met_nodes source none_met (raw_nodes (atoms_of (take (i + 1) side)))
  side_met side i elem nodes h at are =
      met_more (λ elems. raw_nodes (atoms_of elems)) side i elem nodes
      (ap raw_nodes (flat_map-append atoms_in (take i side) (elem ∷ []) ∙ ap (λ atoms. atoms_of (take i side) ++ atoms) (append-nil (atoms_in elem)))
      ∙ flat_map-append (λ (atom : RawAtom). atom.nodes) (atoms_of (take i side)) (atoms_in elem) ∙ ap (λ (ns : List RawNode). raw_nodes (atoms_of (take i side)) ++ ns) (sym are)) h at

  pub goals_met : (head : RawAtom) (goals : List RawAtom) (i : ℕ) (goal : RawAtom) (nodes : List RawNode) → i < length goals → goal ≡ get_or goals i goal → nodes ≡ goal.nodes
      → (old new : Variables) → new ≡ met_nodes source old nodes → old ≡ met_nodes source none_met (raw_nodes (head ∷ take i goals)) → new ≡ met_nodes source none_met (raw_nodes (head ∷ take (i + 1) goals))
  goals_met head goals i goal nodes h at are =
      met_more (λ atoms. raw_nodes (head ∷ atoms)) goals i goal nodes
      (ap (λ (ns : List RawNode). head.nodes ++ ns) (flat_map-append (λ (atom : RawAtom). atom.nodes) (take i goals) (goal ∷ []) ∙ ap (λ (ns : List RawNode). raw_nodes (take i goals) ++ ns) (append-nil goal.nodes ∙ sym are))
      ∙ sym (append_assoc head.nodes (raw_nodes (take i goals)) nodes)) h at
