-- The facts that count, one atom after another, and the keys by which they are told apart.
use Rattle.std.proofs.Common.{◌≡◌, ℕ, zero, suc, ◌==◌, Bool, true, false, ◌&&◌, ◌||◌, not, if◌then◌else◌, List, [], ◌∷◌, ◌++◌, filter, refl, sym, ap, ◌∙◌, append_assoc, arith, ◌⊎◌, ⊎_elim, inl, inr, ◌+◌, ◌<◌, min, length, take, get_or, map, Some, subst, append-nil, length-append, Contains}
use Rattle.std.specs.Str.{bytes_eq}
use Rattle.std.specs.List.{flat_map, list_any}
use Rattle.std.proofs.lemmas.Bool.{eqb-true, eq-eqb, and_parts, and_from}
use Rattle.std.proofs.lemmas.List.Elements.{filter-append}
use Rattle.std.proofs.lemmas.Slice.Eq.{bytes_eq-Decides}
use Rattle.cep_parse.specs.declared.raw.RawNode.{RawNode}
use Rattle.cep_parse.specs.declared.raw.RawAtom.{RawAtom}
use Rattle.cep_source.specs.Items.{Source, said}
use Rattle.cep_source.specs.Starts.{is_of_fact, are_nodes_alike, is_written_alike, counting_behind, listed_in, counting}
use Rattle.cep_faults.specs.Counted.{facts_counting, cut, total_size, written_size, others, nothing_counted, IsPassed, IsCountOf}
use Rattle.cep_faults.specs.FactKeys.{name_key, count_key, node_key, atom_key}
use Rattle.std.proofs.lemmas.List.{map-append, take_more}
use Rattle.std.proofs.lemmas.List.Sums.{sum_by-append}
use Rattle.cep_base.proofs.Bytes.{any_map}
use Rattle.cep_base.proofs.Elements.{contains_none, contains_cases, contains_first, contains_behind, contains_left, contains_right}
use Rattle.cep_base.specs.FirstNames.{has_name, under_name, added}
use Rattle.cep_source.specs.Uses.{stands_for_context}
use Rattle.cep_faults.specs.declared.traces.Counted.{Counted}
use Rattle.cep_faults.specs.declared.traces.Size.{Size}

-- Keys

-- a name's key ends by itself
name_again : (one other rest rest' : List ℕ) → name_key one ++ rest ≡ name_key other ++ rest' → (one ≡ other) × (rest ≡ rest')
name_again [] [] rest rest' e = (refl, cc)
name_again (x ∷ one) (y ∷ other) rest rest' e = grind (arith, name_again one other rest rest' cc)
name_again one other rest rest' e = grind arith

-- and so does that of a number
count_again : (n m : ℕ) (rest rest' : List ℕ) → count_key n ++ rest ≡ count_key m ++ rest' → (n ≡ m) × (rest ≡ rest')
count_again zero zero rest rest' e = (refl, cc)
count_again (suc n) (suc m) rest rest' e = let more = count_again n m rest rest' cc in (ap suc more.0, more.1)
count_again n m rest rest' e = grind arith

module _ (source : Source) where
  no_key : (name rest : List ℕ) → name_key name ++ rest ≡ [] → ⊥
  no_key [] rest e = cc
  no_key (x ∷ name) rest e = cc

  nodes_again : (ones others : List RawNode) → flat_map (node_key source) ones ≡ flat_map (node_key source) others → are_nodes_alike source ones others ≡ true
  nodes_again [] [] e = refl
  nodes_again [] (other ∷ others) e = grind (arith, append_assoc, no_key (said source other.at) (count_key other.args ++ flat_map (node_key source) others))
  nodes_again (one ∷ ones) [] e = grind (arith, append_assoc, no_key (said source one.at) (count_key one.args ++ flat_map (node_key source) ones))
  nodes_again (one ∷ ones) (other ∷ others) e =
      let first = name_again (said source one.at) (said source other.at) (count_key one.args ++ flat_map (node_key source) ones) (count_key other.args ++ flat_map (node_key source) others) (grind (arith, append_assoc)) in
      let second = count_again one.args other.args (flat_map (node_key source) ones) (flat_map (node_key source) others) first.1 in
      grind (arith, first.0, second.0, bytes_eq-Decides, eq-eqb, nodes_again ones others second.1)

  nodes_keyed : (ones others : List RawNode) → are_nodes_alike source ones others ≡ true → flat_map (node_key source) ones ≡ flat_map (node_key source) others
  nodes_keyed (one ∷ ones) (other ∷ others) alike = grind (arith, bytes_eq-Decides, eqb-true, nodes_keyed ones others)
  nodes_keyed ones others alike = grind arith

  -- keys are equal if and only if two atoms are written alike
  pub keys_tell : (one other : RawAtom) → bytes_eq (atom_key source one) (atom_key source other) ≡ is_written_alike source one other
  keys_tell one other = grind (arith, bytes_eq-Decides, name_again, count_again, and_from, eq-eqb, nodes_again, and_parts, eqb-true, nodes_keyed)

  -- Facts that count

  or_swap : (p q r : Bool) → (q || (p || r)) ≡ ((p || q) || r)
  or_swap p q r = grind arith

  -- one atom more counts unless it is a fact that is written like one before it
  pub one_counts : (before atoms : List RawAtom) (a : RawAtom)
      → counting_behind source before (atoms ++ a ∷ []) ≡ counting_behind source before atoms ++ (if is_of_fact source a && (list_any (is_written_alike source a) (counting_behind source before atoms) || list_any (is_written_alike source a) before) then [] else a ∷ [])
  one_counts before [] a = refl
  one_counts before (x ∷ atoms) a = by (is_of_fact source x && list_any (is_written_alike source x) before) (one_counts before atoms a) (one_counts (x ∷ before) atoms a)
    where
      alike : RawAtom → Bool
      alike other = is_written_alike source a other

      counts : List RawAtom → Type 0
      counts before = counting_behind source before (atoms ++ a ∷ []) ≡ counting_behind source before atoms ++ (if is_of_fact source a && (list_any alike (counting_behind source before atoms) || list_any alike before) then [] else a ∷ [])

      by : (b : Bool) → counts before → counts (x ∷ before) → (if b then counting_behind source before (atoms ++ a ∷ []) else x ∷ counting_behind source (x ∷ before) (atoms ++ a ∷ []))
          ≡ (if b then counting_behind source before atoms else x ∷ counting_behind source (x ∷ before) atoms)
          ++ (if is_of_fact source a && (list_any alike (if b then counting_behind source before atoms else x ∷ counting_behind source (x ∷ before) atoms) || list_any alike before) then [] else a ∷ [])
      by true one other = one
      by false one other =
          ap (λ xs. x ∷ xs) (other
          ∙ ap (λ t. counting_behind source (x ∷ before) atoms ++ (if is_of_fact source a && t then [] else a ∷ [])) (or_swap (alike x) (list_any alike (counting_behind source (x ∷ before) atoms)) (list_any alike before)))

  -- atoms that are written alike are facts alike
  fact_alike : (a x : RawAtom) → is_written_alike source a x ≡ true → is_of_fact source a ≡ is_of_fact source x
  fact_alike a x alike = grind (arith, and_parts, bytes_eq-Decides)

  pub among_facts : (a : RawAtom) (atoms : List RawAtom) → is_of_fact source a ≡ true → list_any (is_written_alike source a) atoms ≡ list_any (is_written_alike source a) (filter (is_of_fact source) atoms)
  among_facts a [] fact = refl
  among_facts a (x ∷ atoms) fact = grind (arith, fact_alike, among_facts a atoms fact)

  -- whether an atom is a fact that counts after others
  abbrev pub is_new : List RawAtom → RawAtom → Bool
  is_new atoms a = is_of_fact source a && not (list_any (is_written_alike source a) (facts_counting source atoms))

  pub one_fact : (atoms : List RawAtom) (a : RawAtom) → facts_counting source (atoms ++ a ∷ []) ≡ facts_counting source atoms ++ (if is_new atoms a then a ∷ [] else [])
  one_fact atoms a = grind (arith, one_counts, filter-append, among_facts)

-- What counts of atoms, one atom and one context after another.
or_true : (b : Bool) → (b || true) ≡ true
or_true b = grind arith

or_move : (p q r : Bool) → (p || (q || r)) ≡ ((q || p) || r)
or_move p q r = grind arith

or_none : (b : Bool) → (b || false) ≡ b
or_none b = grind arith

same_bytes : (name : List ℕ) → bytes_eq name name ≡ true
same_bytes name = (bytes_eq-Decides name name).1 refl

same_number : (n : ℕ) → (n == n) ≡ true
same_number n = eq-eqb n n refl

pub not_true : (a b : Bool) → a ≡ not b → a ≡ false → b ≡ true
not_true a b is was = grind arith

pub not_false : (a b : Bool) → a ≡ not b → a ≡ true → b ≡ false
not_false a b is was = grind arith

cut_both : (a b c m : ℕ) → c ≡ a + b → min (min a m + min b m) m ≡ min c m
cut_both a b c m is = omega (arith, is)

-- the size of two parts
pub joined_size : (xs ys : List RawAtom) → cut (total_size (cut (written_size xs)) (cut (written_size ys))) ≡ cut (written_size (xs ++ ys))
joined_size xs ys = grind (arith, cut_both, length-append, sum_by-append)

-- a name that is there now was there before, or is the one that came
under_last : {A : Type 0} (table : List (List ℕ × A)) (name : List ℕ) (value : A) (other : List ℕ) (given : A) → under_name (table ++ (name, value) ∷ []) other ≡ Some given → (under_name table other ≡ Some given) ⊎ ((bytes_eq other name ≡ true) × (given ≡ value))
under_last [] name value other given is = grind arith
under_last (entry ∷ table) name value other given is = grind (arith, entry.0, under_last table name value other given, entry.1)

under_added : {A : Type 0} (table : List (List ℕ × A)) (name : List ℕ) (value : A) (other : List ℕ) (given : A) → under_name (added table (name, value)) other ≡ Some given → (under_name table other ≡ Some given) ⊎ ((bytes_eq other name ≡ true) × (given ≡ value))
under_added table name value other given is = grind (arith, under_last)

-- a name that is there is not added
pub added_again : {A : Type 0} (table : List (List ℕ × A)) (name : List ℕ) (value : A) → has_name table name ≡ true → added table (name, value) ≡ table
added_again table name value has = ap (λ (b : Bool). if b then table else table ++ (name, value) ∷ []) has

module _ (source : Source) where
  abbrev alike : RawAtom → RawAtom → Bool
  alike one other = is_written_alike source one other

  nodes_alike : (nodes : List RawNode) → are_nodes_alike source nodes nodes ≡ true
  nodes_alike [] = refl
  nodes_alike (node ∷ nodes) = grind (arith, same_bytes, same_number, nodes_alike nodes)

  itself : (atom : RawAtom) → alike atom atom ≡ true
  itself atom = grind (arith, same_bytes, same_number, nodes_alike)

  -- an atom that was listed is written like one that counts
  abbrev is_seen : List RawAtom → List RawAtom → RawAtom → Bool
  is_seen before atoms x = list_any (alike x) (counting_behind source before atoms) || list_any (alike x) before

  seen_first : (b : Bool) (before atoms : List RawAtom) (y x : RawAtom) → (is_of_fact source y && list_any (alike y) before) ≡ b → y ≡ x
      → (list_any (alike x) (if b then counting_behind source before atoms else y ∷ counting_behind source (y ∷ before) atoms) || list_any (alike x) before) ≡ true
  seen_first b before atoms y x is same = grind (arith, alike, and_parts, or_true, itself)

  seen_later : (b : Bool) (before atoms : List RawAtom) (y x : RawAtom) → is_seen before atoms x ≡ true → is_seen (y ∷ before) atoms x ≡ true
      → (list_any (alike x) (if b then counting_behind source before atoms else y ∷ counting_behind source (y ∷ before) atoms) || list_any (alike x) before) ≡ true
  seen_later b before atoms y x here there = grind (arith, or_move, alike)

  seen_alike : (before atoms : List RawAtom) (x : RawAtom) → Contains atoms x → is_seen before atoms x ≡ true
  seen_alike before [] x there = absurd (contains_none x there)
  seen_alike before (y ∷ atoms) x there =
      ⊎_elim (λ (same : y ≡ x). seen_first (is_of_fact source y && list_any (alike y) before) before atoms y x refl same)
      (λ later. seen_later (is_of_fact source y && list_any (alike y) before) before atoms y x (seen_alike before atoms x later) (seen_alike (y ∷ before) atoms x later))
      (contains_cases y atoms x there)

  -- so a fact that was listed is not new
  not_new : (atoms : List RawAtom) (x : RawAtom) → Contains atoms x → is_new source atoms x ≡ false
  not_new atoms x there = grind (arith, among_facts source x (counting source atoms), or_none, seen_alike [] atoms x there)

  same_facts : (atoms : List RawAtom) (a : RawAtom) → is_new source atoms a ≡ false → facts_counting source (atoms ++ a ∷ []) ≡ facts_counting source atoms
  same_facts atoms a old = grind (arith, one_fact source atoms a, append-nil)

  repeated : (before more : List RawAtom) → ((raw : RawAtom) → Contains more raw → Contains before raw) → facts_counting source (before ++ more) ≡ facts_counting source before
  repeated before [] among = ap (facts_counting source) (append-nil before)
  repeated before (m ∷ more) among =
      ap (facts_counting source) (sym (append_assoc before (m ∷ []) more))
      ∙ repeated (before ++ m ∷ []) more (λ raw there. contains_left before (m ∷ []) raw (among raw (contains_behind m more raw there)))
      ∙ same_facts before m (not_new before m (among m (contains_first m more)))

  -- ---- what counts

  -- an atom that is no fact counts, a fact that was listed does not, another does
  counts : (atoms : List RawAtom) (a : RawAtom) → (is_of_fact source a && list_any (alike a) (counting source atoms)) ≡ false → counting source (atoms ++ a ∷ []) ≡ counting source atoms ++ a ∷ []
  counts atoms a is = grind (arith, one_counts source [] atoms a, or_none)

  counts_not : (atoms : List RawAtom) (a : RawAtom) → (is_of_fact source a && list_any (alike a) (counting source atoms)) ≡ true → counting source (atoms ++ a ∷ []) ≡ counting source atoms
  counts_not atoms a is = grind (arith, one_counts source [] atoms a, or_none, append-nil)

  -- atoms that were listed before: all but facts count again
  again_counting : (before more : List RawAtom) → ((raw : RawAtom) → Contains more raw → Contains before raw) → counting source (before ++ more) ≡ counting source before ++ others source more
  again_counting before [] among = ap (counting source) (append-nil before) ∙ sym (append-nil (counting source before))
  again_counting before (m ∷ more) among =
      let rest = again_counting (before ++ m ∷ []) more (λ raw there. contains_left before (m ∷ []) raw (among raw (contains_behind m more raw there))) in
      let seen = seen_alike [] before m (among m (contains_first m more)) in
      grind (arith, append_assoc, rest, seen, or_none, counts before m, counts_not before m)

  told : (atoms : List RawAtom) (a : RawAtom) (counted : Counted) → IsCountOf source atoms counted → has_name counted.facts (atom_key source a) ≡ list_any (alike a) (facts_counting source atoms)
  told atoms a counted so_far =
      sym (any_map (bytes_eq (atom_key source a)) (λ entry. entry.0) counted.facts)
      ∙ ap (list_any (bytes_eq (atom_key source a))) so_far.facts
      ∙ any_map (bytes_eq (atom_key source a)) (atom_key source) (facts_counting source atoms)
      ∙ (λ i. list_any (λ x. keys_tell source a x i) (facts_counting source atoms))

  -- the contexts that were passed are passed still
  passed_on : (atoms more : List RawAtom) (name : List ℕ) (size : Size) → IsPassed source atoms name size → IsPassed source (atoms ++ more) name size
  passed_on atoms more name size was = record { size_is = was.size_is; among = λ atom there. contains_left atoms more atom (was.among atom there) }

  -- before any atom
  pub none_counted : (counted : Counted) → counted ≡ nothing_counted → IsCountOf source [] counted
  none_counted counted is = subst (IsCountOf source []) (sym is) (record { size = refl; facts = refl; contexts = λ name size got. absurd cc })

  -- one atom more
  module _ (a : RawAtom) (old new : Counted) (atoms : List RawAtom) (so_far : IsCountOf source atoms old) (contexts_same : new.contexts ≡ old.contexts) where
    still : (name : List ℕ) (size_ : Size) → under_name new.contexts name ≡ Some size_ → IsPassed source (atoms ++ a ∷ []) name size_
    still name size_ got = passed_on atoms (a ∷ []) name size_ (so_far.contexts name size_ (ap (λ table. under_name table name) (sym contexts_same) ∙ got))

    module _ (one : Size) (one_is : one ≡ cut (written_size (a ∷ []))) (size_is : new.size ≡ cut (total_size old.size one)) where
      larger : counting source (atoms ++ a ∷ []) ≡ counting source atoms ++ a ∷ [] → new.size ≡ cut (written_size (counting source (atoms ++ a ∷ [])))
      larger is = size_is ∙ (λ i. cut (total_size (so_far.size i) (one_is i))) ∙ joined_size (counting source atoms) (a ∷ []) ∙ ap (λ xs. cut (written_size xs)) (sym is)

      pub no_fact : is_of_fact source a ≡ false → new.facts ≡ old.facts → IsCountOf source (atoms ++ a ∷ []) new
      no_fact is facts = grind (arith, larger, counts, alike, same_facts, still, so_far.facts)

      pub new_fact : (key : List ℕ) (with_size : Size) → is_of_fact source a ≡ true → key ≡ atom_key source a → has_name old.facts key ≡ false → new.facts ≡ added old.facts (key, with_size) → IsCountOf source (atoms ++ a ∷ []) new
      new_fact key with_size fact key_is has facts = record {
        size = larger (counts atoms a (ap (λ (b : Bool). b && list_any (alike a) (counting source atoms)) fact ∙ among_facts source a (counting source atoms) fact ∙ unseen));
        facts = ap (map (λ entry. entry.0)) (facts ∙ ap (λ (b : Bool). if b then old.facts else old.facts ++ (key, with_size) ∷ []) has)
            ∙ map-append (λ entry. entry.0) old.facts ((key, with_size) ∷ []) ∙ (λ i. so_far.facts i ++ key_is i ∷ [])
            ∙ sym (map-append (atom_key source) (facts_counting source atoms) (a ∷ [])) ∙ ap (map (atom_key source)) (sym more_facts);
        contexts = still;
      }
        where
          unseen : list_any (alike a) (facts_counting source atoms) ≡ false
          unseen = sym (told atoms a old so_far) ∙ ap (has_name old.facts) (sym key_is) ∙ has

          more_facts : facts_counting source (atoms ++ a ∷ []) ≡ facts_counting source atoms ++ a ∷ []
          more_facts = one_fact source atoms a ∙ ap (λ (b : Bool). facts_counting source atoms ++ (if b then a ∷ [] else [])) (ap (λ (b : Bool). b && not (list_any (alike a) (facts_counting source atoms))) fact ∙ ap not unseen)

    pub old_fact : (key : List ℕ) → is_of_fact source a ≡ true → key ≡ atom_key source a → has_name old.facts key ≡ true → new.size ≡ old.size → new.facts ≡ old.facts → IsCountOf source (atoms ++ a ∷ []) new
    old_fact key fact key_is has size_is facts = grind (arith, counts_not, alike a, among_facts source a (counting source atoms) fact, same_facts, still, told atoms a old so_far)

  -- a context more, which was listed before
  pub context_again : (before : List RawAtom) (old new : Counted) (name : List ℕ) (size_ : Size) → IsCountOf source before old → under_name old.contexts name ≡ Some size_ → new.size ≡ cut (total_size old.size size_) → new.facts ≡ old.facts → new.contexts ≡ old.contexts
      → IsCountOf source (before ++ listed_in source name) new
  context_again before old new name size_ so_far got size_is facts contexts_same =
      let passed = so_far.contexts name size_ got in
      let atoms = listed_in source name in
      record {
        size = size_is ∙ (λ i. cut (total_size (so_far.size i) (passed.size_is i))) ∙ joined_size (counting source before) (others source atoms) ∙ ap (λ xs. cut (written_size xs)) (sym (again_counting before atoms passed.among));
        facts = ap (map (λ entry. entry.0)) facts ∙ so_far.facts ∙ ap (map (atom_key source)) (sym (repeated before atoms passed.among));
        contexts = λ other s g. passed_on before atoms other s (so_far.contexts other s (ap (λ table. under_name table other) (sym contexts_same) ∙ g));
      }

  -- and one that is listed first, whose atoms were counted
  pub context_first : (before atoms : List RawAtom) (old new : Counted) (name : List ℕ) (size_ : Size) → atoms ≡ listed_in source name → IsCountOf source (before ++ atoms) old → size_ ≡ cut (written_size (others source atoms))
      → new.size ≡ old.size → new.facts ≡ old.facts → new.contexts ≡ added old.contexts (name, size_) → IsCountOf source (before ++ listed_in source name) new
  context_first before atoms old new name size_ atoms_are so_far size_is same_size same_facts_ contexts_are =
      subst (λ xs. IsCountOf source (before ++ xs) new) atoms_are
      (record {
        size = same_size ∙ so_far.size;
        facts = ap (map (λ entry. entry.0)) same_facts_ ∙ so_far.facts;
        contexts = λ other s g. by other s (under_added old.contexts name size_ other s (ap (λ table. under_name table other) (sym contexts_are) ∙ g));
      })
    where
      by : (other : List ℕ) (s : Size) → (under_name old.contexts other ≡ Some s) ⊎ ((bytes_eq other name ≡ true) × (s ≡ size_)) → IsPassed source (before ++ atoms) other s
      by other s (inl got) = so_far.contexts other s got
      by other s (inr both) =
          let same : listed_in source other ≡ atoms = ap (listed_in source) ((bytes_eq-Decides other name).0 both.0) ∙ sym atoms_are in
          record {
            size_is = both.1 ∙ size_is ∙ ap (λ xs. cut (written_size (others source xs))) (sym same);
            among = λ atom there. contains_right before atoms atom (subst (λ xs. Contains xs atom) same there);
          }

  -- two parts, one after the other
  pub both_counted : (xs ys zs : List RawAtom) (start old new : Counted) → zs ≡ xs ++ ys → ((before : List RawAtom) → IsCountOf source before start → IsCountOf source (before ++ xs) old)
      → ((before : List RawAtom) → IsCountOf source before old → IsCountOf source (before ++ ys) new) → (before : List RawAtom) → IsCountOf source before start → IsCountOf source (before ++ zs) new
  both_counted xs ys zs start old new are one other before so_far = grind (arith, append_assoc)

pub first_more : (atoms : List RawAtom) (i : ℕ) (atom : RawAtom) → i < length atoms → atom ≡ get_or atoms i atom → take (i + 1) atoms ≡ take i atoms ++ atom ∷ []
first_more atoms i atom within at = take_more atoms i atom within ∙ ap (λ y. take i atoms ++ y ∷ []) (sym at)

-- what an atom in braces lists
abbrev pub listed_by : Source → RawAtom → List RawAtom
listed_by source atom = if stands_for_context source atom then listed_in source (said source atom.name) else atom ∷ []
