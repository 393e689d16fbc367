-- What is read of a term by its key, and that different keys read different trees.
use Rattle.std.proofs.Common.{◌≡◌, ℕ, zero, suc, ◌<◌, ◌≤◌, List, [], ◌∷◌, length, map, get_or, Contains, Option, Some, None, refl, sym, ap, subst, ◌∙◌, arith, ◌+◌, ◌*◌, ◌^◌, drop}
use Rattle.std.proofs.lemmas.Option.{get_or_from_slice_get, slice_get-get_or, slice_get_within}
use Rattle.std.specs.Option.{option_map_or}
use Rattle.std.specs.Prelude.{slice_get}
use Rattle.std.specs.List.{AllByRecursion}
use Rattle.cep_base.proofs.Lists.{none_some, some_same, all_from_places, get_mapped}
use Rattle.cep_term.specs.Tree.{Tree, AtomTree, variable, IsGround, AreGround, IsGroundAtom, Trees, node, more, term_nodes, argument_nodes}
use Rattle.cep_store.proofs.Additions.{key_below}
use Rattle.cep_store.specs.Held.{AreApart, AreIds, trees_in, parts_in, args_by, Held, parts_at, args_at}
use Rattle.cep_store.specs.Keys.{term_by, atom_by, terms_by, atoms_by, held_by, IsKey, AreTermKeys, AreKeys, IsTermKey, IsAtomKey}

-- Different keys read different trees, and all trees that are read are ground and have their arguments among them.

-- what stands in an image comes from the list
pub get_unmapped : {A B : Type 0} (f : A → B) (xs : List A) (i : ℕ) (y : B) → slice_get (map f xs) i ≡ Some y → (x : A) × (slice_get xs i ≡ Some x) × (f x ≡ y)
get_unmapped f (x ∷ xs) (suc i) y is = get_unmapped f xs i y is
get_unmapped f xs i y is = grind (arith, none_some, some_same)

pub contains_at : {A : Type 0} (xs : List A) (i : ℕ) (x : A) → slice_get xs i ≡ Some x → Contains xs x
contains_at xs i x at = (i, slice_get_within xs i x at, get_or_from_slice_get xs i x x at)

pub place_of_contained : {A : Type 0} (xs : List A) (x : A) → Contains xs x → (i : ℕ) × (slice_get xs i ≡ Some x)
place_of_contained xs x there = (there.0, slice_get-get_or xs there.0 x there.1 ∙ ap Some there.2)

-- No two places below the bound have the same.
ApartBelow : ℕ → List Tree → Type 0
ApartBelow bound terms = (i j : ℕ) (t : Tree) → i < bound → j < bound → slice_get terms i ≡ Some t → slice_get terms j ≡ Some t → i ≡ j

module _ (terms : List Tree) (bound : ℕ) (few : bound ≤ length terms) (apart : ApartBelow bound terms) where
  id_same : (i j : ℕ) → i < bound → j < bound → get_or terms i (variable 0) ≡ get_or terms j (variable 0) → i ≡ j
  unfolding ApartBelow
  id_same i j low high same =
      apart i j (get_or terms i (variable 0)) low high
      (slice_get-get_or terms i (variable 0) (omega arith))
      (slice_get-get_or terms j (variable 0) (omega arith) ∙ ap Some (sym same))

  args_same : (ids others : List ℕ) → AllByRecursion (λ id. id < bound) ids → AllByRecursion (λ id. id < bound) others → args_by terms ids ≡ args_by terms others → ids ≡ others
  args_same [] [] all every same = refl
  args_same (i ∷ ids) (j ∷ others) all every same =
      let first : get_or terms i (variable 0) ≡ get_or terms j (variable 0) = cc in
      let rest : args_by terms ids ≡ args_by terms others = cc in
      (λ k. id_same i j all.0 every.0 first k ∷ args_same ids others all.1 every.1 rest k)
  args_same ids others all every same = cc

  key_same : (key other : List ℕ) → IsKey bound key → IsKey bound other → term_by terms key ≡ term_by terms other → key ≡ other
  key_same key other is are same = grind (arith, args_same)

  atom_same : (key other : List ℕ) → IsKey bound key → IsKey bound other → atom_by terms key ≡ atom_by terms other → key ≡ other
  atom_same key other is are same = grind (arith, args_same)

module _ (keys : List (List ℕ)) (are : AreTermKeys keys) where
  -- the key of a term that is read
  key_at : (i : ℕ) (t : Tree) → slice_get (terms_by keys) i ≡ Some t → (key : List ℕ) × (slice_get keys i ≡ Some key) × (term_by (terms_by keys) key ≡ t)
  key_at i t at =
      let within : i < length (terms_by keys) = slice_get_within (terms_by keys) i t at in
      let here : slice_get keys i ≡ Some (get_or keys i []) = slice_get-get_or keys i [] (omega (arith, are.count)) in
      (get_or keys i [], here, some_same _ t (sym (are.read i (get_or keys i []) here) ∙ at))

  apart_below : (n : ℕ) → n ≤ length (terms_by keys) → ApartBelow n (terms_by keys)
  unfolding ApartBelow
  apart_below zero few i j t low high one other = absurd (omega arith)
  apart_below (suc n) few i j t low high one other =
      let first = key_at i t one in
      let second = key_at j t other in
      let lesser : i ≤ n = omega arith in
      let least : j ≤ n = omega arith in
      let same : first.0 ≡ second.0 =
      key_same (terms_by keys) n (omega arith) (apart_below n (omega arith)) first.0 second.0
      (key_below i n first.0 lesser (are.each i first.0 first.1))
      (key_below j n second.0 least (are.each j second.0 second.1))
      (first.2 ∙ sym second.2) in
      are.apart i j first.0 first.1 (second.1 ∙ ap Some (sym same))

  pub terms_apart : AreApart (terms_by keys)
  unfolding ApartBelow
  terms_apart i j t one other =
      apart_below (length (terms_by keys)) (omega arith) i j t (slice_get_within (terms_by keys) i t one) (slice_get_within (terms_by keys) j t other) one other

  args_ground : (bound : ℕ) (ids : List ℕ) → bound ≤ length (terms_by keys) → ((i : ℕ) (t : Tree) → i < bound → slice_get (terms_by keys) i ≡ Some t → IsGround t) → AllByRecursion (λ id. id < bound) ids → AreGround (args_by (terms_by keys) ids)
  args_ground bound [] few ground all = tt
  args_ground bound (id ∷ ids) few ground all = grind (arith, slice_get-get_or, args_ground bound ids few ground all.1)

  key_ground : (bound : ℕ) (key : List ℕ) → bound ≤ length (terms_by keys) → ((i : ℕ) (t : Tree) → i < bound → slice_get (terms_by keys) i ≡ Some t → IsGround t) → IsKey bound key → IsGround (term_by (terms_by keys) key)
  key_ground bound key few ground is = grind (arith, args_ground)

  ground_below : (n : ℕ) → n ≤ length (terms_by keys) → (i : ℕ) (t : Tree) → i < n → slice_get (terms_by keys) i ≡ Some t → IsGround t
  ground_below zero few i t low at = absurd (omega arith)
  ground_below (suc n) few i t low at = subst IsGround (key_at i t at).2 (key_ground n (key_at i t at).0 (omega arith) (ground_below n (omega arith)) (key_below i n (key_at i t at).0 (omega arith) (are.each i (key_at i t at).0 (key_at i t at).1)))

  ground_at : (i : ℕ) (t : Tree) → slice_get (terms_by keys) i ≡ Some t → IsGround t
  ground_at i t at = ground_below (length (terms_by keys)) (omega arith) i t (slice_get_within (terms_by keys) i t at) at

  args_held : (ids : List ℕ) → AllByRecursion (λ id. id < length (terms_by keys)) ids → AllByRecursion (λ part. Contains (terms_by keys) part) (trees_in (args_by (terms_by keys) ids))
  args_held [] all = tt
  args_held (id ∷ ids) all = (contains_at (terms_by keys) id _ (slice_get-get_or (terms_by keys) id (variable 0) all.0), args_held ids all.1)

  parts_held : (key : List ℕ) → IsKey (length (terms_by keys)) key → AllByRecursion (λ part. Contains (terms_by keys) part) (parts_in (term_by (terms_by keys) key))
  parts_held key is = grind (arith, args_held)

  parts_of_held : (id : ℕ) (r : Option Tree) → slice_get (terms_by keys) id ≡ r → AllByRecursion (λ part. Contains (terms_by keys) part) (option_map_or parts_in r [])
  parts_of_held id None at = tt
  parts_of_held id (Some t) at =
      let key = key_at id t at in
      let within : id < length (terms_by keys) = slice_get_within (terms_by keys) id t at in
      subst (λ u. AllByRecursion (λ part. Contains (terms_by keys) part) (parts_in u)) key.2 (parts_held key.0 (key_below id (length (terms_by keys)) key.0 (omega arith) (are.each id key.0 key.1)))

module _ (terms atoms : List (List ℕ)) (are : AreKeys terms atoms) where
  atom_is : (id : ℕ) (key : List ℕ) → slice_get atoms id ≡ Some key → IsKey (length (terms_by terms)) key
  atom_is id key at = subst (λ n. IsKey n key) (sym are.terms.count) (are.atoms id key at)

  pub atoms_apart : AreApart (atoms_by (terms_by terms) atoms)
  unfolding ApartBelow
  atoms_apart i j a one other =
      let first = get_unmapped (atom_by (terms_by terms)) atoms i a one in
      let second = get_unmapped (atom_by (terms_by terms)) atoms j a other in
      let same : first.0 ≡ second.0 =
      atom_same (terms_by terms) (length (terms_by terms)) (omega arith) (λ m n t low high here there. terms_apart terms are.terms m n t here there) first.0 second.0
      (atom_is i first.0 first.1) (atom_is j second.0 second.1) (first.2 ∙ sym second.2) in
      are.apart i j first.0 first.1 (second.1 ∙ ap Some (sym same))

  ground_atom : (key : List ℕ) → IsKey (length (terms_by terms)) key → IsGroundAtom (atom_by (terms_by terms) key)
  ground_atom key is = grind (arith, args_ground, ground_below)

  args_of_key : (key : List ℕ) → IsKey (length (terms_by terms)) key → AllByRecursion (λ arg. Contains (terms_by terms) arg) (trees_in (atom_by (terms_by terms) key).args)
  args_of_key key is = grind (arith, args_held)

  args_of_held : (id : ℕ) (r : Option AtomTree) → slice_get (atoms_by (terms_by terms) atoms) id ≡ r → AllByRecursion (λ arg. Contains (terms_by terms) arg) (option_map_or (λ a. trees_in a.args) r [])
  args_of_held id r at = grind (arith, get_unmapped, args_of_key, atom_is)

  -- what a store holds by its keys
  pub are_ids : AreIds (held_by terms atoms)
  are_ids = record {
    terms_apart = terms_apart terms are.terms;
    atoms_apart = atoms_apart;
    ground_terms = all_from_places IsGround (terms_by terms) (ground_at terms are.terms);
    ground_atoms = all_from_places IsGroundAtom (atoms_by (terms_by terms) atoms) (grind (arith, get_unmapped, ground_atom, atom_is));
    parts = λ id. parts_of_held terms are.terms id (slice_get (terms_by terms) id) refl;
    args = λ id. args_of_held id (slice_get (atoms_by (terms_by terms) atoms) id) refl;
  }

-- How much there is to read of a term or of arguments, and what a key that is held tells of its term.

pub term_weight : List (List ℕ) → ℕ → ℕ
term_weight keys id = 2 * term_nodes (get_or (terms_by keys) id (variable 0))

pub args_weight : List (List ℕ) → List ℕ → ℕ
args_weight keys ids = 2 * argument_nodes (args_by (terms_by keys) ids) + 1

has_nodes : (t : Tree) → 1 ≤ term_nodes t
has_nodes (variable v) = omega arith
has_nodes (node c args) = omega arith

-- The first id is less than all, and so are the others.
pub first_is_less : (keys : List (List ℕ)) (id : ℕ) (ids : List ℕ) → term_weight keys id < args_weight keys (id ∷ ids)
unfolding term_weight args_weight
first_is_less keys id ids = omega arith

pub others_are_less : (keys : List (List ℕ)) (id : ℕ) (ids : List ℕ) → args_weight keys ids < args_weight keys (id ∷ ids)
unfolding term_weight args_weight
others_are_less keys id ids =
    let some : 1 ≤ term_nodes (get_or (terms_by keys) id (variable 0)) = has_nodes (get_or (terms_by keys) id (variable 0)) in
    omega arith

-- What a key tells: a head, and the ids of arguments.
pub record HasParts (terms : List Tree) (bound : ℕ) (key : List ℕ) : Type 0 where
  pub some : 1 ≤ length key
  pub small : get_or key 0 0 < 2 ^ 32
  pub within : AllByRecursion (λ id. id < bound) (drop 1 key)
  pub reads : term_by terms key ≡ node (get_or key 0 0) (args_by terms (drop 1 key))
  pub reads_atom : atom_by terms key ≡ record { pred = get_or key 0 0; args = args_by terms (drop 1 key) }

pub has_parts : (terms : List Tree) (bound : ℕ) (key : List ℕ) → IsKey bound key → HasParts terms bound key
has_parts terms bound key is = grind arith

module _ (keys : List (List ℕ)) (id : ℕ) (key : List ℕ) (are : AreTermKeys keys) (at : slice_get keys id ≡ Some key) where
  -- what the key of a term tells
  pub held_parts : HasParts (terms_by keys) (length keys) key
  held_parts = let within : id < length keys = slice_get_within keys id key at in has_parts (terms_by keys) (length keys) key (key_below id (length keys) key (omega arith) (are.each id key at))

  pub reads_held : slice_get (terms_by keys) id ≡ Some (node (get_or key 0 0) (args_by (terms_by keys) (drop 1 key)))
  reads_held = are.read id key at ∙ ap Some held_parts.reads

  pub parts_are_less : args_weight keys (drop 1 key) < term_weight keys id
  unfolding term_weight args_weight
  parts_are_less =
      let args : Trees = args_by (terms_by keys) (drop 1 key) in
      let is : get_or (terms_by keys) id (variable 0) ≡ node (get_or key 0 0) args = get_or_from_slice_get (terms_by keys) id _ (variable 0) reads_held in
      subst (λ t. 2 * argument_nodes args + 1 < 2 * term_nodes t) (sym is) (omega arith)

-- Of ids that begin so, each part is less.
pub first_falls : (keys : List (List ℕ)) (ids : List ℕ) (id : ℕ) (rest : List ℕ) → ids ≡ id ∷ rest → term_weight keys id < args_weight keys ids
first_falls keys ids id rest is = subst (λ l. term_weight keys id < args_weight keys l) (sym is) (first_is_less keys id rest)

pub others_fall : (keys : List (List ℕ)) (ids : List ℕ) (id : ℕ) (rest : List ℕ) → ids ≡ id ∷ rest → args_weight keys rest < args_weight keys ids
others_fall keys ids id rest is = subst (λ l. args_weight keys rest < args_weight keys l) (sym is) (others_are_less keys id rest)

pub all_parts : (bound : ℕ) (ids : List ℕ) (id : ℕ) (rest : List ℕ) → ids ≡ id ∷ rest → AllByRecursion (λ other. other < bound) ids → (id < bound) × AllByRecursion (λ other. other < bound) rest
all_parts bound ids id rest is all = subst (λ l. AllByRecursion (λ other. other < bound) l) is all

pub args_read : (terms : List Tree) (ids : List ℕ) (id : ℕ) (rest : List ℕ) (t : Tree) (others : Trees) → ids ≡ id ∷ rest → slice_get terms id ≡ Some t → others ≡ args_by terms rest → more t others ≡ args_by terms ids
args_read terms ids id rest t others is at are = grind (arith, get_or_from_slice_get)

-- What is read of a term or an atom by its key.

module _ (terms atoms : List (List ℕ)) (are : AreKeys terms atoms) (id : ℕ) (key : List ℕ) where
  pub term_key_is : slice_get terms id ≡ Some key → IsTermKey (held_by terms atoms) id key
  term_key_is at =
      let parts = held_parts terms id key are.terms at in
      record { some = parts.some; small = parts.small; within = subst (λ n. AllByRecursion (λ part. part < n) (drop 1 key)) (sym are.terms.count) parts.within; reads = reads_held terms id key are.terms at }

  pub atom_key_is : slice_get atoms id ≡ Some key → IsAtomKey (held_by terms atoms) id key
  atom_key_is at =
      let parts = has_parts (terms_by terms) (length terms) key (are.atoms id key at) in
      record {
        some = parts.some;
        small = parts.small;
        within = subst (λ n. AllByRecursion (λ arg. arg < n) (drop 1 key)) (sym are.terms.count) parts.within;
        reads = get_mapped (atom_by (terms_by terms)) atoms id key at ∙ ap Some parts.reads_atom;
        ids = are_ids terms atoms are;
      }

length_trees : (terms : List Tree) (ids : List ℕ) → length (trees_in (args_by terms ids)) ≡ length ids
length_trees terms [] = refl
length_trees terms (id ∷ ids) = ap suc (length_trees terms ids)

get_tree : (terms : List Tree) (ids : List ℕ) (i : ℕ) → AllByRecursion (λ id. id < length terms) ids → i < length ids → slice_get terms (get_or ids i 0) ≡ slice_get (trees_in (args_by terms ids)) i
get_tree terms (id ∷ ids) (suc i) all low = get_tree terms ids i all.1 (omega arith)
get_tree terms ids i all low = grind (arith, slice_get-get_or)

module _ (terms : List Tree) (key : List ℕ) (ids : List ℕ) (listed : List Tree) (are : listed ≡ trees_in (args_by terms (drop 1 key))) (is : ids ≡ drop 1 key) where
  listed_by : listed ≡ trees_in (args_by terms ids)
  listed_by = are ∙ ap (λ l. trees_in (args_by terms l)) (sym is)

  count_by : length ids ≡ length listed
  count_by = sym (ap length listed_by ∙ length_trees terms ids)

  get_by : (i : ℕ) → AllByRecursion (λ id. id < length terms) (drop 1 key) → i < length listed → slice_get terms (get_or ids i 0) ≡ slice_get listed i
  get_by i all low = get_tree terms ids i (subst (AllByRecursion (λ id. id < length terms)) (sym is) all) (omega (arith, count_by)) ∙ ap (λ l. slice_get l i) (sym listed_by)

module _ (held : Held) (id : ℕ) where
  pub term_there : (i : ℕ) → i < length (parts_at held id) → id < length held.terms
  term_there i low = grind (arith, slice_get_within)

  pub atom_there : (i : ℕ) → i < length (args_at held id) → id < length held.atoms
  atom_there i low = grind (arith, slice_get_within)

  module _ (key : List ℕ) (is : IsTermKey held id key) where
    parts_are : parts_at held id ≡ trees_in (args_by held.terms (drop 1 key))
    parts_are = ap (λ o. option_map_or parts_in o []) is.reads

    pub head_read : (head : ℕ) → head ≡ get_or key 0 0 → (args : Trees) × (slice_get held.terms id ≡ Some (node head args))
    head_read head same = (args_by held.terms (drop 1 key), is.reads ∙ ap (λ c. Some (node c (args_by held.terms (drop 1 key)))) (sym same))

    module _ (ids : List ℕ) (same : ids ≡ drop 1 key) where
      pub parts_counted : length ids ≡ length (parts_at held id)
      parts_counted = count_by held.terms key ids (parts_at held id) parts_are same

      pub part_read : (i : ℕ) → i < length (parts_at held id) → slice_get held.terms (get_or ids i 0) ≡ slice_get (parts_at held id) i
      part_read i low = get_by held.terms key ids (parts_at held id) parts_are same i is.within low

  module _ (key : List ℕ) (is : IsAtomKey held id key) where
    args_are : args_at held id ≡ trees_in (args_by held.terms (drop 1 key))
    args_are = ap (λ o. option_map_or (λ a. trees_in a.args) o []) is.reads

    pub pred_read : (pred : ℕ) → pred ≡ get_or key 0 0 → (args : Trees) × (slice_get held.atoms id ≡ Some (record { pred = pred; args = args }))
    pred_read pred same = grind (arith, held.terms, is.reads)

    module _ (ids : List ℕ) (same : ids ≡ drop 1 key) where
      pub args_counted : length ids ≡ length (args_at held id)
      args_counted = count_by held.terms key ids (args_at held id) args_are same

      pub arg_read : (i : ℕ) → i < length (args_at held id) → slice_get held.terms (get_or ids i 0) ≡ slice_get (args_at held id) i
      arg_read i low = get_by held.terms key ids (args_at held id) args_are same i is.within low
