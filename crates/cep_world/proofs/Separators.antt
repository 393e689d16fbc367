-- What is added for each number, with separators between.
use Rattle.std.specs.Prelude.{codes}
use Rattle.std.proofs.Common.{◌≡◌, ◌∙◌, ◌+◌, ℕ, List, [], ◌∷◌, ◌++◌, map, refl, sym, ap, arith, append_assoc, append-nil, ◌≤◌, ◌-◌}
use Rattle.std.specs.List.{flat_map, join_by}
use Rattle.std.proofs.lemmas.Grind.{flat_map-append}
use Rattle.std.proofs.lemmas.List.{map-id}
use Rattle.std.proofs.lemmas.List.FromFn.{map-range_with_len_more}
use Rattle.cep_world.specs.World.{numbers_below, walker_count, room_atoms, walker_atoms, good_atom, world_atoms}
use Rattle.cep_world.specs.Pieces.{with_commas}

-- one number more
numbers_more : (i : ℕ) → numbers_below (i + 1) ≡ numbers_below i ++ i ∷ []
numbers_more i =
    let more = map-range_with_len_more (λ (k : ℕ). k) 0 i i (omega arith) in
    sym (map-id (numbers_below (i + 1))) ∙ more ∙ ap (λ ks. ks ++ i ∷ []) (map-id (numbers_below i))

pub flat_map-numbers : {X : Type 0} (f : ℕ → List X) (i : ℕ) → flat_map f (numbers_below (i + 1)) ≡ flat_map f (numbers_below i) ++ f i
flat_map-numbers f i = rw (numbers_more, flat_map-append, append-nil) refl

pub with_commas-append : (xs ys : List (List ℕ)) → with_commas (xs ++ ys) ≡ with_commas xs ++ with_commas ys
with_commas-append xs ys = flat_map-append (λ atom. atom ++ codes ",\n") xs ys

-- The atoms of one number more were added.
pub atoms_next : (f : ℕ → List (List ℕ)) (i : ℕ) (start now next : List ℕ) → now ≡ start ++ with_commas (flat_map f (numbers_below i)) → next ≡ now ++ with_commas (f i) → next ≡ start ++ with_commas (flat_map f (numbers_below (i + 1)))
atoms_next f i start now next so_far added = rw (added, so_far, append_assoc, flat_map-numbers, with_commas-append) refl

pub map-numbers : {X : Type 0} (f : ℕ → X) (i : ℕ) → map f (numbers_below (i + 1)) ≡ map f (numbers_below i) ++ f i ∷ []
map-numbers f i = map-range_with_len_more f 0 i i (omega arith)

-- A comma after each atom but the last is a comma between each two.

abbrev pub apart : List (List ℕ) → List ℕ
apart atoms = join_by (λ atom. atom) (codes ",\n") atoms

abbrev behind : List (List ℕ) → List ℕ
behind atoms = flat_map (λ atom. codes ",\n" ++ atom) atoms

-- what stands after a first atom, up to the last
behind_last : (atoms : List (List ℕ)) (last : List ℕ) → behind (atoms ++ last ∷ []) ≡ codes ",\n" ++ (with_commas atoms ++ last)
behind_last [] last = append-nil (codes ",\n" ++ last)
behind_last (atom ∷ atoms) last = rw (behind_last atoms last) (simp append_assoc refl)

pub apart_last : (atoms : List (List ℕ)) (last : List ℕ) → apart (atoms ++ last ∷ []) ≡ with_commas atoms ++ last
apart_last [] last = append-nil last
apart_last (atom ∷ atoms) last = rw (behind_last atoms last) (simp append_assoc refl)

world_atoms_last : (n : ℕ) → 1 ≤ n → world_atoms n ≡ (flat_map (room_atoms n) (numbers_below n) ++ flat_map (walker_atoms n) (numbers_below (walker_count n)) ++ map (good_atom n) (numbers_below (n - 1))) ++ good_atom n (n - 1) ∷ []
world_atoms_last n some =
    let count : n ≡ n - 1 + 1 = omega arith in
    let goods : map (good_atom n) (numbers_below n) ≡ map (good_atom n) (numbers_below (n - 1)) ++ good_atom n (n - 1) ∷ [] = ap (λ k. map (good_atom n) (numbers_below k)) count ∙ map-numbers (good_atom n) (n - 1) in
    rw goods (simp append_assoc refl)

-- The atoms of the rooms, the walkers and the goods were added, and then the last.
pub start_added : (n : ℕ) (out rooms walkers goods new : List ℕ)
    → 1 ≤ n
    → rooms ≡ out ++ with_commas (flat_map (room_atoms n) (numbers_below n))
    → walkers ≡ rooms ++ with_commas (flat_map (walker_atoms n) (numbers_below (walker_count n)))
    → goods ≡ walkers ++ with_commas (map (good_atom n) (numbers_below (n - 1)))
    → new ≡ goods ++ good_atom n (n - 1)
    → new ≡ out ++ apart (world_atoms n)
start_added n out rooms walkers goods new some r w g last = rw (last, g, w, r, world_atoms_last n some, apart_last) (simp (with_commas-append, append_assoc) refl)
