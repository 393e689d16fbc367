-- The text of a generated world.
use Rattle.std.specs.Prelude.{ℕ, ◌+◌, ◌*◌, ◌/◌, ◌%◌, List, [], ◌∷◌, ◌++◌, map, replicate, codes, decimal}
use Rattle.std.specs.List.{range_with_len, flat_map, join_by}

-- 0, 1 and so on, below this number
abbrev pub numbers_below : ℕ → List ℕ
numbers_below n = range_with_len 0 n

-- how many walkers a world of so many rooms has: one, and one more for each hundred rooms
abbrev pub walker_count : ℕ → ℕ
walker_count rooms = 1 + rooms / 100

-- the lines `r0 : room.`, `r1 : room.` and so on, or those of another letter and type
abbrev pub numbered_names : List ℕ → List ℕ → ℕ → List ℕ
numbered_names letter sort count = flat_map (λ i. letter ++ decimal i ++ codes " : " ++ sort ++ codes ".\n") (numbers_below count)

-- an atom of something with a number and of a room, as `at w0 r7`
abbrev pub atom_with_room : List ℕ → ℕ → ℕ → List ℕ
atom_with_room front i room = front ++ decimal i ++ codes " r" ++ decimal room

-- the atoms of a room: a link to the next one in the ring, and one across
abbrev pub room_atoms : ℕ → ℕ → List (List ℕ)
room_atoms n i = atom_with_room (codes "link r") i ((i + 1) % n) ∷ atom_with_room (codes "link r") i ((7 * i + 3) % n) ∷ []

-- the atoms of a walker: where it is, and three times food
abbrev pub walker_atoms : ℕ → ℕ → List (List ℕ)
walker_atoms n i = atom_with_room (codes "at w") i ((11 * i) % n) ∷ replicate 3 (codes "food w" ++ decimal i)

-- the atom of a good: where it lies
abbrev pub good_atom : ℕ → ℕ → List ℕ
good_atom n i = atom_with_room (codes "lies g") i ((5 * i) % n)

-- the atoms of the start state of a world of n rooms
abbrev pub world_atoms : ℕ → List (List ℕ)
world_atoms n =
    flat_map (room_atoms n) (numbers_below n) ++ flat_map (walker_atoms n) (numbers_below (walker_count n)) ++ map (good_atom n) (numbers_below n)

-- the lines of the predicates, stages and rules, and the first line of the start state
unfoldable pub rule_lines : List ℕ
rule_lines =
    codes "link room room : pred.\n"
    ++ codes "at walker room : pred.\n"
    ++ codes "lies good room : pred.\n"
    ++ codes "holds walker good : pred.\n"
    ++ codes "food walker : pred.\n"
    ++ codes "stage main = {\n"
    ++ codes "move : at W R * $link R S * food W -o at W S.\n"
    ++ codes "grab : $at W R * lies G R -o holds W G.\n"
    ++ codes "}\n"
    ++ codes "stage rest = {\n"
    ++ codes "eat : holds W G -o food W * food W.\n"
    ++ codes "}\n"
    ++ codes "qui * stage main -o stage rest.\n"
    ++ codes "qui * stage rest * $food W -o stage main.\n"
    ++ codes "context start = {\n"

-- the text of the world of n rooms: one line for each atom, with a comma at the end of each but the last
unfoldable pub world : ℕ → List ℕ
world n =
    codes "room : type.\nwalker : type.\ngood : type.\n"
    ++ numbered_names (codes "r") (codes "room") n
    ++ numbered_names (codes "w") (codes "walker") (walker_count n)
    ++ numbered_names (codes "g") (codes "good") n
    ++ rule_lines
    ++ join_by (λ atom. atom) (codes ",\n") (world_atoms n)
    ++ codes "\n}.\n#trace _ main start.\n"
