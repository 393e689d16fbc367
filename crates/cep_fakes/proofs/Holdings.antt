-- The files of a shelf in memory, against the map that keeps them.
use Rattle.std.proofs.Common.{◌≡◌, ℕ, List, [], ◌∷◌, map, Some, Vec, refl, ◌∙◌, arith}
use Rattle.std.specs.Prelude.{String, string_bytes}
use Rattle.std.specs.Option.{option_map}
use Rattle.std.specs.Ordering.{nat_cmp, is_eq}
use Rattle.std.specs.Str.{bytes_eq}
use Rattle.std.specs.Cmp.{eq_by_cmp_equiv}
use Rattle.std.specs.Cmp.Lexicographic.{slice_cmp, nat_list_cmp_total}
use Rattle.std.specs.FinMap.{get, insert, find, get-from_entries, get-insert, same_map, slice_cmp-IsAntisymmetric, nat_cmp-IsAntisymmetric}
use Rattle.std.specs.BTreeMap.{BTreeMap, get_by_text, Updates, is_at}
use Rattle.std.specs.Map.{lookup}
use Rattle.std.specs.String.{string_cmp}
use Rattle.std.specs.declared.alloc.Global.{Global}
use Rattle.std.proofs.lemmas.Map.Text.{btree_map_updates_text, is_eq-slice_cmp}
use Rattle.cep_fakes.specs.MemShelf.{files_of}

-- to find among the files is to look up in the map
find-map : (name : List ℕ) (entries : List (String Global × Vec ℕ Global))
    → find (slice_cmp nat_cmp) name (map (λ entry. (string_bytes entry.0, entry.1.items)) entries) ≡ option_map (λ bytes. bytes.items) (lookup (is_at (λ key. slice_cmp nat_cmp name (string_bytes key))) entries)
find-map name [] = refl
find-map name (entry ∷ entries) = grind (arith, find-map name entries)

-- what is at a name
pub get-files_of : (files : BTreeMap (String Global) (Vec ℕ Global)) (name : List ℕ) → get (files_of files) name ≡ option_map (λ bytes. bytes.items) (get_by_text files name)
get-files_of files name = get-from_entries nat_list_cmp_total _ name ∙ find-map name files.entries

-- two texts tie just where their bytes are equal
is_eq-text : (name other : List ℕ) → is_eq (slice_cmp nat_cmp other name) ≡ bytes_eq name other
is_eq-text name other = (eq_by_cmp_equiv nat_list_cmp_total).symm other name ∙ is_eq-slice_cmp name other

-- to insert in the map is to insert among the files
pub files_of-insert : (old new : BTreeMap (String Global) (Vec ℕ Global)) (name : String Global) (bytes : Vec ℕ Global) → Updates string_cmp old new name (Some bytes)
    → files_of new ≡ insert (files_of old) (string_bytes name) bytes.items
files_of-insert old new name bytes updates = same_map nat_list_cmp_total (slice_cmp-IsAntisymmetric nat_cmp-IsAntisymmetric) _ _ (λ other.
    let now = btree_map_updates_text (string_bytes name) old new (Some bytes) updates other in
    grind (arith, get-files_of, get-insert nat_list_cmp_total (files_of old) (string_bytes name) bytes.items other, is_eq-text))

-- for the functions of a shelf: what is at a name, and what an insertion makes
pub ruleset holdings = (get-files_of, files_of-insert)
