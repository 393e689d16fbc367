-- The places that a draft keeps for what is judged later.
use Rattle.std.specs.Prelude.{ℕ, ◌≤◌, not, List, [], ◌∷◌, map, filter, take, length}
use Rattle.std.specs.Str.{bytes_eq}
use Rattle.std.specs.List.{list_any}
use Rattle.cep_base.specs.declared.place.Pos.{Pos}
use Rattle.cep_lex.specs.Places.{IsPlaceAfter}
use Rattle.cep_source.specs.Items.{Source, RuleItem, rules_of}
use Rattle.cep_parse.specs.Raw.{atoms_of, raw_nodes}
use Rattle.cep_source.specs.Variables.{Occurrence, occurrences_from, blanks_after}
use Rattle.cep_faults.specs.Premises.{backward_of}
use Rattle.cep_infer.specs.declared.draft.Draft.{Draft}
use Rattle.cep_infer.specs.declared.places.Reached.{Reached}
use Rattle.cep_infer.specs.Meaning.{AreParts, names_of}

-- the places of the backward premises of a rule, in bytes from the front
abbrev pub backs_at : Source → RuleItem → List ℕ
backs_at source item = map (λ atom. atom.name.from) (backward_of source item.raw)

-- the occurrences on the right side of a rule of variables that are not on its left, and of blanks
abbrev pub unbound_of : Source → RuleItem → List Occurrence
unbound_of source item =
    filter (λ occurrence. not (list_any (λ name. bytes_eq name occurrence.name) (names_of source (atoms_of item.raw.left))))
    (occurrences_from source (blanks_after 0 (raw_nodes (atoms_of item.raw.left))) (raw_nodes (atoms_of item.raw.right)))

-- their places
abbrev pub unbound_at : Source → RuleItem → List ℕ
unbound_at source item = map (λ occurrence. occurrence.at.from) (unbound_of source item)

-- The place lies within the text, and its line and column are those of what stands before it.
pub record IsReached (text : List ℕ) (reached : Reached) : Type 0 where
  pub within : reached.at ≤ length text
  pub place : IsPlaceAfter (take reached.at text) reached.pos

-- The lines and columns are those of these places, one after another.
abbrev pub ArePlaces : List ℕ → List ℕ → List Pos → Type 0
ArePlaces text [] [] = Unit {0}
ArePlaces text [] (pos ∷ places) = ⊥
ArePlaces text (at ∷ rest) [] = ⊥
ArePlaces text (at ∷ rest) (pos ∷ places) = IsPlaceAfter (take at text) pos × ArePlaces text rest places

-- For each list of places one list of lines and columns.
abbrev pub ArePlaceLists : List ℕ → List (List ℕ) → List (List Pos) → Type 0
ArePlaceLists text [] [] = Unit {0}
ArePlaceLists text [] (places ∷ lists) = ⊥
ArePlaceLists text (ats ∷ rest) [] = ⊥
ArePlaceLists text (ats ∷ rest) (places ∷ lists) = ArePlaces text ats places × ArePlaceLists text rest lists

-- The draft has the parts that the text declares, and the places of what is judged later.
pub record IsDraft (source : Source) (draft : Draft) : Type 0 where
  pub parts_are : AreParts source draft.parts
  pub backs_are : ArePlaceLists source.text (map (backs_at source) (rules_of source)) draft.back_places
  pub unbound_are : ArePlaceLists source.text (map (unbound_at source) (rules_of source)) draft.right_places
