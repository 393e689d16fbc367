-- A text that is added piece by piece, and lines one after another.
use Rattle.std.proofs.Common.{◌≡◌, ℕ, List, [], ◌++◌, append_assoc, sym, ap, ◌∙◌, ◌+◌, ◌≤◌, ◌∷◌, length, drop, refl, arith}
use Rattle.std.proofs.lemmas.List.{append-nil, drop_all}
use Rattle.std.specs.Prelude.{slice_get, Some, codes, decimal}
use Rattle.std.specs.List.{flat_map}
use Rattle.cep_text.specs.Writing.{IsBegun}
use Rattle.std.proofs.lemmas.List.Concat.{flat_map-cons}
use Rattle.cep_rule.specs.declared.parts.Parts.{Parts}
use Rattle.cep_rule.specs.declared.offer.Offer.{Offer}
use Rattle.cep_lines.specs.Lines.{stage_line, listing, header, offer_line, offer_lines}
pub use Rattle.cep_text.proofs.Nodes.{begun_first, begun_then as begun_second}
pub use Rattle.cep_base.proofs.Drops.{drop_at}

-- A text that is added piece by piece.

-- Of the whole a front was added, and this is left.
pub record IsAdding (start whole now left : List ℕ) : Type 0 where
  pub front : List ℕ
  pub cut : front ++ left ≡ whole
  pub added : now ≡ start ++ front

-- nothing was added
pub adding_none : (start whole left : List ℕ) → left ≡ whole → IsAdding start whole start left
adding_none start whole left is = record { front = []; cut = is; added = sym (append-nil start) }

-- one piece more was added
pub adding_next : (start whole now next left piece later : List ℕ) → IsAdding start whole now left → left ≡ piece ++ later → next ≡ now ++ piece → IsAdding start whole next later
adding_next start whole now next left piece later so_far is more = grind (arith, append_assoc)

-- all was added
pub adding_done : (start whole now left : List ℕ) → IsAdding start whole now left → left ≡ [] → now ≡ start ++ whole
adding_done start whole now left so_far none = grind (arith, append-nil)

-- no more was added
pub adding_stops : (start whole now left new : List ℕ) → IsAdding start whole now left → new ≡ now → IsBegun start whole new
adding_stops start whole now left new so_far same = record { front = so_far.front; rest = left; cut = sym so_far.cut; added = same ∙ so_far.added }

-- a prefix of one piece more was added
pub adding_breaks : (start whole now left piece later new : List ℕ) → IsAdding start whole now left → left ≡ piece ++ later → IsBegun now piece new → IsBegun start whole new
adding_breaks start whole now left piece later new so_far is begun = grind (arith, append_assoc)

-- Lines that are written one after another.

-- those of the items of a list
module _ {A : Type 0} (f : A → List ℕ) (xs : List A) (start : List ℕ) where
  -- the lines of the items that are left begin with that of the first
  lines_left : (k : ℕ) (x : A) → slice_get xs k ≡ Some x → flat_map f (drop k xs) ≡ f x ++ flat_map f (drop (k + 1) xs)
  lines_left k x at = ap (flat_map f) (drop_at xs k x at) ∙ flat_map-cons f x (drop (k + 1) xs)

  pub line_added : (k : ℕ) (x : A) (now next : List ℕ) → IsAdding start (flat_map f xs) now (flat_map f (drop k xs)) → slice_get xs k ≡ Some x → next ≡ now ++ f x → IsAdding start (flat_map f xs) next (flat_map f (drop (k + 1) xs))
  line_added k x now next so_far at more = adding_next start (flat_map f xs) now next _ (f x) _ so_far (lines_left k x at) more

  pub line_breaks : (k : ℕ) (x : A) (now new : List ℕ) → IsAdding start (flat_map f xs) now (flat_map f (drop k xs)) → slice_get xs k ≡ Some x → IsBegun now (f x) new → IsBegun start (flat_map f xs) new
  line_breaks k x now new so_far at begun = adding_breaks start (flat_map f xs) now _ (f x) _ new so_far (lines_left k x at) begun

  pub lines_done : (k : ℕ) (now : List ℕ) → IsAdding start (flat_map f xs) now (flat_map f (drop k xs)) → length xs ≤ k → now ≡ start ++ flat_map f xs
  lines_done k now so_far h = adding_done start (flat_map f xs) now _ so_far (ap (flat_map f) (drop_all k xs h))

-- The pieces of the header.
module _ (program : Parts) (height : ℕ) where
  abbrev pub lines_behind : List ℕ
  lines_behind = stage_line program program.start_stage ++ listing program.signature program.start

  header_is : codes "ceptre 2\nheight " ++ (decimal height ++ (10 ∷ [] ++ lines_behind)) ≡ header program height
  unfolding header
  header_is = rw (append_assoc (decimal height) (10 ∷ [])) refl

  pub header_opened : (out one : List ℕ) → one ≡ out ++ codes "ceptre 2\nheight " → IsAdding out (header program height) one (decimal height ++ (10 ∷ [] ++ lines_behind))
  header_opened out one e = adding_next out (header program height) out one _ (codes "ceptre 2\nheight ") (decimal height ++ (10 ∷ [] ++ lines_behind)) (adding_none out (header program height) _ header_is) refl e

  pub header_with_height : (out one two : List ℕ) → one ≡ out ++ codes "ceptre 2\nheight " → two ≡ one ++ decimal height → IsAdding out (header program height) two (10 ∷ [] ++ lines_behind)
  header_with_height out one two e f = adding_next out (header program height) one two _ (decimal height) (10 ∷ [] ++ lines_behind) (header_opened out one e) refl f

  pub header_with_line : (out one two three : List ℕ) → one ≡ out ++ codes "ceptre 2\nheight " → two ≡ one ++ decimal height → three ≡ two ++ 10 ∷ [] → IsAdding out (header program height) three lines_behind
  header_with_line out one two three e f g = adding_next out (header program height) two three _ (10 ∷ []) lines_behind (header_with_height out one two e f) refl g

  pub header_with_stage : (out one two three four : List ℕ) → one ≡ out ++ codes "ceptre 2\nheight " → two ≡ one ++ decimal height → three ≡ two ++ 10 ∷ [] → four ≡ three ++ stage_line program program.start_stage
      → IsAdding out (header program height) four (listing program.signature program.start)
  header_with_stage out one two three four e f g h = grind (arith, adding_next, header_with_line out one two three e f g)

-- The lines of offers, one after another.

-- what is left of the offers: those from a place on
abbrev pub offers_from : Parts → List Offer → ℕ → List ℕ
offers_from program offers k = offer_lines program (k + 1) (drop k offers)

pub offers_left : (program : Parts) (offers : List Offer) (k : ℕ) (offer : Offer) → slice_get offers k ≡ Some offer → offers_from program offers k ≡ offer_line program (k + 1) offer ++ offers_from program offers (k + 1)
unfolding offer_lines
offers_left program offers k offer at = ap (offer_lines program (k + 1)) (drop_at offers k offer at)

pub no_offers_left : (program : Parts) (offers : List Offer) (k : ℕ) → length offers ≤ k → offers_from program offers k ≡ []
unfolding offer_lines
no_offers_left program offers k h = ap (offer_lines program (k + 1)) (drop_all k offers h)
