-- Lines that are written item by item.
use Rattle.std.proofs.Common.{◌≡◌, ℕ, ◌+◌, ◌<◌, List, ◌++◌, length, take, get_or, ap, sym, ◌∙◌}
use Rattle.std.specs.List.{flat_map}
use Rattle.std.proofs.lemmas.List.{take_more, flat_map_more}

-- one item more was written
pub one_more : {X : Type 0} (f : X → List ℕ) (before out after : List ℕ) (xs : List X) (i : ℕ) (d : X) → i < length xs → out ≡ before ++ flat_map f (take i xs) → after ≡ out ++ f (get_or xs i d) → after ≡ before ++ flat_map f (take (i + 1) xs)
one_more f before out after xs i d within was is =
    is ∙ ap (λ o. o ++ f (get_or xs i d)) was ∙ flat_map_more f before (take i xs) (get_or xs i d) ∙ ap (λ ys. before ++ flat_map f ys) (sym (take_more xs i d within))
