-- Private.
-- A listing and a state, place by place.
use Rattle.std.specs.Prelude.{◌≡◌, ℕ, ◌<◌, List, slice_get}
use Rattle.std.specs.FinMap as finite
use Rattle.cep_term.specs.Tree.{AtomTree}
use Rattle.cep_term.specs.Multiset.{Multiset}

-- At the place the listing has what the state has.
abbrev pub Agree : ℕ → List (AtomTree × ℕ) → Multiset → Type 0
Agree place listing state = slice_get listing place ≡ slice_get (finite.entries state) place

-- So it is at all places below this one.
abbrev pub AgreeBelow : ℕ → List (AtomTree × ℕ) → Multiset → Type 0
AgreeBelow places listing state = (place : ℕ) → place < places → Agree place listing state
