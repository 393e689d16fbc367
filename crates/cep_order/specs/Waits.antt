-- Private.
-- Which steps wait for which, by links.
use Rattle.std.specs.Prelude.{◌≡◌, ◌↔◌, ◌⊎◌, ℕ, zero, suc, ◌+◌, ◌-◌, ◌<◌, ◌≤◌, ◌==◌, Bool, true, false, cond, List, [], ◌∷◌, ◌++◌, length, map, count_by, Option, Some, None, slice_get, slice_index, slice_index_or}
use Rattle.cep_order.specs.declared.step_cause.StepCause.{StepCause}
use Rattle.cep_order.specs.declared.waits.Link.{Link}
use Rattle.cep_order.specs.declared.waits.Waits.{Waits}

-- how often a number stands in a list
abbrev pub times : ℕ → List ℕ → ℕ
times number numbers = count_by (λ other. other == number) numbers

-- the numbers in each entry
abbrev pub all_entries : List StepCause → List (List ℕ)
all_entries causes = map (λ cause. cause.after) causes

-- the entry at a place
abbrev pub entry_at : List (List ℕ) → ℕ → List ℕ
entry_at entries place = slice_index_or entries place []

-- the step of a link, and those of the links after it
abbrev pub follow : Option Link → (ℕ → List ℕ) → List ℕ
follow None rest = []
follow (Some link) rest = link.step ∷ rest link.next

-- the steps of at most so many links, from one on; links go by one more than their places, and 0 is
-- none
abbrev pub chain : ℕ → List Link → ℕ → List ℕ
chain zero links from = []
chain (suc most) links from =
    cond (from == 0) [] (follow (slice_get links (from - 1)) (chain most links))

-- the steps of all links from one on, which lead back to earlier ones
abbrev pub linked_from : List Link → ℕ → List ℕ
linked_from links from = chain from links from

-- the steps that wait for a step, each as often as its entry names that
abbrev pub waiters_of : Waits → ℕ → List ℕ
waiters_of waits place = linked_from waits.links.items (slice_index waits.begins.items place)

-- Links lead back to earlier ones.
pub record AreLinks (begins : List ℕ) (links : List Link) : Type 0 where
  pub begin : (place : ℕ) → slice_index begins place ≤ length links
  pub back : (place : ℕ) (link : Link) → slice_get links place ≡ Some link → link.next ≤ place

-- Of each place the links are those of the entries with its number.
pub record AreLinksFor (entries : List (List ℕ)) (begins : List ℕ) (links : List Link)
    : Type 0 where
  pub lead : AreLinks begins links
  pub each : (place step : ℕ) → place < length begins
      → times step (linked_from links (slice_index begins place))
      ≡ times (place + 1) (entry_at entries step)

-- Links are added for the entry of a step, which comes after these.
abbrev pub AddsLinks : ℕ → List ℕ → List ℕ → List Link → List ℕ → List Link → Type 0
AddsLinks step numbers begins links begins' links' =
    (entries : List (List ℕ)) → length entries ≡ step → AreLinksFor entries begins links
    → AreLinksFor (entries ++ numbers ∷ []) begins' links'

-- No step is taken: each waits for all that its entry names.
pub record AreWaitsOf (causes : List StepCause) (waits : Waits) : Type 0 where
  pub links : AreLinksFor (all_entries causes) waits.begins.items waits.links.items
  pub long : length waits.begins.items ≡ length causes
  pub left : waits.left.items ≡ map length (all_entries causes)

-- A step can be released: those that wait for it do so still, and none of them is ready.
pub record CanRelease (waits : Waits) (flags : List Bool) (place : ℕ) : Type 0 where
  pub lead : AreLinks waits.begins.items waits.links.items
  pub within : place < length waits.begins.items
  pub room : length flags ≡ length waits.left.items
  pub few : (step : ℕ) → times step (waiters_of waits place) ≤ slice_index waits.left.items step
  pub apart : (step : ℕ) → 0 < times step (waiters_of waits place)
      → slice_index_or flags step false ≡ false

-- A step is released: those that wait for it wait for it no more, and where they wait for none, and
-- stand before the end, they are ready.
pub record IsReleased (old new : Waits) (was now : List Bool) (place end : ℕ) : Type 0 where
  pub begins : new.begins.items ≡ old.begins.items
  pub links : new.links.items ≡ old.links.items
  pub long : length new.left.items ≡ length old.left.items
  pub room : length now ≡ length was
  pub left : (step : ℕ)
      → slice_index new.left.items step + times step (waiters_of old place)
      ≡ slice_index old.left.items step
  pub ready : (step : ℕ) → ((slice_index_or now step false ≡ true) ↔
      ((slice_index_or was step false ≡ true)
      ⊎ ((0 < times step (waiters_of old place)) × (step < end)
      × (slice_index new.left.items step ≡ 0))))
