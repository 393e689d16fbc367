-- Those that wait for a step are released one after another.
use Rattle.std.proofs.Common.{◌≡◌, ◌≢◌, ⊎_elim, ℕ, ◌+◌, ◌<◌, cond, eqb, List, [], ◌∷◌, ◌++◌, arith, Contains, zero, suc, ◌-◌, ◌≤◌, length, get_or, set, replicate, Some, refl, sym, ap, ◌∙◌, subst, length-append, length-set, ◌↔◌, ◌⊎◌, inr, Bool, true, false, map}
use Rattle.std.proofs.lemmas.Bool.{cases_eq, cases_lt, false≢true}
use Rattle.std.proofs.lemmas.Bool.Decides.{nat_tests}
use Rattle.std.proofs.lemmas.List.Sums.{sum_by-cons, sum_by_push}
use Rattle.std.proofs.lemmas.Option.{slice_get_past}
use Rattle.cep_base.proofs.Elements.{contains_none, contains_cases, contains_same, contains_behind}
use Rattle.cep_order.specs.Waits.{times, entry_at, chain, linked_from, AreLinks, AreLinksFor, waiters_of, CanRelease, IsReleased}
use Rattle.std.specs.Prelude.{slice_get}
use Rattle.std.proofs.lemmas.List.{get_or_append_left, get_or_at, get_or_past, get_or-set_same, get_or-set_other}
use Rattle.cep_base.proofs.Lists.{none_some, some_same, get_kept, get_last}
use Rattle.cep_order.specs.declared.waits.Link.{Link}
use Rattle.cep_order.specs.declared.waits.Waits.{Waits}
use Rattle.cep_order.specs.Taking.{untaken, missing}
use Rattle.cep_order.proofs.Trees.{nothing_at}
pub use Rattle.cep_base.proofs.Options.{item_at as found}

-- How often a number stands in a list.

one_if : (number other : ℕ) → other ≡ number → ◌≡◌ {A = ℕ} (cond (eqb other number) 1 0) 1
one_if number other same = grind (arith, nat_tests)

none_if : (number other : ℕ) → other ≢ number → ◌≡◌ {A = ℕ} (cond (eqb other number) 1 0) 0
none_if number other apart = grind (arith, nat_tests)

pub once_more : (number first : ℕ) (numbers : List ℕ) → first ≡ number → times number (first ∷ numbers) ≡ times number numbers + 1
once_more number first numbers same = omega (arith, sum_by-cons (λ n. cond (eqb n number) 1 0) first numbers, one_if number first same)

pub no_more : (number first : ℕ) (numbers : List ℕ) → first ≢ number → times number (first ∷ numbers) ≡ times number numbers
no_more number first numbers apart = omega (arith, sum_by-cons (λ n. cond (eqb n number) 1 0) first numbers, none_if number first apart)

pub once_more_last : (number last : ℕ) (numbers : List ℕ) → last ≡ number → times number (numbers ++ last ∷ []) ≡ times number numbers + 1
once_more_last number last numbers same = omega (arith, sum_by_push (λ n. cond (eqb n number) 1 0) numbers last, one_if number last same)

pub no_more_last : (number last : ℕ) (numbers : List ℕ) → last ≢ number → times number (numbers ++ last ∷ []) ≡ times number numbers
no_more_last number last numbers apart = omega (arith, sum_by_push (λ n. cond (eqb n number) 1 0) numbers last, none_if number last apart)

-- What stands in a list stands there some times.
pub some_times : (number : ℕ) (numbers : List ℕ) → Contains numbers number → 0 < times number numbers
some_times number [] there = absurd (contains_none number there)
some_times number (first ∷ numbers) there =
    ⊎_elim
    (λ same. omega (arith, once_more number first numbers same))
    (λ apart. ⊎_elim (λ same. absurd (apart same)) (λ later. omega (arith, no_more number first numbers apart, some_times number numbers later)) (contains_cases first numbers number there))
    (cases_eq first number)

pub stands_there : (number : ℕ) (numbers : List ℕ) → 0 < times number numbers → Contains numbers number
stands_there number [] some = absurd (omega arith)
stands_there number (first ∷ numbers) some =
    ⊎_elim
    (λ same. contains_same first numbers number same)
    (λ apart. contains_behind first numbers number (stands_there number numbers (omega (arith, no_more number first numbers apart))))
    (cases_eq first number)

-- Links from each number to those in whose entries it stands.

-- before the last one, and past the end
get_kept_back : {A : Type 0} (xs : List A) (x : A) (n : ℕ) → n < length xs → slice_get (xs ++ x ∷ []) n ≡ slice_get xs n
get_kept_back xs x n less = let is = found xs n less in get_kept xs (x ∷ []) n is.0 is.1 ∙ sym is.1

no_link : (most : ℕ) (links : List Link) (from : ℕ) → from ≡ 0 → chain most links from ≡ []
no_link most links from none = grind arith

one_link : (most : ℕ) (links : List Link) (from : ℕ) (link : Link) → 0 < from → slice_get links (from - 1) ≡ Some link → chain (suc most) links from ≡ link.step ∷ chain most links link.next
one_link most links from link some there = grind (arith, nat_tests)

module _ (links : List Link) (back : (place : ℕ) (link : Link) → slice_get links place ≡ Some link → link.next ≤ place) where
  -- With enough links the chain is the same.
  enough : (one other from : ℕ) → from ≤ one → from ≤ other → from ≤ length links → chain one links from ≡ chain other links from
  enough (suc one) (suc other) from less less' within =
      ⊎_elim
      (λ none. no_link (suc one) links from none ∙ sym (no_link (suc other) links from none))
      (λ some.
      let is = found links (from - 1) (omega arith) in
      let earlier = back (from - 1) is.0 is.1 in
      one_link one links from is.0 (omega arith) is.1 ∙ ap (λ (steps : List ℕ). is.0.step ∷ steps) (enough one other is.0.next (omega arith) (omega arith) (omega arith)) ∙ sym (one_link other links from is.0 (omega arith) is.1))
      (cases_eq from 0)
  enough one other from less less' within = grind (arith, no_link)

  pub linked_next : (from : ℕ) (link : Link) → 0 < from → from ≤ length links → slice_get links (from - 1) ≡ Some link → linked_from links from ≡ link.step ∷ linked_from links link.next
  linked_next from link some within there = grind (arith, one_link, enough, link.next)

  -- A further link changes none.
  kept : (more : List Link) (most from : ℕ) → from ≤ length links → chain most (links ++ more) from ≡ chain most links from
  kept more zero from within = refl
  kept more (suc most) from within =
      ⊎_elim
      (λ none. no_link (suc most) (links ++ more) from none ∙ sym (no_link (suc most) links from none))
      (λ some.
      let is = found links (from - 1) (omega arith) in
      let earlier = back (from - 1) is.0 is.1 in
      one_link most (links ++ more) from is.0 (omega arith) (get_kept links more (from - 1) is.0 is.1) ∙ ap (λ (steps : List ℕ). is.0.step ∷ steps) (kept more most is.0.next (omega arith)) ∙ sym (one_link most links from is.0 (omega arith) is.1))
      (cases_eq from 0)

-- entries that differ in the last
entry_last : (entries : List (List ℕ)) (last : List ℕ) (place : ℕ) → place ≡ length entries → entry_at (entries ++ last ∷ []) place ≡ last
entry_last entries last place is = get_or_at entries last [] [] place (sym is)

entry_other : (entries : List (List ℕ)) (last : List ℕ) (place : ℕ) → place ≢ length entries → entry_at (entries ++ last ∷ []) place ≡ entry_at entries place
entry_other entries last place apart = grind (arith, get_or_append_left, get_or_past, length-append, cases_lt)

-- One entry more, of which nothing is linked yet.
pub links_begin : (entries : List (List ℕ)) (begins : List ℕ) (links : List Link) → AreLinksFor entries begins links → AreLinksFor (entries ++ [] ∷ []) begins links
links_begin entries begins links are = record {
  lead = are.lead;
  each = λ place step within.
      are.each place step within
      ∙ ap (times (place + 1)) (⊎_elim (λ last. get_or_past entries step [] (omega arith) ∙ sym (entry_last entries [] step last)) (λ apart. sym (entry_other entries [] step apart)) (cases_eq step (length entries)));
}

pub no_links : (most : ℕ) → AreLinksFor [] (replicate most 0) []
no_links most = record { lead = record { begin = λ place. omega (arith, nothing_at most place); back = λ place link there. none_some link there }; each = λ place step within. ap (λ (steps : List ℕ). times step steps) (no_link _ [] _ (nothing_at most place)) }

-- A number is linked.
module _ (entries : List (List ℕ)) (numbers begins : List ℕ) (links : List Link) (step number last : ℕ) (link : Link) (are : AreLinksFor (entries ++ numbers ∷ []) begins links) (here : length entries ≡ step) (some : 0 < number) (within : number ≤ length begins)
    (of_step : link.step ≡ step) (follows : link.next ≡ get_or begins (number - 1) 0) (is_last : last ≡ length links + 1) where
  low : link.next ≤ length links
  low = subst (λ n. n ≤ length links) (sym follows) (are.lead.begin (number - 1))

  longer : length (links ++ link ∷ []) ≡ length links + 1
  longer = omega (arith, length-append links (link ∷ []))

  lead : AreLinks (set begins (number - 1) last) (links ++ link ∷ [])
  lead = record {
    begin = λ place.
        ⊎_elim
        (λ same. omega (arith, longer, ap (λ n. get_or (set begins (number - 1) last) n 0) same, get_or-set_same begins (number - 1) last 0 (omega arith)))
        (λ apart. omega (arith, longer, get_or-set_other begins (number - 1) place last 0 apart, are.lead.begin place))
        (cases_eq place (number - 1));
    back = λ place other there.
        ⊎_elim
        (λ new. let is = some_same link other (sym (get_last links link) ∙ (sym (ap (slice_get (links ++ link ∷ [])) new) ∙ there)) in
        omega (arith, low, ap (λ (l : Link). l.next) is))
        (λ apart.
        ⊎_elim
        (λ old. are.lead.back place other (sym (get_kept_back links link place old) ∙ there))
        (λ past. none_some other (sym (slice_get_past (links ++ link ∷ []) place (omega (arith, longer))) ∙ there))
        (cases_lt place (length links)))
        (cases_eq place (length links));
  }

  same_entry : (waiting : ℕ) → waiting ≢ length entries → entry_at (entries ++ (numbers ++ number ∷ []) ∷ []) waiting ≡ entry_at (entries ++ numbers ∷ []) waiting
  same_entry waiting apart = entry_other entries (numbers ++ number ∷ []) waiting apart ∙ sym (entry_other entries numbers waiting apart)

  elsewhere : (place waiting : ℕ) → place ≢ number - 1 → place < length begins
      → times waiting (linked_from (links ++ link ∷ []) (get_or (set begins (number - 1) last) place 0)) ≡ times (place + 1) (entry_at (entries ++ (numbers ++ number ∷ []) ∷ []) waiting)
  elsewhere place waiting apart below =
      let from : get_or (set begins (number - 1) last) place 0 ≡ get_or begins place 0 = get_or-set_other begins (number - 1) place last 0 apart in
      let chained = ap (linked_from (links ++ link ∷ [])) from ∙ kept links are.lead.back (link ∷ []) (get_or begins place 0) (get_or begins place 0) (are.lead.begin place) in
      ap (times waiting) chained ∙ (are.each place waiting below)
      ∙ ⊎_elim
      (λ same. ap (times (place + 1)) (entry_last entries numbers waiting same) ∙ sym (ap (times (place + 1)) (entry_last entries (numbers ++ number ∷ []) waiting same) ∙ no_more_last (place + 1) number numbers (λ e. omega arith)))
      (λ other. sym (ap (times (place + 1)) (same_entry waiting other)))
      (cases_eq waiting (length entries))

  at_number : (waiting : ℕ) → times waiting (linked_from (links ++ link ∷ []) last) ≡ times number (entry_at (entries ++ (numbers ++ number ∷ []) ∷ []) waiting)
  at_number waiting =
      let there : slice_get (links ++ link ∷ []) (last - 1) ≡ Some link = ap (slice_get (links ++ link ∷ [])) (omega arith) ∙ get_last links link in
      let rest : linked_from (links ++ link ∷ []) link.next ≡ linked_from links (get_or begins (number - 1) 0) = kept links are.lead.back (link ∷ []) link.next link.next low ∙ ap (linked_from links) follows in
      let was = are.each (number - 1) waiting (omega arith) in
      let old = ap (times waiting) rest ∙ was ∙ (ap (λ n. times n (entry_at (entries ++ numbers ∷ []) waiting)) (omega arith)) in
      ap (times waiting) (linked_next (links ++ link ∷ []) lead.back last link (omega arith) (omega (arith, longer)) there)
      ∙ ⊎_elim
      (λ same.
      once_more waiting link.step (linked_from (links ++ link ∷ []) link.next) (of_step ∙ sym here ∙ sym same)
      ∙ ap (λ n. n + 1) (old ∙ ap (times number) (entry_last entries numbers waiting same))
      ∙ sym (ap (times number) (entry_last entries (numbers ++ number ∷ []) waiting same) ∙ once_more_last number number numbers refl))
      (λ other.
      no_more waiting link.step (linked_from (links ++ link ∷ []) link.next) (λ e. other (sym (here ∙ sym of_step ∙ e))) ∙ old ∙ sym (ap (times number) (same_entry waiting other)))
      (cases_eq waiting (length entries))

  pub linked : AreLinksFor (entries ++ (numbers ++ number ∷ []) ∷ []) (set begins (number - 1) last) (links ++ link ∷ [])
  linked = grind (arith, lead, get_or-set_same, at_number, elsewhere, length-set, cases_eq)

-- Those before a link are released, those from it on are not yet.
pub record IsReleasing (old new : Waits) (was now : List Bool) (place end from : ℕ) : Type 0 where
  pub begins : new.begins.items ≡ old.begins.items
  pub links : new.links.items ≡ old.links.items
  pub long : length new.left.items ≡ length old.left.items
  pub room : length now ≡ length was
  pub within : from ≤ length old.links.items
  pub some : (step : ℕ) → times step (linked_from old.links.items from) ≤ times step (waiters_of old place)
  pub left : (step : ℕ) → get_or new.left.items step 0 + times step (waiters_of old place) ≡ get_or old.left.items step 0 + times step (linked_from old.links.items from)
  pub ready : (step : ℕ) → ((get_or now step false ≡ true) ↔
      ((get_or was step false ≡ true) ⊎ ((times step (linked_from old.links.items from) < times step (waiters_of old place)) × (step < end) × (get_or new.left.items step 0 ≡ 0))))

module _ (old : Waits) (was : List Bool) (place end : ℕ) (can : CanRelease old was place) where
  pub releasing_begins : (from : ℕ) → from ≡ get_or old.begins.items place 0 → IsReleasing old old was was place end from
  releasing_begins from is = grind (arith, old.links.items, can.lead.begin)

  module _ (new : Waits) (now : List Bool) (from : ℕ) (is : IsReleasing old new was now place end from) where
    pub releasing_ends : from ≡ 0 → IsReleased old new was now place end
    releasing_ends none = grind (arith, old.links.items, is.begins, is.links, is.long, is.room, is.left, is.ready)

    -- One more is released.
    module _ (link : Link) (some : 0 < from) (there : slice_get old.links.items (from - 1) ≡ Some link) where
      after : linked_from old.links.items from ≡ link.step ∷ linked_from old.links.items link.next
      after = linked_next old.links.items can.lead.back from link some is.within there

      here : times link.step (linked_from old.links.items from) ≡ times link.step (linked_from old.links.items link.next) + 1
      here = ap (times link.step) after ∙ once_more link.step link.step (linked_from old.links.items link.next) refl

      times_elsewhere : (step : ℕ) → step ≢ link.step → times step (linked_from old.links.items from) ≡ times step (linked_from old.links.items link.next)
      times_elsewhere step apart = ap (times step) after ∙ no_more step link.step (linked_from old.links.items link.next) (λ e. apart (sym e))

      pub waits_some : 0 < get_or new.left.items link.step 0
      waits_some = omega (arith, is.left link.step, here, can.few link.step)

      pub step_within : link.step < length old.left.items
      step_within = ⊎_elim (λ less. less) (λ past. absurd (omega (arith, get_or_past old.left.items link.step 0 past, can.few link.step, is.some link.step, here))) (cases_lt link.step (length old.left.items))

      pub not_ready : get_or now link.step false ≡ true → ⊥
      not_ready set = ⊎_elim (λ before. false≢true (sym (can.apart link.step (omega (arith, is.some link.step, here))) ∙ before)) (λ free. omega (arith, free.2, waits_some)) ((is.ready link.step).0 set)

      module _ (new' : Waits) (count : ℕ) (begins' : new'.begins.items ≡ new.begins.items) (links' : new'.links.items ≡ new.links.items) (left' : new'.left.items ≡ set new.left.items link.step count) (less : count + 1 ≡ get_or new.left.items link.step 0) where
        left_here : get_or new'.left.items link.step 0 ≡ count
        left_here = ap (λ (l : List ℕ). get_or l link.step 0) left' ∙ get_or-set_same new.left.items link.step count 0 (omega (arith, step_within, is.long))

        left_elsewhere : (step : ℕ) → step ≢ link.step → get_or new'.left.items step 0 ≡ get_or new.left.items step 0
        left_elsewhere step apart = ap (λ (l : List ℕ). get_or l step 0) left' ∙ get_or-set_other new.left.items link.step step count 0 apart

        left_all : (step : ℕ) → (get_or new'.left.items step 0 + times step (waiters_of old place) ≡ get_or old.left.items step 0 + times step (linked_from old.links.items link.next))
            × (times step (linked_from old.links.items link.next) ≤ times step (waiters_of old place))
        left_all step =
            ⊎_elim
            (λ same. subst (λ n. (get_or new'.left.items n 0 + times n (waiters_of old place) ≡ get_or old.left.items n 0 + times n (linked_from old.links.items link.next)) × (times n (linked_from old.links.items link.next) ≤ times n (waiters_of old place))) (sym same) (omega (arith, is.left link.step, here, left_here, less), omega (arith, is.some link.step, here)))
            (λ apart. (omega (arith, is.left step, times_elsewhere step apart, left_elsewhere step apart), omega (arith, is.some step, times_elsewhere step apart)))
            (cases_eq step link.step)

        module _ (now' : List Bool) (room' : length now' ≡ length now) (others : (step : ℕ) → step ≢ link.step → get_or now' step false ≡ get_or now step false)
            (this : (get_or now' link.step false ≡ true) ↔ ((link.step < end) × (count ≡ 0))) where
          ready_here : (get_or now' link.step false ≡ true) ↔
              ((get_or was link.step false ≡ true) ⊎ ((times link.step (linked_from old.links.items link.next) < times link.step (waiters_of old place)) × (link.step < end) × (get_or new'.left.items link.step 0 ≡ 0)))
          ready_here = (
            λ set. let is_free = this.0 set in inr (omega (arith, here, is.some link.step), is_free.0, left_here ∙ is_free.1),
            λ either. this.1 (⊎_elim (λ before. absurd (false≢true (sym (can.apart link.step (omega (arith, is.some link.step, here))) ∙ before))) (λ of_these. (of_these.1, sym left_here ∙ of_these.2)) either),
          )

          ready_elsewhere : (step : ℕ) → step ≢ link.step → (get_or now' step false ≡ true) ↔
              ((get_or was step false ≡ true) ⊎ ((times step (linked_from old.links.items link.next) < times step (waiters_of old place)) × (step < end) × (get_or new'.left.items step 0 ≡ 0)))
          ready_elsewhere step apart = grind (arith, times_elsewhere step apart, left_elsewhere step apart, is.ready)

          pub released_one : IsReleasing old new' was now' place end link.next
          released_one = record {
            begins = begins' ∙ is.begins;
            links = links' ∙ is.links;
            long = ap (λ (l : List ℕ). length l) left' ∙ length-set new.left.items link.step count ∙ is.long;
            room = room' ∙ is.room;
            within = omega (arith, can.lead.back (from - 1) link there, is.within);
            some = λ step. (left_all step).1;
            left = λ step. (left_all step).0;
            ready = λ step. ⊎_elim (λ same. subst (λ n. (get_or now' n false ≡ true) ↔
                ((get_or was n false ≡ true) ⊎ ((times n (linked_from old.links.items link.next) < times n (waiters_of old place)) × (n < end) × (get_or new'.left.items n 0 ≡ 0)))) (sym same) ready_here) (λ apart. ready_elsewhere step apart) (cases_eq step link.step);
          }

        -- It is ready.
        pub released_ready : (now' : List Bool) → now' ≡ set now link.step true → count ≡ 0 → link.step < end → IsReleasing old new' was now' place end link.next
        released_ready now' set_now none early = subst (λ (flags : List Bool). IsReleasing old new' was flags place end link.next) (sym set_now) (released_one (set now link.step true) (length-set now link.step true) (λ step apart. get_or-set_other now link.step step true false apart) (λ set. (early, none), λ free. get_or-set_same now link.step true false (omega (arith, step_within, is.room, can.room))))

        -- It still waits, or stands at the end or after it.
        pub released_waiting : (count ≡ 0 → link.step < end → ⊥) → IsReleasing old new' was now place end link.next
        released_waiting not_free = released_one now refl (λ step apart. refl) (λ set. absurd (not_ready set), λ free. absurd (not_free free.1 free.0))

-- Numbers that are not in an order yet.

-- one more number, which counts where it is not in the order
one_more : (order : List ℕ) (number : ℕ) (numbers : List ℕ) → untaken order (number ∷ numbers) ≡ cond (eqb (times number order) 0) 1 0 + untaken order numbers
one_more order number numbers = sum_by-cons (λ n. cond (eqb (times n order) 0) 1 0) number numbers

counts : (n : ℕ) → n ≡ 0 → ◌≡◌ {A = ℕ} (cond (eqb n 0) 1 0) 1
counts n none = grind (arith, nat_tests)

counts_not : (n : ℕ) → 0 < n → ◌≡◌ {A = ℕ} (cond (eqb n 0) 1 0) 0
counts_not n some = grind (arith, nat_tests)

-- A number that is put into the order is not untaken any more.
pub untaken_push : (order : List ℕ) (number : ℕ) (numbers : List ℕ) → times number order ≡ 0 → untaken order numbers ≡ untaken (order ++ number ∷ []) numbers + times number numbers
untaken_push order number [] none = refl
untaken_push order number (first ∷ numbers) none =
    let rest = untaken_push order number numbers none in
    let old = one_more order first numbers in
    let new = one_more (order ++ number ∷ []) first numbers in
    ⊎_elim
    (λ same.
    let was = ap (λ n. times n order) same ∙ none in
    let is = once_more_last first number order (sym same) in
    omega (arith, rest, old, new, counts (times first order) was, counts_not (times first (order ++ number ∷ [])) (omega (arith, is)), once_more number first numbers same))
    (λ apart.
    let is = no_more_last first number order (λ e. apart (sym e)) in
    omega (arith, rest, old, new, ap {B = ℕ} (λ n. cond (eqb n 0) 1 0) is, no_more number first numbers apart))
    (cases_eq first number)

pub untaken_none : (order numbers : List ℕ) → ((number : ℕ) → 0 < times number numbers → 0 < times number order) → untaken order numbers ≡ 0
untaken_none order [] all = refl
untaken_none order (first ∷ numbers) all =
    let rest = untaken_none order numbers (λ number some. all number (⊎_elim (λ same. omega (arith, once_more number first numbers same)) (λ apart. omega (arith, no_more number first numbers apart)) (cases_eq first number))) in
    omega (arith, one_more order first numbers, counts_not (times first order) (all first (omega (arith, once_more first first numbers refl))), rest)

pub untaken_some : (order : List ℕ) (number : ℕ) (numbers : List ℕ) → times number order ≡ 0 → 0 < times number numbers → 0 < untaken order numbers
untaken_some order number numbers none some = omega (arith, untaken_push order number numbers none)

pub untaken_at_first : (numbers : List ℕ) → untaken [] numbers ≡ length numbers
untaken_at_first [] = refl
untaken_at_first (first ∷ numbers) = omega (arith, one_more [] first numbers, untaken_at_first numbers)

-- what is missing
missing_same : (n number : ℕ) (order : List ℕ) → n < number → missing n (order ++ number ∷ []) ≡ missing n order
missing_same zero number order less = refl
missing_same (suc n) number order less =
    omega (arith, missing_same n number order (omega arith), ap {B = ℕ} (λ m. cond (eqb m 0) 1 0) (no_more_last (suc n) number order (λ e. omega arith)))

pub missing_less : (n number : ℕ) (order : List ℕ) → 0 < number → number ≤ n → times number order ≡ 0 → missing (n) (order ++ number ∷ []) + 1 ≡ missing n order
missing_less zero number order some low none = absurd (omega arith)
missing_less (suc n) number order some low none =
    ⊎_elim
    (λ last.
    let was = ap (λ m. times m order) (sym last) ∙ none in
    let is = once_more_last (suc n) number order last in
    omega (arith, missing_same n number order (omega arith), counts (times (suc n) order) was, counts_not (times (suc n) (order ++ number ∷ [])) (omega (arith, is))))
    (λ apart. omega (arith, missing_less n number order some (omega arith) none, ap {B = ℕ} (λ m. cond (eqb m 0) 1 0) (no_more_last (suc n) number order apart)))
    (cases_eq number (suc n))

-- The numbers of places that are taken.
pub times_of_places : (taken : List ℕ) (place : ℕ) → times (place + 1) (map (λ p. p + 1) taken) ≡ times place taken
times_of_places [] place = refl
times_of_places (first ∷ taken) place =
    ⊎_elim
    (λ same. omega (arith, once_more (place + 1) (first + 1) (map (λ p. p + 1) taken) (omega arith), once_more place first taken same, times_of_places taken place))
    (λ apart. omega (arith, no_more (place + 1) (first + 1) (map (λ p. p + 1) taken) (λ e. omega arith), no_more place first taken apart, times_of_places taken place))
    (cases_eq first place)
