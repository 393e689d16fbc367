-- Some steps are taken: which are ready, and one more.
use Rattle.std.proofs.Common.{◌≡◌, ℕ, suc, ◌<◌, true, false, List, ◌∷◌, length, get_or, Some, sym, ap, ◌∙◌, arith, inl, inr, ⊎_elim, zero, ◌+◌, ◌-◌, ◌≤◌, Bool, [], subst, Contains, ◌≢◌, ◌↔◌, ◌⊎◌, ◌++◌, map, set, replicate, refl, append_assoc, append-nil, length-set}
use Rattle.std.specs.Prelude.{slice_get}
use Rattle.std.proofs.lemmas.Option.{slice_get-get_or}
use Rattle.std.proofs.lemmas.Bool.{cases_lt, cases_eq, false≢true}
use Rattle.rand_pcg.specs.Lcg.{Lcg}
use Rattle.cep_base.proofs.Lists.{none_some, some_same}
use Rattle.cep_base.proofs.Elements.{all_at, contains_at, map_cases}
use Rattle.cep_order.specs.declared.step_cause.StepCause.{StepCause}
use Rattle.cep_order.specs.declared.waits.Waits.{Waits}
use Rattle.cep_order.specs.Taking.{IsBarrierAt, IsPart, IsSoFar, untaken, missing}
use Rattle.cep_order.specs.Waits.{all_entries, entry_at, times, waiters_of, AreLinksFor, AreWaitsOf, CanRelease, IsReleased}
use Rattle.cep_order.specs.Flags.{set_places}
use Rattle.std.proofs.lemmas.List.{get_or_past, length-map, get_or-set_same, get_or-set_other, map-append, get_or-replicate, length-replicate}
use Rattle.cep_order.specs.Orders.{NamesEarlier, PrecedesIn, IsReadyIn, AreReady, IsTaken, AreTaken, IsOrderBy, IsEachOnce}
use Rattle.cep_order.proofs.Trees.{on_within, listed, set_there, increasing, on_or_off}
use Rattle.cep_order.specs.declared.waits.Link.{Link}
use Rattle.cep_order.proofs.Releasing.{found, some_times, stands_there, untaken_none, untaken_some, times_of_places, once_more_last, no_more_last, untaken_push, untaken_at_first, missing_less}
use Rattle.std.proofs.lemmas.List.Elements.{Contains-get_or}
use Rattle.std.proofs.lemmas.List.Quantifiers.{all_pairs_push}
use Rattle.cep_choice.specs.Draws.{generator_behind, place_drawn}

-- Entries and barriers at places.

barrier_read : (causes : List StepCause) (place : ℕ) (cause : StepCause) → slice_get causes place ≡ Some cause → IsBarrierAt causes place → cause.barrier ≡ true
barrier_read causes place cause there barrier = ap (λ (c : StepCause). c.barrier) (some_same cause barrier.0 (sym there ∙ barrier.1)) ∙ barrier.2

pub no_barrier : (causes : List StepCause) (place other : ℕ) (cause : StepCause) → place < length causes → (get_or causes place cause).barrier ≡ false → other ≡ place → IsBarrierAt causes other → ⊥
no_barrier causes place other cause within none same barrier = grind (arith, barrier_read, slice_get-get_or)

pub barrier_there : (causes : List StepCause) (place : ℕ) (cause : StepCause) → place < length causes → (get_or causes place cause).barrier ≡ true → IsBarrierAt causes place
barrier_there causes place cause within is = (get_or causes place cause, slice_get-get_or causes place cause within, is)

-- the entry of a step
pub entry_is : (causes : List StepCause) (place : ℕ) (cause : StepCause) → slice_get causes place ≡ Some cause → entry_at (all_entries causes) place ≡ cause.after
entry_is (first ∷ causes) (suc place) cause there = entry_is causes place cause there
entry_is causes place cause there = grind (arith, none_some, some_same)

module _ (seed : ℕ) (causes : List StepCause) (earlier : NamesEarlier causes) (waits : Waits) (flags : List Bool) (draw : Lcg) (order : List ℕ) (end : ℕ) (is : IsSoFar seed causes waits flags draw order end) where
  pub was_taken : (place : ℕ) → Contains is.taken place → 0 < times (place + 1) order
  was_taken place there = omega (arith, some_times place is.taken there, times_of_places is.taken place, ap (times (place + 1)) is.numbers)

  is_taken : (place : ℕ) → 0 < times (place + 1) order → Contains is.taken place
  is_taken place some = stands_there place is.taken (omega (arith, times_of_places is.taken place, ap (times (place + 1)) is.numbers))

  -- a number in an entry is that of an earlier step
  named : (place number : ℕ) → 0 < times number (entry_at (all_entries causes) place) → (0 < number) × (number ≤ place) × (cause : StepCause) × (slice_get causes place ≡ Some cause) × Contains cause.after number
  named place number some =
      ⊎_elim
      (λ less.
      let there = found causes place less in
      let stands = stands_there number there.0.after (omega (arith, ap (times number) (entry_is causes place there.0 there.1), some)) in
      let bounds = all_at (λ n. (0 < n) × (n ≤ place)) there.0.after number (earlier place there.0 there.1) stands in
      (bounds.0, bounds.1, there.0, there.1, stands))
      (λ past. absurd (omega (arith, some, ap (times number) (get_or_past (all_entries causes) place [] (omega (arith, length-map causes (λ (c : StepCause). c.after)))))))
      (cases_lt place (length causes))

  -- A step that is flagged is ready.
  module _ (place : ℕ) (on : get_or flags place false ≡ true) where
    pub known : (place < end) × (times (place + 1) order ≡ 0) × (get_or waits.left.items place 0 ≡ 0)
    known = (is.ready place).0 on

    from_on : is.from ≤ place
    from_on = ⊎_elim (λ less. absurd (omega (arith, is.before place less, known.1))) (λ on. on) (cases_lt place is.from)

    pub part : IsPart causes is.from end
    part = is.part (omega (arith, known.0, from_on))

    before_it : (first : ℕ) → PrecedesIn causes first place → Contains is.taken first
    before_it first precedes =
        let less = precedes.is_earlier in
        ⊎_elim
        (λ stands.
        ⊎_elim
        (λ none. absurd (omega (
          arith,
          known.2,
          is.left place,
          untaken_some order (first + 1) (entry_at (all_entries causes) place) none
              (omega (arith, some_times (first + 1) precedes.later.after stands, ap (times (first + 1)) (entry_is causes place precedes.later precedes.at_later))),
        )))
        (λ some. is_taken first (omega arith))
        (cases_eq (times (first + 1) order) 0))
        (λ barrier.
        ⊎_elim
        (λ early. is_taken first (is.before first early))
        (λ late.
        ⊎_elim
        (λ here. let alone = part.by_itself first late (omega (arith, known.0, less)) (precedes.earlier, precedes.at_earlier, here) in absurd (omega (arith, alone.0, alone.1, known.0, less)))
        (λ there. let alone = part.by_itself place from_on known.0 (precedes.later, precedes.at_later, there) in absurd (omega (arith, alone.0, less, late)))
        barrier)
        (cases_lt first is.from))
        precedes.why

    pub flagged_is_ready : IsReadyIn causes is.taken place
    flagged_is_ready = record {
      within = omega (arith, on_within flags place on, is.room);
      not_taken = λ there. omega (arith, was_taken place there, known.1);
      before = before_it;
    }

    -- and where one is flagged each that is ready is
    module _ (other : ℕ) (ready : IsReadyIn causes is.taken other) where
      new : times (other + 1) order ≡ 0
      new = ⊎_elim (λ none. none) (λ some. absurd (ready.not_taken (is_taken other (omega arith)))) (cases_eq (times (other + 1) order) 0)

      free : get_or waits.left.items other 0 ≡ 0
      free = is.left other ∙ untaken_none order (entry_at (all_entries causes) other) (λ number some.
          let is_named = named other number some in
          let back : number ≡ number - 1 + 1 = omega (arith, is_named.0) in
          let first = found causes (number - 1) (omega (arith, is_named.0, is_named.1, ready.within)) in
          let precedes : PrecedesIn causes (number - 1) other = record {
            is_earlier = omega (arith, is_named.0, is_named.1);
            earlier = first.0;
            at_earlier = first.1;
            later = is_named.2;
            at_later = is_named.3;
            why = inl (subst (λ n. Contains is_named.2.after n) back is_named.4);
          } in
          omega (arith, was_taken (number - 1) (ready.before (number - 1) precedes), ap (λ n. times n order) back))

      not_held : end ≤ other → ⊥
      not_held late =
          let at_other = found causes other ready.within in
          ⊎_elim
          (λ first.
          let alone = part.by_itself is.from (omega arith) part.some first in
          let same : place ≡ is.from = omega (arith, alone.1, known.0, from_on) in
          let precedes : PrecedesIn causes is.from other = record {
            is_earlier = omega (arith, part.some);
            earlier = first.0;
            at_earlier = first.1;
            later = at_other.0;
            at_later = at_other.1;
            why = inr (inl first.2);
          } in
          omega (arith, was_taken is.from (ready.before is.from precedes), known.1, ap (λ n. times (n + 1) order) same))
          (λ last.
          ⊎_elim
          (λ here.
          let at_place = found causes place (omega (arith, on_within flags place on, is.room)) in
          let precedes : PrecedesIn causes place other = record {
            is_earlier = omega (arith, known.0);
            earlier = at_place.0;
            at_earlier = at_place.1;
            later = last.0;
            at_later = ap (slice_get causes) here ∙ last.1;
            why = inr (inr last.2);
          } in
          omega (arith, was_taken place (ready.before place precedes), known.1))
          (λ apart.
          let precedes : PrecedesIn causes end other = record {
            is_earlier = omega arith;
            earlier = last.0;
            at_earlier = last.1;
            later = at_other.0;
            at_later = at_other.1;
            why = inr (inl last.2);
          } in
          omega (arith, is.not_after end (was_taken end (ready.before end precedes))))
          (cases_eq other end))
          (part.stops (omega (arith, ready.within)))

      ready_is_flagged : get_or flags other false ≡ true
      ready_is_flagged = (is.ready other).1 (⊎_elim (λ less. less) (λ late. absurd (not_held late)) (cases_lt other end), new, free)

  -- The places of the flags are those of the ready steps.
  pub are_ready : (place : ℕ) → get_or flags place false ≡ true → AreReady causes is.taken (set_places flags)
  are_ready place on = record { increasing = increasing flags; each = λ other. (λ there. flagged_is_ready other (set_there flags other there), λ ready. listed flags other (ready_is_flagged place on other ready)) }

  -- Where none is flagged all before the end are taken.
  module _ (none : (place : ℕ) → get_or flags place false ≡ true → ⊥) where
    taken_below : (bound place : ℕ) → place < bound → place < end → 0 < times (place + 1) order
    taken_below zero place less within = absurd (omega arith)
    taken_below (suc bound) place less within =
        ⊎_elim
        (λ missed. absurd (none place ((is.ready place).1 (
          within,
          missed,
          is.left place ∙ untaken_none order (entry_at (all_entries causes) place) (λ number some.
              let is_named = named place number some in
              let back : number ≡ number - 1 + 1 = omega (arith, is_named.0) in
              omega (arith, taken_below bound (number - 1) (omega (arith, is_named.0, is_named.1)) (omega (arith, is_named.0, is_named.1)), ap (λ n. times n order) back)),
        ))))
        (λ some. omega arith)
        (cases_eq (times (place + 1) order) 0)

    pub all_taken : (place : ℕ) → place < end → 0 < times (place + 1) order
    all_taken place within = taken_below (suc place) place (omega arith) within

-- One more step is taken, one more part is begun, and the end.

module _ (seed : ℕ) (causes : List StepCause) (earlier : NamesEarlier causes) (waits : Waits) (flags : List Bool) (draw : Lcg) (order : List ℕ) (end : ℕ) (is : IsSoFar seed causes waits flags draw order end) where
  module _ (place k : ℕ) (there : slice_get (set_places flags) k ≡ Some place) where
    pub on : get_or flags place false ≡ true
    on = set_there flags place (contains_at (set_places flags) k place there)

    facts : (place < end) × (times (place + 1) order ≡ 0) × (get_or waits.left.items place 0 ≡ 0)
    facts = known seed causes earlier waits flags draw order end is place on

    pub is_step : place < length causes
    is_step = omega (arith, on_within flags place on, is.room)

    off_here : get_or (set flags place false) place false ≡ false
    off_here = get_or-set_same flags place false false (on_within flags place on)

    as_before : (step : ℕ) → step ≢ place → get_or (set flags place false) step false ≡ get_or flags step false
    as_before step apart = get_or-set_other flags place step false false apart

    waiting : (step : ℕ) → times step (waiters_of waits place) ≡ times (place + 1) (entry_at (all_entries causes) step)
    waiting step = is.links.each place step (omega (arith, is_step, is.long_begins))

    left_then : (step : ℕ) → get_or waits.left.items step 0 ≡ untaken (order ++ (place + 1) ∷ []) (entry_at (all_entries causes) step) + times step (waiters_of waits place)
    left_then step = omega (arith, is.left step, untaken_push order (place + 1) (entry_at (all_entries causes) step) facts.1, waiting step)

    pub can_release : CanRelease waits (set flags place false) place
    can_release = record {
      lead = is.links.lead;
      within = omega (arith, is_step, is.long_begins);
      room = length-set flags place false ∙ is.room ∙ sym is.long_left;
      few = λ step. omega (arith, left_then step);
      apart = λ step some.
          ⊎_elim
          (λ here. ap (λ n. get_or (set flags place false) n false) here ∙ off_here)
          (λ other. as_before step other ∙ ⊎_elim (λ set. absurd (omega (arith, left_then step, some, ((is.ready step).0 set).2))) (λ off. off) (on_or_off (get_or flags step false)))
          (cases_eq step place);
    }

    -- so one less is missing
    pub fewer_missing : missing (length causes) (order ++ (place + 1) ∷ []) < missing (length causes) order
    fewer_missing = omega (arith, missing_less (length causes) (place + 1) order (omega arith) (omega (arith, is_step)) facts.1)

    -- What is drawn.
    module _ (count drawn_place : ℕ) (draw' : Lcg) (is_count : count ≡ length (set_places flags)) (some : 0 < count) (is_place : k + 1 ≡ drawn_place)
        (lone : count ≡ 1 → (drawn_place ≡ 1) × (draw' ≡ draw))
        (several : 1 < count → (s d : ℕ) → draw ≡ generator_behind s d → (drawn_place ≡ place_drawn s d count) × (draw' ≡ generator_behind s (d + 1))) where
      pub taken_next : (drawn' : ℕ) × IsTaken seed causes is.drawn is.taken place drawn' × (draw' ≡ generator_behind seed drawn')
      taken_next = grind (arith, are_ready seed causes earlier waits flags draw order end is place on, on, cases_eq, is.drawn, is.draws)

    -- It is taken and released.
    module _ (waits' : Waits) (flags' : List Bool) (draw' : Lcg) (released : IsReleased waits waits' (set flags place false) flags' place end)
        (next : (drawn' : ℕ) × IsTaken seed causes is.drawn is.taken place drawn' × (draw' ≡ generator_behind seed drawn')) where
      now_taken : times (place + 1) (order ++ (place + 1) ∷ []) ≡ 1
      now_taken = omega (arith, once_more_last (place + 1) (place + 1) order refl, facts.1)

      others : (step : ℕ) → step ≢ place → times (step + 1) (order ++ (place + 1) ∷ []) ≡ times (step + 1) order
      others step apart = no_more_last (step + 1) (place + 1) order (λ e. apart (omega arith))

      still : (step : ℕ) → 0 < times (step + 1) order → 0 < times (step + 1) (order ++ (place + 1) ∷ [])
      still step some = ⊎_elim (λ here. omega (arith, now_taken, ap (λ n. times (n + 1) (order ++ (place + 1) ∷ [])) here)) (λ apart. omega (arith, others step apart, some)) (cases_eq step place)

      left' : (step : ℕ) → get_or waits'.left.items step 0 ≡ untaken (order ++ (place + 1) ∷ []) (entry_at (all_entries causes) step)
      left' step = omega (arith, left_then step, released.left step)

      none_left : (step : ℕ) → get_or waits.left.items step 0 ≡ 0 → (get_or waits'.left.items step 0 ≡ 0) × (times step (waiters_of waits place) ≡ 0)
      none_left step none = (omega (arith, released.left step, none), omega (arith, released.left step, none))

      ready_to : (step : ℕ) → get_or flags' step false ≡ true → (step < end) × (times (step + 1) (order ++ (place + 1) ∷ []) ≡ 0) × (get_or waits'.left.items step 0 ≡ 0)
      ready_to step flagged =
          ⊎_elim
          (λ before.
          ⊎_elim
          (λ here. absurd (false≢true (sym off_here ∙ (ap (λ n. get_or (set flags place false) n false) (sym here) ∙ before))))
          (λ apart. let was = (is.ready step).0 (sym (as_before step apart) ∙ before) in (was.0, others step apart ∙ was.1, (none_left step was.2).0))
          (cases_eq step place))
          (λ new.
          ⊎_elim
          (λ here. absurd (omega (arith, new.0, ap (λ n. times n (waiters_of waits place)) here, (none_left place facts.2).1)))
          (λ apart. (
            new.1,
            others step apart ∙ ⊎_elim (λ none. none) (λ some. absurd (omega (arith, new.0, (none_left step (is.closed step (omega arith))).1))) (cases_eq (times (step + 1) order) 0),
            new.2,
          ))
          (cases_eq step place))
          ((released.ready step).0 flagged)

      ready_from : (step : ℕ) → step < end → times (step + 1) (order ++ (place + 1) ∷ []) ≡ 0 → get_or waits'.left.items step 0 ≡ 0 → get_or flags' step false ≡ true
      ready_from step early none free =
          let apart : step ≢ place = λ here. omega (arith, none, now_taken, ap (λ n. times (n + 1) (order ++ (place + 1) ∷ [])) here) in
          (released.ready step).1
          (⊎_elim
          (λ waited_not. inl (as_before step apart ∙ (is.ready step).1 (early, sym (others step apart) ∙ none, omega (arith, released.left step, free, waited_not))))
          (λ waited. inr (omega arith, early, free))
          (cases_eq (times step (waiters_of waits place)) 0))

      pub one_more : IsSoFar seed causes waits' flags' draw' (order ++ (place + 1) ∷ []) end
      one_more = record {
        from = is.from;
        drawn = next.0;
        taken = is.taken ++ place ∷ [];
        numbers = ap (λ (o : List ℕ). o ++ (place + 1) ∷ []) is.numbers ∙ sym (map-append (λ p. p + 1) is.taken (place ∷ []));
        once = all_pairs_push (λ one later. ¬ (one ≡ later)) order (place + 1) is.once (λ i d within same. omega (arith, some_times (place + 1) order (subst (λ n. Contains order n) same (Contains-get_or order i d within)), facts.1));
        draws = next.2;
        goes_on = λ rest are. subst (λ (all : List ℕ). AreTaken seed causes 0 [] all) (sym (append_assoc is.taken (place ∷ []) rest)) (is.goes_on (place ∷ rest) (next.0, next.1, are));
        links = subst (λ (b : List ℕ). AreLinksFor (all_entries causes) b waits'.links.items) (sym released.begins) (subst (λ (l : List Link). AreLinksFor (all_entries causes) waits.begins.items l) (sym released.links) is.links);
        long_begins = ap (λ (b : List ℕ). length b) released.begins ∙ is.long_begins;
        long_left = released.long ∙ is.long_left;
        room = released.room ∙ length-set flags place false ∙ is.room;
        left = left';
        ready = λ step. (ready_to step, λ free. ready_from step free.0 free.1 free.2);
        closed = λ step some.
            ⊎_elim
            (λ here. (none_left step (ap (λ n. get_or waits.left.items n 0) here ∙ facts.2)).0)
            (λ apart. (none_left step (is.closed step (omega (arith, some, others step apart)))).0)
            (cases_eq step place);
        not_after = λ step some. ⊎_elim (λ here. omega (arith, here, facts.0)) (λ apart. is.not_after step (omega (arith, some, others step apart))) (cases_eq step place);
        before = λ step early. still step (is.before step early);
        part = is.part;
        within = is.within;
      }

  -- None is ready.
  module _ (empty : length (set_places flags) ≡ 0) where
    none_set : (place : ℕ) → get_or flags place false ≡ true → ⊥
    none_set place set = let there = listed flags place set in omega (arith, there.1, empty)

    taken_to : (place : ℕ) → place < end → 0 < times (place + 1) order
    taken_to place less = all_taken seed causes earlier waits flags draw order end is none_set place less

    pub none_flagged : (step : ℕ) → get_or flags step false ≡ false
    none_flagged step = ⊎_elim (λ set. absurd (none_set step set)) (λ off. off) (on_or_off (get_or flags step false))

    -- The next part begins.
    pub next_part : (flags' : List Bool) (end' : ℕ) → IsPart causes end end' → length flags' ≡ length flags
        → ((step : ℕ) → ((get_or flags' step false ≡ true) ↔ ((get_or flags step false ≡ true) ⊎ ((end ≤ step) × (step < end') × (get_or waits.left.items step 0 ≡ 0)))))
        → IsSoFar seed causes waits flags' draw order end'
    next_part flags' end' part room ready = record {
      from = end;
      drawn = is.drawn;
      taken = is.taken;
      numbers = is.numbers;
      once = is.once;
      draws = is.draws;
      goes_on = is.goes_on;
      links = is.links;
      long_begins = is.long_begins;
      long_left = is.long_left;
      room = room ∙ is.room;
      left = is.left;
      ready = λ step. (
        λ set. ⊎_elim (λ before. absurd (none_set step before)) (λ new. (new.1, ⊎_elim (λ none. none) (λ some. absurd (omega (arith, is.not_after step (omega arith), new.0))) (cases_eq (times (step + 1) order) 0), new.2)) ((ready step).0 set),
        λ free. (ready step).1 (inr (⊎_elim (λ early. absurd (omega (arith, taken_to step early, free.1))) (λ late. late) (cases_lt step end), free.0, free.2)),
      );
      closed = is.closed;
      not_after = λ step some. omega (arith, is.not_after step some, part.some);
      before = taken_to;
      part = λ some. part;
      within = part.within;
    }

    -- All are taken.
    module _ (whole : length causes ≤ end) where
      none_ready : (place : ℕ) → IsReadyIn causes is.taken place → ⊥
      none_ready place ready = ready.not_taken (stands_there place is.taken (omega (arith, taken_to place (omega (arith, ready.within, whole)), times_of_places is.taken place, ap (times (place + 1)) is.numbers)))

      pub ordered : IsOrderBy seed causes order
      ordered = record {
        places = is.taken;
        numbers = is.numbers;
        taken = subst (λ (all : List ℕ). AreTaken seed causes 0 [] all) (append-nil is.taken) (is.goes_on [] none_ready);
      }

      pub each_once : IsEachOnce (length causes) order
      each_once = record {
        each = λ number. (
          λ there.
              let place = map_cases (λ p. p + 1) is.taken number (subst (λ (o : List ℕ). Contains o number) is.numbers there) in
              let early = is.not_after place.from (was_taken seed causes earlier waits flags draw order end is place.from place.there) in
              (omega (arith, place.same), omega (arith, place.same, early, is.within)),
          λ bounds.
              let back : number - 1 + 1 ≡ number = omega (arith, bounds.0) in
              subst (λ n. Contains order n) back (stands_there (number - 1 + 1) order (taken_to (number - 1) (omega (arith, bounds.0, bounds.1, whole)))),
        );
        once = is.once;
      }

-- No step is taken.
left_at : (entries : List (List ℕ)) (step : ℕ) → get_or (map length entries) step 0 ≡ length (entry_at entries step)
left_at (entry ∷ entries) (suc step) = left_at entries step
left_at entries step = refl

all_off : (n step : ℕ) → get_or (replicate n false) step false ≡ false
all_off n step = ⊎_elim (λ less. get_or-replicate n step false false less) (λ past. get_or_past (replicate n false) step false (omega (arith, length-replicate n false))) (cases_lt step n)

pub none_taken : (seed : ℕ) (causes : List StepCause) (waits : Waits) (flags : List Bool) (draw : Lcg) (order : List ℕ) → AreWaitsOf causes waits → flags ≡ replicate (length causes) false → draw ≡ generator_behind seed 0 → order ≡ []
    → IsSoFar seed causes waits flags draw order 0
none_taken seed causes waits flags draw order are is_flags is_draw is_order =
    let none : (number : ℕ) → times number order ≡ 0 = λ number. ap (times number) is_order in
    let off : (step : ℕ) → get_or flags step false ≡ false = λ step. ap (λ (fs : List Bool). get_or fs step false) is_flags ∙ all_off (length causes) step in
    record {
      from = 0;
      drawn = 0;
      taken = [];
      numbers = is_order;
      once = λ i j d less within. absurd (omega (arith, within, ap (λ (o : List ℕ). length o) is_order));
      draws = is_draw;
      goes_on = λ rest taken. taken;
      links = are.links;
      long_begins = are.long;
      long_left = ap (λ (l : List ℕ). length l) are.left ∙ length-map (all_entries causes) length ∙ length-map causes (λ (c : StepCause). c.after);
      room = ap (λ (fs : List Bool). length fs) is_flags ∙ length-replicate (length causes) false;
      left = λ step. ap (λ (l : List ℕ). get_or l step 0) are.left ∙ left_at (all_entries causes) step ∙ sym (untaken_at_first (entry_at (all_entries causes) step)) ∙ ap (λ (o : List ℕ). untaken o (entry_at (all_entries causes) step)) (sym is_order);
      ready = λ step. (λ set. absurd (false≢true (sym (off step) ∙ set)), λ free. absurd (omega (arith, free.0)));
      closed = λ step some. absurd (omega (arith, some, none (step + 1)));
      not_after = λ step some. absurd (omega (arith, some, none (step + 1)));
      before = λ step early. absurd (omega (arith, early));
      part = λ some. absurd (omega (arith, some));
      within = omega arith;
    }
