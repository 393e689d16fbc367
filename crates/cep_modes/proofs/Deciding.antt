-- Calls are recorded and followed back, and what is marked in the end are the bad pairs.
use Rattle.std.proofs.Common.{◌≡◌, ◌<◌, ◌⊎◌, inl, inr, ⊎_elim, ℕ, zero, suc, Bool, true, false, List, [], ◌∷◌, length, replicate, slice_set, refl, ap, arith, ◌↔◌, ◌/◌, ◌%◌, sym, subst, ◌≤◌, ◌+◌, cond, ◌++◌, slice_get, Some, ◌∙◌, append_assoc, length-append, length-set, below_more, drop}
use Rattle.cep_modes.specs.Places.{holds, positions_of, IsPlainClause, callees, IsAmong}
use Rattle.cep_modes.specs.Reaching.{unset, call_of, IsCall, IsDone, IsClosed, seen_after, queue_after, calls_from, IsReachedSoFar}
use Rattle.std.specs.List.{AllByRecursion, Contains}
use Rattle.cep_base.proofs.Elements.{all_at, both_all, contains_none, contains_first, contains_behind, contains_cases, contains_same, contains_left, contains_right, contains_either, contains_map}
use Rattle.cep_rule.specs.Patterns.{ClauseTree}
use Rattle.cep_rule.specs.Groundness.{Known, SomeFails, IsBadInRound, IsBad}
use Rattle.cep_modes.specs.declared.reach.Call.{Call}
use Rattle.cep_modes.specs.Leading.{IsLed, here, there, IsFollowed, TellsBad}
use Rattle.cep_modes.proofs.Numbering.{fails_to, fails_from}
use Rattle.std.proofs.lemmas.List.{append-nil, drop_all}
use Rattle.std.proofs.lemmas.Option.{slice_get_within, slice_get-get_or}
use Rattle.cep_base.proofs.Lists.{some_same, holds_at, get_kept}
use Rattle.cep_base.proofs.Bools.{true_false}

-- Flags that are set, one after another.

pub set_kept : (flags : List Bool) (n m : ℕ) → holds flags m ≡ true → holds (slice_set flags n true) m ≡ true
set_kept (b ∷ flags) (suc n) (suc m) h = set_kept flags n m h
set_kept flags n m h = grind arith

pub set_here : (flags : List Bool) (n : ℕ) → n < length flags → holds (slice_set flags n true) n ≡ true
set_here (b ∷ flags) (suc n) low = set_here flags n (omega arith)
set_here flags n low = grind arith

pub set_or : (flags : List Bool) (n m : ℕ) → holds (slice_set flags n true) m ≡ true → (n ≡ m) ⊎ (holds flags m ≡ true)
set_or (b ∷ flags) (suc n) (suc m) h = ⊎_elim (λ e. inl (ap suc e)) (λ k. inr k) (set_or flags n m h)
set_or flags n m h = grind arith

pub set_again : (flags : List Bool) (n : ℕ) → holds flags n ≡ true → slice_set flags n true ≡ flags
set_again (b ∷ flags) (suc n) h = ap (λ rest. b ∷ rest) (set_again flags n h)
set_again flags n h = grind arith

pub set_fewer : (flags : List Bool) (n : ℕ) → n < length flags → holds flags n ≡ false → suc (unset (slice_set flags n true)) ≡ unset flags
set_fewer (true ∷ flags) (suc n) low h = set_fewer flags n (omega arith) h
set_fewer (false ∷ flags) (suc n) low h = ap suc (set_fewer flags n (omega arith) h)
set_fewer flags n low h = grind arith

pub none_set : (count n : ℕ) → holds (replicate count false) n ≡ false
none_set (suc count) (suc n) = none_set count n
none_set count n = refl

-- What is marked in the end are the bad pairs.

-- that bad pairs are those that fail
abbrev pub BadFails : List ClauseTree → Type 0
BadFails clauses = (pred : ℕ) (positions : Known) → IsBad clauses pred positions ↔ SomeFails clauses (IsBad clauses) pred positions

caller_bad : (clauses : List ClauseTree) → AllByRecursion (IsPlainClause 32) clauses → BadFails clauses → (n m : ℕ) → Contains (callees clauses n) m → IsAmong (IsBad clauses) m → IsAmong (IsBad clauses) n
caller_bad clauses plain law zero m called bad = tt
caller_bad clauses plain law (suc n) m called bad = (law (n / 256) (positions_of (n % 256))).1 (fails_from (IsBad clauses) (n / 256) (positions_of (n % 256)) clauses m plain called bad)

-- what leads to 0 is bad
led_bad : (clauses : List ClauseTree) (size : ℕ) (calls : List Call) (start : List Bool) → AllByRecursion (IsPlainClause 32) clauses → BadFails clauses
    → AllByRecursion (IsCall clauses size) calls → ((n : ℕ) → holds start n ≡ true → n ≡ 0) → (n : ℕ) → IsLed calls start n → IsAmong (IsBad clauses) n
led_bad clauses size calls start plain law made only n (here m h) = subst (IsAmong (IsBad clauses)) (sym (only m h)) tt
led_bad clauses size calls start plain law made only n (there caller callee among rest) =
    caller_bad clauses plain law caller callee (all_at (IsCall clauses size) calls (call_of caller callee) made among).made (led_bad clauses size calls start plain law made only callee rest)

-- a pair that is seen and bad in some round is marked
round_marked : (clauses : List ClauseTree) (calls : List Call) (seen marked : List Bool) → AllByRecursion (IsPlainClause 32) clauses
    → ((n : ℕ) → holds seen n ≡ true → IsDone clauses seen calls n) → holds marked 0 ≡ true → AllByRecursion (IsFollowed marked) calls
    → (round n : ℕ) → holds seen n ≡ true → IsAmong (IsBadInRound clauses round) n → holds marked n ≡ true
round_marked clauses calls seen marked plain gone first followed (suc round) (suc n) h bad =
    let fails = fails_to (IsBadInRound clauses round) (n / 256) (positions_of (n % 256)) clauses plain bad in
    let done = gone (suc n) h fails.number fails.called in
    all_at (IsFollowed marked) calls (call_of (suc n) fails.number) followed done.0 (round_marked clauses calls seen marked plain gone first followed round fails.number done.1 fails.among)
round_marked clauses calls seen marked plain gone first followed round n h bad = grind arith

bad_marked : (clauses : List ClauseTree) (calls : List Call) (seen marked : List Bool) → AllByRecursion (IsPlainClause 32) clauses
    → ((n : ℕ) → holds seen n ≡ true → IsDone clauses seen calls n) → holds marked 0 ≡ true → AllByRecursion (IsFollowed marked) calls
    → (n : ℕ) → holds seen n ≡ true → IsAmong (IsBad clauses) n → holds marked n ≡ true
bad_marked clauses calls seen marked plain gone first followed zero h bad = first
bad_marked clauses calls seen marked plain gone first followed (suc n) h bad = round_marked clauses calls seen marked plain gone first followed bad.0 (suc n) h bad.1

only_first : (none : List Bool) → ((n : ℕ) → holds none n ≡ false) → (n : ℕ) → holds (slice_set none 0 true) n ≡ true → n ≡ 0
only_first none unset n h = ⊎_elim (λ same. sym same) (λ old. let e : holds none n ≡ false = unset n in absurd (cc)) (set_or none 0 n h)

-- what is marked in the end tells the bad pairs
pub decided : (clauses : List ClauseTree) (size : ℕ) (numbers : List ℕ) (calls : List Call) (none start marked : List Bool)
    → AllByRecursion (IsPlainClause 32) clauses → BadFails clauses → IsClosed clauses size numbers calls
    → 0 < length none → ((n : ℕ) → holds none n ≡ false) → start ≡ slice_set none 0 true
    → ((n : ℕ) → holds start n ≡ true → holds marked n ≡ true) → ((n : ℕ) → holds marked n ≡ true → IsLed calls start n) → AllByRecursion (IsFollowed marked) calls
    → length marked ≡ size → AllByRecursion (λ n. n < size) numbers
    → TellsBad clauses numbers marked
decided clauses size numbers calls none start marked plain law closed some unset is kept led followed long low =
    let first : holds marked 0 ≡ true = kept 0 (subst (λ flags. holds flags 0 ≡ true) (sym is) (set_here none 0 some)) in
    record {
      within = subst (λ k. AllByRecursion (λ n. n < k) numbers) (sym long) low;
      told = λ n among. (
        (λ h. led_bad clauses size calls start plain law closed.called (λ n h. only_first none unset n (subst (λ flags. holds flags n ≡ true) is h)) n (led n h)),
        (λ bad. bad_marked clauses calls closed.seen marked plain closed.gone first followed n (closed.all_seen n among) bad),
      );
    }

-- What is seen and queued, and what calls are recorded, step by step.

-- some numbers more were seen
pub record Sees (size : ℕ) (numbers : List ℕ) (seen after : List Bool) (queue longer : List ℕ) : Type 0 where
  pub as_many : length after ≡ length seen
  pub kept : (n : ℕ) → holds seen n ≡ true → holds after n ≡ true
  pub each : (n : ℕ) → Contains numbers n → holds after n ≡ true
  pub queued : ((n : ℕ) → holds seen n ≡ true → Contains queue n) → (n : ℕ) → holds after n ≡ true → Contains longer n
  pub more : List ℕ
  pub extends : longer ≡ queue ++ more
  pub within : AllByRecursion (λ n. n < size) queue → AllByRecursion (λ n. n < size) longer
  pub total : unset after + length longer ≡ unset seen + length queue

sees_none : (size : ℕ) (seen : List Bool) (queue : List ℕ) → Sees size [] seen seen queue queue
sees_none size seen queue = grind (arith, contains_none, append-nil)

sees_old : (size n : ℕ) (seen : List Bool) (queue : List ℕ) → n < length seen → holds seen n ≡ true → Sees size (n ∷ []) seen (slice_set seen n true) queue queue
sees_old size n seen queue low h = grind (arith, set_again, length-set, set_kept, set_here, contains_none, contains_cases, set_or, append-nil)

sees_new : (size n : ℕ) (seen : List Bool) (queue : List ℕ) → n < length seen → n < size → holds seen n ≡ false → Sees size (n ∷ []) seen (slice_set seen n true) queue (queue ++ n ∷ [])
sees_new size n seen queue low within_size h =
    let fewer : suc (unset (slice_set seen n true)) ≡ unset seen = set_fewer seen n low h in
    record {
      as_many = length-set seen n true;
      kept = λ m k. set_kept seen n m k;
      each = λ m k. ⊎_elim (λ e. subst (λ x. holds (slice_set seen n true) x ≡ true) e (set_here seen n low)) (λ later. absurd (contains_none m later)) (contains_cases n [] m k);
      queued = λ all m k. ⊎_elim (λ e. contains_right queue (n ∷ []) m (contains_same n [] m e)) (λ old. contains_left queue (n ∷ []) m (all m old)) (set_or seen n m k);
      more = n ∷ [];
      extends = refl;
      within = λ k. both_all (λ x. x < size) queue (n ∷ []) k (within_size, tt);
      total = omega (arith, length-append queue (n ∷ []));
    }

sees_one : (size n : ℕ) (seen : List Bool) (queue : List ℕ) → length seen ≡ size → n < size → Sees size (n ∷ []) seen (slice_set seen n true) queue (cond (holds seen n) queue (queue ++ n ∷ []))
sees_one size n seen queue long low = by (holds seen n) refl
  where
    by : (b : Bool) → holds seen n ≡ b → Sees size (n ∷ []) seen (slice_set seen n true) queue (cond b queue (queue ++ n ∷ []))
    by true e = sees_old size n seen queue (omega arith) e
    by false e = sees_new size n seen queue (omega arith) low e

sees_both : (size : ℕ) (one other : List ℕ) (seen middle after : List Bool) (queue between longer : List ℕ)
    → Sees size one seen middle queue between → Sees size other middle after between longer → Sees size (one ++ other) seen after queue longer
sees_both size one other seen middle after queue between longer first second = record {
  as_many = second.as_many ∙ first.as_many;
  kept = λ n h. second.kept n (first.kept n h);
  each = λ n h. ⊎_elim (λ k. second.kept n (first.each n k)) (λ k. second.each n k) (contains_either one other n h);
  queued = λ all. second.queued (first.queued all);
  more = first.more ++ second.more;
  extends = second.extends ∙ ap (λ list. list ++ second.more) first.extends ∙ append_assoc queue first.more second.more;
  within = λ h. second.within (first.within h);
  total = second.total ∙ first.total;
}

sees_all : (size : ℕ) (numbers : List ℕ) (seen : List Bool) (queue : List ℕ) → length seen ≡ size → AllByRecursion (λ n. n < size) numbers
    → Sees size numbers seen (seen_after numbers seen) queue (queue_after numbers seen queue)
sees_all size [] seen queue long low = sees_none size seen queue
sees_all size (n ∷ numbers) seen queue long low =
    sees_both size (n ∷ []) numbers seen (slice_set seen n true) (seen_after (n ∷ numbers) seen) queue (cond (holds seen n) queue (queue ++ n ∷ [])) (queue_after (n ∷ numbers) seen queue)
    (sees_one size n seen queue long low.0)
    (sees_all size numbers (slice_set seen n true) (cond (holds seen n) queue (queue ++ n ∷ [])) (length-set seen n true ∙ long) low.1)

pub sees : (size : ℕ) (numbers : List ℕ) (seen after : List Bool) (queue longer : List ℕ) → length seen ≡ size → AllByRecursion (λ n. n < size) numbers
    → after ≡ seen_after numbers seen → longer ≡ queue_after numbers seen queue → Sees size numbers seen after queue longer
sees size numbers seen after queue longer long low e f = grind (arith, sees_all size numbers seen queue long low)

got_before : (xs ys : List ℕ) (k n : ℕ) → k < length xs → slice_get (xs ++ ys) k ≡ Some n → slice_get xs k ≡ Some n
got_before (x ∷ xs) ys (suc k) n low got = got_before xs ys k n (omega arith) got
got_before xs ys k n low got = grind arith

-- more is seen
saw : (clauses : List ClauseTree) (size : ℕ) (numbers : List ℕ) (seen after : List Bool) (queue longer : List ℕ) (calls : List Call) (done : ℕ)
    → done ≤ length queue → Sees size numbers seen after queue longer → IsReachedSoFar clauses size seen queue calls done → IsReachedSoFar clauses size after longer calls done
saw clauses size numbers seen after queue longer calls done low more is = record {
  as_many = more.as_many ∙ is.as_many;
  queued = more.queued is.queued;
  within = more.within is.within;
  called = is.called;
  gone = λ k n before got m callee.
      let old = is.gone k n before (got_before queue more.more k n (omega arith) (ap (λ list. slice_get list k) (sym more.extends) ∙ got)) m callee in (old.0, more.kept m old.1);
}

-- more calls are recorded
recorded : (clauses : List ClauseTree) (size : ℕ) (seen : List Bool) (queue : List ℕ) (calls more : List Call) (done : ℕ)
    → AllByRecursion (IsCall clauses size) more → IsReachedSoFar clauses size seen queue calls done → IsReachedSoFar clauses size seen queue (calls ++ more) done
recorded clauses size seen queue calls more done made is = record {
  as_many = is.as_many;
  queued = is.queued;
  within = is.within;
  called = both_all (IsCall clauses size) calls more is.called made;
  gone = λ k n before got m callee. let old = is.gone k n before got m callee in (contains_left calls more (call_of n m) old.0, old.1);
}

-- one number more is done
counted : (clauses : List ClauseTree) (size : ℕ) (seen : List Bool) (queue : List ℕ) (calls : List Call) (done n : ℕ)
    → slice_get queue done ≡ Some n → IsDone clauses seen calls n → IsReachedSoFar clauses size seen queue calls done → IsReachedSoFar clauses size seen queue calls (done + 1)
counted clauses size seen queue calls done n at now is = record {
  as_many = is.as_many;
  queued = is.queued;
  within = is.within;
  called = is.called;
  gone = λ k m before got.
      let P : ℕ → Type 0 = λ i. (j : ℕ) → slice_get queue i ≡ Some j → IsDone clauses seen calls j in
      below_more P done (λ i low j present. is.gone i j low present) (λ j present. subst (IsDone clauses seen calls) (some_same n j (sym at ∙ present)) now) k before m got;
}

made : (clauses : List ClauseTree) (size n : ℕ) (numbers : List ℕ) → n < size → AllByRecursion (λ m. m < size) numbers
    → ((m : ℕ) → Contains numbers m → Contains (callees clauses n) m) → AllByRecursion (IsCall clauses size) (calls_from n numbers)
made clauses size n [] low within present = tt
made clauses size n (x ∷ numbers) low within present = (
  record { made = present x (contains_first x numbers); caller = low; callee = within.0 },
  made clauses size n numbers low within.1 (λ m h. present m (contains_behind x numbers m h)),
)

-- one number more is done, and what it calls is seen and recorded
pub step : (clauses : List ClauseTree) (size : ℕ) (seen after : List Bool) (queue longer : List ℕ) (calls more : List Call) (done n : ℕ)
    → IsReachedSoFar clauses size seen queue calls done → slice_get queue done ≡ Some n → AllByRecursion (λ m. m < size) (callees clauses n)
    → more ≡ calls ++ calls_from n (callees clauses n) → Sees size (callees clauses n) seen after queue longer → IsReachedSoFar clauses size after longer more (done + 1)
step clauses size seen after queue longer calls more done n is at within records saw_them =
    let new : List Call = calls_from n (callees clauses n) in
    let known = saw clauses size (callees clauses n) seen after queue longer calls done (let before = slice_get_within queue done n at in omega arith) saw_them is in
    let all : IsReachedSoFar clauses size after longer (calls ++ new) done =
    recorded clauses size after longer calls new done (made clauses size n (callees clauses n) (holds_at (λ x. x < size) queue done n is.within at) within (λ m h. h)) known
    in
    rw records
    (counted clauses size after longer (calls ++ new) done n (ap (λ list. slice_get list done) saw_them.extends ∙ get_kept queue saw_them.more done n at)
    (λ m h. (contains_right calls new (call_of n m) (contains_map (call_of n) (callees clauses n) m h), saw_them.each m h)) all)

-- at first nothing is seen but the first numbers
pub start : (clauses : List ClauseTree) (size : ℕ) (none after : List Bool) (numbers queue longer : List ℕ) (calls : List Call) → queue ≡ [] → calls ≡ []
    → length none ≡ size → ((n : ℕ) → holds none n ≡ false) → Sees size numbers none after queue longer → IsReachedSoFar clauses size after longer calls 0
start clauses size none after numbers queue longer calls no_queue no_calls long all saw_them =
    saw clauses size numbers none after queue longer calls 0 (omega arith) saw_them
    (record {
      as_many = long;
      queued = λ n h. true_false (holds none n) h (all n);
      within = rw no_queue tt;
      called = rw no_calls tt;
      gone = λ k n before got. absurd (omega arith);
    })

-- when all of the queue is done, all that is reached is
pub closed : (clauses : List ClauseTree) (size : ℕ) (seen : List Bool) (first queue : List ℕ) (calls : List Call) (done : ℕ)
    → length queue ≤ done → ((n : ℕ) → Contains first n → holds seen n ≡ true) → IsReachedSoFar clauses size seen queue calls done → IsClosed clauses size first calls
closed clauses size seen first queue calls done all all_seen is = record {
  seen = seen;
  all_seen = all_seen;
  called = is.called;
  gone = λ n h.
      let at = is.queued n h in
      is.gone at.0 n (omega (arith, at.1)) (slice_get-get_or queue at.0 n at.1 ∙ ap Some at.2);
}

-- What is marked while calls are followed back.

pub nothing_left : (marked : List Bool) (calls : List Call) → AllByRecursion (IsFollowed marked) (drop (length calls) calls)
nothing_left marked calls = subst (AllByRecursion (IsFollowed marked)) (sym (drop_all (length calls) calls (omega arith))) tt

-- a caller was marked whose callee is marked
pub more_kept : (old marked after : List Bool) (caller : ℕ) → after ≡ slice_set marked caller true
    → ((n : ℕ) → holds old n ≡ true → holds marked n ≡ true) → (n : ℕ) → holds old n ≡ true → holds after n ≡ true
more_kept old marked after caller is kept n h = subst (λ flags. holds flags n ≡ true) (sym is) (set_kept marked caller n (kept n h))

pub more_led : (calls : List Call) (old marked after : List Bool) (call : Call) → Contains calls call
    → holds marked call.callee ≡ true → after ≡ slice_set marked call.caller true
    → ((n : ℕ) → holds marked n ≡ true → IsLed calls old n) → (n : ℕ) → holds after n ≡ true → IsLed calls old n
more_led calls old marked after call among callee is led n h =
    ⊎_elim (λ same. subst (IsLed calls old) same (there call.caller call.callee among (led call.callee callee))) (λ before. led n before)
    (set_or marked call.caller n (subst (λ flags. holds flags n ≡ true) is h))

pub more_fewer : (old marked after : List Bool) (found : Bool) (caller : ℕ) → caller < length marked → holds marked caller ≡ false → after ≡ slice_set marked caller true
    → (found ≡ true → unset marked < unset old) → (found ≡ false → marked ≡ old) → unset after < unset old
more_fewer old marked after found caller low new is fewer same = grind (arith, set_fewer)

-- what leads to what leads to marked ones does so too
pub led_by_led : (calls : List Call) (old middle : List Bool) → ((n : ℕ) → holds middle n ≡ true → IsLed calls old n) → (n : ℕ) → IsLed calls middle n → IsLed calls old n
led_by_led calls old middle led n (here m h) = led m h
led_by_led calls old middle led n (there caller callee among rest) = there caller callee among (led_by_led calls old middle led callee rest)
