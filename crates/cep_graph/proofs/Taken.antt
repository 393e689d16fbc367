-- Tokens are taken for one premise after another, and those that stay are put back.
use Rattle.std.proofs.Common.{◌≡◌, ◌↔◌, ◌⊎◌, inl, inr, ⊎_elim, ℕ, ◌+◌, Bool, true, false, cond, not, ◌||◌, List, [], ◌∷◌, ◌++◌, length, refl, sym, ap, ◌∙◌, subst, Contains, arith}
use Rattle.std.specs.Prelude.{◌==◌}
use Rattle.std.specs.List.{AllZip}
use Rattle.std.specs.Ordering.{eq_by_cmp}
use Rattle.std.proofs.lemmas.Bool.{false≢true}
use Rattle.cep_base.proofs.Elements.{contains_none, contains_first, contains_behind, contains_cases, contains_same, contains_left, contains_right, contains_either}
use Rattle.cep_term.specs.Tree.{Tree, AtomTree}
use Rattle.cep_term.specs.Order.{atom_cmp}
use Rattle.cep_term.specs.BagLaws.{BagLaws}
use Rattle.cep_base.proofs.Bools.{or_right, or_from as or_false}
use Rattle.cep_rule.specs.declared.signature.Signature.{Signature}
use Rattle.cep_rule.specs.Patterns.{PremiseTree}
use Rattle.cep_rule.specs.Typing.{is_fact}
use Rattle.cep_rule.specs.Instances.{full_instance}
use Rattle.cep_cause.specs.Tokens.{Token, has_number, staying, picked_to_go}
use Rattle.cep_cause.specs.Touches.{Touch}
use Rattle.cep_cause.proofs.Tokened.{removed_used, picks_apart}
use Rattle.cep_graph.specs.declared.trace.Trace.{Trace}
use Rattle.cep_graph.specs.Queues.{Queues, queue_of, Changes, GetsId}
use Rattle.cep_graph.specs.Traces.{tokens_of, IsTrace, AreTraced, IsTaking, AddsNumbers, HasTaken, TakesFor}
use Rattle.cep_graph.proofs.Made.{itself, filter_cases, number_itself, same_if, staying_alike, has_append, number_of, one_token, IsOldest, oldest_first}
use Rattle.cep_graph.proofs.Tracing.{zip_more, passed_trace, used_trace, rests_none, rests_used, rests_removed}
pub use Rattle.cep_base.proofs.Drops.{drop_at as drop_next}
pub use Rattle.cep_cause.proofs.Tokened.{picks_present}

-- one token goes over from those to be used to those that are used
one_over : (token : Token) (used uses : List Token) (x : Token) → ((Contains used x ⊎ Contains (token ∷ uses) x) ↔ (Contains (token ∷ used) x ⊎ Contains uses x))
one_over token used uses x = (
  λ either. ⊎_elim (λ before. inl (contains_behind token used x before)) (λ later. ⊎_elim (λ same. inl (contains_same token used x same)) (λ rest. inr rest) (contains_cases token uses x later)) either,
  λ either. ⊎_elim (λ before. ⊎_elim (λ same. inr (contains_same token uses x same)) (λ rest. inl rest) (contains_cases token used x before)) (λ later. inr (contains_behind token uses x later)) either,
)

-- the first of a queue
front_is : (R : Token → Trace → Type 0) (token : Token) (tokens : List Token) (row : List Trace) → AllZip R (token ∷ tokens) row → (trace : Trace) × (traces : List Trace) × (row ≡ trace ∷ traces) × R token trace
front_is R token tokens row all = grind arith

module _ (laws : BagLaws) (signature : Signature) (values : List Tree) where
  pub none_taken : (number : ℕ) (queues : Queues) (numbers : List ℕ) → TakesFor signature values [] number queues queues numbers numbers
  none_taken number queues numbers done present used out [] touch last is traced = record {
    traced = λ a. zip_more (IsTrace signature done) (IsTrace signature (done ++ touch ∷ [])) (tokens_of a (staying out present)) (queue_of queues a)
        (λ token trace there trace_is.
        let stays = filter_cases (λ (t : Token). eq_by_cmp atom_cmp t.atom a) (staying out present) token there in
        let was = filter_cases (λ (t : Token). not (has_number out t.number)) present token stays.0 in
        passed_trace signature done touch token trace trace_is (is.fresh token was.0)
        (λ linear used'. ⊎_elim (λ before. false≢true (sym (ap not ((is.linear token was.0 linear).1 before)) ∙ was.1)) (λ none. contains_none token none) ((is.all token).0 used')))
        (traced a);
    adds = λ place. (λ old. inl old, λ either. ⊎_elim (λ old. old) (λ rests. absurd (rests_none done place rests)) either);
  }
  none_taken number queues numbers done present used out (token ∷ uses) touch last is traced = absurd is.picks

  module _ (premise : PremiseTree) (premises : List PremiseTree) (done : List Touch) (present used out : List Token) (token : Token) (uses : List Token) (touch : Touch)
      (is : IsTaking signature values present used out (premise ∷ premises) (token ∷ uses) touch) where
    there_token : Contains present token
    there_token = is.picks.0.can.there

    own_kind : is_fact signature token.atom ≡ is_fact signature premise.atom
    own_kind = ap (is_fact signature) is.picks.0.can.of_atom

    all_over : (x : Token) → (Contains touch.uses x ↔ (Contains (token ∷ used) x ⊎ Contains uses x))
    all_over x = (λ there. (one_over token used uses x).0 ((is.all x).0 there), λ either. (is.all x).1 ((one_over token used uses x).1 either))

    fact_next : is_fact signature premise.atom ≡ true → IsTaking signature values present (token ∷ used) out premises uses touch
    fact_next fact = record {
      increasing = is.increasing;
      picks = is.picks.1;
      linear = λ other there linear. (
        λ outside. contains_behind token used other ((is.linear other there linear).0 outside),
        λ before. ⊎_elim
            (λ (same : token ≡ other). absurd (false≢true (sym linear ∙ ap (λ (t : Token). is_fact signature t.atom) (sym same) ∙ own_kind ∙ fact)))
            (λ rest. (is.linear other there linear).1 rest)
            (contains_cases token used other before),
      );
      facts = is.facts;
      all = all_over;
      fresh = is.fresh;
    }

    fact_oldest : is_fact signature premise.atom ≡ true → IsOldest present out token
    fact_oldest fact = record {
      there = there_token;
      here = is.facts token there_token (own_kind ∙ fact);
      oldest = λ other there same free. is.picks.0.least other (record { there = there; of_atom = same ∙ is.picks.0.can.of_atom; unused = λ linear. absurd (false≢true (sym linear ∙ fact)) });
    }

    linear_next : is_fact signature premise.atom ≡ false → IsTaking signature values present (token ∷ used) (token ∷ out) premises uses touch
    linear_next linear = record {
      increasing = is.increasing;
      picks = is.picks.1;
      linear = λ other there linear'. (outside other there linear' (token.number == other.number) refl, λ before. before_out other there linear' before);
      facts = λ other there fact. inside other there fact (token.number == other.number) refl;
      all = all_over;
      fresh = is.fresh;
    }
      where
        outside : (other : Token) → Contains present other → is_fact signature other.atom ≡ false → (t : Bool) → (token.number == other.number) ≡ t → (t || has_number out other.number) ≡ true → Contains (token ∷ used) other
        outside other there linear' true e o = contains_same token used other (one_token present token other is.increasing there_token there (same_if token.number other.number e))
        outside other there linear' false e o = contains_behind token used other ((is.linear other there linear').0 o)

        before_out : (other : Token) → Contains present other → is_fact signature other.atom ≡ false → Contains (token ∷ used) other → (token.number == other.number || has_number out other.number) ≡ true
        before_out other there linear' before =
            ⊎_elim
            (λ (same : token ≡ other). ap (λ (t : Bool). t || has_number out other.number) (number_itself token.number other.number (ap (λ (t : Token). t.number) same)))
            (λ rest. or_right (token.number == other.number) (has_number out other.number) ((is.linear other there linear').1 rest))
            (contains_cases token used other before)

        inside : (other : Token) → Contains present other → is_fact signature other.atom ≡ true → (t : Bool) → (token.number == other.number) ≡ t → (t || has_number out other.number) ≡ false
        inside other there fact true e =
            let same = one_token present token other is.increasing there_token there (same_if token.number other.number e) in
            absurd (false≢true (sym linear ∙ sym own_kind ∙ ap (λ (t : Token). is_fact signature t.atom) same ∙ fact))
        inside other there fact false e = is.facts other there fact

    linear_oldest : is_fact signature premise.atom ≡ false → IsOldest present out token
    linear_oldest linear = record {
      there = there_token;
      here = by (has_number out token.number) refl;
      oldest = λ other there same free. is.picks.0.least other (record {
        there = there;
        of_atom = same ∙ is.picks.0.can.of_atom;
        unused = λ linear' before. false≢true (sym free ∙ (is.linear other there (ap (is_fact signature) (same ∙ is.picks.0.can.of_atom) ∙ linear)).1 before);
      });
    }
      where
        by : (t : Bool) → has_number out token.number ≡ t → t ≡ false
        by true e = absurd (is.picks.0.can.unused linear ((is.linear token there_token (own_kind ∙ linear)).0 e))
        by false e = refl

    go_on : (premise.kept || is_fact signature premise.atom) ≡ true → picked_to_go signature (premise ∷ premises) (token ∷ uses) ≡ picked_to_go signature premises uses
    go_on stays = ap (λ (t : Bool). cond t (picked_to_go signature premises uses) (token ∷ picked_to_go signature premises uses)) stays

    go_away : (premise.kept || is_fact signature premise.atom) ≡ false → picked_to_go signature (premise ∷ premises) (token ∷ uses) ≡ token ∷ picked_to_go signature premises uses
    go_away goes = ap (λ (t : Bool). cond t (picked_to_go signature premises uses) (token ∷ picked_to_go signature premises uses)) goes

    -- the maker's number is added before others
    maker_adds : (trace : Trace) (maker : ℕ) (numbers numbers' : List ℕ) → IsTrace signature done token trace → maker ≡ trace.maker → (gone : List Token)
        → AddsNumbers done uses gone (numbers ++ maker ∷ []) numbers' → AddsNumbers done (token ∷ uses) gone numbers numbers'
    maker_adds trace maker numbers numbers' trace_is same gone adds place = (
      λ there. ⊎_elim
          (λ before. ⊎_elim
          (λ old. inl old)
          (λ one. ⊎_elim (λ (e : maker ≡ place + 1). inr ((rests_used done place token uses gone).1 (inl ((trace_is.maker place).0 (sym same ∙ e))))) (λ none. absurd (contains_none (place + 1) none)) (contains_cases maker [] (place + 1) one))
          (contains_either numbers (maker ∷ []) (place + 1) before))
          (λ rests. inr ((rests_used done place token uses gone).1 (inr rests)))
          ((adds place).0 there),
      λ either. (adds place).1 (⊎_elim
          (λ old. inl (contains_left numbers (maker ∷ []) (place + 1) old))
          (λ rests. ⊎_elim
          (λ made. inl (contains_right numbers (maker ∷ []) (place + 1) (contains_same maker [] (place + 1) (same ∙ (trace_is.maker place).1 made))))
          (λ rest. inr rest)
          ((rests_used done place token uses gone).0 rests))
          either),
    )

    -- the users' numbers are added before others
    users_add : (trace : Trace) (numbers more numbers' : List ℕ) → is_fact signature token.atom ≡ false → IsTrace signature done token trace → ((n : ℕ) → (Contains more n ↔ (Contains numbers n ⊎ Contains trace.users n))) → (gone : List Token)
        → AddsNumbers done uses gone more numbers' → AddsNumbers done uses (token ∷ gone) numbers numbers'
    users_add trace numbers more numbers' linear trace_is joins gone adds place = (
      λ there. ⊎_elim
          (λ before. ⊎_elim (λ old. inl old) (λ used'. inr ((rests_removed done place token uses gone).1 (inl ((trace_is.users linear place).0 used')))) ((joins (place + 1)).0 before))
          (λ rests. inr ((rests_removed done place token uses gone).1 (inr rests)))
          ((adds place).0 there),
      λ either. (adds place).1 (⊎_elim
          (λ old. inl ((joins (place + 1)).1 (inl old)))
          (λ rests. ⊎_elim (λ used'. inl ((joins (place + 1)).1 (inr ((trace_is.users linear place).1 used')))) (λ rest. inr rest) ((rests_removed done place token uses gone).0 rests))
          either),
    )

    -- the trace of the oldest token is the first of its queue
    first_front : (queues : Queues) (outside : List Token) → IsOldest present outside token → AreTraced signature done (staying outside present) queues
        → (trace : Trace) × (traces : List Trace) × (queue_of queues token.atom ≡ trace ∷ traces) × IsTrace signature done token trace
    first_front queues outside oldest traced =
        front_is (IsTrace signature done) token (tokens_of token.atom (staying (token ∷ outside) present)) (queue_of queues token.atom)
        (subst (λ (t : Bool). AllZip (IsTrace signature done) (cond t (token ∷ tokens_of token.atom (staying (token ∷ outside) present)) (tokens_of token.atom (staying (token ∷ outside) present))) (queue_of queues token.atom)) (itself laws token.atom)
        (subst (λ (tokens : List Token). AllZip (IsTrace signature done) tokens (queue_of queues token.atom)) (oldest_first laws present outside token token.atom is.increasing oldest) (traced token.atom)))

    same_traces : (old new : Queues) (tokens : List Token) → ((b : AtomTree) → queue_of new b ≡ queue_of old b) → AreTraced signature done tokens old → AreTraced signature done tokens new
    same_traces old new tokens same traced a = subst (λ (row : List Trace). AllZip (IsTrace signature done) (tokens_of a tokens) row) (sym (same a)) (traced a)

    go_on_taken : (premise.kept || is_fact signature premise.atom) ≡ true → (new : Queues) (numbers numbers' : List ℕ) → AreTraced signature (done ++ touch ∷ []) (staying (picked_to_go signature premises uses ++ out) present) new
        → AddsNumbers done (token ∷ uses) (picked_to_go signature premises uses) numbers numbers' → HasTaken signature done present out (premise ∷ premises) (token ∷ uses) touch new numbers numbers'
    go_on_taken stays new numbers numbers' traced adds = record {
      traced = subst (λ (gone : List Token). AreTraced signature (done ++ touch ∷ []) (staying (gone ++ out) present) new) (sym (go_on stays)) traced;
      adds = subst (λ (gone : List Token). AddsNumbers done (token ∷ uses) gone numbers numbers') (sym (go_on stays)) adds;
    }

    -- a fact is picked
    fact_taken : is_fact signature premise.atom ≡ true → (number : ℕ) (old mid new : Queues) (maker : ℕ) (numbers numbers' : List ℕ) → number ≡ length done + 1
        → AreTraced signature done (staying out present) old → ((b : AtomTree) → queue_of mid b ≡ queue_of old b)
        → ((oldest : Trace) (others : List Trace) → queue_of mid (full_instance values premise.atom) ≡ oldest ∷ others → maker ≡ oldest.maker)
        → TakesFor signature values premises number mid new (numbers ++ maker ∷ []) numbers'
        → HasTaken signature done present out (premise ∷ premises) (token ∷ uses) touch new numbers numbers'
    fact_taken fact number old mid new maker numbers numbers' last traced same maker_is rest =
        let traced' = same_traces old mid (staying out present) same traced in
        let front = first_front mid out (fact_oldest fact) traced' in
        let taken = rest done present (token ∷ used) out uses touch last (fact_next fact) traced' in
        go_on_taken (or_right premise.kept (is_fact signature premise.atom) fact) new numbers numbers' taken.traced
        (maker_adds front.0 maker numbers numbers' front.3 (maker_is front.0 front.1 (ap (queue_of mid) (sym is.picks.0.can.of_atom) ∙ front.2)) (picked_to_go signature premises uses) taken.adds)

    cut : (R : Token → Trace → Type 0) (s t : Bool) (tokens : List Token) (trace : Trace) (traces : List Trace) → s ≡ t → AllZip R (cond s (token ∷ tokens) tokens) (cond t (trace ∷ traces) traces) → AllZip R tokens traces
    cut R s t tokens trace traces e all = grind arith

    paste : (R : Token → Trace → Type 0) (s t : Bool) (tokens : List Token) (trace : Trace) (traces : List Trace) → s ≡ t → R token trace → AllZip R tokens traces → AllZip R (cond s (token ∷ tokens) tokens) (cond t (trace ∷ traces) traces)
    paste R s t tokens trace traces e one all = grind arith

    same_test : (b : AtomTree) → eq_by_cmp atom_cmp token.atom b ≡ eq_by_cmp atom_cmp (full_instance values premise.atom) b
    same_test b = ap (λ (a : AtomTree). eq_by_cmp atom_cmp a b) is.picks.0.can.of_atom

    -- the oldest token is taken out of its queue
    popped : is_fact signature premise.atom ≡ false → (old new : Queues) (trace : Trace) → AreTraced signature done (staying out present) old
        → Changes (full_instance values premise.atom) (λ queue. trace ∷ queue) new old
        → IsTrace signature done token trace × AreTraced signature done (staying (token ∷ out) present) new
    popped linear old new trace traced changes =
        (front_first (first_front old out (linear_oldest linear) traced), λ b. cut (IsTrace signature done) (eq_by_cmp atom_cmp token.atom b) (eq_by_cmp atom_cmp (full_instance values premise.atom) b) (tokens_of b (staying (token ∷ out) present)) trace (queue_of new b) (same_test b) (both b))
      where
        both : (b : AtomTree) → AllZip (IsTrace signature done) (cond (eq_by_cmp atom_cmp token.atom b) (token ∷ tokens_of b (staying (token ∷ out) present)) (tokens_of b (staying (token ∷ out) present))) (cond (eq_by_cmp atom_cmp (full_instance values premise.atom) b) (trace ∷ queue_of new b) (queue_of new b))
        both b = subst (λ (row : List Trace). AllZip (IsTrace signature done) (cond (eq_by_cmp atom_cmp token.atom b) (token ∷ tokens_of b (staying (token ∷ out) present)) (tokens_of b (staying (token ∷ out) present))) row) (changes.queues b)
            (subst (λ (tokens : List Token). AllZip (IsTrace signature done) tokens (queue_of old b)) (oldest_first laws present out token b is.increasing (linear_oldest linear)) (traced b))

        front_first : ((one : Trace) × (traces : List Trace) × (queue_of old token.atom ≡ one ∷ traces) × IsTrace signature done token one) → IsTrace signature done token trace
        front_first front =
            let own = ap (λ (t : Bool). cond t (trace ∷ queue_of new token.atom) (queue_of new token.atom)) (sym (same_test token.atom) ∙ itself laws token.atom) in
            let same : front.0 ∷ front.1 ≡ trace ∷ queue_of new token.atom = sym front.2 ∙ changes.queues token.atom ∙ own in
            let one : front.0 ≡ trace = cc in
            subst (λ (t : Trace). IsTrace signature done token t) one front.3

    -- the queue is not empty
    not_empty : is_fact signature premise.atom ≡ false → (old : Queues) → AreTraced signature done (staying out present) old → queue_of old (full_instance values premise.atom) ≡ [] → ⊥
    not_empty linear old traced none = grind (arith, first_front old out (linear_oldest linear) traced, sym (first_front old out (linear_oldest linear) traced).2 ∙ ap (queue_of old) is.picks.0.can.of_atom ∙ none)

    swap_or : (s t u : Bool) → (s || (t || u)) ≡ (t || (s || u))
    swap_or s t u = grind arith

    -- it makes no difference where among those that are out a token stands
    swapped : (gone : List Token) → staying (gone ++ (token ∷ out)) present ≡ staying ((token ∷ gone) ++ out) present
    swapped gone = staying_alike (gone ++ (token ∷ out)) (token ∷ (gone ++ out)) present (λ other there.
        has_append gone (token ∷ out) other.number ∙ swap_or (has_number gone other.number) (token.number == other.number) (has_number out other.number) ∙ ap (λ (t : Bool). token.number == other.number || t) (sym (has_append gone out other.number)))

    -- the token is removed
    gone_taken : is_fact signature premise.atom ≡ false → premise.kept ≡ false → (number : ℕ) (old mid new : Queues) (trace : Trace) (numbers more numbers' : List ℕ) → number ≡ length done + 1
        → AreTraced signature done (staying out present) old → Changes (full_instance values premise.atom) (λ queue. trace ∷ queue) mid old
        → ((n : ℕ) → (Contains more n ↔ (Contains (numbers ++ trace.maker ∷ []) n ⊎ Contains trace.users n)))
        → TakesFor signature values premises number mid new more numbers'
        → HasTaken signature done present out (premise ∷ premises) (token ∷ uses) touch new numbers numbers'
    gone_taken linear goes number old mid new trace numbers more numbers' last traced changes joins rest =
        let pop = popped linear old mid trace traced changes in
        let taken = rest done present (token ∷ used) (token ∷ out) uses touch last (linear_next linear) pop.1 in
        let away = go_away (ap (λ (t : Bool). t || is_fact signature premise.atom) goes ∙ linear) in
        record {
          traced = subst (λ (gone : List Token). AreTraced signature (done ++ touch ∷ []) (staying (gone ++ out) present) new) (sym away)
              (subst (λ (stay : List Token). AreTraced signature (done ++ touch ∷ []) stay new) (swapped (picked_to_go signature premises uses)) taken.traced);
          adds = subst (λ (gone : List Token). AddsNumbers done (token ∷ uses) gone numbers numbers') (sym away)
              (maker_adds trace trace.maker numbers numbers' pop.0 refl (token ∷ picked_to_go signature premises uses)
              (users_add trace (numbers ++ trace.maker ∷ []) more numbers' (own_kind ∙ linear) pop.0 joins (picked_to_go signature premises uses) taken.adds));
        }

    -- the token is put back
    kept_taken : is_fact signature premise.atom ≡ false → premise.kept ≡ true → (number : ℕ) (old mid late new : Queues) (trace trace' : Trace) (numbers numbers' : List ℕ) → number ≡ length done + 1
        → AreTraced signature done (staying out present) old → Changes (full_instance values premise.atom) (λ queue. trace ∷ queue) mid old
        → trace'.maker ≡ trace.maker → trace'.users ≡ trace.users ++ number ∷ []
        → TakesFor signature values premises number mid late (numbers ++ trace.maker ∷ []) numbers'
        → Changes (full_instance values premise.atom) (λ queue. trace' ∷ queue) late new
        → HasTaken signature done present out (premise ∷ premises) (token ∷ uses) touch new numbers numbers'
    kept_taken linear kept number old mid late new trace trace' numbers numbers' last traced changes maker users rest back =
        let pop = popped linear old mid trace traced changes in
        let taken = rest done present (token ∷ used) (token ∷ out) uses touch last (linear_next linear) pop.1 in
        let traced' = subst (λ (stay : List Token). AreTraced signature (done ++ touch ∷ []) stay late) (swapped (picked_to_go signature premises uses)) taken.traced in
        go_on_taken (ap (λ (t : Bool). t || is_fact signature premise.atom) kept) new numbers numbers'
        (λ b. subst (λ (row : List Trace). AllZip (IsTrace signature (done ++ touch ∷ [])) (tokens_of b (staying (picked_to_go signature premises uses ++ out) present)) row) (sym (back.queues b))
        (subst (λ (tokens : List Token). AllZip (IsTrace signature (done ++ touch ∷ [])) tokens (cond (eq_by_cmp atom_cmp (full_instance values premise.atom) b) (trace' ∷ queue_of late b) (queue_of late b))) (sym (oldest_first laws present (picked_to_go signature premises uses ++ out) token b is.increasing oldest))
        (paste (IsTrace signature (done ++ touch ∷ [])) (eq_by_cmp atom_cmp token.atom b) (eq_by_cmp atom_cmp (full_instance values premise.atom) b) (tokens_of b (staying (token ∷ (picked_to_go signature premises uses ++ out)) present)) trace' (queue_of late b) (same_test b)
        (used_trace signature done touch token trace trace' number last maker users pop.0 (is.fresh token there_token) ((is.all token).1 (inr (contains_first token uses)))) (traced' b))))
        (maker_adds trace trace.maker numbers numbers' pop.0 refl (picked_to_go signature premises uses) taken.adds)
      where
        not_gone : (t : Bool) → has_number (picked_to_go signature premises uses) token.number ≡ t → t ≡ false
        not_gone true e =
            let x = number_of (picked_to_go signature premises uses) token.number e in
            let among = removed_used signature premises uses x.0 x.1 in
            let same = one_token present x.0 token is.increasing (picks_present signature values present (token ∷ used) premises uses x.0 is.picks.1 among) there_token x.2 in
            absurd (picks_apart signature values present (token ∷ used) premises uses token is.picks.1 (subst (λ (t : Token). Contains uses t) same among) (own_kind ∙ linear) (contains_first token used))
        not_gone false e = refl

        right_false : (s t : Bool) → (s || t) ≡ false → t ≡ false
        right_false true t e = absurd (false≢true (sym e))
        right_false false t e = e

        oldest : IsOldest present (picked_to_go signature premises uses ++ out) token
        oldest = record {
          there = there_token;
          here = has_append (picked_to_go signature premises uses) out token.number ∙ or_false (has_number (picked_to_go signature premises uses) token.number) (has_number out token.number) (not_gone (has_number (picked_to_go signature premises uses) token.number) refl) (linear_oldest linear).here;
          oldest = λ other there same free. (linear_oldest linear).oldest other there same
              (right_false (has_number (picked_to_go signature premises uses) other.number) (has_number out other.number) (sym (has_append (picked_to_go signature premises uses) out other.number) ∙ free));
        }

  pub fact_takes : (premise : PremiseTree) (premises : List PremiseTree) (number : ℕ) (old mid new : Queues) (id maker : ℕ) (numbers numbers' : List ℕ) → is_fact signature premise.atom ≡ true
      → GetsId old (full_instance values premise.atom) id mid
      → ((oldest : Trace) (others : List Trace) → queue_of mid (full_instance values premise.atom) ≡ oldest ∷ others → maker ≡ oldest.maker)
      → TakesFor signature values premises number mid new (numbers ++ maker ∷ []) numbers'
      → TakesFor signature values (premise ∷ premises) number old new numbers numbers'
  fact_takes premise premises number old mid new id maker numbers numbers' fact meets maker_is rest done present used out [] touch last is traced = absurd is.picks
  fact_takes premise premises number old mid new id maker numbers numbers' fact meets maker_is rest done present used out (token ∷ uses) touch last is traced =
      fact_taken premise premises done present used out token uses touch is fact number old mid new maker numbers numbers' last traced meets.queues maker_is rest

  pub none_takes : (premise : PremiseTree) (premises : List PremiseTree) (number : ℕ) (old mid new : Queues) (id : ℕ) (numbers numbers' : List ℕ) → is_fact signature premise.atom ≡ false
      → GetsId old (full_instance values premise.atom) id mid → queue_of mid (full_instance values premise.atom) ≡ []
      → TakesFor signature values (premise ∷ premises) number old new numbers numbers'
  none_takes premise premises number old mid new id numbers numbers' linear meets none done present used out [] touch last is traced = absurd is.picks
  none_takes premise premises number old mid new id numbers numbers' linear meets none done present used out (token ∷ uses) touch last is traced =
      absurd (not_empty premise premises done present used out token uses touch is linear old traced (sym (meets.queues (full_instance values premise.atom)) ∙ none))

  pub gone_takes : (premise : PremiseTree) (premises : List PremiseTree) (number : ℕ) (old met mid new : Queues) (id : ℕ) (trace : Trace) (numbers more numbers' : List ℕ) → is_fact signature premise.atom ≡ false → premise.kept ≡ false
      → GetsId old (full_instance values premise.atom) id met
      → Changes (full_instance values premise.atom) (λ queue. trace ∷ queue) mid met
      → ((n : ℕ) → (Contains more n ↔ (Contains (numbers ++ trace.maker ∷ []) n ⊎ Contains trace.users n)))
      → TakesFor signature values premises number mid new more numbers'
      → TakesFor signature values (premise ∷ premises) number old new numbers numbers'
  gone_takes premise premises number old met mid new id trace numbers more numbers' linear goes meets changes joins rest done present used out [] touch last is traced = absurd is.picks
  gone_takes premise premises number old met mid new id trace numbers more numbers' linear goes meets changes joins rest done present used out (token ∷ uses) touch last is traced =
      gone_taken premise premises done present used out token uses touch is linear goes number met mid new trace numbers more numbers' last
      (same_traces premise premises done present used out token uses touch is old met (staying out present) meets.queues traced) changes joins rest

  pub kept_takes : (premise : PremiseTree) (premises : List PremiseTree) (number : ℕ) (old met mid late new : Queues) (id : ℕ) (trace trace' : Trace) (numbers numbers' : List ℕ) → is_fact signature premise.atom ≡ false → premise.kept ≡ true
      → GetsId old (full_instance values premise.atom) id met
      → Changes (full_instance values premise.atom) (λ queue. trace ∷ queue) mid met
      → trace'.maker ≡ trace.maker → trace'.users ≡ trace.users ++ number ∷ []
      → TakesFor signature values premises number mid late (numbers ++ trace.maker ∷ []) numbers'
      → Changes (full_instance values premise.atom) (λ queue. trace' ∷ queue) late new
      → TakesFor signature values (premise ∷ premises) number old new numbers numbers'
  kept_takes premise premises number old met mid late new id trace trace' numbers numbers' linear kept meets changes maker users rest back done present used out [] touch last is traced = absurd is.picks
  kept_takes premise premises number old met mid late new id trace trace' numbers numbers' linear kept meets changes maker users rest back done present used out (token ∷ uses) touch last is traced =
      kept_taken premise premises done present used out token uses touch is linear kept number met mid late new trace trace' numbers numbers' last
      (same_traces premise premises done present used out token uses touch is old met (staying out present) meets.queues traced) changes maker users rest back

-- one list after another
pub joined : (old more new : List ℕ) → new ≡ old ++ more → (n : ℕ) → (Contains new n ↔ (Contains old n ⊎ Contains more n))
joined old more new is n = (
  λ there. contains_either old more n (subst (λ (ns : List ℕ). Contains ns n) is there),
  λ either. subst (λ (ns : List ℕ). Contains ns n) (sym is) (⊎_elim (λ before. contains_left old more n before) (λ later. contains_right old more n later) either),
)
