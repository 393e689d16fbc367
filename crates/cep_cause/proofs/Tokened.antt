-- The tokens that are present, those that are picked, and those that are used.
use Rattle.std.proofs.Common.{◌≡◌, ◌⊎◌, inl, inr, ⊎_elim, ℕ, zero, suc, ◌+◌, ◌<◌, ◌≤◌, true, not, List, [], ◌∷◌, length, refl, sym, ap, ◌∙◌, subst, arith, Contains, Bool, false, cond, ◌||◌, ◌&&◌, map, ◌≢◌, replicate, ◌++◌}
use Rattle.std.specs.Prelude.{slice_get, Some, nat_lt, fold}
use Rattle.std.specs.List.{filter, sum_by, flat_map}
use Rattle.std.proofs.lemmas.Bool.{false≢true}
use Rattle.cep_base.proofs.Elements.{contains_none, contains_behind, contains_cases, contains_same, contains_either, contains_first, contains_left, contains_right}
use Rattle.cep_base.proofs.Lists.{none_some, some_same}
use Rattle.cep_log.specs.declared.log.LogStep.{LogStep}
use Rattle.cep_rule.specs.Instances.{full_instances}
use Rattle.cep_term.specs.Tree.{Tree, AtomTree}
use Rattle.cep_term.specs.BagLaws.{BagLaws}
use Rattle.cep_term.specs.Multiset.{Multiset, count_of, with_one, gathered, gained, with_count}
use Rattle.cep_rule.specs.declared.signature.Signature.{Signature}
use Rattle.cep_rule.specs.declared.parts.Parts.{Parts}
use Rattle.cep_rule.specs.Patterns.{PremiseTree}
use Rattle.cep_rule.specs.Typing.{is_fact}
use Rattle.cep_cause.specs.Tokens.{Token, numbered, has_number, staying, ArePicks, picked_to_go, token_atoms, listed_copies, start_tokens}
use Rattle.cep_cause.specs.Touches.{Touch, present_after, IsTouch, AreTouches}
use Rattle.cep_term.specs.Order.{atom_cmp}
use Rattle.cep_cause.proofs.Distinct.{filter_cases, Differ, differ_both, filter_there, filter_differ, weigh_the_same}
use Rattle.std.proofs.lemmas.List.Sums.{sum_by-cons, sum_by-append}
use Rattle.std.specs.Ordering.{is_eq, eq_by_cmp}
use Rattle.std.specs.Cmp.{tied_itself, Equal-is}
use Rattle.std.specs.FinMap as finite

-- Which tokens are used, by the old order of the steps.

-- numbers of tokens that are made
pub made_later : (next : ℕ) (atoms : List AtomTree) (token : Token) → Contains (numbered next atoms) token → (next ≤ token.number) × (token.number < next + length (numbered next atoms))
made_later next [] token there = absurd (contains_none token there)
made_later next (a ∷ atoms) token there =
    ⊎_elim
    (λ (same : record { number = next; atom = a } ≡ token). let is : next ≡ token.number = ap (λ (t : Token). t.number) same in ((omega arith), (omega arith)))
    (λ later. let is = made_later (next + 1) atoms token later in ((omega (arith, is.0)), (omega (arith, is.1))))
    (contains_cases (record { number = next; atom = a }) (numbered (next + 1) atoms) token there)

-- a token that is used is present
pub picks_present : (signature : Signature) (values : List Tree) (present used : List Token) (premises : List PremiseTree) (tokens : List Token) (token : Token)
    → ArePicks signature values present used premises tokens → Contains tokens token → Contains present token
picks_present signature values present used (premise ∷ premises) (first ∷ tokens) token picks there =
    ⊎_elim
    (λ same. subst (λ (t : Token). Contains present t) same picks.0.can.there)
    (λ later. picks_present signature values present (first ∷ used) premises tokens token picks.1 later)
    (contains_cases first tokens token there)
picks_present signature values present used premises tokens token picks there = grind arith

-- a token that is removed is used
pub removed_used : (signature : Signature) (premises : List PremiseTree) (tokens : List Token) (token : Token) → Contains (picked_to_go signature premises tokens) token → Contains tokens token
removed_used signature (premise ∷ premises) (first ∷ tokens) token there = grind (arith, contains_behind, contains_same, contains_cases, premise.kept, premise.atom, removed_used signature premises tokens token)
removed_used signature premises tokens token there = grind (arith, contains_none)

-- a token that is among others has its number there
pub numbered_there : (tokens : List Token) (token : Token) → Contains tokens token → has_number tokens token.number ≡ true
numbered_there [] token there = absurd (contains_none token there)
numbered_there (first ∷ tokens) token there = grind (arith, numbered_there tokens token, contains_cases first tokens token)

-- what is removed does not stay
pub removed_gone : (removed present : List Token) (token : Token) → Contains removed token → Contains (staying removed present) token → ⊥
removed_gone removed present token there stays = false≢true (ap not (sym (numbered_there removed token there)) ∙ (filter_cases (λ (t : Token). not (has_number removed t.number)) present token stays).1)

-- what stays was there
pub stayed : (removed present : List Token) (token : Token) → Contains (staying removed present) token → Contains present token
stayed removed present token stays = (filter_cases (λ (t : Token). not (has_number removed t.number)) present token stays).0

-- The token is made by a step before a place.
pub record IsMadeBefore (touches : List Touch) (place : ℕ) (token : Token) : Type 0 where
  pub maker : ℕ
  pub touch : Touch
  pub at : slice_get touches maker ≡ Some touch
  pub before : maker < place
  pub makes : Contains touch.makes token

made_by_first : (first : Touch) (touches : List Touch) (place : ℕ) (token : Token) → Contains first.makes token → IsMadeBefore (first ∷ touches) (suc place) token
made_by_first first touches place token makes = record { maker = 0; touch = first; at = refl; before = omega arith; makes = makes }

made_behind : (first : Touch) (touches : List Touch) (place : ℕ) (token : Token) → IsMadeBefore touches place token → IsMadeBefore (first ∷ touches) (suc place) token
made_behind first touches place token is = record { maker = suc is.maker; touch = is.touch; at = is.at; before = let b = is.before in omega arith; makes = is.makes }

module _ (program : Parts) where
  -- numbers of the tokens that a step makes
  pub touch_makes : (next : ℕ) (present : List Token) (step : LogStep) (touch : Touch) (token : Token) → IsTouch program next present step touch → Contains touch.makes token → next ≤ token.number
  touch_makes next present step touch token is there = (made_later next _ token (subst (λ (tokens : List Token). Contains tokens token) is.makes there)).0

  -- A token that is not present, and is not to be made later, is never used again.
  never_again : (next : ℕ) (present : List Token) (steps : List LogStep) (touches : List Touch) (place : ℕ) (touch : Touch) (token : Token)
      → AreTouches program next present steps touches → token.number < next → (Contains present token → ⊥) → slice_get touches place ≡ Some touch → Contains touch.uses token → ⊥
  never_again next present [] [] place touch token are old gone at there = none_some touch at
  never_again next present (step ∷ steps) (first ∷ touches) zero touch token are old gone at there =
      let is = are.0 in
      gone (picks_present program.signature step.offer.values present [] is.rule.premises first.uses token is.uses (subst (λ (t : Touch). Contains t.uses token) (sym (some_same first touch at)) there))
  never_again next present (step ∷ steps) (first ∷ touches) (suc place) touch token are old gone at there =
      never_again (next + length first.makes) (present_after present first) steps touches place touch token are.1 (omega arith)
      (λ still. ⊎_elim
      (λ stays. gone (stayed first.removes present token stays))
      (λ made. let late = touch_makes next present step first token are.0 made in omega arith)
      (contains_either (staying first.removes present) first.makes token still))
      at there
  never_again next present steps touches place touch token are old gone at there = absurd are

  -- The numbers of the tokens that are present are below the next one.
  abbrev pub AreBelow : ℕ → List Token → Type 0
  AreBelow next present = (token : Token) → Contains present token → token.number < next

  pub below_after : (next : ℕ) (present : List Token) (step : LogStep) (touch : Touch) → IsTouch program next present step touch → AreBelow next present → AreBelow (next + length touch.makes) (present_after present touch)
  below_after next present step touch is below token there =
      ⊎_elim
      (λ stays. let few = below token (stayed touch.removes present token stays) in omega arith)
      (λ made. let late = (made_later next _ token (subst (λ (tokens : List Token). Contains tokens token) is.makes made)).1 in let same = ap (λ (tokens : List Token). length tokens) is.makes in omega arith)
      (contains_either (staying touch.removes present) touch.makes token there)

  -- A token that a step removes is not used by a later one.
  pub not_used_later : (next : ℕ) (present : List Token) (steps : List LogStep) (touches : List Touch) (one other : ℕ) (touch touch' : Touch) (token : Token)
      → AreTouches program next present steps touches → AreBelow next present → one < other → slice_get touches one ≡ Some touch → slice_get touches other ≡ Some touch'
      → Contains touch.removes token → Contains touch'.uses token → ⊥
  not_used_later next present [] [] one other touch touch' token are below earlier at at' removes uses = none_some touch at
  not_used_later next present (step ∷ steps) (first ∷ touches) one zero touch touch' token are below earlier at at' removes uses = omega arith
  not_used_later next present (step ∷ steps) (first ∷ touches) zero (suc other) touch touch' token are below earlier at at' removes uses =
      let is = are.0 in
      let removes' : Contains first.removes token = subst (λ (t : Touch). Contains t.removes token) (sym (some_same first touch at)) removes in
      let used : Contains first.uses token = removed_used program.signature is.rule.premises first.uses token (subst (λ (tokens : List Token). Contains tokens token) is.removes removes') in
      let here = picks_present program.signature step.offer.values present [] is.rule.premises first.uses token is.uses used in
      never_again (next + length first.makes) (present_after present first) steps touches other touch' token are.1 (let few = below token here in omega arith)
      (λ still. ⊎_elim
      (λ stays. removed_gone first.removes present token removes' stays)
      (λ made. let late = touch_makes next present step first token is made in let few = below token here in omega arith)
      (contains_either (staying first.removes present) first.makes token still))
      at' uses
  not_used_later next present (step ∷ steps) (first ∷ touches) (suc one) (suc other) touch touch' token are below earlier at at' removes uses =
      not_used_later (next + length first.makes) (present_after present first) steps touches one other touch touch' token are.1 (below_after next present step first are.0 below) (omega arith) at at' removes uses
  not_used_later next present steps touches one other touch touch' token are below earlier at at' removes uses = absurd are

  -- A token that a step uses was present at first, or an earlier step made it.
  pub comes_from : (next : ℕ) (present : List Token) (steps : List LogStep) (touches : List Touch) (place : ℕ) (touch : Touch) (token : Token)
      → AreTouches program next present steps touches → slice_get touches place ≡ Some touch → Contains touch.uses token → Contains present token ⊎ IsMadeBefore touches place token
  comes_from next present [] [] place touch token are at there = none_some touch at
  comes_from next present (step ∷ steps) (first ∷ touches) zero touch token are at there =
      let is = are.0 in
      inl (picks_present program.signature step.offer.values present [] is.rule.premises first.uses token is.uses (subst (λ (t : Touch). Contains t.uses token) (sym (some_same first touch at)) there))
  comes_from next present (step ∷ steps) (first ∷ touches) (suc place) touch token are at there =
      ⊎_elim
      (λ here. ⊎_elim
      (λ stays. inl (stayed first.removes present token stays))
      (λ made. inr (made_by_first first touches place token made))
      (contains_either (staying first.removes present) first.makes token here))
      (λ is. inr (made_behind first touches place token is))
      (comes_from (next + length first.makes) (present_after present first) steps touches place touch token are.1 at there)
  comes_from next present steps touches place touch token are at there = absurd are

-- What is picked: its atoms, and that nothing linear is picked twice.

-- the linear tokens among some
abbrev pub linear_of : Signature → List Token → List Token
linear_of signature tokens = filter (λ (token : Token). not (is_fact signature token.atom)) tokens

module _ (signature : Signature) (values : List Tree) (present : List Token) where
  -- the atoms of what is picked
  pub picks_atoms : (used : List Token) (premises : List PremiseTree) (tokens : List Token) → ArePicks signature values present used premises tokens
      → full_instances values (map (λ (premise : PremiseTree). premise.atom) premises) ≡ token_atoms tokens
  picks_atoms used (premise ∷ premises) (token ∷ tokens) picks = grind (arith, picks_atoms (token ∷ used) premises tokens picks.1, picks.1, picks.0.can.of_atom)
  picks_atoms used premises tokens picks = grind arith

  -- the atoms of what is removed
  pub removed_atoms : (used : List Token) (premises : List PremiseTree) (tokens : List Token) → ArePicks signature values present used premises tokens
      → full_instances values (map (λ (premise : PremiseTree). premise.atom) (filter (λ (premise : PremiseTree). not (premise.kept || is_fact signature premise.atom)) premises)) ≡ token_atoms (picked_to_go signature premises tokens)
  removed_atoms used (premise ∷ premises) (token ∷ tokens) picks = grind (arith, premise.kept, premise.atom, removed_atoms (token ∷ used) premises tokens picks.1, picks.1, picks.0.can.of_atom)
  removed_atoms used premises tokens picks = grind arith

  -- A linear token that is picked was not used.
  pub picks_apart : (used : List Token) (premises : List PremiseTree) (tokens : List Token) (token : Token) → ArePicks signature values present used premises tokens
      → Contains tokens token → is_fact signature token.atom ≡ false → Contains used token → ⊥
  picks_apart used (premise ∷ premises) (first ∷ tokens) token picks there linear was =
      ⊎_elim
      (λ same.
      let is : is_fact signature first.atom ≡ false = ap (λ (t : Token). is_fact signature t.atom) same ∙ linear in
      picks.0.can.unused (ap (is_fact signature) (sym picks.0.can.of_atom) ∙ is) (subst (λ (t : Token). Contains used t) (sym same) was))
      (λ later. picks_apart (first ∷ used) premises tokens token picks.1 later linear (contains_behind first used token was))
      (contains_cases first tokens token there)
  picks_apart used premises tokens token picks there linear was = grind arith

  is_linear : (tokens : List Token) (token : Token) → Contains (linear_of signature tokens) token → Contains tokens token × (is_fact signature token.atom ≡ false)
  is_linear tokens token there = let is = filter_cases (λ (token : Token). not (is_fact signature token.atom)) tokens token there in (is.0, not_true (is_fact signature token.atom) is.1)
    where
      not_true : (t : Bool) → not t ≡ true → t ≡ false
      not_true true e = absurd (false≢true e)
      not_true false e = refl

  pub linear_used : (tokens : List Token) (token : Token) → Contains (linear_of signature tokens) token → Contains tokens token
  linear_used tokens token there = (is_linear tokens token there).0

  -- No linear token is picked twice.
  pub picks_differ : (used : List Token) (premises : List PremiseTree) (tokens : List Token) → ArePicks signature values present used premises tokens → Differ (linear_of signature tokens)
  picks_differ used (premise ∷ premises) (first ∷ tokens) picks = by (is_fact signature first.atom) (picks_differ (first ∷ used) premises tokens picks.1)
    where
      by : (t : Bool) → Differ (linear_of signature tokens) → Differ (cond (not t) (first ∷ linear_of signature tokens) (linear_of signature tokens))
      by true rest = rest
      by false rest =
          (λ there. let is = is_linear tokens first there in picks_apart (first ∷ used) premises tokens first picks.1 is.0 is.1 (contains_first first used), rest)
  picks_differ used premises tokens picks = grind arith

  -- Nothing is removed twice.
  pub removes_differ : (used : List Token) (premises : List PremiseTree) (tokens : List Token) → ArePicks signature values present used premises tokens → Differ (picked_to_go signature premises tokens)
  removes_differ used (premise ∷ premises) (first ∷ tokens) picks = by (premise.kept || is_fact signature premise.atom) refl (removes_differ (first ∷ used) premises tokens picks.1)
    where
      linear : (s t : Bool) → (s || t) ≡ false → t ≡ false
      linear true t e = absurd (false≢true (sym e))
      linear false t e = e

      by : (t : Bool) → (premise.kept || is_fact signature premise.atom) ≡ t → Differ (picked_to_go signature premises tokens) → Differ (cond t (picked_to_go signature premises tokens) (first ∷ picked_to_go signature premises tokens))
      by true e rest = rest
      by false e rest = (
        λ there.
            picks_apart (first ∷ used) premises tokens first picks.1 (removed_used signature premises tokens first there)
            (ap (is_fact signature) picks.0.can.of_atom ∙ linear premise.kept (is_fact signature premise.atom) e)
            (contains_first first used),
        rest,
      )
  removes_differ used premises tokens picks = grind arith

module _ (laws : BagLaws) (a : AtomTree) where
  -- 1 for a token of the atom, and 0 for others
  abbrev pub weight : Token → ℕ
  weight token = count_of (gathered (token.atom ∷ [])) a

  one_more : (b : AtomTree) (atoms : List AtomTree) → count_of (gathered (b ∷ atoms)) a ≡ count_of (gathered (b ∷ [])) a + count_of (gathered atoms) a
  one_more b atoms = laws.joined_count (b ∷ []) atoms a

  pub weigh_tokens : (tokens : List Token) → sum_by weight tokens ≡ count_of (gathered (token_atoms tokens)) a
  weigh_tokens [] = sym (laws.empty a)
  weigh_tokens (token ∷ tokens) = sum_by-cons weight token tokens ∙ ap (λ n. weight token + n) (weigh_tokens tokens) ∙ sym (one_more token.atom (token_atoms tokens))

  -- no more is gained than comes
  pub gained_less : (test : AtomTree → Bool) (bag : Multiset) (atoms : List AtomTree) → count_of (gathered (gained test bag atoms)) a ≤ count_of (gathered atoms) a
  gained_less test bag [] = omega arith
  gained_less test bag (b ∷ atoms) = by (test b && nat_lt 0 (count_of bag b)) (gained_less test bag atoms) (gained_less test (with_one bag b) atoms)
    where
      by : (t : Bool) → count_of (gathered (gained test bag atoms)) a ≤ count_of (gathered atoms) a → count_of (gathered (gained test (with_one bag b) atoms)) a ≤ count_of (gathered atoms) a
          → count_of (gathered (cond t (gained test bag atoms) (b ∷ gained test (with_one bag b) atoms))) a ≤ count_of (gathered (b ∷ atoms)) a
      by true less less' = let more = one_more b atoms in omega arith
      by false less less' = let more = one_more b atoms in let more' = one_more b (gained test (with_one bag b) atoms) in omega arith

  -- tokens are made for their atoms
  pub numbered_atoms : (next : ℕ) (atoms : List AtomTree) → token_atoms (numbered next atoms) ≡ atoms
  numbered_atoms next [] = refl
  numbered_atoms next (b ∷ atoms) = ap (λ rest. b ∷ rest) (numbered_atoms (next + 1) atoms)

-- The tokens of a start state are its copies.

module _ (laws : BagLaws) where
  -- two atoms are one or they are not
  pub one_or_two : (a b : AtomTree) → (a ≡ b) ⊎ (a ≢ b)
  one_or_two a b = by (eq_by_cmp atom_cmp a b) refl
    where
      by : (t : Bool) → eq_by_cmp atom_cmp a b ≡ t → (a ≡ b) ⊎ (a ≢ b)
      by true e = inl (laws.ties a b ((Equal-is (atom_cmp a b)).0 e))
      by false e = inr (λ same. false≢true (sym e ∙ ap (eq_by_cmp atom_cmp a) (sym same) ∙ ap is_eq (tied_itself laws.total a)))

  module _ (a : AtomTree) where
    own_copies : (n : ℕ) → count_of (gathered (replicate n a)) a ≡ n
    own_copies zero = laws.empty a
    own_copies (suc n) = laws.own (gathered (replicate n a)) a (count_of (gathered (replicate n a)) a + 1) ∙ (let rest = own_copies n in omega arith)

    other_copies : (b : AtomTree) (n : ℕ) → a ≢ b → count_of (gathered (replicate n b)) a ≡ 0
    other_copies b zero apart = laws.empty a
    other_copies b (suc n) apart = laws.others (gathered (replicate n b)) b a (count_of (gathered (replicate n b)) b + 1) apart ∙ other_copies b n apart

    one_entry : (bag : Multiset) (b : AtomTree) (n : ℕ) → count_of (with_count bag b (count_of bag b + n)) a ≡ count_of bag a + count_of (gathered (replicate n b)) a
    one_entry bag b n = grind (arith, own_copies, other_copies, one_or_two, laws.own, laws.others)

    all_entries : (bag : Multiset) (entries : List (AtomTree × ℕ))
        → count_of (fold (λ (so_far : Multiset) (e : AtomTree × ℕ). with_count so_far e.0 (count_of so_far e.0 + e.1)) bag entries) a ≡ count_of bag a + count_of (gathered (flat_map (λ (e : AtomTree × ℕ). replicate e.1 e.0) entries)) a
    all_entries bag [] = let none = laws.empty a in omega arith
    all_entries bag (e ∷ entries) = grind (arith, one_entry, e.0, e.1, all_entries (with_count bag e.0 (count_of bag e.0 + e.1)) entries, laws.joined_count)

    -- of each atom there are as many tokens as copies
    pub start_counts : (state : Multiset) → count_of (gathered (token_atoms (start_tokens state))) a ≡ count_of state a
    start_counts state = omega (arith, all_entries finite.empty (finite.entries state), laws.sum finite.empty state a, laws.empty a, ap (λ (atoms : List AtomTree). count_of (gathered atoms) a) (numbered_atoms laws a 0 (listed_copies state)))

-- The tokens that are present: no two have one number; and what a step leaves of them.

-- No two tokens have one number.
abbrev pub HaveOneNumber : List Token → Type 0
HaveOneNumber tokens = (one other : Token) → Contains tokens one → Contains tokens other → one.number ≡ other.number → one ≡ other

pub numbered_one : (next : ℕ) (atoms : List AtomTree) → HaveOneNumber (numbered next atoms)
numbered_one next [] one other here there same = absurd (contains_none one here)
numbered_one next (a ∷ atoms) one other here there same =
    let first : Token = record { number = next; atom = a } in
    ⊎_elim
    (λ (is : first ≡ one). ⊎_elim
    (λ (is' : first ≡ other). sym is ∙ is')
    (λ later. let few = (made_later (next + 1) atoms other later).0 in let own = ap (λ (t : Token). t.number) is in absurd (omega arith))
    (contains_cases first (numbered (next + 1) atoms) other there))
    (λ later. ⊎_elim
    (λ (is' : first ≡ other). let few = (made_later (next + 1) atoms one later).0 in let own = ap (λ (t : Token). t.number) is' in absurd (omega arith))
    (λ later'. numbered_one (next + 1) atoms one other later later' same)
    (contains_cases first (numbered (next + 1) atoms) other there))
    (contains_cases first (numbered (next + 1) atoms) one here)

pub numbered_differ : (next : ℕ) (atoms : List AtomTree) → Differ (numbered next atoms)
numbered_differ next [] = tt
numbered_differ next (a ∷ atoms) = (λ there. let few = (made_later (next + 1) atoms (record { number = next; atom = a }) there).0 in omega arith, numbered_differ (next + 1) atoms)

-- a number that is there is that of a token
number_of : (tokens : List Token) (n : ℕ) → has_number tokens n ≡ true → (token : Token) × Contains tokens token × (token.number ≡ n)
number_of [] n is = absurd (false≢true is)
number_of (first ∷ tokens) n is = grind (arith, number_of tokens n, contains_first first tokens, contains_behind first tokens)

-- each token that is present stays or is removed
stays_or_goes : (removed present : List Token) (token : Token) → HaveOneNumber present → ((token : Token) → Contains removed token → Contains present token) → Contains present token → Contains (staying removed present ++ removed) token
stays_or_goes removed present token one within there = by (has_number removed token.number) refl
  where
    by : (t : Bool) → has_number removed token.number ≡ t → Contains (staying removed present ++ removed) token
    by true is =
        let found = number_of removed token.number is in
        contains_right (staying removed present) removed token (subst (λ (t : Token). Contains removed t) (one found.0 token (within found.0 found.1) there found.2) found.1)
    by false is = contains_left (staying removed present) removed token (filter_there (λ (t : Token). not (has_number removed t.number)) present token there (ap not is))

-- Of each atom those that stay and those that are removed are as many as were present.
pub staying_counts : (laws : BagLaws) (a : AtomTree) (removed present : List Token) → HaveOneNumber present → Differ present → Differ removed → ((token : Token) → Contains removed token → Contains present token)
    → count_of (gathered (token_atoms (staying removed present))) a + count_of (gathered (token_atoms removed)) a ≡ count_of (gathered (token_atoms present)) a
staying_counts laws a removed present one differ differ' within =
    let same = weigh_the_same (weight laws a) (staying removed present ++ removed) present
    (differ_both (staying removed present) removed (filter_differ (λ (t : Token). not (has_number removed t.number)) present differ) differ' (λ token stays goes. removed_gone removed present token goes stays))
    differ
    (λ token there. ⊎_elim (λ stays. stayed removed present token stays) (λ goes. within token goes) (contains_either (staying removed present) removed token there))
    (λ token there. stays_or_goes removed present token one within there) in
    let sum = sum_by-append (weight laws a) (staying removed present) removed in
    let stay = weigh_tokens laws a (staying removed present) in
    let go = weigh_tokens laws a removed in
    let all = weigh_tokens laws a present in
    omega arith

module _ (program : Parts) (next : ℕ) (present : List Token) (step : LogStep) (touch : Touch) (is : IsTouch program next present step touch) (below : AreBelow program next present) where
  -- No two tokens have one number after a step.
  pub one_after : HaveOneNumber present → HaveOneNumber (present_after present touch)
  one_after one this other here there same =
      ⊎_elim
      (λ stays. ⊎_elim
      (λ stays'. one this other (stayed touch.removes present this stays) (stayed touch.removes present other stays') same)
      (λ made. let few = below this (stayed touch.removes present this stays) in let many = touch_makes program next present step touch other is made in absurd (omega arith))
      (contains_either (staying touch.removes present) touch.makes other there))
      (λ made. ⊎_elim
      (λ stays'. let few = below other (stayed touch.removes present other stays') in let many = touch_makes program next present step touch this is made in absurd (omega arith))
      (λ made'. numbered_one next _ this other (subst (λ (tokens : List Token). Contains tokens this) is.makes made) (subst (λ (tokens : List Token). Contains tokens other) is.makes made') same)
      (contains_either (staying touch.removes present) touch.makes other there))
      (contains_either (staying touch.removes present) touch.makes this here)

  pub differ_after : Differ present → Differ (present_after present touch)
  differ_after differ =
      differ_both (staying touch.removes present) touch.makes (filter_differ (λ (t : Token). not (has_number touch.removes t.number)) present differ) (subst Differ (sym is.makes) (numbered_differ next _))
      (λ token stays made. let few = below token (stayed touch.removes present token stays) in let many = touch_makes program next present step touch token is made in omega arith)

  -- What a step removes is present, and differs.
  pub goes_present : (token : Token) → Contains touch.removes token → Contains present token
  goes_present token there =
      picks_present program.signature step.offer.values present [] is.rule.premises touch.uses token is.uses
      (removed_used program.signature is.rule.premises touch.uses token (subst (λ (tokens : List Token). Contains tokens token) is.removes there))

  pub goes_differ : Differ touch.removes
  goes_differ = subst Differ (sym is.removes) (removes_differ program.signature step.offer.values present [] is.rule.premises touch.uses is.uses)
