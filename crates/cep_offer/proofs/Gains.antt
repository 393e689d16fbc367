-- Of atoms that are added those that a state gains, one after another.
use Rattle.std.proofs.Common.{◌≡◌, ℕ, ◌+◌, Bool, List, [], ◌∷◌, Some, arith, true, false, ◌&&◌, ◌++◌, drop, append_assoc}
use Rattle.std.specs.Prelude.{slice_get, nat_lt}
use Rattle.std.specs.FinMap as finite
use Rattle.cep_term.specs.Tree.{AtomTree}
use Rattle.cep_term.specs.BagLaws.{BagLaws}
use Rattle.cep_term.specs.Multiset.{Multiset, count_of, with_one, sum_of, gained}
use Rattle.cep_base.proofs.Drops.{drop_at}
use Rattle.cep_rule.proofs.Copies.{count_more}

module _ (laws : BagLaws) (test : AtomTree → Bool) (state fresh : Multiset) (atoms list whole : List AtomTree) where
  pub none_yet : list ≡ [] → fresh ≡ finite.empty → gained test state atoms ≡ list ++ gained test (sum_of state fresh) atoms
  none_yet none empty = grind (arith, laws.gained_alike, laws.sum, laws.empty)

  pub skipped : (n : ℕ) (a : AtomTree) → whole ≡ list ++ gained test (sum_of state fresh) (drop n atoms) → slice_get atoms n ≡ Some a → (test a && nat_lt 0 (count_of (sum_of state fresh) a)) ≡ true → whole ≡ list ++ gained test (sum_of state fresh) (drop (n + 1) atoms)
  skipped n a so_far is held = grind (arith, drop_at)

  pub taken : (n : ℕ) (a : AtomTree) (fresh' : Multiset) (list' : List AtomTree) → whole ≡ list ++ gained test (sum_of state fresh) (drop n atoms) → slice_get atoms n ≡ Some a → (test a && nat_lt 0 (count_of (sum_of state fresh) a)) ≡ false
      → ((b : AtomTree) → test b ≡ true → count_of fresh' b ≡ count_of (with_one fresh a) b) → list' ≡ list ++ a ∷ []
      → whole ≡ list' ++ gained test (sum_of state fresh') (drop (n + 1) atoms)
  taken n a fresh' list' so_far is held more longer =
      let alike : (b : AtomTree) → test b ≡ true → count_of (with_one (sum_of state fresh) a) b ≡ count_of (sum_of state fresh') b = λ b is'. omega (arith, count_more laws (sum_of state fresh) a b, laws.sum state fresh b, laws.sum state fresh' b, more b is', count_more laws fresh a b) in
      grind (arith, drop_at atoms n a is, laws.gained_alike test (with_one (sum_of state fresh) a) (sum_of state fresh') (drop (n + 1) atoms) alike, append_assoc)
