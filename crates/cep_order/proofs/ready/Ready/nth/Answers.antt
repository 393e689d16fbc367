use Rattle.std.proofs.Common.{◌≡◌, ℕ, ◌+◌, ◌-◌, ◌*◌, ◌^◌, ◌/◌, ◌<◌, ap, sym, ◌∙◌, subst, arith, List, Bool, Some, length, true, false, get_or}
use Rattle.std.specs.Prelude.{slice_get}
use Rattle.cep_order.specs.Flags.{set_places, set_before}
use Rattle.cep_order.specs.Counts.{IsTree, IsLeafOf}
use Rattle.cep_order.proofs.Trees.{as_many, place_found}
use Rattle.cep_order.proofs.ready.Ready.nth.Goals as goal

-- The leaf, and where its block begins.
module _ (now flags read : List Bool) (counts : List ℕ) (height k leaf left size : ℕ) (view : flags ≡ now) (tree : IsTree flags counts height) (same : read ≡ flags) (few : k < length (set_places now)) (long : size ≡ length counts)
    (found : IsTree flags counts height → k < set_before flags (length flags) → IsLeafOf flags counts height k leaf left) where
  in_all : k < set_before flags (length flags)
  in_all = omega (arith, few, ap (λ (fs : List Bool). length (set_places fs)) view, as_many 0 flags)

  begins : set_before flags ((leaf - size / 2) * 64) + left ≡ k
  begins =
      let start : (leaf - size / 2) * 64 ≡ (leaf - 2 ^ height) * 64 = omega (arith, tree.size) in
      omega (arith, (found tree in_all).before, ap (set_before flags) start)

  pub few_before : set_before read ((leaf - size / 2) * 64) + left < set_before read (length read)
  few_before = subst (λ (fs : List Bool). set_before fs ((leaf - size / 2) * 64) + left < set_before fs (length fs)) (sym same) (omega (arith, begins, in_all))

  pub found_at : (place : ℕ) → get_or read place false ≡ true → set_before read place ≡ set_before read ((leaf - size / 2) * 64) + left → slice_get (set_places now) k ≡ Some place
  found_at place on before =
      let at : set_before flags place ≡ k = subst (λ (fs : List Bool). set_before fs place ≡ set_before fs ((leaf - size / 2) * 64) + left) same before ∙ begins in
      let there = place_found 0 flags place (ap (λ (fs : List Bool). get_or fs place false) (sym same) ∙ on) in
      subst (λ (fs : List Bool). slice_get (set_places fs) k ≡ Some place) view (ap (slice_get (set_places flags)) (sym at) ∙ there ∙ ap Some (omega arith))

pub overflow_mul-leaf : goal.overflow_mul-leaf
overflow_mul-leaf c = omega (arith, c.leaf_of-leaf.ensures.within, ap length c.deref.ensures.value, c.self.invariant.size, c.self.invariant.few_leaves)

pub place_in-requires : goal.place_in-requires
place_in-requires c =
    let fields = c.self.inside in
    few_before c.args.self.now fields.flags.items c.deref-2.result.now fields.counts.items fields.height c.args.k c.leaf_of-leaf.result.0 c.leaf_of-leaf.result.1 c.len.result c.self.view_is c.self.invariant c.deref-2.ensures.value c.requires
    (omega (arith, c.len.ensures, fields.counts.ok.0)) (rw c.deref.ensures.value at (c.leaf_of-leaf.ensures.leaf fields.flags.items))

pub returns : goal.returns
returns c =
    let fields = c.self.inside in
    found_at c.args.self.now fields.flags.items c.deref-2.result.now fields.counts.items fields.height c.args.k c.leaf_of-leaf.result.0 c.leaf_of-leaf.result.1 c.len.result c.self.view_is c.self.invariant c.deref-2.ensures.value c.requires
    (omega (arith, c.len.ensures, fields.counts.ok.0)) (rw c.deref.ensures.value at (c.leaf_of-leaf.ensures.leaf fields.flags.items)) c.place_in.result c.place_in.ensures.is_set c.place_in.ensures.before
