use Rattle.std.proofs.Common.{◌≡◌, map, ap, sym, subst, ◌∙◌}
use Rattle.std.specs.Prelude.{Ok}
use Rattle.std.specs.declared.alloc.AllocError.{AllocError}
use Rattle.std.specs.List.Sorted.{IsPermutation}
use Rattle.std.proofs.lemmas.Iterator.{YieldsList-from_slice}
use Rattle.std.proofs.lemmas.Iterator.Consumers.{map_from_collect}
use Rattle.std.proofs.lemmas.List.Sorted.{IsPermutation-map}
use Rattle.std.proofs.lemmas.Simd.{map-map}
use Rattle.cep_term.specs.Tree.{atom_of}
use Rattle.cep_infer.proofs.start.in_rising_order.Goals as goal

pub returns : goal.returns
returns c =
    let trees = map (λ atom. atom_of atom.now) c.sort_by.new.self.items in
    let all : map (λ atom. atom.now) c.in_ok-rising.rising.items ≡ c.as_slice.result.now = map_from_collect {E = AllocError} (Ok c.in_ok-rising.rising) c.in_ok-rising.ensures.ran (YieldsList-from_slice c.as_slice.result.now c.iter.ensures.rest) in
    subst (λ atoms. IsPermutation atoms trees)
    (sym (map-map atom_of (λ atom. atom.now) c.in_ok-rising.rising.items) ∙ ap (map atom_of) all ∙ c.as_slice.ensures)
    (IsPermutation-map (λ atom. atom_of atom.now) c.in_ok-rising.rising.items c.sort_by.new.self.items c.sort_by.ensures.permutation)
