use Rattle.std.proofs.Common.{◌≡◌, ◌∙◌, map, rules, arith}
use Rattle.std.proofs.lemmas.Map.Iter.{iter_end}
use Rattle.std.proofs.lemmas.Simd.{map-map}
use Rattle.std.specs.Map.Iter.{deref_pair}
use Rattle.std.proofs.lemmas.Grind.{common_steps}
use Rattle.cep_base.proofs.first_names.FirstNames.values.Goals as goal

pub returns : goal.returns
returns g c =
    let all : map deref_pair c.loop-with.yielded ≡ c.self.inside.entries.entries = search (rules, iter_end) in
    rw (← c.self.view_is, ← all) (c.loop-with.invariant ∙ simp map-map)

pub loop-with-preserved : goal.loop-with-preserved
loop-with-preserved g c = grind (arith, common_steps)
