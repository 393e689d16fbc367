use Rattle.std.proofs.Common.{◌≡◌, ◌∙◌, map, rules, arith}
use Rattle.std.proofs.lemmas.Map.Iter.{iter_end}
use Rattle.std.proofs.lemmas.Simd.{map-map}
use Rattle.std.specs.Map.Iter.{deref_pair}
use Rattle.std.proofs.lemmas.Grind.{common_steps}
use Rattle.cep_base.proofs.first_names.FirstNames.names.Goals as goal

pub returns : goal.returns
returns g c =
    let all : map deref_pair c.loop-name.yielded ≡ c.self.inside.entries.entries = search (rules, iter_end) in
    rw (← c.self.view_is, ← all) (c.loop-name.invariant ∙ simp map-map)

pub loop-name-preserved : goal.loop-name-preserved
loop-name-preserved g c = grind (arith, common_steps)
