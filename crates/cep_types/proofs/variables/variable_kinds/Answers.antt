use Rattle.std.proofs.Common.{◌≡◌}
use Rattle.std.proofs.lemmas.Simd.{map-map}
use Rattle.cep_types.specs.Heads.{sorts_said}
use Rattle.cep_types.specs.Met.{kinds_met}
use Rattle.cep_types.proofs.variables.variable_kinds.Goals as goal

pub returns : goal.returns
returns c =
    let same : sorts_said c.args.source.now c.deref.result.now ≡ kinds_met c.args.source.now c.args.variables.now.firsts = rw (c.deref.ensures.value, c.in_ok-types.ensures) (simp map-map) in
    rw same at c.kinds.ensures
