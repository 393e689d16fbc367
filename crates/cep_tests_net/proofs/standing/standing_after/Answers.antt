use Rattle.std.proofs.Common.{◌≡◌, ◌<◌, ◌∙◌, length, sym, ap, subst, arith}
use Rattle.std.specs.Prelude.{slice_get, Some, IsSomeAnd}
use Rattle.cep_rule.specs.declared.parts.Parts.{Parts}
use Rattle.cep_beta.specs.Beta.{Beta}
use Rattle.cep_net.specs.declared.net.Net.{Net}
use Rattle.cep_tests_net.proofs.Levels.{level_there}
use Rattle.cep_tests_net.proofs.standing.standing_after.Goals as goal

pub standing-requires : goal.standing-requires
standing-requires g c =
    let numbered : slice_get c.args.program.now.rules c.args.rule ≡ Some c.get.result.now = ap (λ (parts : Parts). slice_get parts.rules c.args.rule) (sym c.parts.ensures.parts) ∙ c.get.ensures in
    let net = c.in_ok-config.config.matcher in
    let few = c.if-level-len.false in
    let premises = c.len-else-rule-len.ensures in
    subst (λ (found : Net). IsSomeAnd (slice_get found.memories c.args.rule) (λ (memory : Beta). c.args.level < length memory.levels)) (sym c.matcher.ensures.matcher)
    (level_there c.args.program.now net c.in_ok-config.ensures.matcher c.args.rule c.args.level c.get.result.now numbered (omega (arith, few, premises)))
