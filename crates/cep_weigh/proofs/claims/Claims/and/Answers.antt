use Rattle.std.proofs.Common.{◌∙◌, ap, subst, sym}
use Rattle.cep_base.specs.FirstNames.{added}
use Rattle.cep_weigh.specs.Tables.{NamesClaims}
use Rattle.cep_weigh.proofs.Tabled.{one_claim_more}
use Rattle.cep_weigh.proofs.claims.Claims.and.Goals as goal

pub invariant_of-result : goal.invariant_of-result
invariant_of-result c =
    let more = one_claim_more c.self.inside.weights c.args.weight c.self.inside.names c.add.new.self c.args.weight.line c.self.invariant
    (c.in_ok-add.ensures.entries ∙ ap (λ name. added c.self.inside.names (name, c.args.weight.line)) c.bytes.ensures) in
    subst (λ weights. NamesClaims weights c.add.new.self) (sym c.in_ok-push.ensures.ok) more
