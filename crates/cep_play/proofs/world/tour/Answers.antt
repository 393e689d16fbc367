use Rattle.std.proofs.Common.{◌≡◌, inl, inr, ◌∙◌, subst}
use Rattle.std.proofs.lemmas.Result.{IfOk-weaker}
use Rattle.cep_world.specs.World.{world}
use Rattle.cep_examine.specs.Loading.{IsSpelledBy, IsRefusal}
use Rattle.cep_play.proofs.world.tour.Goals as goal

pub returns-in-Ok-clause-reported : goal.returns-in-Ok-clause-reported
returns-in-Ok-clause-reported g c =
    let text : c.bytes.result.now ≡ world c.args.rooms = c.bytes.ensures ∙ c.in_ok-text.ensures in
    let spelled = subst (λ bytes. IsSpelledBy c.in-Ok.program bytes) text (rw c.in-Ok.is at c.in_ok-program.ensures) in
    IfOk-weaker c.report_tour.result _ _ (λ report is. inr (c.in-Ok.program, spelled, is)) c.report_tour.ensures.reported

pub returns-clause-reported : goal.returns-clause-reported
returns-clause-reported g c =
    let text : c.bytes.result.now ≡ world c.args.rooms = c.bytes.ensures ∙ c.in_ok-text.ensures in
    inl (subst (λ bytes. IsRefusal bytes c.in-Err.report) text (rw c.in-Err.is at c.in_ok-program.ensures))
