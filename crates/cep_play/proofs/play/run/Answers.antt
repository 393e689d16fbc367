use Rattle.std.specs.Prelude.{IfOk, OnErr}
use Rattle.std.proofs.Common.{subst}
use Rattle.cep_examine.specs.Exchange.{talked, Went}
use Rattle.cep_play.specs.Outcome.{IsRunSaid}
use Rattle.cep_run.specs.declared.settings.Settings.{Settings}
use Rattle.cep_run.specs.Fronts.{FellShort}
use Rattle.cep_run.specs.Said.{IsSomeSaid}
use Rattle.cep_play.proofs.play.run.Goals as goal

pub returns-clause-said : goal.returns-clause-said
returns-clause-said g c =
    subst (λ (settings : Settings). IfOk c.play.result (λ tally. Went (talked g.C.Console.talk g.C.Console.left c.args.console.now c.play.new.console) (IsRunSaid c.args.program.now settings c.args.steps.now c.play.new.steps tally)))
    c.settings_of-settings.ensures.settings c.play.ensures.said

pub returns-clause-begun : goal.returns-clause-begun
returns-clause-begun g c =
    subst (λ (settings : Settings). OnErr c.play.result (FellShort g.C.Console.talk g.C.Console.left c.args.console.now c.play.new.console (λ come. come) (IsSomeSaid c.args.program.now settings)))
    c.settings_of-settings.ensures.settings c.play.ensures.begun
