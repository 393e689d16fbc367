use Rattle.std.proofs.Common.{sym}
use Rattle.cep_base.proofs.Outcomes.{on_err}
use Rattle.cep_examine.specs.Exchange.{talked}
use Rattle.cep_play.specs.Command.{settings_of}
use Rattle.cep_play.proofs.Playing.{run_said}
use Rattle.cep_play.proofs.play.dialogue.Goals as goal

pub returns-in_ok-run-in-None-clause-said : goal.returns-in_ok-run-in-None-clause-said
returns-in_ok-run-in-None-clause-said g c =
    run_said c.args.options.players (talked g.C.Console.talk g.C.Console.left c.args.console.now c.run.new.console) c.args.program.now (settings_of c.args.program.now c.args.options) c.args.steps.now c.run.new.steps c.in_ok-run-in-None.field-0 c.in-None.is
    c.in_ok-run-in-None.ensures.said

pub returns-in_err-run-in-None-clause-begun : goal.returns-in_err-run-in-None-clause-begun
returns-in_err-run-in-None-clause-begun g c = on_err c.from_residual.result _ (rw c.in-None.is c.in_err-run-in-None.ensures.begun)

pub returns-in-Some-clause-said : goal.returns-in-Some-clause-said
returns-in-Some-clause-said g c = rw (c.in-Some.is, sym c.settings_of-settings.ensures.settings) c.play_in_rounds.ensures.said

pub returns-in-Some-clause-begun : goal.returns-in-Some-clause-begun
returns-in-Some-clause-begun g c = rw (c.in-Some.is, sym c.settings_of-settings.ensures.settings) c.play_in_rounds.ensures.begun
