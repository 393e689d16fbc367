use Rattle.cep_lines.specs.Lines.{end_lines}
use Rattle.cep_base.proofs.Outcomes.{on_err}
use Rattle.cep_run.proofs.Framed.{did_nothing}
use Rattle.cep_run.proofs.Unread.{untold_put}
use Rattle.cep_run.proofs.dialogue.finish.Goals as goal

pub returns-then-not-is_read-clause-told : goal.returns-then-not-is_read-clause-told
returns-then-not-is_read-clause-told g c = untold_put g.C.Console.talk g.C.Console.left c.args.console.now _ (c.is_read.ensures c.if-not-is_read.true)

pub returns-in_err-put_end-clause-begun : goal.returns-in_err-put_end-clause-begun
returns-in_err-put_end-clause-begun g c =
    on_err c.from_residual.result _ (did_nothing g.C.Console.talk g.C.Console.left c.args.console.now (end_lines c.args.program.now.signature c.args.word c.args.state.now))
