use Rattle.cep_run.proofs.Unread.{untold_put}
use Rattle.cep_run.proofs.dialogue.begin.Goals as goal

pub returns-then-not-is_read-clause-told : goal.returns-then-not-is_read-clause-told
returns-then-not-is_read-clause-told g c = untold_put g.C.Console.talk g.C.Console.left c.args.console.now _ (c.is_read.ensures c.if-not-is_read.true)
