use Rattle.cep_players.proofs.BlockedLines.{on_err, blocked_lines, did_nothing}
use Rattle.cep_players.proofs.blocked.tell_blocked.Goals as goal

pub returns-in_err-put_blocked-clause-begun : goal.returns-in_err-put_blocked-clause-begun
returns-in_err-put_blocked-clause-begun g c =
    on_err c.from_residual.result _ (did_nothing g.C.Console.talk g.C.Console.left c.args.console.now (blocked_lines c.args.program.now 1 c.args.chosen.now c.args.flags.now))
