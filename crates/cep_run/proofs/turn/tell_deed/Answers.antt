use Rattle.std.proofs.Common.{refl}
use Rattle.std.proofs.lemmas.Result.{on_ok_weaker, on_err_weaker}
use Rattle.cep_base.proofs.Did.{did_put}
use Rattle.cep_base.proofs.Outcomes.{on_err}
use Rattle.cep_run.proofs.Framed.{did_part, did_nothing}
use Rattle.cep_run.proofs.Unread.{untold_put}
use Rattle.cep_run.proofs.turn.tell_deed.Goals as goal

pub put_expected_listing-requires : goal.put_expected_listing-requires
put_expected_listing-requires g c = rw c.state.ensures c.requires.state

pub returns-in_default-clause-told : goal.returns-in_default-clause-told
returns-in_default-clause-told g c = λ text has. untold_put g.C.Console.talk g.C.Console.left c.args.console.now _ (rw c.in_default.is at has)

pub returns-in_err-put_expected_listing-clause-begun : goal.returns-in_err-put_expected_listing-clause-begun
returns-in_err-put_expected_listing-clause-begun g c = on_err c.from_residual.result _ (λ text has. did_nothing g.C.Console.talk g.C.Console.left c.args.console.now _)

pub returns-clause-told : goal.returns-clause-told
returns-clause-told g c =
    on_ok_weaker c.put.result (λ written text has.
    rw (c.bytes.ensures, c.in_ok-put_expected_listing.ensures.ok, c.turns.ensures, c.state.ensures, rw c.in-Some.is at has) at (did_put g.C.Console.talk g.C.Console.left c.args.console.now c.put.new.self c.bytes.result.now written c.put.ensures.left))
    c.put.ensures.written

pub returns-clause-begun : goal.returns-clause-begun
returns-clause-begun g c =
    on_err_weaker c.put.result (λ part text has.
    did_part g.C.Console.talk g.C.Console.left _ _ c.bytes.result.now _ part.0 (rw (c.bytes.ensures, c.in_ok-put_expected_listing.ensures.ok, c.turns.ensures, c.state.ensures, rw c.in-Some.is at has) refl) part.1 c.put.ensures.left)
    c.put.ensures.part
