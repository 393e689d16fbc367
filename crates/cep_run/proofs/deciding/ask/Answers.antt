use Rattle.std.proofs.Common.{refl}
use Rattle.std.proofs.lemmas.Result.{IfOk-weaker, on_err_weaker}
use Rattle.cep_base.proofs.Did.{did_put, did_then, did_map}
use Rattle.cep_base.proofs.Outcomes.{on_err}
use Rattle.cep_run.proofs.Framed.{asks_after, asks_on, hears_behind, did_part}
use Rattle.cep_run.proofs.deciding.ask.Goals as goal

pub returns-clause-heard : goal.returns-clause-heard
returns-clause-heard g c =
    let put = did_put g.C.Console.talk g.C.Console.left _ _ _ c.in_ok-put.ensures.written c.in_ok-put.ensures.left in
    IfOk-weaker c.choose.result _ _ (λ choice. did_then g.C.Console.talk g.C.Console.left _ _ _ _ _ _ (asks_after c.args.text.now c.args.n c.args.taken.now choice c.choose.new.taken) put) c.choose.ensures.heard

pub returns-in_err-put-clause-begun : goal.returns-in_err-put-clause-begun
returns-in_err-put-clause-begun g c =
    let part = did_part g.C.Console.talk g.C.Console.left _ _ _ _ c.in_err-put.ensures.part.0 refl c.in_err-put.ensures.part.1 c.in_err-put.ensures.left in
    on_err c.from_residual.result _ (did_map g.C.Console.talk g.C.Console.left _ _ _ _ (asks_on c.args.text.now c.args.n c.args.taken.now) part)

pub returns-clause-begun : goal.returns-clause-begun
returns-clause-begun g c =
    let put = did_put g.C.Console.talk g.C.Console.left _ _ _ c.in_ok-put.ensures.written c.in_ok-put.ensures.left in
    on_err_weaker c.choose.result (did_then g.C.Console.talk g.C.Console.left _ _ _ _ _ _ (hears_behind c.args.text.now c.args.n c.args.taken.now) put) c.choose.ensures.begun
