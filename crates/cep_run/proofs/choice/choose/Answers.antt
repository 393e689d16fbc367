use Rattle.std.proofs.Common.{refl, ◌∙◌, arith}
use Rattle.cep_base.proofs.Outcomes.{on_err}
use Rattle.cep_base.proofs.Did.{did_map}
use Rattle.cep_run.proofs.Framed.{hears_on, front_left}
use Rattle.cep_run.proofs.Hearing.{await_first, await_next, end_chosen, end_no_more, end_no_room, end_short, end_answer_short}
use Rattle.cep_run.proofs.choice.choose.Goals as goal

pub loop-heard-init : goal.loop-heard-init
loop-heard-init g c = record {
  within = c.requires;
  calm = refl;
  so_far = await_first g.C.Console.talk g.C.Console.left c.args.n c.args.taken.now c.args.console.now;
}

pub loop-heard-preserved : goal.loop-heard-preserved
loop-heard-preserved g c = record {
  within = omega (arith, c.in_ok-heard.ensures.within);
  calm = c.in_ok-put-in-Bad.ensures.cause ∙ c.in_ok-heard.ensures.cause ∙ c.loop-heard.invariant.calm;
  so_far =
      await_next g.C.Console.talk g.C.Console.left c.args.n c.args.taken.now c.loop-heard.taken c.in_ok-heard.heard.taken c.args.console.now c.loop-heard.console c.put.new.self c.loop-heard.invariant.so_far
      c.read_choice.new.console (rw c.in-Bad.is at c.in_ok-heard.ensures.line) c.in_ok-put-in-Bad.ensures.written c.in_ok-put-in-Bad.ensures.left;
}

pub returns-in-Number-clause-heard : goal.returns-in-Number-clause-heard
returns-in-Number-clause-heard g c =
    end_chosen g.C.Console.talk g.C.Console.left c.args.n c.args.taken.now c.loop-heard.taken c.in_ok-heard.heard.taken c.args.console.now c.loop-heard.console c.read_choice.new.console c.loop-heard.invariant.so_far
    c.in-Number.place (rw c.in-Number.is at c.in_ok-heard.ensures.line)

pub returns-in-End-clause-heard : goal.returns-in-End-clause-heard
returns-in-End-clause-heard g c =
    end_no_more g.C.Console.talk g.C.Console.left c.args.n c.args.taken.now c.loop-heard.taken c.in_ok-heard.heard.taken c.args.console.now c.loop-heard.console c.read_choice.new.console c.loop-heard.invariant.so_far
    (rw c.in-End.is at c.in_ok-heard.ensures.line)

pub returns-in-Limit-clause-heard : goal.returns-in-Limit-clause-heard
returns-in-Limit-clause-heard g c =
    end_no_room g.C.Console.talk g.C.Console.left c.args.n c.args.taken.now c.loop-heard.taken c.in_ok-heard.heard.taken c.args.console.now c.loop-heard.console c.read_choice.new.console c.loop-heard.invariant.so_far
    (rw c.in-Limit.is at c.in_ok-heard.ensures.line)

pub returns-in_err-heard-clause-begun : goal.returns-in_err-heard-clause-begun
returns-in_err-heard-clause-begun g c =
    on_err c.from_residual.result _
    (did_map g.C.Console.talk g.C.Console.left c.args.console.now c.read_choice.new.console _ _ (λ come events rest front. (hears_on c.args.n front, front_left c.args.n front))
    (end_short g.C.Console.talk g.C.Console.left c.args.n c.args.taken.now c.loop-heard.taken 0 c.args.console.now c.loop-heard.console c.read_choice.new.console c.loop-heard.invariant.so_far
    c.in_err-heard.ensures.cut_short))

pub returns-in_err-put-in-Bad-clause-begun : goal.returns-in_err-put-in-Bad-clause-begun
returns-in_err-put-in-Bad-clause-begun g c =
    on_err c.from_residual-in_err-put-in-Bad.result _
    (did_map g.C.Console.talk g.C.Console.left c.args.console.now c.put.new.self _ _ (λ come events rest front. (hears_on c.args.n front, front_left c.args.n front))
    (end_answer_short g.C.Console.talk g.C.Console.left c.args.n c.args.taken.now c.loop-heard.taken c.in_ok-heard.heard.taken c.args.console.now c.loop-heard.console c.put.new.self c.loop-heard.invariant.so_far
    c.read_choice.new.console c.in_err-put-in-Bad.ensures.part.0 (rw c.in-Bad.is at c.in_ok-heard.ensures.line) c.in_err-put-in-Bad.ensures.part.1 c.in_err-put-in-Bad.ensures.left))
