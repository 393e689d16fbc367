use Rattle.std.proofs.Common.{Some, refl, ap, ◌∙◌, arith}
use Rattle.cep_base.proofs.Outcomes.{on_err}
use Rattle.cep_choice.proofs.LineRead.{read_none, read_byte, read_line, read_last_line, read_end, read_all, read_short}
use Rattle.cep_choice.proofs.reading.read_choice.Goals as goal

pub loop-taken-init : goal.loop-taken-init
loop-taken-init g c = record {
  within = tt;
  calm = refl;
  so_far = read_none g.C.Console.talk g.C.Console.left c.args.n c.args.console.now;
}

pub loop-taken-preserved : goal.loop-taken-preserved
loop-taken-preserved g c = record {
  within = c.then-typed.ensures.within;
  calm = c.in_ok-next.ensures.cause ∙ c.loop-taken.invariant.calm;
  so_far =
      read_byte g.C.Console.talk g.C.Console.left c.args.n c.loop-taken.taken c.loop-taken.typed c.args.console.now c.loop-taken.console c.next.new.self c.loop-taken.invariant.so_far
      c.in-Some.byte c.then-typed.result (rw c.in-Some.is at c.in_ok-next.ensures.heard) (rw c.in-Some.is at c.in_ok-next.ensures.taken) c.in-Some.byte-test.1 c.then-typed.ensures.reads;
}

pub returns-in-Some-eq10-clause-line : goal.returns-in-Some-eq10-clause-line
returns-in-Some-eq10-clause-line g c =
    let LF = c.in-Some-eq10.is ∙ ap Some c.in-Some-eq10.field-0-test in
    read_line g.C.Console.talk g.C.Console.left c.args.n c.loop-taken.taken c.loop-taken.typed c.args.console.now c.loop-taken.console c.next.new.self c.loop-taken.invariant.so_far
    c.args.room c.said.result (rw LF at c.in_ok-next.ensures.heard) (rw LF at c.in_ok-next.ensures.taken) (omega arith)
    (λ line reads. c.said.ensures.says c.args.n line (omega arith) c.loop-taken.invariant.within reads)

pub returns-in-Some-eq10-clause-place : goal.returns-in-Some-eq10-clause-place
returns-in-Some-eq10-clause-place g c = c.said.ensures.within c.args.n c.loop-taken.invariant.within

pub returns-in-None-clause-line : goal.returns-in-None-clause-line
returns-in-None-clause-line g c =
    read_end g.C.Console.talk g.C.Console.left c.args.n c.loop-taken.taken c.loop-taken.typed c.args.console.now c.loop-taken.console c.next.new.self c.loop-taken.invariant.so_far
    c.args.room (rw c.in-None.is at c.in_ok-next.ensures.heard) (rw c.in-None.is at c.in_ok-next.ensures.taken) c.if-taken-eq0.true (omega arith)

pub returns-in-None-2-clause-line : goal.returns-in-None-2-clause-line
returns-in-None-2-clause-line g c =
    read_last_line g.C.Console.talk g.C.Console.left c.args.n c.loop-taken.taken c.loop-taken.typed c.args.console.now c.loop-taken.console c.next.new.self c.loop-taken.invariant.so_far
    c.args.room c.said-in-None-2.result (rw c.in-None.is at c.in_ok-next.ensures.heard) (rw c.in-None.is at c.in_ok-next.ensures.taken) (omega arith) (omega arith)
    (λ line reads. c.said-in-None-2.ensures.says c.args.n line (omega arith) c.loop-taken.invariant.within reads)

pub returns-in-None-2-clause-place : goal.returns-in-None-2-clause-place
returns-in-None-2-clause-place g c = c.said-in-None-2.ensures.within c.args.n c.loop-taken.invariant.within

pub returns-clause-line : goal.returns-clause-line
returns-clause-line g c =
    read_all g.C.Console.talk g.C.Console.left c.args.n c.loop-taken.taken c.loop-taken.typed c.args.console.now c.loop-taken.console c.loop-taken.console c.loop-taken.invariant.so_far
    c.args.room (omega arith)

pub returns-in_err-next-clause-cut_short : goal.returns-in_err-next-clause-cut_short
returns-in_err-next-clause-cut_short g c =
    on_err c.from_residual.result _
    (read_short g.C.Console.talk g.C.Console.left c.args.n c.loop-taken.taken c.loop-taken.typed c.args.console.now c.loop-taken.console c.next.new.self c.loop-taken.invariant.so_far
    c.args.room c.in_err-next.ensures.unheard c.in_err-next.ensures.untaken (omega arith))
