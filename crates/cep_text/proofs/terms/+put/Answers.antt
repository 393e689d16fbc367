use Rattle.std.proofs.Common.{arith, ap}
use Rattle.std.proofs.lemmas.Grind.{common_steps}
use Rattle.cep_term.specs.Tree.{tree_of, trees_of}
use Rattle.cep_text.proofs.Nodes.{enclosed_begun}
use Rattle.cep_base.proofs.Options.{some_there, within_got}
use Rattle.cep_text.proofs.terms.+put.Goals as goal

pub put_value-returns-in_err-put_args-in-Cons-clause-err : goal.put_value-returns-in_err-put_args-in-Cons-clause-err
put_value-returns-in_err-put_args-in-Cons-clause-err t c =
    enclosed_begun _ c.args.signature.now (tree_of c.args.term.now)
    c.in-App.c (trees_of c.in-App.args) c.get.result.now c.bytes-name.result.now
    c.args.out.now c.append-in-Cons.new.self c.append-in-Cons-2.new.self c.put_args.new.out _ _
    (ap tree_of c.in-App.is) c.get.ensures c.bytes-name.ensures (ap trees_of c.in-Cons.is)
    c.in_ok-append-in-Cons.ensures.ok c.in_ok-append-in-Cons-2.ensures.ok c.in_err-put_args-in-Cons.ensures.err

pub put_args-returns-in_err-put_value-in-Cons-clause-err : goal.put_args-returns-in_err-put_value-in-Cons-clause-err
put_args-returns-in_err-put_value-in-Cons-clause-err t c = grind (arith, common_steps)

pub put_args-returns-in_ok-put_value-in-Cons : goal.put_args-returns-in_ok-put_value-in-Cons
put_args-returns-in_ok-put_value-in-Cons t c = grind (arith, common_steps)

pub put_value-returns-in_ok-put_args-in-Cons : goal.put_value-returns-in_ok-put_args-in-Cons
put_value-returns-in_ok-put_args-in-Cons t c = grind (arith, common_steps)

pub put_value-get-requires : goal.put_value-get-requires
put_value-get-requires t c = within_got c.args.signature.now.cons c.in-App.c _ (some_there _ _ (rw c.in-App.is at c.requires).0).1
