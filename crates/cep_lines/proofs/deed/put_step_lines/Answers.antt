use Rattle.std.proofs.Common.{map}
use Rattle.std.proofs.lemmas.Result.{on_err_weaker}
use Rattle.cep_base.proofs.Outcomes.{on_err}
use Rattle.cep_rule.specs.Derivations.{proof_of}
use Rattle.cep_lines.specs.Lines.{by_lines, next_line, step_lines}
use Rattle.cep_lines.proofs.Adding.{begun_first, begun_second}
use Rattle.cep_lines.proofs.deed.put_step_lines.Goals as goal

pub returns-in_err-put_proofs-clause-err : goal.returns-in_err-put_proofs-clause-err
unfolding step_lines
returns-in_err-put_proofs-clause-err c =
    on_err c.from_residual-in_err-put_proofs.result _ (begun_second c.args.out.now _ _ _ _ c.in_ok-put_step.ensures.ok
    (begun_first c.put_step.new.out (by_lines c.args.program.now (map proof_of c.args.proofs.now)) _ _ c.in_err-put_proofs.ensures.err))

pub returns-clause-err : goal.returns-clause-err
unfolding step_lines
returns-clause-err c =
    on_err_weaker c.put_next.result
    (λ begun. begun_second c.args.out.now _ _ _ _ c.in_ok-put_step.ensures.ok (begun_second c.put_step.new.out _ (next_line c.args.program.now c.args.next) _ _ c.in_ok-put_proofs.ensures.ok begun))
    c.put_next.ensures.err
