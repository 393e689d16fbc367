use Rattle.std.proofs.Common.{map}
use Rattle.cep_base.proofs.Outcomes.{on_err}
use Rattle.cep_rule.specs.Derivations.{proof_of}
use Rattle.cep_lines.specs.Lines.{step_lines, deed_lines}
use Rattle.cep_lines.proofs.Adding.{begun_first}
use Rattle.cep_lines.proofs.deed.put_deed.Goals as goal

pub returns-in_err-put_step_lines-clause-err : goal.returns-in_err-put_step_lines-clause-err
unfolding deed_lines
returns-in_err-put_step_lines-clause-err c =
    on_err c.from_residual.result _ (begun_first c.args.out.now (step_lines c.args.program.now c.args.offer.now (map proof_of c.args.proofs.now) c.args.next) _ _ c.in_err-put_step_lines.ensures.err)
