use Rattle.cep_report.specs.CauseLines.{number_text}
use Rattle.cep_report.proofs.Added.{one_more}
use Rattle.cep_report.proofs.causes.put_numbers.Goals as goal

pub loop-number-preserved : goal.loop-number-preserved
loop-number-preserved c = one_more number_text c.args.out.now c.loop-number.out c.put_number.new.out c.args.numbers.now c.loop-number.number-index _ c.loop-number-test.true c.loop-number.invariant c.in_ok-put_number.ensures
