use Rattle.std.proofs.Common.{[], refl}
use Rattle.cep_lines.specs.Lines.{header}
use Rattle.cep_cause.proofs.Renewed.{legal_put, renewing_begins, one_more_renewed, renewing_too_long, renewing_ends, whole_written, front_too_long, short_enough, too_long}
use Rattle.cep_cause.proofs.laws.logs_are_renewed_step_by_step.Goals as goal

pub returns : goal.returns
returns c =
    let laws = c.causes_are_lawful.ensures in
    record {
      put = λ program height old new step is of legal. legal_put laws program is height old new step of legal;
      begins = λ program log before spot is legal starts here. renewing_begins laws program is log before spot legal starts here;
      goes_on = λ program log number before text old step left new is at leads of. one_more_renewed laws program is log number before text old step left at new leads of;
      too_long = λ program log number left text spot is legal at long.
          front_too_long program is log legal (header program log.height) text refl (renewing_too_long laws program is log number (header program log.height) text spot left at long);
      ends = λ program log number text whole last is legal at is_whole.
          let before = header program log.height in
          let written = whole_written program is log legal before text last whole refl (renewing_ends laws program is log number before text last [] refl at) is_whole in (
            λ short. short_enough program is log legal
                (λ log lines legal tells short. c.logs_are_read_as_written.ensures.read program log lines is legal tells short)
                (λ one other version same. c.logs_are_read_as_written.ensures.text program one other version same)
                whole written short,
            λ long. too_long program is log legal whole written long,
          );
    }
