use Rattle.cep_log.proofs.WrittenLogs.{StepLaws, few_lines, log_long, log_read}
use Rattle.cep_log.proofs.SameLogs.{same_text}
use Rattle.cep_log.proofs.laws.logs_are_read_as_written.Goals as goal

laws_of : goal.After-values_are_small → StepLaws
laws_of c = record {
  lead = c.steps_lead_to_states.ensures;
  contained = c.what_is_needed_is_there.ensures.contained;
  shapes = c.derivations_have_shape.ensures;
  small_offers = c.values_are_small.ensures.offers;
  small_proofs = c.values_are_small.ensures.derivations;
}

pub returns : goal.returns
returns c = record {
  read = λ program log lines is legal tells short. log_read (laws_of c) program is log lines legal tells short;
  few = few_lines;
  long = log_long;
  text = same_text;
}
