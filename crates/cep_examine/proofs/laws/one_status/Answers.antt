use Rattle.cep_examine.proofs.Statuses.{one_code, low_code}
use Rattle.cep_examine.proofs.laws.one_status.Goals as goal

pub returns-clause-same : goal.returns-clause-same
returns-clause-same c = λ task program bytes one other kept. one_code task program bytes one other (record {
  claims = λ bytes one other. c.one_reading.ensures.claims program bytes one other kept;
  either = λ bytes weights fault. c.one_reading.ensures.either program bytes weights fault kept;
  logs = λ bytes one other. c.one_log.ensures.once program bytes one other kept;
  answers = c.one_reordering_by_a_seed.ensures program;
})

pub returns-clause-low : goal.returns-clause-low
returns-clause-low c = low_code
