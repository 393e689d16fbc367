use Rattle.cep_reader.proofs.reading.read_log.Goals as goal

pub returns : goal.returns
returns c = rw (← c.in_ok-vocabulary.ensures) (record { log = c.read_by.ensures.log; of_program = c.read_by.ensures.of_program; fault = c.read_by.ensures.fault })
