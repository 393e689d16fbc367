use Rattle.cep_store.proofs.Readers.{term_weight, args_weight}
use Rattle.cep_store.proofs.reading.+read.Given as goal

abbrev pub decreases-read_args : goal.decreases-read_args
decreases-read_args l = args_weight l.terms.now l.ids.now

abbrev pub decreases-read_term : goal.decreases-read_term
decreases-read_term l = term_weight l.terms.now l.id
