use Rattle.cep_run.proofs.HearsThere.{hears_there, heard_within}
use Rattle.cep_run.proofs.OneReading.{one_hearing}
use Rattle.cep_run.proofs.Framed.{hears_left}
use Rattle.cep_run.proofs.laws.one_choice_is_heard.Goals as goal

pub returns-clause-there : goal.returns-clause-there
returns-clause-there c = λ n taken come. let there = hears_there n come taken in (there.events, there.choice, there.rest, there.all, there.hears)

pub returns-clause-one : goal.returns-clause-one
returns-clause-one c = λ n taken many many' come rest rest' events events' choice choice' small one other. let same = one_hearing n small one other in (same.said, same.choices, same.left, same.many)

pub returns-clause-within : goal.returns-clause-within
returns-clause-within c = λ n taken many come rest events choice hears. (heard_within n hears, hears_left n hears)
