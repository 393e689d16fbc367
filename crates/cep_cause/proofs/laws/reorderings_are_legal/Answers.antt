use Rattle.cep_cause.proofs.Walked.{run_of, legal_in_order}
use Rattle.cep_cause.proofs.laws.reorderings_are_legal.Goals as goal

pub returns : goal.returns
returns c = λ program log touches places steps is legal are reorders stand.
    legal_in_order (run_of c.causes_are_lawful.ensures program is log legal touches are) places reorders steps stand
