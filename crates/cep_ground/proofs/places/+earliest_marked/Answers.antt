use Rattle.std.proofs.Common.{subst, false}
use Rattle.cep_ground.specs.Earliest.{IsEarliest}
use Rattle.cep_ground.proofs.OneAnswer.{marked_step}
use Rattle.cep_ground.proofs.places.+earliest_marked.Goals as goal

pub returns-in-len1-up-marks : goal.returns-in-len1-up-marks
returns-in-len1-up-marks t c =
    subst (λ ps. IsEarliest ps c.earlier.result)
    (marked_step c.args.places.now c.args.marks.now (record { line = 0; col = 0 }) false c.in-len1-up.len_at_least c.in-len1-up-marks.len_at_least)
    (c.earlier.ensures _ _ c.if_marked.ensures c.earliest_marked.ensures)
