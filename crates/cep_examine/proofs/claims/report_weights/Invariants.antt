use Rattle.std.proofs.Common.{take}
use Rattle.cep_examine.proofs.Judging.{AreTold}
use Rattle.cep_examine.proofs.claims.report_weights.Given as goal

abbrev pub invariant-loop-i : goal.invariant-loop-i
invariant-loop-i l = AreTold l.program (take l.i l.weights) l.text l.status
