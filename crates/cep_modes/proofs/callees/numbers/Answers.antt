use Rattle.cep_base.proofs.Drops.{drop_at}
use Rattle.std.proofs.Common.{append_assoc}
use Rattle.std.proofs.Common.{add-one}
use Rattle.std.proofs.Common.{arith}
use Rattle.std.proofs.Common.{eq-eqb}
use Rattle.std.proofs.lemmas.Bool.{ne_eqb}
use Rattle.cep_rule.specs.Patterns.{clause_of}
use Rattle.cep_modes.proofs.callees.numbers.Goals as goal

pub loop-i-preserved : goal.loop-i-preserved
loop-i-preserved c = grind (arith, append_assoc, add-one c.loop-i.i, eq-eqb, ne_eqb, drop_at c.args.clauses.now c.loop-i.i (clause_of c.get.result.now) c.get.ensures)
