use Rattle.cep_dead.proofs.Whys.{none_applies}
use Rattle.cep_dead.proofs.finding.dead.Goals as goal

pub returns-clause-never : goal.returns-clause-never
returns-clause-never c = none_applies c.args.program.now c.parts-parts.result.now c.parts-parts.ensures.parts c.parts-parts.ensures.kept c.dead_rules_never_apply.ensures c.dead_by.result c.dead_by.ensures
