use Rattle.std.proofs.Common.{arith}
use Rattle.cep_base.specs.FirstNames.{names_among}
use Rattle.cep_text.proofs.TableLemmas.{number_within, stage_number, stage_found, no_stage}
use Rattle.cep_text.proofs.vocabulary.Vocabulary.stage.Goals as goal

pub overflow_cast-result : goal.overflow_cast-result
overflow_cast-result c =
    let stages = c.self.inside.program.now.stages in
    omega (arith, number_within (λ stage. stage.name) stages c.args.name.now c.in-Some.number (stage_number stages (names_among c.self.inside.tables.stages) c.args.name.now _ c.self.invariant.stages c.in-Some.ensures), c.parts.ensures.kept.small.stages)

pub returns-in-Some-clause-some : goal.returns-in-Some-clause-some
returns-in-Some-clause-some c = rw (← c.self.view_is) (stage_found _ c.args.name.now _ (stage_number _ (names_among c.self.inside.tables.stages) _ _ c.self.invariant.stages c.in-Some.ensures))

pub returns-in-None-clause-none : goal.returns-in-None-clause-none
returns-in-None-clause-none c = rw (← c.self.view_is) (no_stage _ c.args.name.now (stage_number _ (names_among c.self.inside.tables.stages) _ _ c.self.invariant.stages c.in-None.ensures))
