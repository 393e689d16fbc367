use Rattle.cep_reader.proofs.LineKindLemmas.{stage_line_told}
use Rattle.cep_reader.proofs.line_kinds.stage_line.Goals as goal

pub returns : goal.returns
returns c = stage_line_told c.args.vocabulary.now c.args.line.now c.in_ok-strip.field-0.now c.stage.result c.in_ok-strip.ensures c.stage.ensures.some c.stage.ensures.none
