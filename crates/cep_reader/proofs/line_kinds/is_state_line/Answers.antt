use Rattle.std.proofs.Common.{◌∙◌}
use Rattle.cep_reader.proofs.LineKindLemmas.{state_said}
use Rattle.cep_reader.proofs.line_kinds.is_state_line.Goals as goal

pub returns-in-Some : goal.returns-in-Some
returns-in-Some c = state_said c.args.line.now c.in-Some.word.now c.as_bytes.result.now c.args.number c.eq.result c.in-Some.ensures c.eq.ensures (c.as_bytes.ensures.value ∙ c.format.ensures.text)
