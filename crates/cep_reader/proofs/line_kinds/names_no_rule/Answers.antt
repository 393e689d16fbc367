use Rattle.cep_reader.proofs.LineKindLemmas.{named_as}
use Rattle.cep_reader.proofs.line_kinds.names_no_rule.Goals as goal

pub returns-in-Some : goal.returns-in-Some
returns-in-Some c = named_as c.args.vocabulary.now c.args.line.now c.in-Some.text.now c.cut_word.result.0.now c.cut_word.result.1.now c.in-Some.ensures c.cut_word.ensures.all c.cut_word.ensures.unspaced c.cut_word.ensures.cut c.is_rule.result c.is_rule.ensures
