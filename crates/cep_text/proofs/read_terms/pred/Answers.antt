use Rattle.std.proofs.Common.{sym, arith}
use Rattle.cep_text.proofs.TableLemmas.{number_within}
use Rattle.cep_text.proofs.read_terms.pred.Goals as goal

pub get-requires : goal.get-requires
get-requires c = rw c.parts.ensures.parts (number_within (λ pred. pred.name) c.args.vocabulary.now.signature.preds _ c.in-Some.number (sym c.in-Some.ensures))

pub overflow_cast-result : goal.overflow_cast-result
overflow_cast-result c = omega (arith, number_within (λ pred. pred.name) c.args.vocabulary.now.signature.preds _ c.in-Some.number (sym c.in-Some.ensures), c.parts.ensures.kept.small.signature.preds)
