use Rattle.cep_text.specs.Reading.{con_at}
use Rattle.std.proofs.lemmas.Grind.{common_steps}
use Rattle.std.proofs.Common.{sym, arith}
use Rattle.cep_text.proofs.TableLemmas.{number_within}
use Rattle.cep_text.proofs.values.con.Goals as goal

pub get-con-requires : goal.get-con-requires
get-con-requires c = rw c.parts.ensures.parts (number_within (λ con. con.name) c.args.vocabulary.now.signature.cons _ c.in-Some.number (sym c.in-Some.ensures))

pub overflow_cast-result : goal.overflow_cast-result
overflow_cast-result c = omega (arith, number_within (λ con. con.name) c.args.vocabulary.now.signature.cons _ c.in-Some.number (sym c.in-Some.ensures), c.parts.ensures.kept.small.signature.cons)

pub returns-clause-read : goal.returns-clause-read
unfolding con_at
returns-clause-read c = grind (arith, common_steps)
