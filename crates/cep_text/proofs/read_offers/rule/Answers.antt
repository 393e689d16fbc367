use Rattle.std.proofs.Common.{sym, arith}
use Rattle.cep_rule.specs.Program.{IsTypedRule}
use Rattle.cep_text.proofs.TableLemmas.{number_within, all_at}
use Rattle.cep_text.proofs.read_offers.rule.Goals as goal

pub get-requires : goal.get-requires
get-requires c = rw c.parts.ensures.parts (number_within (λ rule. rule.name) c.args.vocabulary.now.rules _ c.in-Some.number (sym c.in-Some.ensures))

pub overflow_cast-result : goal.overflow_cast-result
overflow_cast-result c = omega (arith, number_within (λ rule. rule.name) c.args.vocabulary.now.rules _ c.in-Some.number (sym c.in-Some.ensures), c.parts.ensures.kept.small.rules)

pub returns-in-Some-clause-as_many : goal.returns-in-Some-clause-as_many
returns-in-Some-clause-as_many c = (all_at (IsTypedRule c.args.vocabulary.now.signature) c.args.vocabulary.now.rules c.in-Some.number c.get.result.now c.parts.ensures.kept.typed_rules (rw c.parts.ensures.parts at c.get.ensures)).kinds
