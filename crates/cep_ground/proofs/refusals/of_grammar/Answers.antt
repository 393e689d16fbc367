use Rattle.cep_refusal.specs.declared.reason.Reason.TheVariants.{Unexpected, Nested}
use Rattle.cep_refusal.specs.First.{wrong}
use Rattle.cep_parse.specs.declared.fault.ParseFault.TheVariants as parse
use Rattle.cep_ground.proofs.OneAnswer.{refused_grammar}
use Rattle.cep_ground.proofs.refusals.of_grammar.Goals as goal

pub returns-in-Unexpected : goal.returns-in-Unexpected
returns-in-Unexpected c = (
  wrong Unexpected c.in-Unexpected.at,
  refused_grammar c.lexed_once.ensures c.args.text.now c.parsed_once.ensures c.args.tokens.now (parse.Unexpected c.in-Unexpected.at) c.requires.short c.requires.tokens (rw c.in-Unexpected.is at c.requires.fault),
  c.of.ensures,
)

pub returns-in-Nested : goal.returns-in-Nested
returns-in-Nested c = (
  wrong Nested c.in-Nested.at,
  refused_grammar c.lexed_once.ensures c.args.text.now c.parsed_once.ensures c.args.tokens.now (parse.Nested c.in-Nested.at) c.requires.short c.requires.tokens (rw c.in-Nested.is at c.requires.fault),
  c.of-in-Nested.ensures,
)
