use Rattle.cep_refusal.specs.declared.reason.Reason.TheVariants.{BadByte, NameLong}
use Rattle.cep_refusal.specs.First.{wrong}
use Rattle.cep_lex.specs.declared.fault.LexFault.TheVariants as lex
use Rattle.cep_ground.proofs.OneAnswer.{refused_tokens}
use Rattle.cep_ground.proofs.refusals.of_tokens.Goals as goal

pub returns-in-BadByte : goal.returns-in-BadByte
returns-in-BadByte c = (
  wrong BadByte c.in-BadByte.at,
  refused_tokens c.lexed_once.ensures c.args.text.now (lex.BadByte c.in-BadByte.at) c.requires.short (rw c.in-BadByte.is at c.requires.fault),
  c.of.ensures,
)

pub returns-in-NameLong : goal.returns-in-NameLong
returns-in-NameLong c = (
  wrong NameLong c.in-NameLong.at,
  refused_tokens c.lexed_once.ensures c.args.text.now (lex.NameLong c.in-NameLong.at) c.requires.short (rw c.in-NameLong.is at c.requires.fault),
  c.of-in-NameLong.ensures,
)
