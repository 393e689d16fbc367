use Rattle.std.proofs.Common.{length, arith}
use Rattle.cep_cause.specs.Tokens.{start_tokens, listed_copies}
use Rattle.cep_cause.proofs.Tokened.{made_later, numbered_one}
use Rattle.cep_cause.proofs.TouchesThere.{tokens_start, touches_there, tokens_are_the_state, one_touches}
use Rattle.cep_rule.specs.Steps.{start_spot}
use Rattle.cep_cause.proofs.laws.logs_touch_tokens.Goals as goal

pub returns-clause-there : goal.returns-clause-there
returns-clause-there c = λ program log is legal.
    touches_there c.causes_are_lawful.ensures program is log.height log.steps (length (start_tokens program.start)) (start_tokens program.start) (start_spot program) legal.last
    (tokens_start c.causes_are_lawful.ensures program is log.height) is.start legal.steps

pub returns-clause-one : goal.returns-clause-one
returns-clause-one c = λ program log one other are are'.
    one_touches program log.steps (length (start_tokens program.start)) (start_tokens program.start) one other
    (λ token there. let few = (made_later 0 (listed_copies program.start) token there).1 in omega arith) (numbered_one 0 (listed_copies program.start)) are are'

pub returns-clause-state : goal.returns-clause-state
returns-clause-state c = λ program log touches is legal are.
    tokens_are_the_state c.causes_are_lawful.ensures program is log.height log.steps touches legal.last legal.steps are
