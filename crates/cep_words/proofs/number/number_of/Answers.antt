use Rattle.std.proofs.Common.{sym, ◌∙◌}
use Rattle.cep_words.proofs.Decimals.{begins_otherwise, no_text, text_spells, text_spells_none}
use Rattle.cep_words.proofs.number.number_of.Goals as goal

pub returns-then-not-begins_as_decimal : goal.returns-then-not-begins_as_decimal
returns-then-not-begins_as_decimal c = λ value small is. begins_otherwise c.args.digits.now value (sym c.begins_as_decimal.ensures ∙ c.if-not-begins_as_decimal.true) small is

pub returns-in-Ok-parse : goal.returns-in-Ok-parse
returns-in-Ok-parse c =
    text_spells c.args.digits.now c.in-Ok.text.now c.in-Ok-parse.number c.in-Ok.ensures.cases.0 (sym c.begins_as_decimal.ensures ∙ c.if-not-begins_as_decimal.false)
    c.in-Ok-parse.ensures.value.0.0 c.in-Ok-parse.ensures.value.0.1

pub returns-in-Err-parse : goal.returns-in-Err-parse
returns-in-Err-parse c = λ value small is.
    text_spells_none c.args.digits.now c.in-Ok.text.now value c.in-Ok.ensures.cases.0 (sym c.begins_as_decimal.ensures ∙ c.if-not-begins_as_decimal.false)
    c.in-Err-parse.ensures.value.0 small is

pub returns-in-Err : goal.returns-in-Err
returns-in-Err c = λ value small is. no_text c.args.digits.now value c.in-Err.ensures.cases.0 small is
