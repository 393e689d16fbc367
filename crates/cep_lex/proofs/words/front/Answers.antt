use Rattle.std.proofs.Common.{◌+◌, drop, refl, sym, ◌∙◌, ap}
use Rattle.std.specs.Char.{is_ascii_alphabetic, is_ascii_digit}
use Rattle.cep_lex.specs.declared.token.TokenKind.TheVariants.{Number}
use Rattle.cep_lex.specs.declared.words.Class.TheVariants.{Letter, Digit}
use Rattle.cep_base.specs.Spelling.{is_name_byte}
use Rattle.cep_lex.proofs.Lexed.{most_behind, front_from, mark_spelled, run_front, run_word}
use Rattle.cep_lex.proofs.words.front.Goals as goal

pub name_kind-requires : goal.name_kind-requires
name_kind-requires c =
    run_word is_ascii_alphabetic is_name_byte c.args.bytes.now c.run_len-len.result c.requires (rw c.in-Letter.is at c.class_of.ensures.told) c.run_len-len.ensures.longest

pub returns-in-Letter-clause-found : goal.returns-in-Letter-clause-found
returns-in-Letter-clause-found c =
    run_front is_name_byte Letter c.args.bytes.now c.name_kind.result c.run_len-len.result c.requires (sym c.class_of.ensures.class ∙ c.in-Letter.is) (λ tail. refl) c.run_len-len.ensures.longest c.name_kind.ensures

pub returns-in-Digit-clause-found : goal.returns-in-Digit-clause-found
returns-in-Digit-clause-found c =
    run_front is_ascii_digit Digit c.args.bytes.now Number c.run_len.result c.requires (sym c.class_of.ensures.class ∙ c.in-Digit.is) (λ tail. refl) c.run_len.ensures.longest
    (run_word is_ascii_digit is_ascii_digit c.args.bytes.now c.run_len.result c.requires (rw c.in-Digit.is at c.class_of.ensures.told) c.run_len.ensures.longest)

pub returns-in-Mark-clause-found : goal.returns-in-Mark-clause-found
returns-in-Mark-clause-found c =
    front_from c.args.bytes.now c.in-Mark.kind 1 c.requires (ap (λ told. 1 + most_behind told (drop 1 c.args.bytes.now)) (sym (sym c.class_of.ensures.class ∙ c.in-Mark.is))) c.requires
    (mark_spelled c.args.bytes.now c.in-Mark.kind c.requires (rw c.in-Mark.is at c.class_of.ensures.told))
