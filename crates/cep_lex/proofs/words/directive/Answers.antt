use Rattle.std.proofs.Common.{◌+◌, refl, ap, arith, length-take-le}
use Rattle.std.specs.Char.{is_ascii_alphabetic}
use Rattle.std.proofs.lemmas.Bool.{eq-eqb}
use Rattle.cep_lex.specs.declared.token.TokenKind.TheVariants.{Directive}
use Rattle.cep_lex.specs.declared.words.Class.TheVariants.{Hash}
use Rattle.cep_lex.specs.Fronts.{class}
use Rattle.cep_lex.proofs.Lexed.{run_front, run_word, run_within}
use Rattle.cep_lex.proofs.words.directive.Goals as goal

pub returns-in_default-clause-found : goal.returns-in_default-clause-found
returns-in_default-clause-found c =
    let bytes = c.args.bytes.now in
    let within = run_within is_ascii_alphabetic bytes c.run_len.result c.requires.some c.run_len.ensures.longest in
    run_front is_ascii_alphabetic Hash bytes Directive c.run_len.result c.requires.some (ap class c.requires.hash) (λ tail. refl) c.run_len.ensures.longest
    (run_word _ is_ascii_alphabetic bytes c.run_len.result c.requires.some (eq-eqb _ 35 c.requires.hash) c.run_len.ensures.longest, rw (length-take-le (1 + c.run_len.result) bytes within) (omega arith))
