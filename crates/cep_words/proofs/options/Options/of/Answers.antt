use Rattle.std.proofs.Common.{◌+◌, sym, subst, map, take, drop, ◌∙◌}
use Rattle.std.specs.Prelude.{string_bytes}
use Rattle.cep_words.specs.Words.{Give}
use Rattle.cep_words.proofs.OneRequest.{AreRead, one_more_read, one_unread, one_twice, up_to, around, is_among, none_matches}
use Rattle.cep_words.proofs.options.Options.of.Goals as goal

pub returns-in_err-option : goal.returns-in_err-option
returns-in_err-option c =
    let words = c.args.words.now in
    let i = c.loop-word.word-index in
    let word = c.word-item.result in
    none_matches c.from_residual.result _ _ c.from_residual.ensures
    (one_unread (map string_bytes words) (string_bytes word) (is_among string_bytes words i word c.loop-word-test.true c.word-item.is)
    (λ option bounds is. c.in_err-option.ensures option bounds (c.as_bytes.ensures.value ∙ is)))

pub returns-in_err-options : goal.returns-in_err-options
returns-in_err-options c =
    let words = c.args.words.now in
    let i = c.loop-word.word-index in
    let word = c.word-item.result in
    none_matches c.from_residual-in_err-options.result _ _ c.from_residual-in_err-options.ensures
    (λ options. subst (λ ws. ¬ (Give ws options)) (sym (around string_bytes words i word c.loop-word-test.true c.word-item.is))
    (one_twice (map string_bytes (take i words)) (map string_bytes (drop (i + 1) words)) (string_bytes word) c.loop-word.options c.in_ok-option.option c.loop-word.invariant
    (sym c.as_bytes.ensures.value ∙ c.in_ok-option.ensures.1) c.in_err-options.ensures options))

pub loop-word-preserved : goal.loop-word-preserved
loop-word-preserved c =
    let words = c.args.words.now in
    let i = c.loop-word.word-index in
    let word = c.word-item.result in
    subst (λ ws. AreRead ws c.in_ok-options.options) (sym (up_to string_bytes words i word c.loop-word-test.true c.word-item.is))
    (one_more_read (map string_bytes (take i words)) (string_bytes word) c.loop-word.options c.in_ok-option.option c.in_ok-options.options c.loop-word.invariant
    c.in_ok-option.ensures.0 (sym c.as_bytes.ensures.value ∙ c.in_ok-option.ensures.1) c.in_ok-options.ensures)
