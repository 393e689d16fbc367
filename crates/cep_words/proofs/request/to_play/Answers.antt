use Rattle.std.proofs.Common.{map, ap, ◌∙◌, ◌∷◌, sym, drop, take, length, ◌-◌, arith}
use Rattle.std.proofs.lemmas.Slice.Eq.{bytes_eq-Decides}
use Rattle.std.specs.Prelude.{string_bytes}
use Rattle.cep_words.proofs.OneRequest.{two_items, unplayed}
use Rattle.std.proofs.lemmas.Grind.{common_steps}
use Rattle.cep_words.proofs.request.to_play.Goals as goal

pub returns-then-eq : goal.returns-then-eq
returns-then-eq c =
    let words = c.args.words.now in
    let others = map string_bytes (take (length words - 2) (drop 2 words)) in
    let word = sym c.as_str.ensures.value ∙ (bytes_eq-Decides c.as_str.result.now c.play_word.result.now).0 (sym c.eq.ensures ∙ c.if-eq.true) ∙ c.play_word.ensures in (
      others,
      ap (map string_bytes) (two_items words c.word-item.result c.file-item.result c.in-len2-up.len_at_least c.word-item.is c.file-item.is)
          ∙ ap (λ word. word ∷ string_bytes c.file-item.result ∷ others) word,
      c.in_ok-options-in-len2-up.ensures,
    )

pub returns-else-eq : goal.returns-else-eq
returns-else-eq c =
    let words = c.args.words.now in
    let others = map string_bytes (take (length words - 2) (drop 2 words)) in
    unplayed (map string_bytes words) others (string_bytes c.word-item.result) (string_bytes c.file-item.result) c.in_ok-options-in-len2-up.options
    (ap (map string_bytes) (two_items words c.word-item.result c.file-item.result c.in-len2-up.len_at_least c.word-item.is c.file-item.is))
    c.in_ok-options-in-len2-up.ensures
    (λ is.
    let told = sym ((bytes_eq-Decides c.as_str.result.now c.play_word.result.now).1 (c.as_str.ensures.value ∙ is ∙ sym c.play_word.ensures)) ∙ sym c.eq.ensures ∙ c.if-eq.false in
    cc)

pub returns-in_err-options-in-len2-up : goal.returns-in_err-options-in-len2-up
returns-in_err-options-in-len2-up c = grind (arith, common_steps)

pub returns-in_default : goal.returns-in_default
returns-in_default c = grind (arith, common_steps)
