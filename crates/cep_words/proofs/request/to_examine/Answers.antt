use Rattle.std.proofs.Common.{◌≡◌, length, [], map, ap, ◌∙◌, ◌∷◌, sym, arith}
use Rattle.std.specs.Prelude.{string_bytes}
use Rattle.cep_words.proofs.OneRequest.{three_items, no_options}
use Rattle.cep_words.proofs.request.to_examine.Goals as goal

pub returns-in_ok-task-in-len3 : goal.returns-in_ok-task-in-len3
returns-in_ok-task-in-len3 c =
    let words = c.args.words.now in
    let size : length words ≡ 3 = omega (arith, c.in-len3.len_at_least, c.in-len3.len_below) in
    no_options c.in_ok-task-in-len3.task (map string_bytes words) (string_bytes c.file-item.result) (string_bytes c.second-item.result) c.in_ok-task-in-len3.ensures.1
    (ap (map string_bytes) (three_items words c.word-item.result c.file-item.result c.second-item.result size c.word-item.is c.file-item.is c.second-item.is)
    ∙ ap (λ word. word ∷ string_bytes c.file-item.result ∷ string_bytes c.second-item.result ∷ []) (sym c.as_bytes.ensures.value ∙ c.in_ok-task-in-len3.ensures.0))
