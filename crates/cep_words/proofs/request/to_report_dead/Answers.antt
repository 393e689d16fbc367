use Rattle.std.proofs.Common.{◌≡◌, [], ◌∷◌, length, map, ap, ◌∙◌, sym, arith}
use Rattle.std.specs.Prelude.{string_bytes, codes}
use Rattle.std.proofs.lemmas.Slice.Eq.{bytes_eq-Decides}
use Rattle.cep_words.proofs.OneRequest.{only_two}
use Rattle.cep_words.proofs.request.to_report_dead.Goals as goal

pub returns-in-len2 : goal.returns-in-len2
returns-in-len2 c =
    let words = c.args.words.now in
    let size : length words ≡ 2 = omega (arith, c.in-len2.len_at_least, c.in-len2.len_below) in
    let dead = sym c.as_str.ensures.value ∙ (bytes_eq-Decides c.as_str.result.now (codes "dead")).0 (sym c.eq.ensures ∙ c.if-eq.true) in
    ap (map string_bytes) (only_two words c.dead-item.result c.file-item.result size c.dead-item.is c.file-item.is) ∙ ap (λ word. word ∷ string_bytes c.file-item.result ∷ []) dead
