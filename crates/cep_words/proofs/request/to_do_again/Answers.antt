use Rattle.std.proofs.Common.{◌≡◌, length, [], map, ap, ◌∙◌, ◌∷◌, sym, arith}
use Rattle.std.specs.Prelude.{string_bytes, codes}
use Rattle.std.proofs.lemmas.Slice.Eq.{bytes_eq-Decides}
use Rattle.cep_words.proofs.OneRequest.{four_items}
use Rattle.std.proofs.lemmas.Grind.{common_steps}
use Rattle.cep_words.proofs.request.to_do_again.Goals as goal

pub returns-in_ok-seed-in-len4 : goal.returns-in_ok-seed-in-len4
returns-in_ok-seed-in-len4 c =
    let words = c.args.words.now in
    let size : length words ≡ 4 = omega (arith, c.in-len4.len_at_least, c.in-len4.len_below) in
    let again = sym c.as_str.ensures.value ∙ (bytes_eq-Decides c.as_str.result.now (codes "again")).0 (sym c.eq.ensures ∙ c.if-eq.true) in
    let seed = sym c.as_bytes.ensures.value ∙ c.in_ok-seed-in-len4.ensures in (
      (omega arith, tt),
      ap (map string_bytes) (four_items words c.again-item.result c.file-item.result c.second-item.result c.seed-item.result size c.again-item.is c.file-item.is c.second-item.is c.seed-item.is)
          ∙ ap (λ word. word ∷ string_bytes c.file-item.result ∷ string_bytes c.second-item.result ∷ string_bytes c.seed-item.result ∷ []) again
          ∙ ap (λ word. codes "again" ∷ string_bytes c.file-item.result ∷ string_bytes c.second-item.result ∷ word ∷ []) seed,
    )

pub returns-in_err-seed-in-len4 : goal.returns-in_err-seed-in-len4
returns-in_err-seed-in-len4 c = grind (arith, common_steps)

pub returns-in_default : goal.returns-in_default
returns-in_default c = grind (arith, common_steps)
