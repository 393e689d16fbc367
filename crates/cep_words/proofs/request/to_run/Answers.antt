use Rattle.std.proofs.Common.{map, ap, ◌∙◌, ◌∷◌, sym, drop, take, length, ◌-◌, arith}
use Rattle.std.proofs.lemmas.Slice.Eq.{bytes_eq-Decides}
use Rattle.std.specs.Prelude.{string_bytes, codes}
use Rattle.cep_words.proofs.OneRequest.{two_items, unrun}
use Rattle.std.proofs.lemmas.Grind.{common_steps}
use Rattle.cep_words.proofs.request.to_run.Goals as goal

pub returns-in-None : goal.returns-in-None
returns-in-None c =
    let words = c.args.words.now in
    let others = map string_bytes (take (length words - 2) (drop 2 words)) in
    let world = sym c.as_str.ensures.value ∙ (bytes_eq-Decides c.as_str.result.now (codes "world")).0 (sym c.eq.ensures ∙ c.if-eq.true) in
    let number = sym c.as_bytes.ensures.value ∙ c.in_ok-rooms-in-len2-up.ensures.1 in (
      c.in_ok-rooms-in-len2-up.ensures.0,
      c.in-None.is,
      (
        others,
        ap (map string_bytes) (two_items words c.world-item.result c.rooms-item.result c.in-len2-up.len_at_least c.world-item.is c.rooms-item.is)
            ∙ ap (λ word. word ∷ string_bytes c.rooms-item.result ∷ others) world
            ∙ ap (λ word. codes "world" ∷ word ∷ others) number,
        c.in_ok-options-in-len2-up.ensures,
      ),
    )

pub returns-in-Some : goal.returns-in-Some
returns-in-Some c =
    let words = c.args.words.now in
    let others = map string_bytes (take (length words - 2) (drop 2 words)) in
    unrun (map string_bytes words) others (string_bytes c.world-item.result) (string_bytes c.rooms-item.result) c.in_ok-options-in-len2-up.options c.in-Some.field-0
    (ap (map string_bytes) (two_items words c.world-item.result c.rooms-item.result c.in-len2-up.len_at_least c.world-item.is c.rooms-item.is))
    c.in_ok-options-in-len2-up.ensures c.in-Some.is

pub returns-in_err-options-in-len2-up : goal.returns-in_err-options-in-len2-up
returns-in_err-options-in-len2-up c = grind (arith, common_steps)

pub returns-in_default : goal.returns-in_default
returns-in_default c = grind (arith, common_steps)
