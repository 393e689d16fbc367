use Rattle.std.proofs.Common.{◌≡◌, ◌≢◌, ℕ, ◌<◌, suc, sym, ap, ◌∙◌, arith}
use Rattle.std.specs.Prelude.{decimal}
use Rattle.cep_text.proofs.ProofsFound.{numbered_none, numbered_other, numbered_again}
use Rattle.cep_text.proofs.words.numbered.Goals as goal

pub returns-in_err-plain : goal.returns-in_err-plain
returns-in_err-plain c =
    let few = c.requires in
    c.from_residual.ensures ∙ sym (numbered_none c.args.most c.args.word.now (λ n below. c.in_err-plain.ensures.none (suc n) (omega arith)))

pub returns-in_err-place : goal.returns-in_err-place
returns-in_err-place c =
    let no_place = c.in_err-place.ensures in
    let other : (n : ℕ) → n < c.args.most → c.in_ok-plain.field-0 ≢ suc n = λ n below e. no_place (omega arith) in
    c.from_residual-in_err-place.ensures ∙ sym (numbered_other c.args.most c.in_ok-plain.field-0 c.args.word.now c.in_ok-plain.ensures.some c.in_ok-plain.ensures.short c.requires other)

pub returns-then-place-most : goal.returns-then-place-most
returns-then-place-most c =
    let place = c.in_ok-place.ensures in
    let next : c.in_ok-plain.field-0 ≡ suc c.in_ok-place.place = let a = place.0 in let b = place.1 in omega arith in
    sym (numbered_again c.args.most c.in_ok-place.place c.args.word.now c.requires c.if-place-most.true (c.in_ok-plain.ensures.some ∙ ap decimal next))

pub returns-else-place-most : goal.returns-else-place-most
returns-else-place-most c =
    let place = c.in_ok-place.ensures in
    let other : (n : ℕ) → n < c.args.most → c.in_ok-plain.field-0 ≢ suc n = λ n below e. let a = place.0 in let b = place.1 in absurd (omega arith) in
    sym (numbered_other c.args.most c.in_ok-plain.field-0 c.args.word.now c.in_ok-plain.ensures.some c.in_ok-plain.ensures.short c.requires other)
