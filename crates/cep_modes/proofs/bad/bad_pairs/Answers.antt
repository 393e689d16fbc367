use Rattle.std.proofs.Common.{◌≡◌, ◌+◌, ◌*◌, ◌∙◌, ℕ, List, Bool, true, length, slice_set, ap, refl, arith, length-set}
use Rattle.cep_modes.specs.Places.{holds, all_places}
use Rattle.cep_modes.specs.Leading.{TellsBad}
use Rattle.cep_modes.proofs.Numbering.{are_fine, written}
use Rattle.cep_modes.proofs.Deciding.{decided}
use Rattle.cep_modes.proofs.bad.bad_pairs.Goals as goal

pub returns : goal.returns
returns c =
    let parts = c.args.parts.now in
    let preds : ℕ = length parts.signature.preds in
    let size : ℕ = preds * 256 + 1 in
    let none : List Bool = c.as_mut_slice-marked.result.now in
    let start : List Bool = slice_set none 0 true in
    let marked : List Bool = c.spread.new.marked in
    let long : length none ≡ size = ap length c.as_mut_slice-marked.ensures.value ∙ c.in_ok-flags.ensures.long ∙ ap (λ n. n * 256 + 1) c.len.ensures in
    let same : length marked ≡ length none = c.spread.auto.marked ∙ length-set none 0 true in
    let fine = are_fine c.types_are_lawful.ensures parts c.requires in
    let whole : TellsBad parts.clauses (all_places parts.rules) marked =
    decided parts.clauses size (all_places parts.rules) c.deref.result.now none start marked fine.clauses (c.bad_pairs_are_those_that_fail.ensures parts.clauses) (rw c.deref.ensures.value c.in_ok-calls.ensures) (omega arith)
    (λ n. ap (λ flags. holds flags n) c.as_mut_slice-marked.ensures.value ∙ c.in_ok-flags.ensures.none n) refl c.spread.ensures.kept c.spread.ensures.led c.spread.ensures.followed (same ∙ long) fine.places
    in
    rw (written c.in_ok-flags.flags.len marked c.in_ok-flags.flags.items (same ∙ ap length c.as_mut_slice-marked.ensures.value) (omega arith)) whole
