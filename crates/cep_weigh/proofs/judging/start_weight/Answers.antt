use Rattle.std.proofs.Common.{◌≡◌, ◌+◌, ◌≤◌, sym, ap, ◌∙◌, subst, arith, rules}
use Rattle.std.proofs.lemmas.Int.{ints}
use Rattle.std.proofs.lemmas.List.{take_all}
use Rattle.cep_term.specs.Tree.{atom_of}
use Rattle.cep_term.specs.Multiset.{copies_in}
use Rattle.cep_rule.specs.declared.parts.Parts.{Parts}
use Rattle.cep_weigh.specs.Weights.{weight_of}
use Rattle.cep_weigh.proofs.Sums.{added, entry_worth, added_next, entries_are, copies_next, copies_front}
use Rattle.std.specs.FinMap as finite
use Rattle.cep_weigh.proofs.judging.start_weight.Goals as goal

few : (start other : Parts) → other ≡ start → copies_in start.start ≤ 100000 → copies_in other.start ≤ 100000
few start other same low = subst (λ p. copies_in p.start ≤ 100000) (sym same) low

pub overflow_add-total : goal.overflow_add-total
overflow_add-total c =
    let entries = finite.entries c.parts.result.now.start in
    let next = copies_next entries c.loop-i.i (atom_of c.entry-copies.result.0.now, c.entry-copies.result.1) c.entry-copies.ensures in
    let all = copies_front entries (c.loop-i.i + 1) in
    let most = few c.args.program.now c.parts.result.now c.parts.ensures.parts c.parts.ensures.kept.start_fits.copies in
    omega (arith, ints)

pub loop-i-preserved : goal.loop-i-preserved
loop-i-preserved c =
    let entries = finite.entries c.parts.result.now.start in
    let next = copies_next entries c.loop-i.i (atom_of c.entry-copies.result.0.now, c.entry-copies.result.1) c.entry-copies.ensures in
    let sum = added_next (entry_worth c.as_slice-parts.result.now) entries c.loop-i.i (atom_of c.entry-copies.result.0.now, c.entry-copies.result.1) c.entry-copies.ensures in
    let all = copies_front entries (c.loop-i.i + 1) in
    let most = few c.args.program.now c.parts.result.now c.parts.ensures.parts c.parts.ensures.kept.start_fits.copies in
    record { value = omega (arith, ints, sum, c.worth-total.ensures.value); low = omega (arith, ints); high = omega (arith, ints) }

pub returns : goal.returns
returns c =
    let entries = finite.entries c.parts.result.now.start in
    c.loop-i.invariant.value ∙ ap (added (entry_worth c.as_slice-parts.result.now)) (take_all c.loop-i.i entries (omega (arith, finite.len-entries c.parts.result.now.start)))
    ∙ entries_are c.as_slice-parts.result.now entries ∙ (λ i. weight_of (c.as_slice-parts.ensures i) (c.parts.ensures.parts i).start)

pub loop-i-init : goal.loop-i-init
loop-i-init c = search rules
