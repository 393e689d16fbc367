use Rattle.std.proofs.Common.{◌-◌, ◌++◌, ◌∙◌, sym, ap, arith}
use Rattle.cep_term.specs.Tree.{atom_of}
use Rattle.cep_term.specs.Entries.{entries_of, entries_in, set_among}
use Rattle.cep_term.proofs.BlockEdits.{count_in_later, set_in_later, in_range, entries_without}
use Rattle.cep_term.proofs.blocks.Blocks.take.Goals as goal

pub returns-then-is_empty-clause-ok : goal.returns-then-is_empty-clause-ok
returns-then-is_empty-clause-ok c =
    let blocks = c.args.self.now in
    let first = entries_of blocks.first.items in
    let later = blocks.later.items in
    let atom = atom_of c.args.a.now in
    let at = c.in-Some.at in
    let block = c.index_mut.result.now in
    let new = c.take_copy-2.new.entries in
    let there = c.in-Some.ensures in
    let is = c.index_mut.ensures.value in
    rw c.remove.ensures.items (
    ap (λ es. first ++ es) (entries_without later at new c.index.result.now (in_range first later atom at there) c.index.ensures (grind (arith, c.is_empty.ensures, c.if-is_empty.true, c.index.result.now.ok.0)))
    ∙ set_in_later first later atom at _ block new there is c.in_ok-take_copy.ensures.ok
    ∙ ap (λ n. set_among (entries_in blocks) atom (n - 1)) (sym (count_in_later first later atom at block there is))
    )
