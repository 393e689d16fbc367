use Rattle.std.proofs.Common.{arith, [], ◌∷◌, take}
use Rattle.std.specs.List.{flat_map}
use Rattle.cep_source.specs.Items.{said}
use Rattle.cep_source.specs.Starts.{listed_in}
use Rattle.cep_faults.proofs.Counting.{both_counted, listed_by}
use Rattle.cep_faults.proofs.Firsts.{given_more}
use Rattle.cep_faults.proofs.traces.Counted.note_braces.Goals as goal

pub loop-atom-preserved-then-stands_for_context : goal.loop-atom-preserved-then-stands_for_context
loop-atom-preserved-then-stands_for_context c =
    let source = c.args.source.now in
    let atoms = c.args.atoms.now in
    let atom = c.atom-item.result in
    both_counted source (flat_map (listed_by source) (take c.loop-atom.atom-index atoms)) (listed_in source (said source atom.name)) _ c.args.self.now c.loop-atom.self c.note_context.new.self
    (grind (arith, given_more (listed_by source) atoms c.loop-atom.atom-index atom c.loop-atom-test.true c.atom-item.is))
    c.loop-atom.invariant c.in_ok-note_context.ensures

pub loop-atom-preserved : goal.loop-atom-preserved
loop-atom-preserved c =
    let source = c.args.source.now in
    let atoms = c.args.atoms.now in
    let atom = c.atom-item.result in
    both_counted source (flat_map (listed_by source) (take c.loop-atom.atom-index atoms)) (atom ∷ []) _ c.args.self.now c.loop-atom.self c.note.new.self
    (grind (arith, given_more (listed_by source) atoms c.loop-atom.atom-index atom c.loop-atom-test.true c.atom-item.is))
    c.loop-atom.invariant c.in_ok-note.ensures
