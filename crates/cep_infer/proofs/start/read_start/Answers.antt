use Rattle.std.proofs.Common.{map, ap, ◌∙◌}
use Rattle.std.specs.List.Sorted.{IsPermutation}
use Rattle.std.proofs.lemmas.Result.{IfOk-weaker}
use Rattle.cep_term.specs.Tree.{IsGroundAtom, atom_of}
use Rattle.cep_term.specs.Multiset.{once}
use Rattle.cep_source.specs.Kept.{trace_item}
use Rattle.cep_infer.specs.Meaning.{is_fact_by}
use Rattle.cep_infer.proofs.RulesInTurn.{start_ground, start_filled}
use Rattle.cep_infer.proofs.HeldOnce.{all_reordered, same_gathered}
use Rattle.cep_infer.proofs.start.read_start.Goals as goal

pub add_all-requires : goal.add_all-requires
add_all-requires c =
    let trees = map (λ atom. atom_of atom.now) c.deref.result.now in
    all_reordered IsGroundAtom c.in_ok-atoms.atoms trees
    (rw c.deref.ensures.value c.in_ok-rising.ensures)
    (start_ground c.args.source.now (trace_item c.args.trace.now) c.in_ok-atoms.atoms c.requires.named c.requires.there c.in_ok-atoms.ensures)

pub returns : goal.returns
returns c =
    let trees = map (λ atom. atom_of atom.now) c.deref.result.now in
    let same : IsPermutation c.in_ok-atoms.atoms trees = rw c.deref.ensures.value c.in_ok-rising.ensures in
    let ground = start_ground c.args.source.now (trace_item c.args.trace.now) c.in_ok-atoms.atoms c.requires.named c.requires.there c.in_ok-atoms.ensures in
    IfOk-weaker c.add_all.result _ _
    (λ bag is. record {
      atoms = c.in_ok-atoms.atoms;
      atoms_are = c.in_ok-atoms.ensures;
      start_is = is ∙ ap (once (is_fact_by c.args.source.now)) (same_gathered c.bags_are_lawful.ensures c.in_ok-atoms.atoms trees same ground);
    })
    c.add_all.ensures

pub start_atoms-requires : goal.start_atoms-requires
start_atoms-requires c = start_filled c.args.source.now c.requires.filled (trace_item c.args.trace.now) c.requires.there
