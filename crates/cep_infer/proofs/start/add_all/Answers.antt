use Rattle.std.proofs.Common.{◌<◌, length, map, sym, ◌∙◌, arith}
use Rattle.std.proofs.lemmas.List.{length-map}
use Rattle.cep_term.specs.Tree.{IsGroundAtom, atom_of}
use Rattle.cep_base.proofs.Elements.{all_at}
use Rattle.cep_infer.specs.Meaning.{is_fact_by}
use Rattle.cep_infer.proofs.HeldOnce.{atom_at, passed_over, added}
use Rattle.cep_infer.proofs.start.add_all.Goals as goal

pub loop-atom-preserved-then-is_repeated : goal.loop-atom-preserved-then-is_repeated
loop-atom-preserved-then-is_repeated c =
    let trees = map (λ atom. atom_of atom.now) c.args.atoms.now in
    let within : c.loop-atom.atom-index < length trees = omega (arith, length-map c.args.atoms.now (λ atom. atom_of atom.now), c.loop-atom-test.true) in
    passed_over c.bags_are_lawful.ensures (is_fact_by c.args.source.now) trees c.loop-atom.atom-index (atom_of c.atom-item.result.now) c.loop-atom.bag within
    (atom_at (λ atom. atom_of atom.now) c.args.atoms.now c.loop-atom.atom-index c.atom-item.result c.loop-atom-test.true c.atom-item.is) c.requires c.loop-atom.invariant
    (sym c.is_repeated.ensures ∙ c.if-is_repeated.true)

pub add-requires-clause-known : goal.add-requires-clause-known
add-requires-clause-known c =
    let trees = map (λ atom. atom_of atom.now) c.args.atoms.now in
    let within : c.loop-atom.atom-index < length trees = omega (arith, length-map c.args.atoms.now (λ atom. atom_of atom.now), c.loop-atom-test.true) in
    all_at IsGroundAtom trees (atom_of c.atom-item.result.now) c.requires
    (c.loop-atom.atom-index, within, atom_at (λ atom. atom_of atom.now) c.args.atoms.now c.loop-atom.atom-index c.atom-item.result c.loop-atom-test.true c.atom-item.is)

pub loop-atom-preserved : goal.loop-atom-preserved
loop-atom-preserved c =
    let trees = map (λ atom. atom_of atom.now) c.args.atoms.now in
    let within : c.loop-atom.atom-index < length trees = omega (arith, length-map c.args.atoms.now (λ atom. atom_of atom.now), c.loop-atom-test.true) in
    added c.bags_are_lawful.ensures (is_fact_by c.args.source.now) trees c.loop-atom.atom-index (atom_of c.atom-item.result.now) c.loop-atom.bag within
    (atom_at (λ atom. atom_of atom.now) c.args.atoms.now c.loop-atom.atom-index c.atom-item.result c.loop-atom-test.true c.atom-item.is) c.requires c.loop-atom.invariant
    c.add.new.self (sym c.is_repeated.ensures ∙ c.if-is_repeated.false) c.in_ok-add.ensures.ok
