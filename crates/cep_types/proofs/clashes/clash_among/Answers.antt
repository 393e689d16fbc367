use Rattle.cep_refusal.specs.First.{standing}
use Rattle.cep_base.proofs.ForemostLoops.{foremost_more}
use Rattle.cep_types.specs.Clashes.{atom_clashes}
use Rattle.cep_types.specs.Met.{type_met}
use Rattle.cep_types.proofs.clashes.clash_among.Goals as goal

pub loop-atom-preserved : goal.loop-atom-preserved
loop-atom-preserved c =
    foremost_more standing (atom_clashes c.args.source.now (type_met c.args.source.now c.args.variables.now.firsts)) c.args.atoms.now c.loop-atom.atom-index c.atom-item.result _ _ _ c.loop-atom-test.true c.atom-item.is c.loop-atom.invariant
    (rw (← c.of_raw.ensures) c.in_ok-clash.ensures) c.note.ensures
