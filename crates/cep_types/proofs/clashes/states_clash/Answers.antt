use Rattle.std.proofs.Common.{[], ◌∷◌}
use Rattle.cep_refusal.specs.First.{standing}
use Rattle.cep_base.proofs.ForemostLoops.{foremost_more}
use Rattle.cep_types.specs.Clashes.{scope_clashes}
use Rattle.cep_types.proofs.clashes.states_clash.Goals as goal

pub loop-atom-preserved : goal.loop-atom-preserved
loop-atom-preserved c =
    foremost_more standing (λ atom. scope_clashes c.args.source.now (atom ∷ [])) c.args.atoms.now c.loop-atom.atom-index c.atom-item.result _ _ _ c.loop-atom-test.true c.atom-item.is c.loop-atom.invariant
    (rw (← c.of_raw.ensures) c.in_ok-clash.ensures) c.note.ensures
