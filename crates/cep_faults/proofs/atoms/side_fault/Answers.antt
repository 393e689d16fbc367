use Rattle.std.proofs.Common.{[], ◌∙◌, ap, sym}
use Rattle.cep_parse.specs.declared.raw.RawAtom.{RawAtom}
use Rattle.cep_parse.specs.declared.raw.RawElem.{RawElem}
use Rattle.cep_refusal.specs.First.{first_in}
use Rattle.cep_faults.specs.Faults.{side_atom_faults, elem_faults}
use Rattle.cep_faults.proofs.Firsts.{noted}
use Rattle.cep_faults.proofs.atoms.side_fault.Goals as goal
use Rattle.cep_faults.proofs.atoms.side_fault.Goals.{in-Atom, in-Stage, in-Qui}

pub loop-elem-preserved : goal.loop-elem-preserved
loop-elem-preserved c =
    let source = c.args.source.now in
    let made = c.args.made in
    noted (elem_faults source made) [] c.args.side.now c.loop-elem.elem-index _ c.elem-item.result _ _ _ c.loop-elem-test.true c.elem-item.is c.loop-elem.invariant
    (elim c.match-elem.branch [
      | in-Atom w ↦
          w.note-is ∙ w.side_atom_fault.ensures ∙ ap (λ (atom : RawAtom). first_in (side_atom_faults source made atom)) w.of_raw.ensures
          ∙ ap (λ (elem : RawElem). first_in (elem_faults source made elem)) (sym w.in-Atom.is)
      | in-Stage w ↦ w.note-is ∙ w.use_fault.ensures ∙ ap (λ (elem : RawElem). first_in (elem_faults source made elem)) (sym w.in-Stage.is)
      | in-Qui w ↦ w.note-is ∙ ap (λ (elem : RawElem). first_in (elem_faults source made elem)) (sym w.in-Qui.is)
    ])
    c.note.ensures
