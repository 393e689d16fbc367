use Rattle.std.proofs.Common.{List, ◌∙◌, ap, sym, append-nil}
use Rattle.std.specs.List.{flat_map}
use Rattle.cep_parse.specs.declared.raw.RawAtom.{RawAtom}
use Rattle.cep_parse.specs.Raw.{atoms_in}
use Rattle.cep_refusal.specs.declared.fault.Fault.{Fault}
use Rattle.cep_refusal.specs.First.{standing, first_in}
use Rattle.cep_base.proofs.ForemostLoops.{foremost_flat}
use Rattle.cep_types.specs.Clashes.{atom_clashes}
use Rattle.cep_types.specs.Met.{type_met}
use Rattle.cep_types.proofs.clashes.side_clash.Goals as goal

pub loop-elem-preserved : goal.loop-elem-preserved
loop-elem-preserved c =
    let clashes : RawAtom → List Fault = atom_clashes c.args.source.now (type_met c.args.source.now c.args.variables.now.firsts) in
    foremost_flat standing clashes atoms_in c.args.side.now c.loop-elem.elem-index c.elem-item.result _ _ _ c.loop-elem-test.true c.elem-item.is c.loop-elem.invariant
    (c.in_ok-clash.ensures ∙ ap (λ (atom : RawAtom). first_in (clashes atom)) c.of_raw.ensures ∙ ap first_in (sym (append-nil (clashes c.in-Some.atom.now)))
    ∙ ap (λ (atoms : List RawAtom). first_in (flat_map clashes atoms)) (sym c.in-Some.ensures))
    c.note.ensures
