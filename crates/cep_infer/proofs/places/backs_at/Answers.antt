use Rattle.std.proofs.Common.{◌≡◌, false, [], ◌∷◌, map, filter, if◌then◌else◌, ap, sym, append-nil, rules, of_calls}
use Rattle.std.specs.Prelude.{unwrap_or}
use Rattle.std.specs.Option.{option_map}
use Rattle.cep_base.specs.Kinds.{is_backward}
use Rattle.cep_parse.specs.declared.raw.RawAtom.{RawAtom}
use Rattle.cep_parse.specs.Raw.{atoms_in}
use Rattle.cep_source.specs.Spaces.{kind_of}
use Rattle.cep_infer.proofs.RulesInTurn.{kept_more, one_kept}
use Rattle.cep_infer.proofs.places.backs_at.Goals as goal
use Rattle.cep_infer.proofs.places.backs_at.Goals.{then-is_some_and+in_ok-push, else-is_some_and}

pub loop-elem-preserved : goal.loop-elem-preserved
loop-elem-preserved c =
    let passes = λ (atom : RawAtom). unwrap_or (option_map is_backward (kind_of c.args.source.now atom)) false in
    let atom = c.in-Some.atom.now in
    let passed : c.is_some_and.result ≡ passes atom = search (of_calls, rules) in
    kept_more (λ (atom : RawAtom). atom.name.from) passes atoms_in c.as_slice-elem-items.result.now c.loop-elem.elem-index c.elem-item.result
    c.loop-elem.ats.items c.if-is_some_and.ats.items (if c.is_some_and.result then atom.name.from ∷ [] else []) c.loop-elem-test.true c.elem-item.is c.loop-elem.invariant
    (one_kept (λ (atom : RawAtom). atom.name.from) passes (atoms_in c.elem-item.result) atom c.is_some_and.result c.in-Some.ensures passed)
    (elim c.if-is_some_and.branch [
      | then-is_some_and+in_ok-push w ↦ rw (w.ats-is, w.if-is_some_and.true) w.in_ok-push.ensures.items
      | else-is_some_and w ↦ rw (w.ats-is, w.if-is_some_and.false) (sym (append-nil c.loop-elem.ats.items))
    ])

pub loop-elem-preserved-in_default : goal.loop-elem-preserved-in_default
loop-elem-preserved-in_default c =
    let passes = λ (atom : RawAtom). unwrap_or (option_map is_backward (kind_of c.args.source.now atom)) false in
    kept_more (λ (atom : RawAtom). atom.name.from) passes atoms_in c.as_slice-elem-items.result.now c.loop-elem.elem-index c.elem-item.result
    c.loop-elem.ats.items c.loop-elem.ats.items [] c.loop-elem-test.true c.elem-item.is c.loop-elem.invariant
    (ap (λ atoms. map (λ (atom : RawAtom). atom.name.from) (filter passes atoms)) (sym c.in_default.ensures)) (sym (append-nil c.loop-elem.ats.items))
