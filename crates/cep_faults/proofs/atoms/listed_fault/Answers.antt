use Rattle.std.proofs.Common.{arith, [], ◌∙◌, ◌&&◌, if◌then◌else◌, ap, sym, false, ◌≡◌, Bool}
use Rattle.std.proofs.lemmas.Bool.{and_right}
use Rattle.cep_parse.specs.declared.raw.RawAtom.{RawAtom}
use Rattle.cep_refusal.specs.First.{first_in}
use Rattle.cep_source.specs.Uses.{stands_for_context}
use Rattle.cep_faults.specs.Faults.{state_faults, listed_faults}
use Rattle.cep_faults.proofs.Firsts.{noted}
use Rattle.cep_faults.proofs.atoms.listed_fault.Goals as goal
use Rattle.cep_faults.proofs.atoms.listed_fault.Goals.{else-in_braces-via-then-in_braces+else-stands_for_context, else-in_braces-via-else-in_braces}
use Rattle.std.proofs.lemmas.Grind.{common_steps}

pub loop-atom-preserved : goal.loop-atom-preserved
loop-atom-preserved c =
    let source = c.args.source.now in
    let atom = c.atom-item.result in
    let itself : (c.args.in_braces && stands_for_context source atom) ≡ false = elim c.else-in_braces.branch [
      | else-in_braces-via-then-in_braces+else-stands_for_context w ↦ and_right c.args.in_braces (stands_for_context source atom) (sym w.if-stands_for_context.ensures)
      | else-in_braces-via-else-in_braces w ↦ ap (λ (b : Bool). b && stands_for_context source atom) w.if-in_braces.false
    ] in
    noted (listed_faults source c.args.in_braces) [] c.args.atoms.now c.loop-atom.atom-index _ atom _ _ _ c.loop-atom-test.true c.atom-item.is c.loop-atom.invariant
    (c.in_ok-fault.ensures ∙ ap (λ (raw : RawAtom). first_in (state_faults source raw)) c.of_raw.ensures
    ∙ ap (λ (b : Bool). first_in (if b then [] else state_faults source atom)) (sym itself))
    c.note.ensures

pub loop-atom-preserved-then-stands_for_context : goal.loop-atom-preserved-then-stands_for_context
loop-atom-preserved-then-stands_for_context c = grind (arith, common_steps)

pub returns : goal.returns
returns c = grind (arith, common_steps)
