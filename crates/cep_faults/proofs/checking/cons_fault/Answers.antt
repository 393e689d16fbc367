use Rattle.std.proofs.Common.{[], ◌∙◌, refl, get_or}
use Rattle.cep_source.specs.declared.space.Space.TheVariants as space
use Rattle.cep_source.specs.Kept.{con_item}
use Rattle.cep_faults.specs.Faults.{use_faults, argument_faults, con_faults}
use Rattle.cep_faults.proofs.Firsts.{noted_at, noted_then, all_mapped}
use Rattle.cep_faults.proofs.checking.cons_fault.Goals as goal

pub loop-con-preserved : goal.loop-con-preserved
loop-con-preserved c =
    let source = c.args.source.now in
    let con = get_or c.cons-con-items.result.now c.loop-con.con-index record { name = record { from = 0; to = 0 }; args = record { ref_ptr = (0, 0); now = [] }; sort = record { from = 0; to = 0 } } in
    noted_at (λ con. con_faults source (con_item con)) [] c.cons-con-items.result.now c.loop-con.con-index _ _ _ _ c.loop-con-test.true c.loop-con.invariant refl
    (noted_then (argument_faults source con.args.now) (use_faults source space.Sorts con.sort) _ _ _ _ _ c.note.ensures c.argument_fault.ensures c.use_fault.ensures c.note-in-loop-con.ensures)

pub returns : goal.returns
returns c = c.found.ensures ∙ all_mapped (con_faults c.args.source.now) con_item c.cons-con-items.result.now _ c.loop-con.con-index _ c.loop-con-test.false c.cons-con-items.ensures c.loop-con.invariant
