use Rattle.std.proofs.Common.{◌∷◌, ◌∙◌, ap, arith}
use Rattle.cep_parse.specs.declared.raw.RawAtom.{RawAtom}
use Rattle.cep_refusal.specs.First.{first_in}
use Rattle.cep_source.specs.Kept.{clause_item}
use Rattle.cep_faults.specs.Faults.{clause_atom_faults}
use Rattle.cep_faults.proofs.Firsts.{first_in_append, noted, all_noted, variable_at_most}
use Rattle.cep_faults.proofs.rules.clause_fault.Goals as goal

pub loop-goal-preserved : goal.loop-goal-preserved
loop-goal-preserved c =
    let source = c.args.source.now in
    noted (clause_atom_faults source) (clause_atom_faults source (clause_item c.args.clause.now).head) c.args.clause.now.goals.now c.loop-goal.goal-index _ c.goal-item.result _ _ _ c.loop-goal-test.true c.goal-item.is c.loop-goal.invariant
    (c.clause_atom_fault-in-loop-goal.ensures ∙ ap (λ (goal_ : RawAtom). first_in (clause_atom_faults source goal_)) c.of_raw.ensures) c.note-in-loop-goal.ensures

pub returns : goal.returns
returns c =
    let source = c.args.source.now in
    let clause = clause_item c.args.clause.now in
    let atoms = all_noted (clause_atom_faults source) (clause_atom_faults source clause.head) clause.goals c.loop-goal.goal-index _ c.loop-goal-test.false c.loop-goal.invariant in
    let variables = variable_at_most source (clause.head ∷ clause.goals) c.in_ok-variables.variables _ c.in_ok-variables.ensures c.variable_past.ensures in
    grind (arith, first_in_append, atoms, variables)
