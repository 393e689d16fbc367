use Rattle.std.proofs.Common.{add-one, refl, arith}
use Rattle.std.proofs.lemmas.List.{length-map, take_all}
use Rattle.cep_base.proofs.Lists.{get_mapped}
use Rattle.cep_rule.specs.Instances.{full_instance, full_instances}
use Rattle.cep_check.proofs.Verdicts.{proofs_one, proof_cause}
use Rattle.cep_check.proofs.premises.first_failure.Goals as goal

pub loop-i-preserved : goal.loop-i-preserved
loop-i-preserved c = rw add-one (proofs_one _ _ _ _ c.loop-i.i _ _ c.loop-i.invariant c.get-proof.ensures (get_mapped (full_instance c.args.values.now) c.args.backs.now c.loop-i.i _ c.get-back.ensures) (rw c.in_default.is at c.in_ok-cause.ensures))

pub returns-in-Some : goal.returns-in-Some
returns-in-Some c = proof_cause c.args.program.now c.args.most c.args.proofs.now _ c.loop-i.i _ _ _ c.in-Some.cause refl c.loop-i.invariant c.get-proof.ensures (get_mapped (full_instance c.args.values.now) c.args.backs.now c.loop-i.i _ c.get-back.ensures) (rw c.in-Some.is at c.in_ok-cause.ensures)

pub returns : goal.returns
returns c =
    let instances = full_instances c.args.values.now c.args.backs.now in
    rw (take_all c.loop-i.i c.args.proofs.now (omega arith), take_all c.loop-i.i instances (omega (arith, length-map c.args.backs.now (full_instance c.args.values.now)))) at c.loop-i.invariant
