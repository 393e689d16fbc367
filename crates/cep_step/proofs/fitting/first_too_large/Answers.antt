use Rattle.std.proofs.Common.{arith}
use Rattle.std.proofs.lemmas.List.{take_all, length-map}
use Rattle.cep_base.proofs.Lists.{get_mapped}
use Rattle.cep_term.specs.Tree.{atom_of}
use Rattle.cep_rule.specs.Instances.{full_instance}
use Rattle.cep_step.proofs.Ready.{fit_next, beyond}
use Rattle.cep_step.proofs.fitting.first_too_large.Goals as goal

pub loop-i-preserved : goal.loop-i-preserved
loop-i-preserved c =
    fit_next _ _ _ c.size.result c.loop-i.invariant (get_mapped (full_instance c.args.measured.now.values.now) c.args.right.now _ _ c.get.ensures) c.size.ensures.nodes c.size.ensures.depth c.in_default.ensures

pub returns-in-Some : goal.returns-in-Some
returns-in-Some c =
    let a = full_instance c.args.measured.now.values.now (atom_of c.get.result.now) in
    record {
      place = c.loop-i.i;
      atom = a;
      there = get_mapped (full_instance c.args.measured.now.values.now) c.args.right.now _ _ c.get.ensures;
      before = c.loop-i.invariant;
      over = beyond a c.size.result _ c.size.ensures.nodes c.size.ensures.depth c.in-Some.ensures;
    }

pub returns : goal.returns
returns c = grind (arith, take_all, length-map)
