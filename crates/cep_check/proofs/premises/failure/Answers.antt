use Rattle.std.proofs.Common.{refl, rules}
use Rattle.cep_term.specs.Tree.{atom_of}
use Rattle.cep_rule.specs.Instances.{full_instance}
use Rattle.cep_rule.specs.Derivations.{proof_of}
use Rattle.cep_check.proofs.Verdicts.{only_fit}
use Rattle.cep_check.proofs.premises.failure.Goals as goal

pub returns-in-None : goal.returns-in-None
returns-in-None c = (
  refl,
  λ proves. (rw c.in-None.is at c.in_ok-atom.ensures) (only_fit c.args.program.now (proof_of c.args.proof.now) (full_instance c.args.values.now (atom_of c.args.back.now)) proves),
)

pub returns : goal.returns
returns c = search rules
