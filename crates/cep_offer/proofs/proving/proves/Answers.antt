use Rattle.std.proofs.Common.{◌↔◌, IsTrue, subst}
use Rattle.cep_term.specs.Tree.{AtomTree, atom_of}
use Rattle.cep_rule.specs.Derivations.{proof_of, Proves}
use Rattle.cep_rule.proofs.TypedValues.{atom_alone}
use Rattle.cep_offer.proofs.proving.proves.Goals as goal

pub returns : goal.returns
returns c = subst (λ (a : AtomTree). IsTrue c.proves_instance.result ↔ Proves c.args.program.now (proof_of c.args.d.now) a) (atom_alone (atom_of c.args.atom.now)) c.proves_instance.ensures
