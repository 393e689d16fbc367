use Rattle.std.proofs.Common.{arith}
use Rattle.std.proofs.lemmas.Grind.{common_steps}
use Rattle.cep_text.proofs.Valued.{atom_names}
use Rattle.cep_base.proofs.Options.{some_there, within_got}
use Rattle.cep_text.proofs.terms.put_atom.Goals as goal

pub put_args-requires : goal.put_args-requires
put_args-requires c = rw c.parts.ensures.parts (atom_names _ _ _ c.requires.is_ground c.requires.typed)

pub returns : goal.returns
returns c = grind (arith, common_steps)

pub get-requires : goal.get-requires
get-requires c = rw c.parts.ensures.parts (within_got c.args.program.now.signature.preds c.args.atom.now.pred _ (some_there _ _ c.requires.typed).1)
