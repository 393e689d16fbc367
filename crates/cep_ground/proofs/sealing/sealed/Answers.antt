use Rattle.std.proofs.Common.{refl}
use Rattle.cep_ground.proofs.sealing.sealed.Goals as goal

pub seal-requires : goal.seal-requires
seal-requires c =
    c.clean_parts_are_a_program.ensures.program (record { text = c.args.text.now; file = c.args.file.now }) c.args.parts c.requires.clean
    c.requires.bound c.requires.declared c.requires.grounded

pub returns : goal.returns
returns c = record {
  source = record { text = c.args.text.now; file = c.args.file.now };
  text_is = refl;
  clean = c.requires.clean;
  declared = rw c.seal.ensures c.requires.declared;
  bound = c.requires.bound;
  grounded = rw c.seal.ensures c.requires.grounded;
}
