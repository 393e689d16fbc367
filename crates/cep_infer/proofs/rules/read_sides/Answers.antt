use Rattle.cep_infer.proofs.rules.read_sides.Goals as goal

pub returns : goal.returns
returns c = record {
  behind = c.read_left.new.blanks;
  left_is = rw c.as_slice.ensures at c.in_ok-left.ensures;
  right_is = rw c.as_slice-2.ensures at c.in_ok-read_side.ensures;
}
