use Rattle.cep_log.proofs.SameLogs.{written_lines, decimal_one, atom_one, offer_one, proof_one, stage_one}
use Rattle.cep_log.proofs.laws.lines_are_read_as_written.Goals as goal

pub returns : goal.returns
returns c = record {
  lines = written_lines;
  numbers = decimal_one;
  atoms = λ program a is typed. atom_one program is a typed;
  offers = λ program offer is of. offer_one program is offer of;
  derivations = λ program proof is of. proof_one program is proof of;
  stages = λ program stage is within. stage_one program is stage within;
}
