use Rattle.cep_claim.specs.Tables.{NamesLinearBelow}
use Rattle.cep_claim.proofs.numbering.linear_names.Given as goal

abbrev pub invariant-loop-i : goal.invariant-loop-i
invariant-loop-i l = NamesLinearBelow l.signature l.i l.table
