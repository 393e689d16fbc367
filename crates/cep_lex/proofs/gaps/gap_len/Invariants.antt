use Rattle.std.proofs.Common.{take}
use Rattle.cep_lex.proofs.GapLemmas.{IsGapSoFar}
use Rattle.cep_lex.proofs.gaps.gap_len.Given as goal

abbrev pub invariant-loop-i : goal.invariant-loop-i
invariant-loop-i l = IsGapSoFar l.in_comment (take l.i l.bytes)
