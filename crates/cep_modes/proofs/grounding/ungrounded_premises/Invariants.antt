use Rattle.std.proofs.Common.{take}
use Rattle.cep_modes.specs.Grounding.{AreAllMarks}
use Rattle.cep_modes.proofs.grounding.ungrounded_premises.Given as goal

abbrev pub invariant-loop-rule : goal.invariant-loop-rule
invariant-loop-rule l = AreAllMarks l.parts.clauses (take l.rule l.parts.rules) l.marks
