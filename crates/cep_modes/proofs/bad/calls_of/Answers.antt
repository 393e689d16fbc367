use Rattle.std.proofs.Common.{◌∙◌}
use Rattle.cep_modes.proofs.Numbering.{are_fine}
use Rattle.cep_modes.proofs.bad.calls_of.Goals as goal

pub calls_of_rules-requires-clause-premises : goal.calls_of_rules-requires-clause-premises
calls_of_rules-requires-clause-premises c = (are_fine c.types_are_lawful.ensures c.args.parts.now c.requires).premises

pub calls_of_rules-requires-clause-backs : goal.calls_of_rules-requires-clause-backs
calls_of_rules-requires-clause-backs c = (are_fine c.types_are_lawful.ensures c.args.parts.now c.requires).backs

pub reached-requires-clause-plain : goal.reached-requires-clause-plain
reached-requires-clause-plain c = (are_fine c.types_are_lawful.ensures c.args.parts.now c.requires).clauses

pub reached-requires-clause-first : goal.reached-requires-clause-first
reached-requires-clause-first c = rw (c.in_ok-numbers.ensures.many ∙ c.len.ensures, c.deref.ensures.value ∙ c.in_ok-first.ensures) (are_fine c.types_are_lawful.ensures c.args.parts.now c.requires).places

pub reached-requires-clause-callees : goal.reached-requires-clause-callees
reached-requires-clause-callees c = rw (c.in_ok-numbers.ensures.many ∙ c.len.ensures) (are_fine c.types_are_lawful.ensures c.args.parts.now c.requires).callees
