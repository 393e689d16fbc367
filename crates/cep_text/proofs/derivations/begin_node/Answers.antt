use Rattle.std.proofs.Common.{arith}
use Rattle.std.proofs.lemmas.Grind.{common_steps}
use Rattle.cep_rule.specs.Patterns.{clause_of}
use Rattle.cep_text.proofs.Valued.{node_values, all_declared, clause_as_many}
use Rattle.cep_base.proofs.Options.{some_there, within_got}
use Rattle.cep_text.proofs.derivations.begin_node.Goals as goal

pub put_values-requires-clause-as_many : goal.put_values-requires-clause-as_many
put_values-requires-clause-as_many c =
    clause_as_many c.args.program.now c.args.number c.args.values.now (clause_of c.get-clause.result.now) c.parts-parts.ensures.kept c.requires (rw c.parts-parts.ensures.parts at c.get-clause.ensures)

pub put_values-requires-clause-declared : goal.put_values-requires-clause-declared
put_values-requires-clause-declared c =
    rw c.parts-parts.ensures.parts (all_declared _ _ c.args.values.now (node_values c.args.program.now c.args.number c.args.values.now (clause_of c.get-clause.result.now) c.requires (rw c.parts-parts.ensures.parts at c.get-clause.ensures)))

pub returns : goal.returns
returns c = grind (arith, common_steps)

pub get-clause-requires : goal.get-clause-requires
get-clause-requires c = rw c.parts-parts.ensures.parts (within_got c.args.program.now.clauses c.args.number _ (some_there _ _ c.requires).1)
