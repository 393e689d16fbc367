use Rattle.std.proofs.Common.{length, sym}
use Rattle.std.proofs.lemmas.Bool.{ltb-true}
use Rattle.cep_term.specs.Tree.{variable}
use Rattle.cep_rule.proofs.TypedValues.{value_told}
use Rattle.cep_rule.proofs.told.value_of.Goals as goal

pub returns-in-Some : goal.returns-in-Some
returns-in-Some c =
    let found = c.in-Some.ensures.lookup in
    value_told c.args.values.now c.args.v _ c.in-Some.value.now (variable c.args.v) (ltb-true c.args.v (length c.args.values.now) (sym found.0)) found.1
