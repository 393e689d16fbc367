use Rattle.std.proofs.Common.{ℕ, List, subst}
use Rattle.cep_graph.specs.Traces.{TakesFor}
use Rattle.cep_graph.proofs.Trailing.{premises_in_range, premises_ground, right_in_range, right_ground, touch_ends}
use Rattle.cep_graph.proofs.touching.touch.Goals as goal

pub take-requires-clause-range : goal.take-requires-clause-range
take-requires-clause-range c = premises_in_range c.types_are_lawful.ensures c.args.signature.now c.args.rule.now c.args.values.now c.requires.typed c.requires.values

pub take-requires-clause-ground : goal.take-requires-clause-ground
take-requires-clause-ground c = premises_ground c.types_are_lawful.ensures c.args.signature.now c.args.rule.now c.args.values.now c.requires.typed c.requires.values

pub make-requires-clause-range : goal.make-requires-clause-range
make-requires-clause-range c = right_in_range c.types_are_lawful.ensures c.args.signature.now c.args.rule.now c.args.values.now c.requires.typed c.requires.values

pub make-requires-clause-ground : goal.make-requires-clause-ground
make-requires-clause-ground c = right_ground c.types_are_lawful.ensures c.args.signature.now c.args.rule.now c.args.values.now c.requires.typed c.requires.values

pub returns : goal.returns
returns c =
    touch_ends c.args.signature.now c.args.values.now c.args.rule.now c.args.number c.args.tokens.now c.take.new.tokens c.make.new.tokens c.take.new.numbers.items c.in_order.result
    (subst (λ (ns : List ℕ). TakesFor c.args.signature.now c.args.values.now c.args.rule.now.premises c.args.number c.args.tokens.now c.take.new.tokens ns c.take.new.numbers.items) c.new-numbers.ensures.items c.in_ok-take.ensures.takes)
    c.in_ok-make.ensures c.in_order.ensures.increasing c.in_order.ensures.counted c.in_order.ensures.same
