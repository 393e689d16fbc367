use Rattle.std.proofs.Common.{arith}
use Rattle.std.proofs.lemmas.Grind.{common_steps}
use Rattle.cep_infer.proofs.RulesInTurn.{none_more, one_apart, node_there}
use Rattle.cep_infer.proofs.terms.+terms.Goals as goal

pub read_args-returns-clause-heads : goal.read_args-returns-clause-heads
read_args-returns-clause-heads t c = grind (arith, common_steps)

pub read_term-returns-in-Var-clause-heads : goal.read_term-returns-in-Var-clause-heads
read_term-returns-in-Var-clause-heads t c = grind (arith, common_steps)

pub read_args-read_args-requires : goal.read_args-read_args-requires
read_args-read_args-requires t c =
    let filled = one_apart c.args.count c.requires.0 _ c.if-count-eq0.false c.requires.1 in
    (grind (arith, node_there c.args.nodes.now c.args.cursor.now.at _ filled), (c.requires.0, c.in_ok-term.ensures.filled _ filled))

pub read_args-returns-then-count-eq0-clause-filled : goal.read_args-returns-then-count-eq0-clause-filled
read_args-returns-then-count-eq0-clause-filled t c = λ more filled. none_more c.args.count more _ c.if-count-eq0.true filled

pub read_args-returns-clause-filled : goal.read_args-returns-clause-filled
read_args-returns-clause-filled t c = grind (arith, one_apart)

pub read_term-offset_bounds-nodes-cursor : goal.read_term-offset_bounds-nodes-cursor
read_term-offset_bounds-nodes-cursor t c = grind (arith, node_there c.args.nodes.now c.args.cursor.now.at _ c.requires.1)

pub read_term-bounds-nodes-cursor : goal.read_term-bounds-nodes-cursor
read_term-bounds-nodes-cursor t c = node_there c.args.nodes.now c.args.cursor.now.at _ c.requires.1

pub read_term-overflow_add-cursor : goal.read_term-overflow_add-cursor
read_term-overflow_add-cursor t c = grind (arith, node_there c.args.nodes.now c.args.cursor.now.at _ c.requires.1)

pub read_term-read_args-requires : goal.read_term-read_args-requires
read_term-read_args-requires t c = grind (arith, common_steps)

pub read_term-returns-in_ok-args-in-App-clause-heads : goal.read_term-returns-in_ok-args-in-App-clause-heads
read_term-returns-in_ok-args-in-App-clause-heads t c = grind (arith, common_steps)

pub read_term-returns-in_ok-args-in-App-clause-blanks : goal.read_term-returns-in_ok-args-in-App-clause-blanks
read_term-returns-in_ok-args-in-App-clause-blanks t c = grind (arith, common_steps)

pub read_term-returns-in_ok-args-in-App-clause-filled : goal.read_term-returns-in_ok-args-in-App-clause-filled
read_term-returns-in_ok-args-in-App-clause-filled t c = grind (arith, common_steps)
