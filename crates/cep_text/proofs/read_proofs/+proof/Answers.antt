use Rattle.cep_text.specs.Reading.{node_at, proof_at, small_at}
use Rattle.std.proofs.lemmas.Grind.{common_steps}
use Rattle.std.proofs.Common.{◌-◌, refl, arith}
use Rattle.std.proofs.lemmas.Result.{err_from_is_err_and}
use Rattle.cep_text.proofs.ValuesFound.{fails_first, proof_zero, proof_more, proofs_zero, proofs_more}
use Rattle.cep_text.proofs.read_proofs.+proof.Goals as goal

pub proof-returns-then-height-eq0-clause-read : goal.proof-returns-then-height-eq0-clause-read
proof-returns-then-height-eq0-clause-read t c = proof_zero _ _ _ _ c.if-height-eq0.true

pub proof-returns-clause-read : goal.proof-returns-clause-read
proof-returns-clause-read t c =
    rw (proof_more c.args.vocabulary.now (small_at c.args.vocabulary.now.signature.cons) c.args.height (c.args.height - 1) c.args.bytes.now (omega arith)) c.node.ensures.read

pub proofs-returns-then-goals-eq0-clause-read : goal.proofs-returns-then-goals-eq0-clause-read
proofs-returns-then-goals-eq0-clause-read t c = proofs_zero _ _ _ c.if-goals-eq0.true

pub proofs-returns-in_err-rest-clause-read : goal.proofs-returns-in_err-rest-clause-read
proofs-returns-in_err-rest-clause-read t c =
    let p = err_from_is_err_and c.from_residual.result c.from_residual.ensures.1 in
    rw (p.1, p.2, proofs_more (proof_at c.args.vocabulary.now (small_at c.args.vocabulary.now.signature.cons) c.args.height) c.args.goals (c.args.goals - 1) c.args.bytes.now (omega arith))
    (fails_first c.in_err-rest.field-0.0 _ _ c.in_err-rest.ensures.read)

pub proofs-returns-in_err-first-clause-read : goal.proofs-returns-in_err-first-clause-read
proofs-returns-in_err-first-clause-read t c =
    let p = err_from_is_err_and c.from_residual-in_err-first.result c.from_residual-in_err-first.ensures.1 in
    rw (p.1, p.2, proofs_more (proof_at c.args.vocabulary.now (small_at c.args.vocabulary.now.signature.cons) c.args.height) c.args.goals (c.args.goals - 1) c.args.bytes.now (omega arith), c.in_ok-rest.ensures.read)
    (fails_first c.in_err-first.field-0.0 _ _ c.in_err-first.ensures.read)

pub proofs-returns-in_err-others-clause-read : goal.proofs-returns-in_err-others-clause-read
proofs-returns-in_err-others-clause-read t c =
    let p = err_from_is_err_and c.from_residual-in_err-others.result c.from_residual-in_err-others.ensures.1 in
    rw (p.1, p.2, proofs_more (proof_at c.args.vocabulary.now (small_at c.args.vocabulary.now.signature.cons) c.args.height) c.args.goals (c.args.goals - 1) c.args.bytes.now (omega arith), c.in_ok-rest.ensures.read, c.in_ok-first.ensures.read)
    (fails_first c.in_err-others.field-0.0 _ _ c.in_err-others.ensures.read)

pub proofs-returns-clause-read : goal.proofs-returns-clause-read
proofs-returns-clause-read t c =
    rw (proofs_more (proof_at c.args.vocabulary.now (small_at c.args.vocabulary.now.signature.cons) c.args.height) c.args.goals (c.args.goals - 1) c.args.bytes.now (omega arith), c.in_ok-rest.ensures.read, c.in_ok-first.ensures.read, c.in_ok-others.ensures.read, c.in_ok-new.ensures.ok) refl

pub node-returns-clause-read : goal.node-returns-clause-read
unfolding node_at
node-returns-clause-read t c = grind (arith, common_steps)

pub node-returns-in_err-number-clause-read : goal.node-returns-in_err-number-clause-read
unfolding node_at
node-returns-in_err-number-clause-read t c = grind (arith, common_steps)

pub node-returns-in_err-rest-clause-read : goal.node-returns-in_err-rest-clause-read
unfolding node_at
node-returns-in_err-rest-clause-read t c = grind (arith, common_steps)

pub node-returns-in_err-subs-clause-read : goal.node-returns-in_err-subs-clause-read
unfolding node_at
node-returns-in_err-subs-clause-read t c = grind (arith, common_steps)
