use Rattle.std.proofs.Common.{arith, rules}
use Rattle.std.proofs.lemmas.Grind.{common_steps}
use Rattle.cep_rule.specs.Derivations.{proof_of}
use Rattle.cep_text.proofs.Nodes.{node_begun, node_goes_on}
use Rattle.cep_text.proofs.derivations.+derivation.Goals as goal

pub put_proof-returns-in_err-begin_proof-clause-err : goal.put_proof-returns-in_err-begin_proof-clause-err
put_proof-returns-in_err-begin_proof-clause-err t c =
    node_begun _ c.args.program.now (proof_of c.args.d.now) c.args.out.now c.begin_proof.new.out c.in_err-begin_proof.ensures.err

pub put_proof-returns-in_err-put_proofs-clause-err : goal.put_proof-returns-in_err-put_proofs-clause-err
put_proof-returns-in_err-put_proofs-clause-err t c =
    node_goes_on _ c.args.program.now (proof_of c.args.d.now) _ c.args.out.now c.begin_proof.new.out c.put_proofs.new.out
    c.in_ok-begin_proof.ensures.ok c.in_err-put_proofs.ensures.err (search rules)

pub put_proof-returns : goal.put_proof-returns
put_proof-returns t c = grind (arith, common_steps)

pub put_proofs-returns-in_err-put_proof-in-Cons-clause-err : goal.put_proofs-returns-in_err-put_proof-in-Cons-clause-err
put_proofs-returns-in_err-put_proof-in-Cons-clause-err t c = grind (arith, common_steps)

pub put_proofs-returns-in_ok-put_proof-in-Cons : goal.put_proofs-returns-in_ok-put_proof-in-Cons
put_proofs-returns-in_ok-put_proof-in-Cons t c = grind (arith, common_steps)
