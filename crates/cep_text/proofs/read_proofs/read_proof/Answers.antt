use Rattle.cep_rule.specs.Derivations.{proof_of}
use Rattle.cep_text.proofs.OfferTexts.{proof_some, proof_none}
use Rattle.cep_text.proofs.read_proofs.read_proof.Goals as goal

pub returns-in-Ok-clause-some : goal.returns-in-Ok-clause-some
returns-in-Ok-clause-some c = proof_some c.args.vocabulary.now c.args.bytes.now (proof_of c.in-Ok.d) c.whole_proof.ensures.kept c.in-Ok.ensures.read

pub returns-in-Err-Unread-clause-none : goal.returns-in-Err-Unread-clause-none
returns-in-Err-Unread-clause-none c =
    let unread = rw c.in-Err-Unread.field-0-is at c.in-Err-Unread.ensures.read in
    proof_none c.args.vocabulary.now c.args.bytes.now c.whole_proof.ensures.kept unread
