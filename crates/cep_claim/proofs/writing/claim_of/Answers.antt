use Rattle.std.proofs.Common.{sym, ◌∙◌}
use Rattle.cep_claim.proofs.Parted.{no_words}
use Rattle.cep_claim.proofs.writing.claim_of.Goals as goal

pub returns-then-is_empty-clause-none : goal.returns-then-is_empty-clause-none
returns-then-is_empty-clause-none c = λ written can e. no_words (λ word. word.now) c.args.words.now c.args.claim.now c.args.name.now written (sym c.is_empty.ensures ∙ c.if-is_empty.true) can e
