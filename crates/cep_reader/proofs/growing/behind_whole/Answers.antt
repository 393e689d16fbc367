use Rattle.std.proofs.lemmas.Result.{IfOk-weaker}
use Rattle.cep_reader.proofs.LineKindLemmas.{nothing_behind_start, nothing_behind_steps, none_weaker}
use Rattle.cep_reader.proofs.growing.behind_whole.Goals as goal

pub returns-then-not-is_empty-clause-none : goal.returns-then-not-is_empty-clause-none
returns-then-not-is_empty-clause-none c =
    IfOk-weaker c.begun.result _ _
    (λ read none. none_weaker read _ _ (nothing_behind_steps c.args.vocabulary.now c.args.number c.args.line.now c.args.log (λ first. let t = c.is_empty.ensures.1 first in let f = c.if-not-is_empty.true in absurd cc)) none)
    c.begun.ensures.none

pub returns-in-None-clause-none : goal.returns-in-None-clause-none
returns-in-None-clause-none c =
    IfOk-weaker c.begun-in-None.result _ _
    (λ read none. none_weaker read _ _ (nothing_behind_start c.args.vocabulary.now c.args.number c.args.line.now c.args.log (rw c.in-None.is at c.in_ok-have.ensures.none)) none)
    c.begun-in-None.ensures.none
