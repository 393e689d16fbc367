use Rattle.std.proofs.lemmas.Grind.{common_steps}
use Rattle.std.proofs.Common.{arith}
use Rattle.std.proofs.lemmas.List.{length-append}
use Rattle.std.proofs.lemmas.Result.{IfOk-weaker}
use Rattle.cep_reader.proofs.LineKindLemmas.{nothing_behind_mid, none_weaker}
use Rattle.cep_reader.proofs.growing.behind_listed.Goals as goal

pub returns-in_ok-log_listed-in-None-clause-none : goal.returns-in_ok-log_listed-in-None-clause-none
returns-in_ok-log_listed-in-None-clause-none c =
    IfOk-weaker c.begun.result _ _
    (λ read none. none_weaker read _ _
    (nothing_behind_mid c.args.vocabulary.now c.args.number c.args.line.now c.args.log c.args.step c.args.mid c.in_ok-log_listed-in-None.field-0 c.in_ok-log_listed-in-None.ensures (rw c.in-None.is at c.in_ok-have.ensures.none)) none)
    c.begun.ensures.none

pub begun-requires : goal.begun-requires
begun-requires c = grind (arith, length-append)

pub returns-in_ok-log_listed-in-None-clause-some : goal.returns-in_ok-log_listed-in-None-clause-some
returns-in_ok-log_listed-in-None-clause-some c = grind (arith, common_steps)
