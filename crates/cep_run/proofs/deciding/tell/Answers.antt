use Rattle.std.proofs.Common.{◌≡◌, ◌++◌, ap, ◌∙◌, subst}
use Rattle.std.proofs.lemmas.Result.{on_ok_weaker, on_err_weaker}
use Rattle.cep_rule.specs.Matching.{offers_of}
use Rattle.cep_base.specs.Talk.{outs, Did}
use Rattle.cep_base.proofs.Did.{did_put}
use Rattle.cep_base.proofs.Outcomes.{on_err}
use Rattle.cep_lines.specs.Lines.{offer_lines}
use Rattle.cep_run.proofs.Framed.{did_part, did_nothing}
use Rattle.cep_run.proofs.Unread.{untold_put}
use Rattle.cep_run.proofs.deciding.tell.Goals as goal

pub returns-clause-told : goal.returns-clause-told
returns-clause-told g c =
    let talk = g.C.Console.talk in
    let left = g.C.Console.left in
    let old = c.args.console.now in
    let new = c.put.new.self in
    let offers = offers_of (g.M.Matcher.offers_held c.args.matcher.now) c.args.group in
    let lines = offer_lines c.args.program.now 1 offers in
    let same : c.bytes.result.now ≡ lines = c.bytes.ensures ∙ c.in_ok-put_offers.ensures.ok ∙ ap (λ xs. xs ++ lines) c.new-lines.ensures in
    on_ok_weaker c.put.result
    (λ written. subst (λ bytes. Did talk left old new (λ come events rest. (events ≡ outs bytes) × (rest ≡ come))) same (did_put talk left old new c.bytes.result.now written c.put.ensures.left))
    c.put.ensures.written

pub returns-then-not-is_read-clause-told : goal.returns-then-not-is_read-clause-told
returns-then-not-is_read-clause-told g c =
    let talk = g.C.Console.talk in
    let left = g.C.Console.left in
    let console = c.args.console.now in
    let lines = offer_lines c.args.program.now 1 (offers_of (g.M.Matcher.offers_held c.args.matcher.now) c.args.group) in
    untold_put talk left console lines (c.is_read.ensures c.if-not-is_read.true)

pub returns-in_err-put_offers-clause-begun : goal.returns-in_err-put_offers-clause-begun
returns-in_err-put_offers-clause-begun g c =
    on_err c.from_residual.result _ (did_nothing g.C.Console.talk g.C.Console.left c.args.console.now (offer_lines c.args.program.now 1 (offers_of (g.M.Matcher.offers_held c.args.matcher.now) c.args.group)))

pub returns-clause-begun : goal.returns-clause-begun
returns-clause-begun g c =
    let lines = offer_lines c.args.program.now 1 (offers_of (g.M.Matcher.offers_held c.args.matcher.now) c.args.group) in
    let same = c.bytes.ensures ∙ c.in_ok-put_offers.ensures.ok ∙ ap (λ xs. xs ++ lines) c.new-lines.ensures in
    on_err_weaker c.put.result
    (λ part. did_part g.C.Console.talk g.C.Console.left c.args.console.now c.put.new.self c.bytes.result.now lines part.0 same part.1 c.put.ensures.left)
    c.put.ensures.part
