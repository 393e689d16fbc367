use Rattle.std.proofs.Common.{◌≤◌, ◌+◌, refl, subst}
use Rattle.cep_rule.specs.Matching.{offers_of}
use Rattle.cep_lines.specs.Lines.{offer_line, offer_lines}
use Rattle.cep_lines.proofs.Adding.{adding_none, adding_next, adding_done, adding_breaks, offers_from, offers_left, no_offers_left}
use Rattle.cep_base.proofs.Outcomes.{on_err}
use Rattle.cep_lines.proofs.offers.put_offers.Goals as goal

pub loop-i-init : goal.loop-i-init
loop-i-init g c = adding_none c.args.out.now _ _ refl

pub loop-i-preserved : goal.loop-i-preserved
loop-i-preserved g c =
    let offers = offers_of (g.M.Matcher.offers_held c.args.matcher.now) c.args.group in
    let program = c.args.program.now in
    adding_next c.args.out.now (offer_lines program 1 offers) c.loop-i.out c.put_offer_line.new.out _ (offer_line program (c.loop-i.i + 1) c.offer.result.now) (offers_from program offers (c.loop-i.i + 1))
    c.loop-i.invariant (offers_left program offers c.loop-i.i c.offer.result.now c.offer.ensures) c.in_ok-put_offer_line.ensures.ok

pub returns-in_err-put_offer_line-clause-err : goal.returns-in_err-put_offer_line-clause-err
returns-in_err-put_offer_line-clause-err g c =
    let offers = offers_of (g.M.Matcher.offers_held c.args.matcher.now) c.args.group in
    let program = c.args.program.now in
    on_err c.from_residual.result _
    (adding_breaks c.args.out.now (offer_lines program 1 offers) c.loop-i.out _ (offer_line program (c.loop-i.i + 1) c.offer.result.now) (offers_from program offers (c.loop-i.i + 1)) c.put_offer_line.new.out
    c.loop-i.invariant (offers_left program offers c.loop-i.i c.offer.result.now c.offer.ensures) c.in_err-put_offer_line.ensures.err)

pub returns-clause-ok : goal.returns-clause-ok
returns-clause-ok g c =
    let offers = offers_of (g.M.Matcher.offers_held c.args.matcher.now) c.args.group in
    let program = c.args.program.now in
    adding_done c.args.out.now (offer_lines program 1 offers) c.loop-i.out (offers_from program offers c.loop-i.i) c.loop-i.invariant
    (no_offers_left program offers c.loop-i.i (subst (λ n. n ≤ c.loop-i.i) c.count-i-end.ensures c.loop-i-test.false))
