use Rattle.std.proofs.Common.{◌≡◌, Some, subst}
use Rattle.std.specs.Prelude.{slice_get}
use Rattle.std.proofs.lemmas.Option.{slice_get_within}
use Rattle.std.proofs.lemmas.Result.{IfOk-weaker}
use Rattle.cep_rule.specs.Matching.{offers_of}
use Rattle.cep_step.specs.Changes.{IsWeighed}
use Rattle.cep_machine.specs.Configuration.{Configuration, spot_of}
use Rattle.cep_machine.proofs.Ready.{offer_applies, can_step}
use Rattle.cep_machine.proofs.config.Config.weigh.Goals as goal

pub get-rule-requires : goal.get-rule-requires
get-rule-requires g c =
    let own = rw (← c.self.view_is) at c.requires.of_program in
    let self = c.self.inside in
    let applies = offer_applies c.args.program.now (g.M.Matcher.height_held self.matcher) (g.M.Matcher.state_held self.matcher) self.spot.state (g.M.Matcher.offers_held self.matcher) c.args.group c.args.i c.offer-offer.result.now (g.met.M.Matcher.exact c.args.program.now self.matcher own.matcher) c.self.invariant.same_state c.offer-offer.ensures in
    rw c.parts.ensures.parts (slice_get_within c.args.program.now.rules c.offer-offer.result.now.rule applies.rule applies.numbered)

pub weigh-requires-clause-can : goal.weigh-requires-clause-can
weigh-requires-clause-can g c =
    let own = rw (← c.self.view_is) at c.requires.of_program in
    let self = c.self.inside in
    let applies = offer_applies c.args.program.now (g.M.Matcher.height_held self.matcher) (g.M.Matcher.state_held self.matcher) self.spot.state (g.M.Matcher.offers_held self.matcher) c.args.group c.args.i c.offer-offer.result.now (g.met.M.Matcher.exact c.args.program.now self.matcher own.matcher) c.self.invariant.same_state c.offer-offer.ensures in
    can_step c.args.program.now (g.M.Matcher.height_held self.matcher) self.spot.state c.offer-offer.result.now c.get-rule.result.now applies (rw c.parts.ensures.parts at c.get-rule.ensures)

pub returns : goal.returns
returns g c =
    let own = rw (← c.self.view_is) at c.requires.of_program in
    let self = c.self.inside in
    let program = c.args.program.now in
    let offer = c.offer-offer.result.now in
    let applies = offer_applies program (g.M.Matcher.height_held self.matcher) (g.M.Matcher.state_held self.matcher) self.spot.state (g.M.Matcher.offers_held self.matcher) c.args.group c.args.i offer (g.met.M.Matcher.exact program self.matcher own.matcher) c.self.invariant.same_state c.offer-offer.ensures in
    let offered = rw c.requires.asked at (subst (λ (config : Configuration g.row.M.Denot). slice_get (offers_of (g.M.Matcher.offers_held config.matcher) c.args.group) c.args.i ≡ Some offer) c.self.view_is c.offer-offer.ensures) in
    IfOk-weaker c.weigh.result _ _ (λ weighed is. record {
      offer = offer;
      rule = c.get-rule.result.now;
      offered = offered;
      numbered = rw c.parts.ensures.parts at c.get-rule.ensures;
      small = c.values_are_small.ensures.offers program (g.M.Matcher.height_held self.matcher) self.spot.state offer c.parts.ensures.kept own.spot.is_state applies;
      is = subst (λ (config : Configuration g.row.M.Denot). IsWeighed program c.get-rule.result.now offer.values (spot_of config) weighed) c.self.view_is is;
    }) c.weigh.ensures
