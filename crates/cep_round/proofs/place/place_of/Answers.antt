use Rattle.std.proofs.Common.{arith, rules}
use Rattle.cep_rule.specs.Matching.{offers_of}
use Rattle.cep_round.proofs.Places.{nowhere}
use Rattle.cep_round.proofs.place.place_of.Goals as goal

pub loop-place-init : goal.loop-place-init
loop-place-init g c = search rules

pub returns : goal.returns
returns g c = nowhere (offers_of (g.M.Matcher.offers_held c.args.matcher.now) c.args.group) c.args.offer.now c.loop-place.place (omega arith) c.loop-place.invariant
