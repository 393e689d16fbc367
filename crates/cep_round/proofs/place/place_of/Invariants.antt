use Rattle.cep_rule.specs.Matching.{offers_of}
use Rattle.cep_round.proofs.Places.{NotBefore}
use Rattle.cep_round.proofs.place.place_of.Given as goal

abbrev pub invariant-loop-place : goal.invariant-loop-place
invariant-loop-place g l = NotBefore (offers_of (g.M.Matcher.offers_held l.matcher) l.group) l.offer l.place
