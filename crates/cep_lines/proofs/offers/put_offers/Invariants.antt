use Rattle.cep_rule.specs.Matching.{offers_of}
use Rattle.cep_lines.specs.Lines.{offer_lines}
use Rattle.cep_lines.proofs.Adding.{IsAdding, offers_from}
use Rattle.cep_lines.proofs.offers.put_offers.Given as goal

abbrev pub invariant-loop-i : goal.invariant-loop-i
invariant-loop-i g l =
    let offers = offers_of (g.M.Matcher.offers_held l.matcher) l.group in
    IsAdding l.fn.out (offer_lines l.program 1 offers) l.out (offers_from l.program offers l.i)
