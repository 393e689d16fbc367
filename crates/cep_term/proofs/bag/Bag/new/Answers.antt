use Rattle.std.proofs.Common.{List, ◌∙◌, ap}
use Rattle.std.specs.FinMap as finite
use Rattle.cep_term.proofs.BlockEdits.{Counted, empty_seen}
use Rattle.cep_term.proofs.bag.Bag.new.Goals as goal

pub returns : goal.returns
returns c = ap (λ (entries : List Counted). finite.from_sorted entries) c.new.ensures.none ∙ empty_seen
