use Rattle.std.proofs.Common.{rules}
use Rattle.cep_offer.proofs.proving.+height.Goals as goal

pub greatest_height-returns-in-Cons : goal.greatest_height-returns-in-Cons
greatest_height-returns-in-Cons t c = search rules
