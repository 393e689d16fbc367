use Rattle.std.proofs.Common.{inl, inr}
use Rattle.cep_examine.proofs.examine.report_renewal.Goals as goal

pub returns-in-Some : goal.returns-in-Some
returns-in-Some c = inl (c.in-Some.text, rw c.in-Some.is at c.in_ok-text.ensures.renewed, c.text.ensures)

pub returns-in-None : goal.returns-in-None
returns-in-None c = inr (rw c.in-None.is at c.in_ok-text.ensures.too_long, c.line.ensures)
