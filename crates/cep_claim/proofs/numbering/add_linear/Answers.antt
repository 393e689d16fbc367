use Rattle.std.proofs.Common.{◌≡◌, true, ap, ◌∙◌}
use Rattle.cep_base.specs.FirstNames.{added}
use Rattle.cep_claim.proofs.Tabled.{below_other, below_linear, adds_by}
use Rattle.cep_claim.proofs.numbering.add_linear.Goals as goal

pub returns-in_ok-add : goal.returns-in_ok-add
returns-in_ok-add c = λ signature at below.
    below_linear signature c.args.number c.args.pred.now at c.args.table.now c.add.new.self (c.is_linear.ensures.0 c.if-is_linear.true)
    (adds_by c.args.table.now c.add.new.self c.args.pred.now.name c.args.number (c.in_ok-add.ensures.entries ∙ ap (λ name. added c.args.table.now (name, c.args.number)) c.bytes.ensures)) below

pub returns-else-is_linear : goal.returns-else-is_linear
returns-else-is_linear c = λ signature at below.
    below_other signature c.args.number c.args.pred.now at c.args.table.now (λ linear. let yes : c.is_linear.result ≡ true = c.is_linear.ensures.1 linear in absurd (cc (yes, c.if-is_linear.false))) below
