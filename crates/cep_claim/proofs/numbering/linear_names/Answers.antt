use Rattle.std.proofs.Common.{◌≡◌, length, subst, arith}
use Rattle.cep_claim.specs.Tables.{NamesLinearBelow}
use Rattle.cep_claim.proofs.Tabled.{below_none, below_all}
use Rattle.cep_claim.proofs.numbering.linear_names.Goals as goal

pub loop-i-init : goal.loop-i-init
loop-i-init c = rw c.none-table.ensures (below_none c.args.signature.now)

pub loop-i-preserved : goal.loop-i-preserved
loop-i-preserved c = c.in_ok-add_linear.ensures c.args.signature.now c.get.ensures c.loop-i.invariant

pub returns : goal.returns
returns c =
    let all : c.loop-i.i ≡ length c.args.signature.now.preds = omega arith in
    below_all c.args.signature.now c.loop-i.table (subst (λ i. NamesLinearBelow c.args.signature.now i c.loop-i.table) all c.loop-i.invariant)
