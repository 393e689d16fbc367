use Rattle.std.proofs.Common.{◌≤◌, ◌∙◌, refl, subst}
use Rattle.std.specs.FinMap.{len-entries}
use Rattle.cep_lines.specs.Lines.{have_line, listing}
use Rattle.cep_lines.proofs.States.{typed_at_head}
use Rattle.cep_lines.proofs.Adding.{adding_none, line_added, line_breaks, lines_done}
use Rattle.cep_base.proofs.Outcomes.{on_err}
use Rattle.std.specs.FinMap as finite
use Rattle.cep_lines.proofs.lines.put_listing.Goals as goal

pub put_have-requires : goal.put_have-requires
put_have-requires c =
    typed_at_head c.bags_are_lawful.ensures c.args.program.now.signature c.args.state.now c.loop-i.i _ _ c.requires c.entry-copies.ensures

pub loop-i-init : goal.loop-i-init
loop-i-init c = adding_none c.args.out.now _ _ refl

pub loop-i-preserved : goal.loop-i-preserved
loop-i-preserved c =
    line_added (have_line c.args.program.now.signature) (finite.entries c.args.state.now) c.args.out.now c.loop-i.i _ c.loop-i.out c.put_have.new.out
    c.loop-i.invariant c.entry-copies.ensures c.in_ok-put_have.ensures.ok

pub returns-in_err-put_have-clause-err : goal.returns-in_err-put_have-clause-err
unfolding listing
returns-in_err-put_have-clause-err c =
    on_err c.from_residual.result _
    (line_breaks (have_line c.args.program.now.signature) (finite.entries c.args.state.now) c.args.out.now c.loop-i.i _ c.loop-i.out c.put_have.new.out
    c.loop-i.invariant c.entry-copies.ensures c.in_err-put_have.ensures.err)

pub returns-clause-ok : goal.returns-clause-ok
unfolding listing
returns-clause-ok c =
    lines_done (have_line c.args.program.now.signature) (finite.entries c.args.state.now) c.args.out.now c.loop-i.i c.loop-i.out c.loop-i.invariant
    (subst (λ n. n ≤ c.loop-i.i) (c.len-i-end.ensures.value ∙ len-entries c.args.state.now) c.loop-i-test.false)
