use Rattle.std.proofs.Common.{refl, sym, ◌∙◌}
use Rattle.std.proofs.lemmas.Option.{slice_get_within}
use Rattle.cep_base.proofs.Lists.{some_same}
use Rattle.cep_rule.specs.Instances.{full_instances}
use Rattle.cep_run.proofs.Turns.{applied_has_text, next_in_range, all_of_shape}
use Rattle.cep_run.proofs.turn.step_lines.Goals as goal

pub put_step_lines-requires-clause-offer : goal.put_step_lines-requires-clause-offer
put_step_lines-requires-clause-offer g c = applied_has_text c.args.program.now c.args.height c.requires.applies.0 c.args.offer.now c.requires.applies.1

pub put_step_lines-requires-clause-proofs : goal.put_step_lines-requires-clause-proofs
put_step_lines-requires-clause-proofs g c =
    let is = c.in_ok-proofs.ensures.proved in
    rw c.as_slice.ensures (all_of_shape c.derivations_have_shape.ensures c.args.program.now c.args.height c.in_ok-proofs.proofs (full_instances c.args.offer.now.values is.rule.backs) is.proved)

pub put_step_lines-requires-clause-next : goal.put_step_lines-requires-clause-next
put_step_lines-requires-clause-next g c = next_in_range c.args.program.now c.args.offer.now.rule c.get-rule.result.now c.parts.ensures.kept (rw c.parts.ensures.parts at c.get-rule.ensures)

pub returns-then-not-is_read-clause-lines : goal.returns-then-not-is_read-clause-lines
returns-then-not-is_read-clause-lines g c =
    let is = c.in_ok-proofs.ensures.proved in
    record { rule = is.rule; proofs = c.in_ok-proofs.proofs; numbered = is.numbered; proved = is.proved; written = c.is_read.ensures c.if-not-is_read.true }

pub returns-clause-lines : goal.returns-clause-lines
returns-clause-lines g c =
    let is = c.in_ok-proofs.ensures.proved in
    let numbered = rw c.parts.ensures.parts at c.get-rule.ensures in
    record {
      rule = c.get-rule.result.now;
      proofs = c.in_ok-proofs.proofs;
      numbered = numbered;
      proved = rw (some_same is.rule c.get-rule.result.now (sym is.numbered ∙ numbered)) at is.proved;
      written = rw (c.in_ok-put_step_lines.ensures.ok, c.new-lines.ensures, c.as_slice.ensures) refl;
    }

pub get-rule-requires : goal.get-rule-requires
get-rule-requires g c = rw c.parts.ensures.parts (slice_get_within _ _ c.requires.applies.1.rule c.requires.applies.1.numbered)
