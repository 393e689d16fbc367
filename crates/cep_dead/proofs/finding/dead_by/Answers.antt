use Rattle.std.proofs.Common.{◌≡◌, ◌+◌, true, refl, sym, subst, ◌∙◌, arith, rules}
use Rattle.cep_dead.proofs.finding.dead_by.Goals.{in-Some+in_ok-push, in_default}
use Rattle.cep_reach.specs.Held.{is_held}
use Rattle.cep_dead.proofs.Whys.{AreDeadsBelow, passed_over, found, all_found, why_told, pass_told}
use Rattle.cep_base.proofs.Elements.{contains_at}
use Rattle.cep_dead.proofs.finding.dead_by.Goals as goal

pub loop-i-preserved : goal.loop-i-preserved
loop-i-preserved c =
    let program = c.args.program.now in
    let has = is_held c.args.table.now in
    let i = c.loop-i.i in
    let rule = c.get.result.now in
    elim c.match-branch-2.branch [
      | in-Some+in_ok-push w ↦ subst (AreDeadsBelow program (i + 1)) (sym (w.deads-is ∙ w.in_ok-push.ensures.ok))
          (found program has c.requires.last i rule c.get.ensures c.loop-i.deads c.loop-i.invariant (record { rule = i; why = w.in-Some.why }) refl (why_told program (λ item. has item ≡ true) rule c.in_ok-why.field-0 w.in-Some.why w.in-Some.is c.in_ok-why.ensures))
      | in_default w ↦ subst (AreDeadsBelow program (i + 1)) (sym w.deads-is)
          (passed_over program has c.requires.last i rule c.get.ensures c.loop-i.deads c.loop-i.invariant (pass_told program (λ item. has item ≡ true) rule c.in_ok-why.field-0 w.in_default.is c.in_ok-why.ensures))
    ]

pub returns : goal.returns
returns c = all_found c.args.program.now (is_held c.args.table.now) c.requires.last c.loop-i.i c.loop-i.deads (omega (arith, c.len-i-end.ensures)) c.loop-i.invariant

pub why_not-requires-clause-of_program : goal.why_not-requires-clause-of_program
why_not-requires-clause-of_program c = contains_at c.args.program.now.rules c.loop-i.i c.get.result.now c.get.ensures

pub loop-i-init : goal.loop-i-init
loop-i-init c = search rules
