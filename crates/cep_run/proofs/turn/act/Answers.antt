use Rattle.std.proofs.Common.{subst, inl, refl, ◌∙◌}
use Rattle.cep_rule.specs.Limits.{IsHeight}
use Rattle.cep_base.proofs.Did.{did_same, did_map}
use Rattle.cep_base.proofs.Outcomes.{on_err}
use Rattle.cep_run.proofs.Turns.{listed_applies, limit_acts, done_acts, done_moves, done_rose, cut_acts}
use Rattle.cep_run.proofs.turn.act.Goals as goal

pub step_lines-requires-clause-height : goal.step_lines-requires-clause-height
step_lines-requires-clause-height g c =
    subst IsHeight c.requires.played.height (g.met.M.Matcher.low c.args.program.now c.args.config.matcher c.requires.played.of_program.matcher)

pub step_lines-requires-clause-applies : goal.step_lines-requires-clause-applies
step_lines-requires-clause-applies g c =
    (_, listed_applies c.args.place c.args.settings (g.met.M.Matcher.exact c.args.program.now c.args.config.matcher c.requires.played.of_program.matcher) c.requires.listed (rw c.matcher.ensures.matcher at c.offer-offer.ensures) c.requires.played.height)

pub go-requires-clause-change : goal.go-requires-clause-change
go-requires-clause-change g c = record { rule = c.in_ok-limit.ensures.rule; values = c.in_ok-limit.ensures.offer.values; is = rw c.in-Within.is at c.in_ok-limit.ensures.is }

pub tell_deed-requires : goal.tell_deed-requires
tell_deed-requires g c = record { state = c.in_ok-config-in-Within.ensures.of_program.spot.is_state }

pub returns-in-Passes-clause-acted : goal.returns-in-Passes-clause-acted
returns-in-Passes-clause-acted g c =
    rw (c.over.ensures, c.word_of.ensures) (limit_acts c.args.config c.in_ok-limit.ensures c.requires.asked g.C.Console.talk g.C.Console.left c.args.console.now c.args.settings.height c.in-Passes.limit _ c.in-Passes.is)

pub returns-in-Passes-clause-moved : goal.returns-in-Passes-clause-moved
returns-in-Passes-clause-moved g c = rw c.over.ensures tt

pub returns-in-Passes-clause-ticked : goal.returns-in-Passes-clause-ticked
returns-in-Passes-clause-ticked g c = rw c.over.ensures refl

pub returns-in-Passes-clause-played : goal.returns-in-Passes-clause-played
returns-in-Passes-clause-played g c = rw c.over.ensures c.requires.played

pub returns-in_ok-tell_deed-in-Within-clause-acted : goal.returns-in_ok-tell_deed-in-Within-clause-acted
returns-in_ok-tell_deed-in-Within-clause-acted g c =
    let went = c.in_ok-config-in-Within.ensures in
    let has = c.in_ok-lines-in-Within.ensures.lines in
    done_acts c.args.config c.in_ok-limit.ensures c.requires.asked c.in-Within.is c.in_ok-config-in-Within.config went.spot went.turns (rw c.matcher.ensures.matcher at c.offer-offer.ensures) has g.C.Console.talk g.C.Console.left c.args.console.now c.tell_deed.new.console
    (c.in_ok-tell_deed-in-Within.ensures.told _ has.written)

pub returns-in_ok-tell_deed-in-Within-clause-moved : goal.returns-in_ok-tell_deed-in-Within-clause-moved
returns-in_ok-tell_deed-in-Within-clause-moved g c =
    let went = c.in_ok-config-in-Within.ensures in
    done_moves c.args.config c.in_ok-limit.ensures c.requires.asked c.in-Within.is c.in_ok-config-in-Within.config went.spot went.turns

pub returns-in_ok-tell_deed-in-Within-clause-ticked : goal.returns-in_ok-tell_deed-in-Within-clause-ticked
returns-in_ok-tell_deed-in-Within-clause-ticked g c =
    let went = c.in_ok-config-in-Within.ensures in
    let made = c.in_ok-lines-in-Within.ensures in
    done_rose c.args.config c.in_ok-limit.ensures c.requires.asked c.in-Within.is c.in_ok-config-in-Within.config went.spot went.turns (rw c.matcher.ensures.matcher at c.offer-offer.ensures) made.lines g.M.Matcher.may_edit c.kept_premises_cost_nothing.ensures c.args.settings.height _ c.requires.played.height _ _ _ made.ticked went.ticked

pub returns-in_ok-tell_deed-in-Within-clause-played : goal.returns-in_ok-tell_deed-in-Within-clause-played
returns-in_ok-tell_deed-in-Within-clause-played g c =
    let went = c.in_ok-config-in-Within.ensures in
    record { of_program = went.of_program; height = went.same_height ∙ c.requires.played.height }

pub returns-in_err-limit-clause-begun : goal.returns-in_err-limit-clause-begun
returns-in_err-limit-clause-begun g c = on_err c.from_residual.result _ (did_map g.C.Console.talk g.C.Console.left _ _ _ _ (λ come events rest same. inl same) (did_same g.C.Console.talk g.C.Console.left c.args.console.now c.args.console.now refl refl))

pub returns-in_err-lines-in-Within-clause-begun : goal.returns-in_err-lines-in-Within-clause-begun
returns-in_err-lines-in-Within-clause-begun g c = on_err c.from_residual-in_err-lines-in-Within.result _ (did_map g.C.Console.talk g.C.Console.left _ _ _ _ (λ come events rest same. inl same) (did_same g.C.Console.talk g.C.Console.left c.args.console.now c.args.console.now refl refl))

pub returns-in_err-config-in-Within-clause-begun : goal.returns-in_err-config-in-Within-clause-begun
returns-in_err-config-in-Within-clause-begun g c = on_err c.from_residual-in_err-config-in-Within.result _ (did_map g.C.Console.talk g.C.Console.left _ _ _ _ (λ come events rest same. inl same) (did_same g.C.Console.talk g.C.Console.left c.args.console.now c.args.console.now refl refl))

pub returns-in_err-tell_deed-in-Within-clause-begun : goal.returns-in_err-tell_deed-in-Within-clause-begun
returns-in_err-tell_deed-in-Within-clause-begun g c =
    let went = c.in_ok-config-in-Within.ensures in
    let has = c.in_ok-lines-in-Within.ensures.lines in
    on_err c.from_residual-in_err-tell_deed-in-Within.result _ (cut_acts c.args.config c.in_ok-limit.ensures c.requires.asked c.in-Within.is c.in_ok-config-in-Within.config went.spot went.turns (rw c.matcher.ensures.matcher at c.offer-offer.ensures) has g.C.Console.talk g.C.Console.left c.args.console.now c.tell_deed.new.console
    (c.in_err-tell_deed-in-Within.ensures.begun _ has.written))
