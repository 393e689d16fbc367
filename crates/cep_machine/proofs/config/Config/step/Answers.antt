use Rattle.std.proofs.Common.{◌≡◌, List, refl, rules}
use Rattle.cep_term.specs.Tree.{Tree}
use Rattle.cep_term.specs.Multiset.{gathered}
use Rattle.cep_rule.specs.declared.rule.Rule.{Rule}
use Rattle.cep_rule.specs.Instances.{taken_by, added_by}
use Rattle.cep_rule.specs.Matching.{RoseBy}
use Rattle.cep_step.specs.Passing.{Passes, IsExcess}
use Rattle.cep_machine.proofs.Ready.{chosen_once}
use Rattle.cep_machine.proofs.config.Config.step.Goals as goal

pub returns-in-Passes-clause-stepped : goal.returns-in-Passes-clause-stepped
returns-in-Passes-clause-stepped g c =
    let of = c.in_ok-limit.ensures in
    let weighed = rw c.in-Passes.is at of.is in
    chosen_once of (λ (rule : Rule) (values : List Tree). (c.args.self ≡ c.args.self) × Passes c.args.program.now.signature rule values c.args.self.state c.in-Passes.limit × IsExcess c.args.program.now.signature rule values c.args.self.state c.in-Passes.limit c.in-Passes.number)
    (refl, weighed.0, weighed.1 (λ _. of.small))

pub returns-in-Passes-clause-ticked : goal.returns-in-Passes-clause-ticked
returns-in-Passes-clause-ticked g c = λ _ _ _. refl

pub returns-in_ok-go-in-Within-clause-ticked : goal.returns-in_ok-go-in-Within-clause-ticked
returns-in_ok-go-in-Within-clause-ticked g c =
    let of = c.in_ok-limit.ensures in
    let weighed = rw c.in-Within.is at of.is in
    let rose = c.in_ok-go-in-Within.ensures.ticked in
    let program = c.args.program.now in
    chosen_once of
    (λ (rule : Rule) (values : List Tree). RoseBy (g.M.Matcher.may_edit program c.args.self.state (g.M.Matcher.height_held c.args.self.matcher) (gathered (taken_by program.signature rule values)) (added_by program.signature rule values)) c.args.steps.now c.go.new.steps)
    (record { ticks = rose.ticks; allows = c.kept_premises_cost_nothing.ensures program _ _ _ _ _ _ _ weighed.leaves rose.allows; risen = rose.risen })
