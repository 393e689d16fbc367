use Rattle.std.proofs.Common.{subst}
use Rattle.std.specs.Prelude.{IfSome, IsNone, ◌↔◌}
use Rattle.cep_rule.specs.Stages.{IsAsked, IsQuiet}
use Rattle.cep_machine.specs.Configuration.{Configuration, IsConfigurationOf}
use Rattle.cep_machine.proofs.Ready.{asks, is_quiet}
use Rattle.cep_machine.proofs.config.Config.asked.Goals as goal

pub returns-clause-asked : goal.returns-clause-asked
returns-clause-asked g c = λ program.
    let self = c.self.inside in
    let listed = rw c.stage.ensures.stage at c.asked_in.ensures.listed in
    subst (λ (config : Configuration g.row.M.Denot). IsConfigurationOf g.M.Matcher.is_of program config → IfSome c.asked_in.result (IsAsked program (g.M.Matcher.height_held config.matcher) config.state config.stage)) c.self.view_is
    (λ is. asks program (g.M.Matcher.height_held self.matcher) (g.M.Matcher.state_held self.matcher) self.spot.state (g.M.Matcher.offers_held self.matcher) self.spot.stage (g.met.M.Matcher.exact program self.matcher is.matcher) c.self.invariant.same_state is.spot.stage c.asked_in.result listed)

pub returns-clause-quiet : goal.returns-clause-quiet
returns-clause-quiet g c = λ program.
    let self = c.self.inside in
    let listed = rw c.stage.ensures.stage at c.asked_in.ensures.listed in
    subst (λ (config : Configuration g.row.M.Denot). IsConfigurationOf g.M.Matcher.is_of program config → IsNone c.asked_in.result ↔ IsQuiet program (g.M.Matcher.height_held config.matcher) config.state config.stage) c.self.view_is
    (λ is. is_quiet program (g.M.Matcher.height_held self.matcher) (g.M.Matcher.state_held self.matcher) self.spot.state (g.M.Matcher.offers_held self.matcher) self.spot.stage (g.met.M.Matcher.exact program self.matcher is.matcher) c.self.invariant.same_state is.spot.stage c.asked_in.result listed)
