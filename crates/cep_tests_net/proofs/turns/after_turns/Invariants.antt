use Rattle.cep_machine.specs.Configuration.{IsConfigurationOf}
use Rattle.cep_tests_net.proofs.turns.after_turns.Given as goal

abbrev pub invariant-loop-done : goal.invariant-loop-done
invariant-loop-done g l = IsConfigurationOf g.M.Matcher.is_of l.program l.config
