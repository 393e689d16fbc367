use Rattle.cep_term.specs.Tree.{trees_of}
use Rattle.cep_term.proofs.MatchingLaws.{instances_ground}
use Rattle.cep_term.proofs.binding.apply.Goals as goal

pub returns-clause-known : goal.returns-clause-known
returns-clause-known c has =
    rw (c.in_ok-args_under.ensures, c.deref.ensures.value, c.values.view_is) (instances_ground (trees_of c.args.pattern.now.args) c.args.values.now (rw c.values.view_is at c.values.invariant) has)
