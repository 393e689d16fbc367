use Rattle.std.proofs.Common.{rules}
use Rattle.cep_term.specs.Tree.{atom_of}
use Rattle.cep_term.specs.Values.{values_of}
use Rattle.cep_term.proofs.MatchingLaws.{outcome_met, outcome_not_met, outcome_ground}
use Rattle.cep_term.proofs.matching.meet.Goals as goal

pub invariant_of-values : goal.invariant_of-values
invariant_of-values g c = outcome_ground _ _ _ _ (atom_of c.args.pattern.now) (atom_of c.args.target.now) c.values.view_is c.requires.in_range c.requires.known c.match_or_undo.ensures.met c.match_or_undo.ensures.kept_on_false c.match_or_undo.ensures.kept_on_err c.values.invariant

pub returns-clause-met : goal.returns-clause-met
returns-clause-met g c = outcome_met _ _ _ _ (atom_of c.args.pattern.now) (atom_of c.args.target.now) c.values.view_is c.requires.in_range c.requires.known c.match_or_undo.ensures.met

pub returns-clause-not_met : goal.returns-clause-not_met
returns-clause-not_met g c = outcome_not_met _ _ _ (values_of c.match_or_undo.new.values.items) (atom_of c.args.pattern.now) (atom_of c.args.target.now) c.values.view_is c.requires.in_range c.requires.known c.match_or_undo.ensures.met

pub returns-clause-ticked : goal.returns-clause-ticked
returns-clause-ticked g c = search rules
