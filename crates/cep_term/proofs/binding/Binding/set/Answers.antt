use Rattle.std.proofs.Common.{◌<◌, length, subst, sym, ap, ◌∙◌, Some}
use Rattle.cep_term.specs.Tree.{tree_of}
use Rattle.std.specs.List.{slice_set}
use Rattle.cep_term.proofs.MatchingLaws.{values_of-set, ground-set}
use Rattle.cep_term.proofs.binding.Binding.set.Goals as goal

pub invariant_of-self : goal.invariant_of-self
invariant_of-self c = rw (values_of-set c.self.inside.values.items c.args.v (Some c.args.t)) (ground-set _ c.args.v _ (subst (λ values. c.args.v < length values) (sym c.self.view_is) c.requires.in_range) c.self.invariant c.requires.known)

pub returns : goal.returns
returns c = values_of-set c.self.inside.values.items c.args.v (Some c.args.t) ∙ ap (λ values. slice_set values c.args.v (Some (tree_of c.args.t))) c.self.view_is
