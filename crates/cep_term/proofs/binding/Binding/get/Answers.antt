use Rattle.std.proofs.Common.{◌<◌, length, subst, sym}
use Rattle.cep_term.proofs.MatchingLaws.{ground_got}
use Rattle.cep_term.proofs.binding.Binding.get.Goals as goal

pub returns-clause-known : goal.returns-clause-known
returns-clause-known c = ground_got (λ t. t.now) c.as_ref.result c.self.inside.values.items c.args.v c.index.result.now c.self.invariant (subst (λ values. c.args.v < length values) (sym c.self.view_is) c.requires) c.as_ref.ensures.value c.index.ensures
