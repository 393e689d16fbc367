use Rattle.std.proofs.Common.{refl}
use Rattle.cep_source.specs.declared.space.Space.TheVariants as space
use Rattle.cep_source.specs.Kept.{source_of}
use Rattle.cep_source.proofs.Declaring.{known_in, first_twice}
use Rattle.cep_source.proofs.source.Source.twice.Goals as goal

pub returns : goal.returns
returns c =
    let known = known_in c.self.inside c.self.invariant in
    rw (← c.self.view_is)
    (first_twice (source_of c.self.inside) _ _ _ _ _ _ c.first_of-2.result (known space.Sorts).twice (known space.Predicates).twice (known space.Stages).twice (known space.Contexts).twice
    (known space.Constructors).twice (known space.Rules).twice (rw (c.first_of-2.ensures, c.first_of.ensures, c.first_of-basics.ensures, c.first_of-states.ensures, c.first_of-rest.ensures) refl))
