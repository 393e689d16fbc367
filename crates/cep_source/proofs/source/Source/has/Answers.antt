use Rattle.std.proofs.Common.{◌∙◌, ap, is_some}
use Rattle.cep_source.specs.Spaces.{is_in, names_in}
use Rattle.cep_source.proofs.Declaring.{has_place}
use Rattle.cep_source.proofs.source.Source.has.Goals as goal

pub returns : goal.returns
returns c =
    c.is_some.ensures ∙ ap is_some c.place.ensures ∙ has_place (names_in c.args.self.now c.args.space) c.said.result.now
    ∙ ap (is_in c.args.self.now c.args.space) c.said.ensures
