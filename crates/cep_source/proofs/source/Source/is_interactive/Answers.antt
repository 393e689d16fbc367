use Rattle.std.proofs.Common.{List, ◌∙◌, ap, is_some}
use Rattle.std.specs.Str.{bytes_eq}
use Rattle.cep_base.proofs.Bytes.{any_map}
use Rattle.cep_parse.specs.declared.raw.Span.{Span}
use Rattle.cep_source.specs.Items.{Source, is_said, interactives_of}
use Rattle.cep_source.specs.Spaces.{Named, named}
use Rattle.cep_source.specs.Kept.{source_of}
use Rattle.cep_source.proofs.Declaring.{has_place, has_under}
use Rattle.cep_source.proofs.source.Source.is_interactive.Goals as goal

pub returns : goal.returns
returns c =
    let source = source_of c.self.inside in
    let name = c.said.result.now in
    c.has_name.ensures ∙ has_under c.self.inside.kinds.interactives.places name ∙ ap is_some (c.self.invariant.named.interactives.places name) ∙ has_place _ name
    ∙ any_map (λ (other : Named). bytes_eq other.name name) (named source) c.self.inside.kinds.interactives.items.items
    ∙ ap (λ (spans : List Span). is_said source spans name) c.self.invariant.kinds.interactives
    ∙ ap (λ (s : Source). is_said s (interactives_of s) name) c.self.view_is
    ∙ ap (is_said c.args.self.now (interactives_of c.args.self.now)) c.said.ensures
