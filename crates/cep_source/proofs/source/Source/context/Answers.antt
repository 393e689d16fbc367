use Rattle.std.proofs.Common.{◌∙◌, ap}
use Rattle.std.specs.Option.{option_map}
use Rattle.cep_source.specs.Items.{Source, contexts_of}
use Rattle.cep_source.specs.Spaces.{context_named}
use Rattle.cep_source.specs.Kept.{source_of, context_item}
use Rattle.cep_source.proofs.Declaring.{told}
use Rattle.cep_source.proofs.source.Source.context.Goals as goal

pub returns : goal.returns
returns c =
    ap (option_map context_item) c.first_named.ensures
    ∙ told (source_of c.self.inside) context_item (λ context. context.name) c.self.inside.kinds.contexts (contexts_of (source_of c.self.inside)) c.said.result.now c.self.invariant.kinds.contexts c.self.invariant.named.contexts
    ∙ ap (λ (s : Source). context_named s c.said.result.now) c.self.view_is ∙ ap (context_named c.args.self.now) c.said.ensures
