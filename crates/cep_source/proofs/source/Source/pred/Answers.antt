use Rattle.std.proofs.Common.{◌∙◌, ap}
use Rattle.std.specs.Option.{option_map}
use Rattle.cep_source.specs.Items.{Source, preds_of}
use Rattle.cep_source.specs.Spaces.{pred_named}
use Rattle.cep_source.specs.Kept.{source_of, pred_item}
use Rattle.cep_source.proofs.Declaring.{told}
use Rattle.cep_source.proofs.source.Source.pred.Goals as goal

pub returns : goal.returns
returns c =
    ap (option_map pred_item) c.first_named.ensures
    ∙ told (source_of c.self.inside) pred_item (λ pred. pred.name) c.self.inside.kinds.preds (preds_of (source_of c.self.inside)) c.said.result.now c.self.invariant.kinds.preds c.self.invariant.named.preds
    ∙ ap (λ (s : Source). pred_named s c.said.result.now) c.self.view_is ∙ ap (pred_named c.args.self.now) c.said.ensures
