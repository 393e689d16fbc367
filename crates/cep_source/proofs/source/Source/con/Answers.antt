use Rattle.std.proofs.Common.{◌∙◌, ap}
use Rattle.std.specs.Option.{option_map}
use Rattle.cep_source.specs.Items.{Source, cons_of}
use Rattle.cep_source.specs.Spaces.{con_named}
use Rattle.cep_source.specs.Kept.{source_of, con_item}
use Rattle.cep_source.proofs.Declaring.{told}
use Rattle.cep_source.proofs.source.Source.con.Goals as goal

pub returns : goal.returns
returns c =
    ap (option_map con_item) c.first_named.ensures
    ∙ told (source_of c.self.inside) con_item (λ con. con.name) c.self.inside.clauses.cons (cons_of (source_of c.self.inside)) c.said.result.now c.self.invariant.clauses.cons c.self.invariant.clauses.named
    ∙ ap (λ (s : Source). con_named s c.said.result.now) c.self.view_is ∙ ap (con_named c.args.self.now) c.said.ensures
