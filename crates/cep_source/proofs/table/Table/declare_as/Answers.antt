use Rattle.std.proofs.Common.{◌∙◌, sym, refl}
use Rattle.cep_source.proofs.Declaring.{newly_declared, again_declared}
use Rattle.cep_source.proofs.table.Table.declare_as.Goals as goal

pub returns-then-branch-clause-names : goal.returns-then-branch-clause-names
returns-then-branch-clause-names g c = λ names are.
    newly_declared names _ c.args.self.now _ are c.args.item c.len-place.result c.in_ok-push.ensures.items (c.len-place.ensures ∙ c.args.self.now.items.ok.0) c.in_ok-add.ensures.entries
    (sym c.if-branch.true ∙ c.in_ok-add.ensures.new) refl

pub returns-clause-names : goal.returns-clause-names
returns-clause-names g c = λ names are.
    again_declared names _ c.args.self.now _ are c.args.item c.len-place.result c.in_ok-push.ensures.items (c.len-place.ensures ∙ c.args.self.now.items.ok.0) c.in_ok-add.ensures.entries
    (sym c.if-branch.false ∙ c.in_ok-add.ensures.new) c.first_of-self.ensures
