use Rattle.std.proofs.Common.{length, ap, ◌∙◌}
use Rattle.std.specs.Str.{bytes_eq}
use Rattle.cep_refusal.specs.First.{first_in}
use Rattle.cep_source.specs.Items.{PredItem, preds_of, said}
use Rattle.cep_source.specs.Spaces.{Named, named}
use Rattle.cep_source.specs.Kept.{pred_item}
use Rattle.cep_faults.specs.Faults.{is_somewhere}
use Rattle.cep_faults.proofs.Firsts.{declared, undeclared}
use Rattle.cep_faults.proofs.atoms.pred_fault.Goals as goal

pub returns-in-Some : goal.returns-in-Some
returns-in-Some c =
    let source = c.args.source.now in
    let atom = c.args.atom in
    c.arity_fault.ensures
    ∙ ap first_in (declared (λ (other : Named). bytes_eq other.name (said source atom.name)) (λ (pred : PredItem). named source pred.name) (preds_of source) (λ (pred : PredItem). length pred.args)
    (is_somewhere source (said source atom.name)) atom.args atom.name.from (pred_item c.in-Some.pred) (rw c.in-Some.is at c.requires))

pub returns-in-None : goal.returns-in-None
returns-in-None c =
    let source = c.args.source.now in
    let atom = c.args.atom in
    c.lack_fault.ensures
    ∙ ap first_in (undeclared (λ (other : Named). bytes_eq other.name (said source atom.name)) (λ (pred : PredItem). named source pred.name) (preds_of source) (λ (pred : PredItem). length pred.args)
    (is_somewhere source (said source atom.name)) atom.args atom.name.from (rw c.in-None.is at c.requires))
