use Rattle.std.proofs.Common.{◌≡◌, rules, length, ap, sym, ◌∙◌}
use Rattle.std.specs.Str.{bytes_eq}
use Rattle.cep_parse.specs.declared.raw.RawKind.{RawKind}
use Rattle.cep_parse.specs.declared.raw.RawKind.TheVariants.{App}
use Rattle.cep_refusal.specs.First.{first_in}
use Rattle.cep_source.specs.Items.{ConItem, cons_of, said}
use Rattle.cep_source.specs.Spaces.{Named, named}
use Rattle.cep_source.specs.Kept.{con_item}
use Rattle.cep_faults.specs.Faults.{is_somewhere, kind_faults}
use Rattle.cep_faults.proofs.Firsts.{declared, undeclared}
use Rattle.cep_faults.proofs.atoms.node_fault.Goals as goal

pub returns-in-Some : goal.returns-in-Some
returns-in-Some c =
    let source = c.args.source.now in
    let node = c.args.node.now in
    let is : node.kind ≡ App = search rules in
    c.arity_fault.ensures
    ∙ ap first_in (declared (λ (other : Named). bytes_eq other.name (said source node.at)) (λ (con : ConItem). named source con.name) (cons_of source) (λ (con : ConItem). length con.args)
    (is_somewhere source (said source node.at)) node.args node.at.from (con_item c.in-Some.con) c.in-Some.ensures)
    ∙ ap (λ (its : RawKind). first_in (kind_faults source c.args.of_state its node)) (sym is)

pub returns-in-None : goal.returns-in-None
returns-in-None c =
    let source = c.args.source.now in
    let node = c.args.node.now in
    let is : node.kind ≡ App = search rules in
    c.lack_fault.ensures
    ∙ ap first_in (undeclared (λ (other : Named). bytes_eq other.name (said source node.at)) (λ (con : ConItem). named source con.name) (cons_of source) (λ (con : ConItem). length con.args)
    (is_somewhere source (said source node.at)) node.args node.at.from c.in-None.ensures)
    ∙ ap (λ (its : RawKind). first_in (kind_faults source c.args.of_state its node)) (sym is)
