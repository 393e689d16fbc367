use Rattle.std.proofs.Common.{List, ◌∙◌, ap, sym, refl}
use Rattle.cep_parse.specs.declared.raw.Span.{Span}
use Rattle.cep_parse.specs.declared.raw.RawItem.TheVariants.{Colon}
use Rattle.cep_source.specs.Items.{Source}
use Rattle.cep_source.proofs.Declaring.{con_sorted, same_label}
use Rattle.cep_source.proofs.clauses.Clauses.sort_out.Goals as goal

pub returns-in_ok-declare-in-Colon-2 : goal.returns-in_ok-declare-in-Colon-2
returns-in_ok-declare-in-Colon-2 c = λ file before are named were.
    let source : Source = record { text = c.args.text.now; file = file } in
    con_sorted source before c.args.item.now _
    (c.in-Colon-2.is ∙ ap (λ (args : List Span). Colon c.in-Colon-2.left args c.in-Colon-2.right) (sym c.as_slice-args.ensures))
    (rw c.as_slice-args.ensures (same_label source (sym c.in-Colon-2.is ∙ c.in-Colon.is)) ∙ sym (c.is_labelled.ensures file are named) ∙ c.if-is_labelled.false)
    c.args.self.now _ were c.in_ok-declare-in-Colon-2.ensures.items refl
    (c.in_ok-declare-in-Colon-2.ensures.named (λ con. con.name) refl were.named)
