use Rattle.std.proofs.Common.{◌≡◌, ◌<◌, drop, Some, ap, ◌∙◌, sym, subst, arith}
use Rattle.std.proofs.lemmas.Result.{IfOk-weaker}
use Rattle.cep_term.specs.Tree.{trees_of, node}
use Rattle.cep_store.specs.Held.{args_by}
use Rattle.cep_store.specs.Keys.{terms_by}
use Rattle.cep_store.proofs.Readers.{term_weight, args_weight, first_falls, others_fall, all_parts, args_read, held_parts, reads_held, parts_are_less}
use Rattle.cep_store.proofs.reading.+read.Goals as goal

pub read_args-read_term-requires : goal.read_args-read_term-requires
read_args-read_term-requires t c =
    let is = c.in-Some.ensures.cases.0 in
    let falls : term_weight c.args.terms.now c.in-Some.id.now < args_weight c.args.terms.now c.args.ids.now = first_falls _ _ _ _ is in
    let parts = all_parts _ _ _ _ is c.requires.there in
    (omega arith, (c.requires.keys, parts.0))

pub read_args-read_args-requires : goal.read_args-read_args-requires
read_args-read_args-requires t c =
    let is = c.in-Some.ensures.cases.0 in
    let falls : args_weight c.args.terms.now c.in-Some.rest.now < args_weight c.args.terms.now c.args.ids.now = others_fall _ _ _ _ is in
    let parts = all_parts _ _ _ _ is c.requires.there in
    (omega arith, (c.requires.keys, parts.1))

pub read_args-returns-in_ok-rest-in-Some : goal.read_args-returns-in_ok-rest-in-Some
read_args-returns-in_ok-rest-in-Some t c =
    IfOk-weaker c.cons.result _ _
    (λ args is. is ∙ args_read (terms_by c.args.terms.now) c.args.ids.now c.in-Some.id.now c.in-Some.rest.now _ _ c.in-Some.ensures.cases.0 c.in_ok-t-in-Some.ensures c.in_ok-rest-in-Some.ensures)
    c.cons.ensures

pub read_term-ids_in-requires : goal.read_term-ids_in-requires
read_term-ids_in-requires t c = (held_parts c.args.terms.now c.args.id c.get-key.result.now c.requires.keys c.get-key.ensures).some

pub read_term-read_args-requires : goal.read_term-read_args-requires
read_term-read_args-requires t c =
    let parts = held_parts c.args.terms.now c.args.id c.get-key.result.now c.requires.keys c.get-key.ensures in
    let falls : args_weight c.args.terms.now c.ids_in.result.now < term_weight c.args.terms.now c.args.id =
    subst (λ ids. args_weight c.args.terms.now ids < term_weight c.args.terms.now c.args.id) (sym c.ids_in.ensures) (parts_are_less c.args.terms.now c.args.id c.get-key.result.now c.requires.keys c.get-key.ensures) in
    (omega arith, (c.requires.keys, rw c.ids_in.ensures parts.within))

pub read_term-head_in-requires : goal.read_term-head_in-requires
read_term-head_in-requires t c =
    let parts = held_parts c.args.terms.now c.args.id c.get-key.result.now c.requires.keys c.get-key.ensures in
    record { some = parts.some; small = parts.small }

pub read_term-returns : goal.read_term-returns
read_term-returns t c =
    let args : trees_of c.in_ok-args.args ≡ args_by (terms_by c.args.terms.now) (drop 1 c.get-key.result.now) = c.in_ok-args.ensures ∙ ap (args_by (terms_by c.args.terms.now)) c.ids_in.ensures in
    reads_held c.args.terms.now c.args.id c.get-key.result.now c.requires.keys c.get-key.ensures ∙ sym (λ i. Some (node (c.head_in.ensures i) (args i)))
