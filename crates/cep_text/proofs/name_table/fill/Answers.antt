use Rattle.std.proofs.Common.{◌≡◌, ◌∙◌, ap, sym, map, slice_get, Some}
use Rattle.std.proofs.lemmas.List.{map-append}
use Rattle.cep_base.proofs.Lists.{take_next}
use Rattle.cep_text.proofs.TableLemmas.{item_name, next_differs, none_seen}
use Rattle.cep_text.proofs.name_table.fill.Goals as goal

pub push-requires : goal.push-requires
push-requires g c =
    let name_of = g.T.Named.name_of in
    let there : slice_get (map name_of c.args.items.now) c.loop-i.i ≡ Some c.bytes.result.now = item_name name_of c.args.items.now c.loop-i.i c.get.result.now c.get.ensures ∙ ap Some (sym (c.bytes.ensures ∙ c.name.ensures)) in
    none_seen (λ entry. entry.0) c.bytes.result.now c.loop-i.table (rw c.loop-i.invariant (next_differs (map name_of c.args.items.now) c.loop-i.i c.bytes.result.now c.requires.differ there))

pub loop-i-preserved : goal.loop-i-preserved
loop-i-preserved g c =
    let name_of = g.T.Named.name_of in
    let there : slice_get (map name_of c.args.items.now) c.loop-i.i ≡ Some c.bytes.result.now = item_name name_of c.args.items.now c.loop-i.i c.get.result.now c.get.ensures ∙ ap Some (sym (c.bytes.ensures ∙ c.name.ensures)) in
    rw c.in_ok-push.ensures.ok (map-append _ c.loop-i.table _ ∙ rw c.loop-i.invariant (sym (take_next (map name_of c.args.items.now) c.loop-i.i c.bytes.result.now there)))
