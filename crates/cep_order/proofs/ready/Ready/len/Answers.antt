use Rattle.std.proofs.Common.{Bool, List, length, ap, sym, ◌∙◌, arith}
use Rattle.std.proofs.lemmas.Nat.{pow_pos}
use Rattle.std.proofs.lemmas.List.{get_or_read}
use Rattle.cep_order.specs.Flags.{set_places}
use Rattle.cep_order.proofs.Trees.{as_many, root_counts}
use Rattle.cep_order.proofs.ready.Ready.len.Goals as goal

pub index-requires : goal.index-requires
index-requires c = omega (arith, c.self.invariant.size, c.self.inside.counts.ok.0, pow_pos c.self.inside.height)

pub returns : goal.returns
returns c =
    let fields = c.self.inside in
    let read = get_or_read fields.counts.items 1 _ (omega (arith, c.self.invariant.size, pow_pos fields.height)) c.index.ensures 0 in
    read ∙ root_counts fields.flags.items fields.counts.items fields.height c.self.invariant ∙ sym (as_many 0 fields.flags.items) ∙ ap (λ (flags : List Bool). length (set_places flags)) c.self.view_is
