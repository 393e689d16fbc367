use Rattle.std.proofs.Common.{inl, inr}
use Rattle.cep_infer.proofs.Placing.{IsStart, start_is, line_fits, col_fits, reached_is, place_there}
use Rattle.cep_infer.proofs.places.reach.Goals as goal
use Rattle.cep_infer.proofs.places.reach.Goals.{then-from-to, else-from-to}

pub place_after-pos-requires : goal.place_after-pos-requires
place_after-pos-requires c =
    let text = c.args.text.now in
    let start : IsStart text c.if-from-to.start c.min-to.result =
    start_is text c.args.from c.if-from-to.start c.min-to.result c.requires.reached (elim c.if-from-to.branch [ then-from-to w ↦ inl (w.start-is, w.if-from-to.true) | else-from-to w ↦ inr w.start-is ]) in
    record {
      line = line_fits text c.if-from-to.start c.min-to.result c.requires.short start.reached;
      col = col_fits text c.if-from-to.start c.min-to.result c.requires.short start.reached;
    }

pub returns : goal.returns
returns c =
    let text = c.args.text.now in
    let start : IsStart text c.if-from-to.start c.min-to.result =
    start_is text c.args.from c.if-from-to.start c.min-to.result c.requires.reached (elim c.if-from-to.branch [ then-from-to w ↦ inl (w.start-is, w.if-from-to.true) | else-from-to w ↦ inr w.start-is ]) in
    let reached = reached_is text c.if-from-to.start c.args.at c.min-to.result c.place_after-pos.result c.min-to.ensures start.before start.reached c.place_after-pos.ensures in
    record { reached = reached; there = place_there text c.args.at c.min-to.result c.place_after-pos.result c.min-to.ensures reached }
