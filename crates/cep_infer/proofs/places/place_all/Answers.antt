use Rattle.cep_infer.proofs.Placing.{places_more}
use Rattle.cep_infer.proofs.places.place_all.Goals as goal

pub loop-at-preserved : goal.loop-at-preserved
loop-at-preserved c = record {
  reached = c.reach.ensures.reached;
  places = places_more c.text-text.result.now c.args.ats.now c.loop-at.at-index 0 c.loop-at.places c.push.new.self c.reach.result.pos c.loop-at-test.true c.loop-at.invariant.places c.reach.ensures.there c.in_ok-push.ensures.ok;
}
