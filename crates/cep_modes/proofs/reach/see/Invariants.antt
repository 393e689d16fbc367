use Rattle.std.proofs.Common.{◌≡◌, drop}
use Rattle.cep_modes.specs.Reaching.{seen_after, queue_after}
use Rattle.cep_modes.proofs.reach.see.Given as goal

abbrev pub invariant-loop-n : goal.invariant-loop-n
invariant-loop-n l = record {
  seen : seen_after (drop l.n-index l.numbers) l.seen ≡ seen_after l.numbers l.initial.seen;
  queue : queue_after (drop l.n-index l.numbers) l.seen l.queue.items ≡ queue_after l.numbers l.initial.seen l.initial.queue.items;
}
