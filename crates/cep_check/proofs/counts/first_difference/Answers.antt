use Rattle.std.proofs.Common.{arith}
use Rattle.std.specs.FinMap.{len-entries}
use Rattle.cep_check.proofs.Differences.{same_lists}
use Rattle.cep_check.proofs.counts.first_difference.Goals as goal

pub returns : goal.returns
returns c = same_lists c.args.listing.now _ c.loop-place.place (omega arith) (omega (arith, len-entries c.args.state.now)) c.loop-place.invariant
