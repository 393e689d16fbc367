use Rattle.std.proofs.Common.{◌+◌, ◌*◌, length}
use Rattle.cep_text.proofs.values.+value.Given as goal

abbrev pub decreases-value : goal.decreases-value
decreases-value l = 4 * length l.bytes.now

abbrev pub decreases-enclosed : goal.decreases-enclosed
decreases-enclosed l = 4 * length l.bytes.now + 3

abbrev pub decreases-inside : goal.decreases-inside
decreases-inside l = 4 * length l.bytes.now + 2

abbrev pub decreases-arguments : goal.decreases-arguments
decreases-arguments l = 4 * length l.bytes.now + 1

abbrev pub decreases-argument : goal.decreases-argument
decreases-argument l = 4 * length l.bytes.now
