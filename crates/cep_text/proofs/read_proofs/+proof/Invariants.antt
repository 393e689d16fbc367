use Rattle.std.proofs.Common.{◌+◌, ◌*◌, length}
use Rattle.cep_text.proofs.read_proofs.+proof.Given as goal

abbrev pub decreases-proof : goal.decreases-proof
decreases-proof l = 3 * length l.bytes.now + 1

abbrev pub decreases-node : goal.decreases-node
decreases-node l = 3 * length l.bytes.now

abbrev pub decreases-proofs : goal.decreases-proofs
decreases-proofs l = 3 * length l.bytes.now + 2
