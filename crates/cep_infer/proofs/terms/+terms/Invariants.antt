use Rattle.std.proofs.Common.{◌+◌, ◌-◌, ◌*◌, length}
use Rattle.cep_infer.proofs.terms.+terms.Given as goal

abbrev pub decreases-read_args : goal.decreases-read_args
decreases-read_args l = 2 * (length l.nodes.now - l.cursor.now.at) + 1

abbrev pub decreases-read_term : goal.decreases-read_term
decreases-read_term l = 2 * (length l.nodes.now - l.cursor.now.at)
