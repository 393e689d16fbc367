use Rattle.cep_weigh.specs.Claims.{claim_lines}
use Rattle.cep_weigh.proofs.Lined.{LinesSoFar}
use Rattle.cep_weigh.proofs.reading.read_weights.Given as goal

abbrev pub invariant-loop-line : goal.invariant-loop-line
invariant-loop-line l = LinesSoFar l.signature (claim_lines l.fn.bytes) l.line-iterator l.number l.claims
