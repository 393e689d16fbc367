use Rattle.cep_base.specs.declared.limits.TheConstants.{MOST_RIGHT}
use Rattle.cep_parse.specs.declared.raw.RawAtom.{RawAtom}
use Rattle.cep_parse.specs.Raw.{atoms_in}
use Rattle.cep_faults.proofs.Firsts.{past_found, past_none}
use Rattle.cep_faults.proofs.limits.right_past.Goals as goal

pub returns-then-before-eq-MOST_RIGHT : goal.returns-then-before-eq-MOST_RIGHT
returns-then-before-eq-MOST_RIGHT c =
    past_found atoms_in (λ (atom : RawAtom). atom.name.from) c.args.right.now c.loop-elem.elem-index c.elem-item.result c.in-Some.atom.now c.loop-elem.before MOST_RIGHT _
    c.loop-elem-test.true c.elem-item.is c.loop-elem.invariant.counted c.in-Some.ensures c.if-before-eq-MOST_RIGHT.true c.past.ensures

pub returns : goal.returns
returns c =
    past_none atoms_in (λ (atom : RawAtom). atom.name.from) c.args.right.now c.loop-elem.elem-index c.loop-elem.before MOST_RIGHT c.loop-elem-test.false c.loop-elem.invariant.counted c.loop-elem.invariant.few
