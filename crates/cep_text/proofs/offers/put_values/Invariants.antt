use Rattle.std.proofs.Common.{◌≡◌, ◌++◌, take}
use Rattle.cep_text.specs.Texts.{all_given_text}
use Rattle.cep_text.proofs.offers.put_values.Given as goal

abbrev pub invariant-loop-i : goal.invariant-loop-i
invariant-loop-i l = l.out ≡ l.fn.out ++ all_given_text l.signature (take l.i l.vars) (take l.i l.values)
