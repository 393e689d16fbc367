use Rattle.std.proofs.Common.{length, arith}
use Rattle.std.proofs.lemmas.List.{map-append}
use Rattle.cep_base.proofs.Lists.{holds_at_mapped, take_next}
use Rattle.cep_term.specs.Tree.{IsAtomInRange}
use Rattle.cep_rule.specs.Patterns.{PremiseTree}
use Rattle.cep_check.proofs.needed.needed_atoms.Goals as goal

pub instance-requires : goal.instance-requires
instance-requires c = holds_at_mapped (IsAtomInRange (length c.args.values.now)) (λ (p : PremiseTree). p.atom) c.args.rule.now.premises _ _ c.requires c.get.ensures

pub loop-i-preserved : goal.loop-i-preserved
loop-i-preserved c = grind (arith, take_next c.args.rule.now.premises _ _ c.get.ensures, map-append)
