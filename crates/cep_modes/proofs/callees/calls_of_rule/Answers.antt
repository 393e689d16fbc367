use Rattle.std.proofs.Common.{sym, ◌∙◌, ℕ, subst}
use Rattle.cep_base.proofs.Lists.{holds_at_mapped, get_mapped}
use Rattle.cep_term.specs.Tree.{AreInRange, trees_of, atom_of}
use Rattle.cep_rule.specs.Binding.{needed_of}
use Rattle.cep_rule.specs.Patterns.{PremiseTree, premise_of}
use Rattle.cep_modes.specs.Places.{holds, IsPlain}
use Rattle.cep_modes.proofs.Looping.{goal_learnt}
use Rattle.cep_modes.proofs.callees.calls_of_rule.Goals as goal

pub learn_all-requires : goal.learn_all-requires
learn_all-requires c =
    let P : ℕ → Type 0 = λ n. AreInRange n (trees_of c.get.result.now.atom.args) in
    subst P (sym c.loop-i.invariant.as_many)
    (holds_at_mapped (IsPlain 32) (λ (p : PremiseTree). p.atom) c.args.rule.now.premises c.loop-i.i (premise_of c.get.result.now) c.requires.premises c.get.ensures).in_range

pub loop-i-preserved : goal.loop-i-preserved
loop-i-preserved c = record {
  as_many = c.learn_all.auto.known ∙ c.loop-i.invariant.as_many;
  known = goal_learnt (needed_of c.args.rule.now) c.loop-i.i (atom_of c.get.result.now.atom) (holds c.loop-i.known) (holds c.learn_all.new.known) _ (get_mapped (λ (p : PremiseTree). p.atom) c.args.rule.now.premises c.loop-i.i (premise_of c.get.result.now) c.get.ensures) c.learn_all.ensures c.loop-i.invariant.known;
}
