use Rattle.std.proofs.Common.{ℕ, Option, rules, ap, ◌∙◌}
use Rattle.cep_base.specs.declared.limits.TheConstants.{MOST_GOALS}
use Rattle.cep_parse.specs.declared.raw.RawAtom.{RawAtom}
use Rattle.cep_refusal.specs.First.{first_in}
use Rattle.cep_faults.specs.Faults.{past}
use Rattle.cep_faults.proofs.Firsts.{mapped_by, mapped_twice, got_is}
use Rattle.cep_faults.proofs.limits.goal_past.Goals as goal

pub returns : goal.returns
returns c =
    c.past.ensures ∙ ap (λ (at : Option ℕ). first_in (past at))
    (mapped_by (λ goal_. goal_.now.name.from) c.get.result c.map.result (λ goal_ n gives. search rules) c.map.ensures.cases
    ∙ mapped_twice (λ (goal_ : RawAtom). goal_.name.from) (λ goal_. goal_.now) c.get.result _ (got_is _ c.args.goals.now MOST_GOALS c.get.result c.get.ensures.lookup.1 c.get.ensures.lookup.3))
