use Rattle.std.proofs.Common.{ℕ, Option, rules, ap, ◌∙◌}
use Rattle.std.specs.Option.{option_map}
use Rattle.cep_parse.specs.declared.raw.Span.{Span}
use Rattle.cep_refusal.specs.First.{first_in}
use Rattle.cep_faults.specs.Faults.{past}
use Rattle.cep_faults.proofs.Firsts.{mapped_by}
use Rattle.cep_faults.proofs.limits.argument_past.Goals as goal

pub returns : goal.returns
returns c =
    c.past.ensures ∙ ap (λ (at : Option ℕ). first_in (past at))
    (mapped_by (λ (arg : Span). arg.from) c.item_at.result c.map.result (λ arg n gives. search rules) c.map.ensures.cases ∙ ap (option_map (λ (arg : Span). arg.from)) c.item_at.ensures)
