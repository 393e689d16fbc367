-- The lines of dead rules.
use Rattle.std.specs.Prelude.{ℕ, List, [], ◌++◌, length, codes, decimal, slice_get, unwrap_or, Option, None, Some}
use Rattle.std.specs.List.{flat_map}
use Rattle.cep_rule.specs.declared.rule.Rule.{Rule}
use Rattle.cep_rule.specs.declared.parts.Parts.{Parts}
use Rattle.cep_text.specs.Texts.{offer_name}
use Rattle.cep_lines.specs.Lines.{line, stage_name}
use Rattle.cep_dead.specs.declared.dead_rule.DeadWhy.{DeadWhy}
use Rattle.cep_dead.specs.declared.dead_rule.DeadWhy.TheVariants.{Stage, Premise, Var}
use Rattle.cep_dead.specs.declared.dead_rule.DeadRule.{DeadRule}

-- the name of a variable of a rule
abbrev pub variable_name : Option Rule → ℕ → List ℕ
variable_name None v = []
variable_name (Some rule) v = unwrap_or (slice_get rule.vars v) []

-- why a rule is dead: `stage S`, `premise K` or `var X`
abbrev pub why_text : Parts → Option Rule → DeadWhy → List ℕ
why_text program rule (Stage stage) = codes "stage " ++ stage_name (slice_get program.stages stage)
why_text program rule (Premise place) = codes "premise " ++ decimal place
why_text program rule (Var v) = codes "var " ++ variable_name rule v

-- `dead RULE WHY`
abbrev pub dead_line : Parts → DeadRule → List ℕ
dead_line program dead =
    let rule = slice_get program.rules dead.rule in
    line (codes "dead " ++ offer_name rule ++ codes " " ++ why_text program rule dead.why)

-- the lines of all dead rules, and how many they are
abbrev pub dead_lines : Parts → List DeadRule → List ℕ
dead_lines program deads = flat_map (dead_line program) deads ++ line (codes "dead " ++ decimal (length deads))
