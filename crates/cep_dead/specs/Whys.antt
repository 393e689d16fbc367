-- Why a rule does not pass a table.
use Rattle.std.specs.Prelude.{◌≡◌}
use Rattle.std.specs.List.{AllByRecursion}
use Rattle.cep_rule.specs.declared.rule.Rule.{Rule}
use Rattle.cep_rule.specs.declared.parts.Parts.{Parts}
use Rattle.cep_dead.specs.declared.dead_rule.DeadWhy.{DeadWhy}
use Rattle.cep_dead.specs.declared.dead_rule.DeadWhy.TheVariants.{Stage, Premise, Var}
use Rattle.cep_reach.specs.Tables.{Possibility, of_stage, IsOpen}
use Rattle.cep_reach.specs.Rounds.{stage_of, premises_of}
use Rattle.cep_reach.specs.Shut.{IsFirstShut, IsFirstEmpty}

-- This is why the rule does not pass the table: its stage is not there; else some premise is not open; else the set of some variable is empty.
abbrev pub IsWhy : Parts → (Possibility → Type 0) → Rule → DeadWhy → Type 0
IsWhy program table rule (Stage stage) = (stage ≡ stage_of rule) × ¬ table (of_stage stage)
IsWhy program table rule (Premise place) = table (of_stage (stage_of rule)) × IsFirstShut table (premises_of rule) place
IsWhy program table rule (Var v) =
    table (of_stage (stage_of rule)) × AllByRecursion (IsOpen table) (premises_of rule) × IsFirstEmpty program.signature table rule.kinds (premises_of rule) v
