-- Private. The tables of the names of a program.
use Rattle.std.specs.Prelude.{◌≡◌, ℕ, List}
use Rattle.cep_base.specs.FirstNames.{names_among}
use Rattle.cep_rule.specs.declared.parts.Parts.{Parts}
use Rattle.cep_text.specs.Reading.{con_names, pred_names, stage_names, rule_names}

-- Each table has the names of its kind, in order.
pub record HoldNames (program : Parts) (con_table pred_table stage_table rule_table : List (List ℕ × Unit {0})) : Type 0 where
  pub cons : names_among con_table ≡ con_names program.signature.cons
  pub preds : names_among pred_table ≡ pred_names program.signature.preds
  pub stages : names_among stage_table ≡ stage_names program.stages
  pub rules : names_among rule_table ≡ rule_names program.rules
