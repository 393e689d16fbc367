-- Which program a text spells.
use Rattle.std.specs.Prelude.{◌≡◌, ℕ, ◌≤◌, List, [], length}
use Rattle.std.specs.List.{AllByRecursion}
use Rattle.cep_base.specs.declared.limits.TheConstants.{MOST_TEXT}
use Rattle.cep_rule.specs.declared.parts.Parts.{Parts}
use Rattle.cep_rule.specs.Groundness.{IsGrounded}
use Rattle.cep_refusal.specs.declared.fault.Fault.{Fault}
use Rattle.cep_source.specs.Items.{Source, rules_of}
use Rattle.cep_faults.specs.Misnamed.{Misnamed}
use Rattle.cep_types.specs.Sites.{Mistyped}
use Rattle.cep_infer.specs.Shapes.{IsSource}
use Rattle.cep_infer.specs.Meaning.{AreParts}
use Rattle.cep_infer.specs.Places.{unbound_of}

-- A source in order: nothing is wrong with its length, its tokens, its grammar, its names and its types.
pub record IsClean (source : Source) : Type 0 where
  pub is_source : IsSource source
  pub short : length source.text ≤ MOST_TEXT
  pub names : (fault : Fault) → ¬ (Misnamed source fault)
  pub types : (fault : Fault) → ¬ (Mistyped source fault)

-- Each variable of a right side is on the left side.
abbrev pub IsBound : Source → Type 0
IsBound source = AllByRecursion (λ rule. unbound_of source rule ≡ []) (rules_of source)

-- The text spells the program with these parts: it is in order, the parts are what it declares, each variable of a right side is on the left side, and no backward premise may leave a variable unknown.
pub record Spells (text : List ℕ) (parts : Parts) : Type 0 where
  pub source : Source
  pub text_is : source.text ≡ text
  pub clean : IsClean source
  pub declared : AreParts source parts
  pub bound : IsBound source
  pub grounded : AllByRecursion (IsGrounded parts.clauses) parts.rules
