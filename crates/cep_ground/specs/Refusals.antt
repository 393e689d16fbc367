-- What is wrong with a text, case by case, and what of it is told.
use Rattle.std.specs.Prelude.{◌≡◌, ◌⊎◌, ℕ, ◌<◌, ◌≤◌, List, length, Some, slice_get, Contains, Result, Ok, Err}
use Rattle.cep_base.specs.declared.place.Pos.{Pos}
use Rattle.cep_lex.specs.declared.token.Token.{Token}
use Rattle.cep_base.specs.declared.limits.TheConstants.{MOST_TEXT}
use Rattle.cep_lex.specs.Cuts.{AreTokens, IsBadByte, IsNameLong}
use Rattle.cep_parse.specs.Symbols.{symbols_of}
use Rattle.cep_parse.specs.Files.{IsUnexpected, IsNested}
use Rattle.cep_rule.specs.declared.rule.Rule.{Rule}
use Rattle.cep_rule.specs.declared.parts.Parts.{Parts}
use Rattle.cep_rule.specs.Groundness.{IsUngroundedAt}
use Rattle.cep_refusal.specs.declared.fault.Fault.{Fault}
use Rattle.cep_refusal.specs.declared.reason.Reason.TheVariants.{BadByte, NameLong, Unexpected, Nested, Unbound, Ungrounded, TooLong}
use Rattle.cep_source.specs.Items.{Source, RuleItem, rules_of}
use Rattle.cep_source.specs.Variables.{Occurrence}
use Rattle.cep_refusal.specs.First.{wrong, IsToldFirst}
use Rattle.cep_refusal.specs.Told.{Tells}
use Rattle.cep_faults.specs.Misnamed.{Misnamed}
use Rattle.cep_types.specs.Sites.{Mistyped}
use Rattle.cep_refusal.specs.declared.refusal.Refusal.{Refusal}
use Rattle.cep_infer.specs.Shapes.{IsSource}
use Rattle.cep_infer.specs.Meaning.{AreParts}
use Rattle.cep_infer.specs.Places.{backs_at, unbound_of}
use Rattle.cep_ground.specs.Texts.{IsClean, Spells}

-- A backward premise of a source stands at this place and calls a bad pair: it is the one at a place of the rule with some number.
pub record IsUngroundedIn (source : Source) (at : ℕ) : Type 0 where
  pub parts : Parts
  pub declared : AreParts source parts
  pub number : ℕ
  pub premise : ℕ
  pub item : RuleItem
  pub rule : Rule
  pub written : slice_get (rules_of source) number ≡ Some item
  pub numbered : slice_get parts.rules number ≡ Some rule
  pub calls : IsUngroundedAt parts.clauses rule premise
  pub here : slice_get (backs_at source item) premise ≡ Some at

-- What is wrong with a text.
pub data IsWrong (text : List ℕ) (fault : Fault) : Type 0 where
  -- it is longer than a text may be
  too_long : MOST_TEXT < length text → fault ≡ wrong TooLong 0 → IsWrong text fault
  -- a byte begins no token, or a name is too long
  bad_byte : (at : ℕ) → length text ≤ MOST_TEXT → IsBadByte text at → fault ≡ wrong BadByte at → IsWrong text fault
  name_long : (at : ℕ) → length text ≤ MOST_TEXT → IsNameLong text at → fault ≡ wrong NameLong at → IsWrong text fault
  -- no file goes on with a token, or a parenthesis is one too many
  unexpected : (tokens : List Token) (at : ℕ) → length text ≤ MOST_TEXT → AreTokens text tokens → IsUnexpected (symbols_of text tokens) (length text) at → fault ≡ wrong Unexpected at → IsWrong text fault
  nested : (tokens : List Token) (at : ℕ) → length text ≤ MOST_TEXT → AreTokens text tokens → IsNested (symbols_of text tokens) at → fault ≡ wrong Nested at → IsWrong text fault
  -- something is wrong with its names, or a term is of another type than is wanted of it
  misnamed : (source : Source) → source.text ≡ text → length text ≤ MOST_TEXT → IsSource source → Misnamed source fault → IsWrong text fault
  mistyped : (source : Source) → source.text ≡ text → length text ≤ MOST_TEXT → IsSource source → Mistyped source fault → IsWrong text fault
  -- a variable of a right side is not on the left, or a blank stands there
  unbound : (source : Source) (rule : RuleItem) (occurrence : Occurrence) → source.text ≡ text → length text ≤ MOST_TEXT → IsSource source → Contains (rules_of source) rule → Contains (unbound_of source rule) occurrence → fault ≡ wrong Unbound occurrence.at.from → IsWrong text fault
  -- a backward premise may leave a variable unknown
  ungrounded : (source : Source) (at : ℕ) → source.text ≡ text → IsClean source → IsUngroundedIn source at → fault ≡ wrong Ungrounded at → IsWrong text fault

-- The text is refused for this fault: it is wrong, and told no later than all else that is wrong.
pub record IsRefusedFor (text : List ℕ) (fault : Fault) : Type 0 where
  pub holds : IsWrong text fault
  pub first : (other : Fault) → IsWrong text other → IsToldFirst fault other

-- A line and a column stand before others: the line is less, or it is the same and the column is less.
abbrev pub StandsBefore : Pos → Pos → Type 0
StandsBefore one other = (one.line < other.line) ⊎ ((one.line ≡ other.line) × (one.col < other.col))

-- What is answered of a text: the program that it spells, or the refusal that tells of the fault for which it is refused.
abbrev pub IsAccepted : List ℕ → Result Parts Refusal → Type 0
IsAccepted text (Ok program) = Spells text program
IsAccepted text (Err refusal) = (fault : Fault) × IsRefusedFor text fault × Tells text fault refusal
