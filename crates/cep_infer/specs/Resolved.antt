-- What a text comes to: a draft, or why it is refused.
use Rattle.std.specs.Prelude.{◌⊎◌, Result, Ok, Err}
use Rattle.cep_refusal.specs.declared.fault.Fault.{Fault}
use Rattle.cep_source.specs.Items.{Source}
use Rattle.cep_refusal.specs.First.{IsFirst}
use Rattle.cep_faults.specs.Misnamed.{Misnamed}
use Rattle.cep_types.specs.Sites.{Mistyped}
use Rattle.cep_infer.specs.declared.draft.Draft.{Draft}
use Rattle.cep_refusal.specs.declared.refusal.Refusal.{Refusal}
use Rattle.cep_refusal.specs.Told.{Tells}
use Rattle.cep_infer.specs.Places.{IsDraft}

-- Nothing is wrong with the names of a text.
abbrev pub IsWellNamed : Source → Type 0
IsWellNamed source = (fault : Fault) → ¬ Misnamed source fault

-- The first fault of a text's names, or, where nothing is wrong with these, of its types.
abbrev pub IsFirstFault : Source → Fault → Type 0
IsFirstFault source fault = IsFirst (Misnamed source) fault ⊎ (IsWellNamed source × IsFirst (Mistyped source) fault)

-- The text is refused for its first fault, at the line and column of it.
pub record IsRefused (source : Source) (refusal : Refusal) : Type 0 where
  pub fault : Fault
  pub first : IsFirstFault source fault
  pub told : Tells source.text fault refusal

-- Nothing is wrong with the names and the types of a text, and the draft is what it declares.
pub record IsSound (source : Source) (draft : Draft) : Type 0 where
  pub named : IsWellNamed source
  pub typed : (fault : Fault) → ¬ Mistyped source fault
  pub draft_is : IsDraft source draft

abbrev pub IsResolved : Source → Result Draft Refusal → Type 0
IsResolved source (Ok draft) = IsSound source draft
IsResolved source (Err refusal) = IsRefused source refusal
