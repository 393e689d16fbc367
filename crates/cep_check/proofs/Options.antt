-- What is known of an option that is there, and of one that is not.
use Rattle.std.specs.Prelude.{Option, Some, None, MatchOption, MatchResult, Result, Ok, Err}

-- what is known either way leads to something either way
pub in_either : {A : Type 0} {P P' : Type 0} {Q Q' : A → Type 0} → (P → P') → ((x : A) → Q x → Q' x) → (o : Option A) → MatchOption o P Q → MatchOption o P' Q'
in_either left right None known = left known
in_either left right (Some x) known = right x known

-- and so of a result
pub of_either : {A E : Type 0} {P P' : A → Type 0} {Q Q' : E → Type 0} → ((x : A) → P x → P' x) → ((e : E) → Q e → Q' e) → (r : Result A E) → MatchResult r P Q → MatchResult r P' Q'
of_either left right (Ok x) known = left x known
of_either left right (Err e) known = right e known
