-- What a text comes to: the first trace, and a sound draft or a refusal.
use Rattle.std.proofs.Common.{◌≡◌, List, [], ◌∷◌, length, map, ap, sym, refl, ◌∙◌, subst, arith}
use Rattle.std.specs.Prelude.{Option, Some, Result, Ok, IsErrAnd, MatchResult, slice_get}
use Rattle.std.specs.Option.{IsSome}
use Rattle.cep_refusal.specs.declared.reason.Reason.TheVariants.{NoTrace}
use Rattle.cep_refusal.specs.declared.fault.Fault.{Fault}
use Rattle.cep_refusal.specs.declared.refusal.Refusal.{Refusal}
use Rattle.cep_refusal.specs.Told.{Tells}
use Rattle.cep_refusal.specs.First.{wrong}
use Rattle.cep_source.specs.declared.items.TraceRef.{TraceRef}
use Rattle.cep_source.specs.Items.{Source, traces_of}
use Rattle.cep_source.specs.Kept.{trace_item}
use Rattle.cep_faults.specs.Misnamed.{Misnamed as misnamed}
use Rattle.cep_infer.specs.declared.draft.Draft.{Draft}
use Rattle.cep_infer.specs.Resolved.{IsWellNamed, IsFirstFault, IsSound, IsResolved}
use Rattle.cep_base.proofs.Lists.{get_mapped, none_some, some_same}

-- the first of some is followed by the others
pub followed : {X : Type 0} (xs : List X) (x : X) → slice_get xs 0 ≡ Some x → (rest : List X) × (xs ≡ x ∷ rest)
followed [] x first = none_some x first
followed (y ∷ xs) x first = (xs, ap (λ z. z ∷ xs) (some_same y x first))

-- the first trace
pub first_trace : (source : Source) (refs : List TraceRef) (trace : TraceRef) (found : Option TraceRef) → map trace_item refs ≡ traces_of source → found ≡ slice_get refs 0 → found ≡ Some trace → slice_get (traces_of source) 0 ≡ Some (trace_item trace)
first_trace source refs trace found all is some = ap (λ traces. slice_get traces 0) (sym all) ∙ get_mapped trace_item refs 0 trace (sym is ∙ some)

-- a text without wrong names has a trace
pub some_trace : (source : Source) (refs : List TraceRef) (found : Option TraceRef) → IsWellNamed source → map trace_item refs ≡ traces_of source → found ≡ slice_get refs 0 → IsSome found
some_trace source [] found named all is = absurd (named (wrong NoTrace (length source.text)) (misnamed.no_trace (sym all) refl))
some_trace source (trace ∷ refs) found named all is = subst IsSome (sym is) refl

-- a sound draft is the answer, and so is the refusal that tells the first fault
pub resolved : (source : Source) (found : Result Draft Fault) (answer : Result Draft Refusal) (IsTold : Fault → Refusal → Type 0) → ((fault : Fault) (refusal : Refusal) → IsTold fault refusal → Tells source.text fault refusal)
    → MatchResult found (IsSound source) (IsFirstFault source) → MatchResult found (λ draft. answer ≡ Ok draft) (λ fault. IsErrAnd answer (IsTold fault)) → IsResolved source answer
resolved source found answer IsTold tells sound is = grind arith
