-- What single calls of a console did, and what two stretches of a talk did together.
use Rattle.std.proofs.Common.{◌≡◌, ℕ, refl, take, drop, List, [], ◌∷◌, ◌++◌, append_assoc, append-nil, Option, None, Some, arith}
use Rattle.std.proofs.lemmas.List.{map-append, take-append-drop}
use Rattle.cep_base.specs.declared.console.Event.{Event}
use Rattle.cep_base.specs.declared.console.Event.TheVariants.{In, End}
use Rattle.cep_base.specs.Talk.{outs, heard, GoesOn, Takes, Did}

-- bytes that are written in two parts
pub outs_cut : (size : ℕ) (bytes : List ℕ) → outs (take size bytes) ++ outs (drop size bytes) ≡ outs bytes
outs_cut size bytes = rw (← map-append, take-append-drop) refl

-- nothing more is said
pub goes_nowhere : (before : Option (List Event)) → GoesOn before [] before
goes_nowhere before = grind (arith, append-nil)

-- what is said in two stretches is said in one
goes_twice : (before between after : Option (List Event)) (first second : List Event) → GoesOn before first between → GoesOn between second after → GoesOn before (first ++ second) after
goes_twice before between after first second one other = grind (arith, append_assoc)

module _ {C : Type 0} (talk : C → Option (List Event)) (left : C → Option (List ℕ)) where
  -- nothing is said, and nothing is taken
  pub did_same : (old new : C) → talk new ≡ talk old → left new ≡ left old
      → Did talk left old new (λ come events rest. (events ≡ []) × (rest ≡ come))
  did_same old new quiet kept come coming = grind (arith, goes_nowhere)

  -- all of the bytes are written
  pub did_put : (old new : C) (bytes : List ℕ) → GoesOn (talk old) (outs bytes) (talk new) → left new ≡ left old
      → Did talk left old new (λ come events rest. (events ≡ outs bytes) × (rest ≡ come))
  did_put old new bytes went kept come coming = grind arith

  -- one byte is read
  pub did_hear : (old new : C) (byte : ℕ) → GoesOn (talk old) (heard (Some byte) ∷ []) (talk new) → Takes (left old) (Some byte) (left new)
      → Did talk left old new (λ come events rest. (events ≡ In byte ∷ []) × (come ≡ byte ∷ rest))
  did_hear old new byte went took come coming = grind arith

  -- the end is read
  pub did_end : (old new : C) → GoesOn (talk old) (heard None ∷ []) (talk new) → Takes (left old) None (left new)
      → Did talk left old new (λ come events rest. (events ≡ End ∷ []) × (come ≡ []) × (rest ≡ []))
  did_end old new went took come coming = grind arith

  -- what holds of each stretch makes what holds of both, one after the other
  pub did_then : (old between new : C) (P Q R : List ℕ → List Event → List ℕ → Type 0)
      → ((come : List ℕ) (first : List Event) (middle : List ℕ) (others : List Event) (rest : List ℕ) → P come first middle → Q middle others rest → R come (first ++ others) rest)
      → Did talk left old between P → Did talk left between new Q → Did talk left old new R
  did_then old between new P Q R join one other come coming =
      let (first, middle, went, is, p) = one come coming in
      let (others, rest, goes, ends, q) = other middle is in
      (first ++ others, rest, goes_twice (talk old) (talk between) (talk new) first others went goes, ends, join come first middle others rest p q)

  -- what was done may be told by a weaker predicate
  pub did_map : (old new : C) (P Q : List ℕ → List Event → List ℕ → Type 0)
      → ((come : List ℕ) (events : List Event) (rest : List ℕ) → P come events rest → Q come events rest)
      → Did talk left old new P → Did talk left old new Q
  did_map old new P Q weaker did come coming = search (weaker, did come coming)
