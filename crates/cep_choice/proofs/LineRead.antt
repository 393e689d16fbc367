-- The reading of one line, byte by byte.
use Rattle.std.proofs.Common.{◌≡◌, ◌≢◌, ℕ, ◌+◌, ◌<◌, inl, inr, List, [], ◌∷◌, ◌++◌, length, append_assoc, Option, None, Some, refl, sym, ◌∙◌, arith}
use Rattle.std.proofs.lemmas.List.{append-nil, length_push, map_push, nil_from_length}
use Rattle.cep_base.specs.Spelling.{IsUnbroken}
use Rattle.cep_base.specs.declared.console.Event.{Event}
use Rattle.cep_base.specs.Talk.{ins, heard, GoesOn, Takes, Did}
use Rattle.cep_choice.specs.declared.reading.Said.{Said}
use Rattle.cep_choice.specs.declared.reading.Said.TheVariants as said
use Rattle.cep_choice.specs.declared.typed.Typed.{Typed}
use Rattle.cep_choice.specs.declared.typed.Typed.TheVariants as typed
use Rattle.cep_choice.specs.TypedLine.{Cut, Ended, Last, Nothing, Full, ReadsLine, IsLine, IsHeardAs, IsCutShort}
use Rattle.cep_choice.specs.Typed.{Reads, SaysOf}
use Rattle.cep_base.proofs.Bytes.{unbroken_push}
use Rattle.cep_base.proofs.Did.{did_same, did_hear, did_end, did_then, did_map}

-- these bytes of a line were read, and no LF was among them
pub record HasRead (n : ℕ) (now : Typed) (taken : ℕ) (come : List ℕ) (events : List Event) (rest : List ℕ) : Type 0 where
  pub bytes : List ℕ
  pub first : come ≡ bytes ++ rest
  pub said : events ≡ ins bytes
  pub all : length bytes ≡ taken
  pub unbroken : IsUnbroken bytes
  pub reads : Reads n now bytes

-- one reading of a line, and what it says
abbrev pub ReadsSaid : ℕ → ℕ → Said → ℕ → List ℕ → List Event → List ℕ → Type 0
ReadsSaid n room said taken come events rest = (cut : Cut) × ReadsLine room come events cut rest taken × IsHeardAs n cut said

says_line : (n : ℕ) (cut : Cut) (line : List ℕ) (said : Said) → IsLine cut line → SaysOf n line said → IsHeardAs n cut said
says_line n cut line (said.Number place) is says = (line, is, says)
says_line n cut line said.Bad is says = (line, is, says)
says_line n cut line _ is says = absurd says

-- What the console did

module _ {C : Type 0} (talk : C → Option (List Event)) (left : C → Option (List ℕ)) where
  pub read_none : (n : ℕ) (old : C) → Did talk left old old (HasRead n typed.Empty 0)
  read_none n old =
      did_map talk left old old _ (HasRead n typed.Empty 0)
      (λ come events rest same. record { bytes = []; first = sym same.1; said = same.0; all = refl; unbroken = tt; reads = refl })
      (did_same talk left old old refl refl)

  module _ (n taken : ℕ) (now : Typed) (old between new : C) (so_far : Did talk left old between (HasRead n now taken)) where
    pub read_byte : (byte : ℕ) (next : Typed) → GoesOn (talk between) (heard (Some byte) ∷ []) (talk new) → Takes (left between) (Some byte) (left new) → byte ≢ 10
        → ((bytes : List ℕ) → Reads n now bytes → Reads n next (bytes ++ byte ∷ []))
        → Did talk left old new (HasRead n next (taken + 1))
    read_byte byte next went took other then =
        did_then talk left old between new (HasRead n now taken) _ (HasRead n next (taken + 1))
        (λ come first middle others rest before one. record {
          bytes = before.bytes ++ byte ∷ [];
          first = simp append_assoc (rw one.1 at before.first);
          said = rw (before.said, one.0, map_push) refl;
          all = omega (arith, length_push before.bytes byte, before.all);
          unbroken = unbroken_push before.bytes byte before.unbroken other;
          reads = then before.bytes before.reads;
        })
        so_far (did_hear talk left between new byte went took)

    pub read_line : (room : ℕ) (said : Said) → GoesOn (talk between) (heard (Some 10) ∷ []) (talk new) → Takes (left between) (Some 10) (left new) → taken < room
        → ((line : List ℕ) → Reads n now line → SaysOf n line said)
        → Did talk left old new (ReadsSaid n room said (taken + 1))
    read_line room said went took below says =
        did_then talk left old between new (HasRead n now taken) _ (ReadsSaid n room said (taken + 1))
        (λ come first middle others rest before one.
        let line : ReadsLine room come (first ++ others) (Ended before.bytes) rest (taken + 1) = (rw one.1 at before.first, before.unbroken, omega (arith, before.all), rw (before.said, one.0, map_push) refl, omega (arith, before.all)) in
        (Ended before.bytes, line, says_line n (Ended before.bytes) before.bytes said (inl refl) (says before.bytes before.reads)))
        so_far (did_hear talk left between new 10 went took)

    pub read_last_line : (room : ℕ) (said : Said) → GoesOn (talk between) (heard None ∷ []) (talk new) → Takes (left between) None (left new) → 0 < taken → taken < room
        → ((line : List ℕ) → Reads n now line → SaysOf n line said)
        → Did talk left old new (ReadsSaid n room said taken)
    read_last_line room said went took some below says =
        did_then talk left old between new (HasRead n now taken) _ (ReadsSaid n room said taken)
        (λ come first middle others rest before one.
        let line : ReadsLine room come (first ++ others) (Last before.bytes) rest taken = (rw (one.1, append-nil) at before.first, one.2, omega (arith, before.all), before.unbroken, omega (arith, before.all), rw (before.said, one.0) refl, sym before.all) in
        (Last before.bytes, line, says_line n (Last before.bytes) before.bytes said (inr refl) (says before.bytes before.reads)))
        so_far (did_end talk left between new went took)

    pub read_end : (room : ℕ) → GoesOn (talk between) (heard None ∷ []) (talk new) → Takes (left between) None (left new) → taken ≡ 0 → taken < room
        → Did talk left old new (ReadsSaid n room said.End taken)
    read_end room went took none below =
        did_then talk left old between new (HasRead n now taken) _ (ReadsSaid n room said.End taken)
        (λ come first middle others rest before one.
        let nil = nil_from_length before.bytes (before.all ∙ none) in
        (Nothing, (rw (nil, one.1) at before.first, one.2, omega arith, rw (before.said, nil, one.0) refl, none), refl))
        so_far (did_end talk left between new went took)

    pub read_all : (room : ℕ) → taken ≡ room → Did talk left old between (ReadsSaid n room said.Limit room)
    read_all room full =
        did_map talk left old between (HasRead n now taken) (ReadsSaid n room said.Limit room)
        (λ come events rest before. (Full before.bytes, (before.first, before.unbroken, before.all ∙ full, before.said, refl), (before.bytes, refl)))
        so_far

    pub read_short : (room : ℕ) → talk new ≡ talk between → left new ≡ left between → taken < room → Did talk left old new (IsCutShort room)
    read_short room quiet kept below =
        did_then talk left old between new (HasRead n now taken) _ (IsCutShort room)
        (λ come first middle others rest before same. record {
          bytes = before.bytes;
          first = rw same.1 before.first;
          unbroken = before.unbroken;
          short = omega (arith, before.all);
          said = rw (same.0, append-nil) before.said;
        })
        so_far (did_same talk left between new quiet kept)
