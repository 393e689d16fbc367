-- From the bytes to come some choice is heard.
use Rattle.std.proofs.Common.{◌≡◌, ◌⊎◌, inl, inr, ℕ, zero, suc, ◌+◌, ◌<◌, List, [], ◌∷◌, ◌++◌, length, length-append, refl, ap, arith}
use Rattle.std.specs.Prelude.{decimal}
use Rattle.std.proofs.lemmas.Bool.{cases_eq}
use Rattle.std.proofs.lemmas.Slice.Eq.{bytes_eq-Decides}
use Rattle.cep_base.specs.declared.console.Event.{Event}
use Rattle.cep_base.specs.declared.console.Event.TheVariants.{In, End}
use Rattle.cep_base.specs.Talk.{outs, ins}
use Rattle.cep_run.specs.declared.choice.Choice.{Choice}
use Rattle.cep_run.specs.declared.choice.Choice.TheVariants.{Place, NoMore, NoRoom}
use Rattle.cep_choice.specs.TypedLine.{Chooses, ChoosesNone, Cut, Ended, Last, Nothing, Full, ReadsLine, IsLine}
use Rattle.cep_run.specs.Choice.{IsChoiceWithin, room_after, no_line, Hears, chosen, again, no_more, no_room}

-- the line spells this number, and maybe one CR after it
abbrev Spells : List ℕ → ℕ → Type 0
Spells line place = (line ≡ decimal place) ⊎ (line ≡ decimal place ++ 13 ∷ [])

same_or_not : (bytes others : List ℕ) → (bytes ≡ others) ⊎ (bytes ≡ others → ⊥)
same_or_not bytes others = grind (arith, bytes_eq-Decides bytes others)

spells_or_not : (line : List ℕ) (place : ℕ) → Spells line place ⊎ (Spells line place → ⊥)
spells_or_not line place = grind (arith, same_or_not line (decimal place), same_or_not line (decimal place ++ 13 ∷ []))

-- a line that chooses no place among n, and does not spell the next number, chooses none among one more
none_more : (n : ℕ) (line : List ℕ) → ChoosesNone n line → (Spells line (suc n) → ⊥) → ChoosesNone (suc n) line
none_more n line none other place chooses = grind (arith, cases_eq place (suc n), none place)

-- a line chooses a place among n, or none
pub chooses_or_not : (n : ℕ) (line : List ℕ) → ((place : ℕ) × Chooses n line place) ⊎ ChoosesNone n line
chooses_or_not zero line = inr (λ place chooses. omega (arith, chooses.0, chooses.1))
chooses_or_not (suc n) line = grind (arith, spells_or_not line (suc n), none_more, chooses_or_not n line)

-- a line is read from the bytes to come, where room bytes may be taken
pub record HasLine (room : ℕ) (come : List ℕ) : Type 0 where
  pub events : List Event
  pub cut : Cut
  pub rest : List ℕ
  pub taken : ℕ
  pub reads : ReadsLine room come events cut rest taken

-- with one byte before it that is no LF, the same line is read with one byte more
pub one_more : (room byte : ℕ) (come : List ℕ) → (byte ≡ 10 → ⊥) → (cut : Cut) (events : List Event) (rest : List ℕ) (taken : ℕ) → ReadsLine room come events cut rest taken → HasLine (suc room) (byte ∷ come)
one_more room byte come other (Ended line) events rest taken reads = record {
  events = ins ((byte ∷ line) ++ 10 ∷ []);
  cut = Ended (byte ∷ line);
  rest = rest;
  taken = length (byte ∷ line) + 1;
  reads = (ap (λ bytes. byte ∷ bytes) reads.0, (other, reads.1), (let within = reads.2 in omega arith), refl, refl);
}
one_more room byte come other (Last line) events rest taken reads = record {
  events = ins (byte ∷ line) ++ End ∷ [];
  cut = Last (byte ∷ line);
  rest = rest;
  taken = length (byte ∷ line);
  reads = (ap (λ bytes. byte ∷ bytes) reads.0, reads.1, (omega arith), (other, reads.3), (let within = reads.4 in omega arith), refl, refl);
}
one_more room byte come other Nothing events rest taken reads = record {
  events = ins (byte ∷ []) ++ End ∷ [];
  cut = Last (byte ∷ []);
  rest = rest;
  taken = 1;
  reads = (ap (λ bytes. byte ∷ bytes) reads.0, reads.1, (omega arith), (other, tt), (let within = reads.2 in omega arith), refl, refl);
}
one_more room byte come other (Full bytes) events rest taken reads = record {
  events = ins (byte ∷ bytes);
  cut = Full (byte ∷ bytes);
  rest = rest;
  taken = suc room;
  reads = (ap (λ bytes. byte ∷ bytes) reads.0, (other, reads.1), (let full = reads.2 in omega arith), refl, refl);
}

-- and it says that byte before
pub one_more-says : (room byte : ℕ) (come : List ℕ) (other : byte ≡ 10 → ⊥) (cut : Cut) (events : List Event) (rest : List ℕ) (taken : ℕ) (reads : ReadsLine room come events cut rest taken) → (one_more room byte come other cut events rest taken reads).events ≡ In byte ∷ events
unfolding one_more
one_more-says room byte come other cut events rest taken reads = grind arith

pub line_there : (room : ℕ) (come : List ℕ) → HasLine room come
line_there zero come = record { events = []; cut = Full []; rest = come; taken = 0; reads = (refl, tt, refl, refl, refl) }
line_there (suc room) [] = record { events = End ∷ []; cut = Nothing; rest = []; taken = 0; reads = (refl, refl, (omega arith), refl, refl) }
line_there (suc room) (byte ∷ come) = elim (cases_eq byte 10) [
  | inl ends ↦ record { events = ins (10 ∷ []); cut = Ended []; rest = come; taken = 1; reads = (ap (λ first. first ∷ come) ends, tt, (omega arith), refl, refl) }
  | inr other ↦ (let line = line_there room come in one_more room byte come other line.cut line.events line.rest line.taken line.reads)
]

-- a choice among n is heard from the bytes to come, after those that were taken
pub record HasHearing (n : ℕ) (come : List ℕ) (taken : ℕ) : Type 0 where
  pub events : List Event
  pub choice : Choice
  pub rest : List ℕ
  pub all : ℕ
  pub hears : Hears n come taken events choice rest all
  pub within : IsChoiceWithin n choice

module _ (n : ℕ) (come : List ℕ) (taken : ℕ) (next : (later : List ℕ) (all : ℕ) → length later < length come → HasHearing n later all) where
  -- a line was read: it chooses a place, or a further one is read
  by_line : (cut : Cut) (line : List ℕ) (events : List Event) (rest : List ℕ) (more : ℕ) → ReadsLine (room_after taken) come events cut rest more → IsLine cut line → length rest < length come → HasHearing n come taken
  by_line cut line events rest more reads is shorter = elim (chooses_or_not n line) [
    | inl some ↦ record { events = events; choice = Place some.0; rest = rest; all = taken + more; hears = chosen cut line more reads is some.1 refl; within = (some.1.0, some.1.1) }
    | inr none ↦ (
        let later = next rest (taken + more) shorter in
        record {
          events = events ++ (outs no_line ++ later.events);
          choice = later.choice;
          rest = later.rest;
          all = later.all;
          hears = again cut line rest more events later.events reads is none later.hears refl;
          within = later.within;
        }
        )
  ]

  by_cut : (cut : Cut) (events : List Event) (rest : List ℕ) (more : ℕ) → ReadsLine (room_after taken) come events cut rest more → HasHearing n come taken
  by_cut (Ended line) events rest more reads =
      by_line (Ended line) line events rest more reads (inl refl) (omega (arith, ap length reads.0, length-append line (10 ∷ rest)))
  by_cut (Last line) events rest more reads =
      by_line (Last line) line events rest more reads (inr refl) (let some = reads.2 in omega (arith, ap length reads.0, ap length reads.1, some))
  by_cut Nothing events rest more reads = record { events = events; choice = NoMore; rest = rest; all = taken + more; hears = no_more more reads refl; within = tt }
  by_cut (Full bytes) events rest more reads = record { events = events; choice = NoRoom; rest = rest; all = taken + more; hears = no_room bytes more reads refl; within = tt }

hears_within : (n most : ℕ) (come : List ℕ) (taken : ℕ) → length come < most → HasHearing n come taken
hears_within n zero come taken few = absurd (omega (arith, few))
hears_within n (suc most) come taken few =
    let line = line_there (room_after taken) come in
    by_cut n come taken (λ later all shorter. hears_within n most later all (omega (arith, few, shorter))) line.cut line.events line.rest line.taken line.reads

pub hears_there : (n : ℕ) (come : List ℕ) (taken : ℕ) → HasHearing n come taken
hears_there n come taken = hears_within n (length come + 1) come taken (omega arith)

-- a place that is heard is one of n
pub heard_within : (n : ℕ) {come rest : List ℕ} {taken taken' : ℕ} {events : List Event} {choice : Choice} → Hears n come taken events choice rest taken' → IsChoiceWithin n choice
heard_within n (chosen cut line more reads is chooses many) = (chooses.0, chooses.1)
heard_within n (again cut line between more first others reads is none hears whole) = heard_within n hears
heard_within n given = tt
