-- Bytes have one log at most, or else one first misfit.
use Rattle.std.proofs.Common.{◌≡◌, ◌≢◌, ◌⊎◌, inl, inr, ℕ, ◌+◌, List, [], ◌∷◌, ◌++◌, length, refl, sym, ◌∙◌, subst, arith}
use Rattle.cep_base.proofs.Lists.{none_some, some_same}
use Rattle.cep_rule.specs.declared.parts.Parts.{Parts}
use Rattle.std.proofs.lemmas.List.{same_from_push}
use Rattle.cep_log.proofs.Parted.{HasNone, one_parting}
use Rattle.cep_log.proofs.OneWay.{OneValue, one_way, one_passed}
use Rattle.cep_log.specs.declared.so_far.SoFar.TheVariants.{Nothing}
use Rattle.cep_log.specs.Transcript.{AreLines, MovesOn, Leads, HasLog, HasMisfit, IsFirstMisfit, StopsEarly, IsFaultOf}
use Rattle.cep_log.specs.declared.so_far.SoFar.{SoFar}
use Rattle.cep_log.specs.declared.fault.LogFault.{LogFault}
use Rattle.cep_log.specs.declared.log.Log.{Log}

-- The lines of bytes are one list.

none_within : (text rest : List ℕ) → HasNone 10 (text ++ 10 ∷ rest) → ⊥
none_within [] rest none = none.0 refl
none_within (byte ∷ text) rest none = none_within text rest none.1

no_nil : (text rest : List ℕ) → ◌≢◌ {A = List ℕ} [] (text ++ 10 ∷ rest)
no_nil [] rest e = absurd cc
no_nil (byte ∷ text) rest e = absurd cc

pub one_cut : (bytes : List ℕ) (lines lines' : List (List ℕ)) → AreLines bytes lines → AreLines bytes lines' → lines ≡ lines'
one_cut bytes [] [] a b = refl
one_cut bytes [] (line' ∷ lines') a (inl b) = absurd (no_nil b.0 b.1 (sym a ∙ b.2))
one_cut bytes [] (line' ∷ lines') a (inr b) = absurd (b.1 (sym b.0 ∙ a))
one_cut bytes (line ∷ lines) [] (inl a) b = absurd (no_nil a.0 a.1 (sym b ∙ a.2))
one_cut bytes (line ∷ lines) [] (inr a) b = absurd (a.1 (sym a.0 ∙ b))
one_cut bytes (line ∷ lines) (line' ∷ lines') (inl a) (inl b) =
    let parted = one_parting 10 a.0 b.0 (10 ∷ a.1) (10 ∷ b.1) a.3 b.3 (inr (a.1, refl)) (inr (b.1, refl)) (sym a.2 ∙ b.2) in
    let first : line ≡ line' = grind (arith, same_from_push) in
    let rest : lines ≡ lines' = one_cut b.1 lines lines' (subst (λ bytes'. AreLines bytes' lines) (let h : 10 ∷ a.1 ≡ 10 ∷ b.1 = parted.1 in cc) a.5) b.5 in
    cc
one_cut bytes (line ∷ lines) (line' ∷ lines') (inl a) (inr b) = absurd (none_within a.0 a.1 (subst (HasNone 10) (sym b.0 ∙ a.2) b.2))
one_cut bytes (line ∷ lines) (line' ∷ lines') (inr a) (inl b) = absurd (none_within b.0 b.1 (subst (HasNone 10) (sym a.0 ∙ b.2) a.2))
one_cut bytes (line ∷ lines) (line' ∷ lines') (inr a) (inr b) = grind (arith, a.0, b.0, a.3, b.3)

-- Bytes have one log.

-- a way through all lines goes through each of them
leads_through : (program : Parts) (n : ℕ) (before : List (List ℕ)) (line : List ℕ) (behind : List (List ℕ)) (old new : SoFar) → Leads program n (before ++ line ∷ behind) old new
    → (mid : SoFar) × (next : SoFar) × Leads program n before old mid × MovesOn program (n + length before) line mid next
leads_through program n [] line behind old new leads = grind (arith, leads.0, leads.1)
leads_through program n (first ∷ before) line behind old new leads =
    let later = leads_through program (n + 1) before line behind leads.0 new leads.2 in
    (later.0, later.1, (leads.0, leads.1, later.2), subst (λ (m : ℕ). MovesOn program m line later.0 later.1) (omega arith) later.3)

-- the line that leads nowhere is on no way
no_way : (program : Parts) (laws : OneValue program) (lines : List (List ℕ)) (fault : LogFault) (new : SoFar) → IsFirstMisfit program lines fault → Leads program 1 lines Nothing new → ⊥
no_way program laws lines fault new misfit leads =
    let through = leads_through program 1 misfit.before misfit.line misfit.behind Nothing new (rw misfit.cut at leads) in
    let same = one_way program laws 1 misfit.before Nothing through.0 misfit.so_far through.2 misfit.leads in
    let at : 1 + length misfit.before ≡ length misfit.before + 1 = omega arith in
    misfit.nowhere through.1 (rw (at, same) at through.3)

pub one_log : (program : Parts) (laws : OneValue program) (bytes : List ℕ) (one other : Log) → HasLog program bytes one → HasLog program bytes other → one ≡ other
one_log program laws bytes one other a b = grind (arith, one_cut, one_way, some_same)

pub log_or_misfit : (program : Parts) (laws : OneValue program) (bytes : List ℕ) (log : Log) (fault : LogFault) → HasLog program bytes log → HasMisfit program bytes fault → ⊥
log_or_misfit program laws bytes log fault a b = cases (rw (one_cut bytes b.lines a.lines b.cut a.cut) at b.why) where
  cases : IsFirstMisfit program a.lines fault ⊎ StopsEarly program a.lines fault → ⊥
  cases (inl misfit) = no_way program laws a.lines fault a.last misfit a.leads
  cases (inr stops) = none_some log (sym stops.open_still ∙ rw (one_way program laws 1 a.lines Nothing a.last stops.last a.leads stops.leads) at a.said)

-- The first misfit of bytes is one.

-- what a fault says of a line is one
one_fault : (program : Parts) (number : ℕ) (line : List ℕ) (so_far : SoFar) (one other : LogFault) → IsFaultOf program number line so_far one → IsFaultOf program number line so_far other → one ≡ other
one_fault program number line so_far one other a b = grind arith

-- two lines that lead nowhere from where those before them lead: they are one line
one_place : (program : Parts) (laws : OneValue program) (n : ℕ) (start : SoFar) (before before' : List (List ℕ)) (line line' : List ℕ) (behind behind' : List (List ℕ)) (so_far so_far' : SoFar)
    → before ++ line ∷ behind ≡ before' ++ line' ∷ behind' → Leads program n before start so_far → Leads program n before' start so_far'
    → ((new : SoFar) → ¬ (MovesOn program (n + length before) line so_far new)) → ((new : SoFar) → ¬ (MovesOn program (n + length before') line' so_far' new))
    → (before ≡ before') × (line ≡ line') × (so_far ≡ so_far')
one_place program laws n start [] [] line line' behind behind' so_far so_far' e a b no_one no_other = grind arith
one_place program laws n start [] (first ∷ before') line line' behind behind' so_far so_far' e a b no_one no_other =
    let same : line ≡ first = cc in
    let at : n ≡ n + length {A = List ℕ} [] = omega arith in
    absurd (no_one b.0 (subst (λ (m : ℕ). MovesOn program m line so_far b.0) at (subst (λ l. MovesOn program n l so_far b.0) (sym same) (subst (λ s. MovesOn program n first s b.0) (sym a) b.1))))
one_place program laws n start (first ∷ before) [] line line' behind behind' so_far so_far' e a b no_one no_other =
    let same : first ≡ line' = cc in
    let at : n ≡ n + length {A = List ℕ} [] = omega arith in
    absurd (no_other a.0 (subst (λ (m : ℕ). MovesOn program m line' so_far' a.0) at (subst (λ l. MovesOn program n l so_far' a.0) same (subst (λ s. MovesOn program n first s a.0) (sym b) a.1))))
one_place program laws n start (first ∷ before) (first' ∷ before') line line' behind behind' so_far so_far' e a b no_one no_other =
    let head : first ≡ first' = cc in
    let tail : before ++ line ∷ behind ≡ before' ++ line' ∷ behind' = cc in
    let next : a.0 ≡ b.0 = one_passed program laws n first' start a.0 b.0 (subst (λ l. MovesOn program n l start a.0) head a.1) b.1 in
    let at : n + length (first ∷ before) ≡ n + 1 + length before = omega arith in
    let at' : n + length (first' ∷ before') ≡ n + 1 + length before' = omega arith in
    let later = one_place program laws (n + 1) b.0 before before' line line' behind behind' so_far so_far' tail (subst (λ s. Leads program (n + 1) before s so_far) next a.2) b.2
    (subst (λ (m : ℕ). (new : SoFar) → ¬ (MovesOn program m line so_far new)) at no_one) (subst (λ (m : ℕ). (new : SoFar) → ¬ (MovesOn program m line' so_far' new)) at' no_other) in
    ((cc), later.1, later.2)

pub one_misfit : (program : Parts) (laws : OneValue program) (bytes : List ℕ) (one other : LogFault) → HasMisfit program bytes one → HasMisfit program bytes other → one ≡ other
one_misfit program laws bytes one other a b = cases a.why (rw (one_cut bytes b.lines a.lines b.cut a.cut) at b.why) where
  cases : IsFirstMisfit program a.lines one ⊎ StopsEarly program a.lines one → IsFirstMisfit program a.lines other ⊎ StopsEarly program a.lines other → one ≡ other
  cases (inl x) (inl y) =
      let at : (n : ℕ) → n + 1 ≡ 1 + n = λ n. omega arith in
      let same = one_place program laws 1 Nothing x.before y.before x.line y.line x.behind y.behind x.so_far y.so_far (sym x.cut ∙ y.cut) x.leads y.leads
      (subst (λ (m : ℕ). (new : SoFar) → ¬ (MovesOn program m x.line x.so_far new)) (at (length x.before)) x.nowhere) (subst (λ (m : ℕ). (new : SoFar) → ¬ (MovesOn program m y.line y.so_far new)) (at (length y.before)) y.nowhere) in
      one_fault program (length y.before + 1) y.line y.so_far one other (rw (same.0, same.1, same.2) at x.fault_is) y.fault_is
  cases (inl x) (inr y) = absurd (no_way program laws a.lines one y.last x y.leads)
  cases (inr x) (inl y) = absurd (no_way program laws a.lines other x.last y x.leads)
  cases (inr x) (inr y) = x.fault_is ∙ sym y.fault_is
