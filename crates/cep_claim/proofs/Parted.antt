-- The parts of a sum, word by word.
use Rattle.std.proofs.Common.{◌≡◌, ℕ, Bool, true, false, List, [], ◌∷◌, ◌++◌, length, map, take, drop, get_or, Option, Some, None, ◌-◌, ◌<◌, ◌≤◌, ◌==◌, ◌↔◌, refl, sym, ap, ◌∙◌, subst, arith}
use Rattle.std.specs.Prelude.{IsTrue, IfSome, IfNone}
use Rattle.std.specs.List.{AllByRecursion}
use Rattle.std.specs.Fmt.{signed_decimal}
use Rattle.std.proofs.lemmas.List.{take_all}
use Rattle.std.proofs.lemmas.Bool.{eqb-true}
use Rattle.cep_base.proofs.Elements.{both_all}
use Rattle.cep_claim.specs.declared.written.Written.{Written}
use Rattle.cep_claim.specs.declared.written.NamedPart.{NamedPart}
use Rattle.cep_claim.specs.Written.{IsNamedPart, IsWritable, mark_of, parts_words, claim_words}

-- whether a part after these is the first
abbrev pub is_first : List NamedPart → Bool
is_first [] = true
is_first (part ∷ parts) = false

-- Of these words, those of some parts were read, and these are left.
pub record PartsSoFar (words : List (List ℕ)) (parts : List NamedPart) (left : List (List ℕ)) : Type 0 where
  pub each : AllByRecursion IsNamedPart parts
  pub cut : words ≡ parts_words true parts ++ left

-- whether the next part is the first, where these came before and the first of them was the first or not
abbrev after : Bool → List NamedPart → Bool
after first [] = first
after first (part ∷ parts) = false

after_all : (parts : List NamedPart) → after true parts ≡ is_first parts
after_all parts = refl

one_more : (first : Bool) (parts : List NamedPart) (part : NamedPart) → parts_words first (parts ++ part ∷ []) ≡ parts_words first parts ++ (mark_of (after first parts) ∷ signed_decimal part.factor ∷ part.name ∷ [])
one_more first [] part = refl
one_more first (other ∷ parts) part = grind (arith, other.factor, other.name, one_more false parts part, part.factor, part.name)

regroup : {X : Type 0} (xs : List X) (a b c : X) (ys : List X) → (xs ++ (a ∷ b ∷ c ∷ [])) ++ ys ≡ xs ++ (a ∷ b ∷ c ∷ ys)
regroup [] a b c ys = refl
regroup (x ∷ xs) a b c ys = ap (λ zs. x ∷ zs) (regroup xs a b c ys)

pub part_read : (words : List (List ℕ)) (parts : List NamedPart) (left rest : List (List ℕ)) (mark factor name : List ℕ) (part : NamedPart) → PartsSoFar words parts left → left ≡ mark ∷ factor ∷ name ∷ rest
    → mark ≡ mark_of (is_first parts) → IsNamedPart part → factor ≡ signed_decimal part.factor → name ≡ part.name → PartsSoFar words (parts ++ part ∷ []) rest
part_read words parts left rest mark factor name part so_far is marked named spelled called = grind (arith, both_all, after_all, regroup, one_more, so_far.each, so_far.cut)

-- The words that are left are those of further parts, if all are those of parts.
pub record IsLeft (parts : List NamedPart) (left : List (List ℕ)) : Type 0 where
  pub further : List NamedPart
  pub each : AllByRecursion IsNamedPart further
  pub words : left ≡ parts_words (is_first parts) further

record Left (first : Bool) (parts : List NamedPart) (left : List (List ℕ)) : Type 0 where
  further : List NamedPart
  each : AllByRecursion IsNamedPart further
  words : left ≡ parts_words (after first parts) further

tails : {X : Type 0} (a b c a' b' c' : X) (xs ys : List X) → a ∷ b ∷ c ∷ xs ≡ a' ∷ b' ∷ c' ∷ ys → xs ≡ ys
tails a b c a' b' c' xs ys e = cc

left_by : (first : Bool) (parts all : List NamedPart) (left : List (List ℕ)) → AllByRecursion IsNamedPart all → parts_words first parts ++ left ≡ parts_words first all → Left first parts left
left_by first (part ∷ parts) (other ∷ all) left each e =
    let rest = left_by false parts all left each.1 (tails _ _ _ _ _ _ _ _ e) in
    record { further = rest.further; each = rest.each; words = rest.words ∙ ap (λ b. parts_words b rest.further) (same parts) }
  where
    same : (parts : List NamedPart) → after false parts ≡ false
    same [] = refl
    same (part ∷ parts) = refl
left_by first parts all left each e = grind arith

pub left_is : (words : List (List ℕ)) (parts all : List NamedPart) (left : List (List ℕ)) → PartsSoFar words parts left → AllByRecursion IsNamedPart all → words ≡ parts_words true all → IsLeft parts left
left_is words parts all left so_far each e = grind (arith, left_by true parts all left each (sym so_far.cut ∙ e), after_all parts, so_far.cut)

-- No parts have all these words, where what is left is neither nothing nor begins with a part.
pub stuck : (words : List (List ℕ)) (parts all : List NamedPart) (left : List (List ℕ)) → PartsSoFar words parts left → AllByRecursion IsNamedPart all → words ≡ parts_words true all
    → (left ≡ [] → ⊥)
    → ((rest : List (List ℕ)) (part : NamedPart) → left ≡ mark_of (is_first parts) ∷ signed_decimal part.factor ∷ part.name ∷ rest → IsNamedPart part → ⊥) → ⊥
stuck words parts all left so_far each e some never = by (left_is words parts all left so_far each e) where
  by : IsLeft parts left → ⊥
  by is = cases is.further is.each is.words where
    cases : (further : List NamedPart) → AllByRecursion IsNamedPart further → left ≡ parts_words (is_first parts) further → ⊥
    cases [] named same = some same
    cases (part ∷ further) named same = never (parts_words false further) part same named.0

-- the words of a slice of three or more, one by one
pub three : {X : Type 0} (now : X → List ℕ) (xs : List X) (d d' d'' : X) (n : ℕ) → n ≡ length xs → 3 ≤ length xs
    → map now xs ≡ now (get_or xs 0 d) ∷ now (get_or xs 1 d') ∷ now (get_or xs 2 d'') ∷ map now (take (n - 3) (drop 3 xs))
three now xs d d' d'' n e many = grind (arith, take_all)

pub some_at : {X : Type 0} (o : Option X) (x : X) (P : X → Type 0) → o ≡ Some x → IfSome o P → P x
some_at o x P is holds = let h : IfSome (Some x) P = subst (λ p. IfSome p P) is holds in h

pub none_at : {X : Type 0} (o : Option X) (P : Type 0) → o ≡ None → IfNone o P → P
none_at {X} o P is holds = let h : IfNone {T = X} None P = subst (λ p. IfNone p P) is holds in h

pub first_is : (b : Bool) (parts : List NamedPart) → (IsTrue b ↔ (parts ≡ [])) → b ≡ is_first parts
first_is b parts h = grind arith

short : {X : Type 0} (now : X → List ℕ) (xs : List X) (a b c : List ℕ) (rest : List (List ℕ)) → length xs < 3 → map now xs ≡ a ∷ b ∷ c ∷ rest → ⊥
short now (x ∷ y ∷ z ∷ xs) a b c rest few e = absurd (omega arith)
short now xs a b c rest few e = absurd cc

some_left : {X : Type 0} (now : X → List ℕ) (xs : List X) → (xs ≡ [] → ⊥) → map now xs ≡ [] → ⊥
some_left now [] some e = some refl
some_left now (x ∷ xs) some e = absurd cc

pub stuck_short : {X : Type 0} (now : X → List ℕ) (words : List (List ℕ)) (parts all : List NamedPart) (xs : List X) → PartsSoFar words parts (map now xs) → AllByRecursion IsNamedPart all → words ≡ parts_words true all
    → length xs < 3 → (xs ≡ [] → ⊥) → ⊥
stuck_short now words parts all xs so_far each e few some =
    stuck words parts all (map now xs) so_far each e (some_left now xs some) (λ rest part is named. short now xs _ _ _ rest few is)

pub stuck_mark : (words : List (List ℕ)) (parts all : List NamedPart) (left rest : List (List ℕ)) (mark factor name : List ℕ) → PartsSoFar words parts left → AllByRecursion IsNamedPart all → words ≡ parts_words true all
    → left ≡ mark ∷ factor ∷ name ∷ rest → (mark ≡ mark_of (is_first parts) → ⊥) → ⊥
stuck_mark words parts all left rest mark factor name so_far each e is other =
    stuck words parts all left so_far each e (λ none. absurd (cc (is, none))) (λ behind part same named. other (let h : mark ∷ factor ∷ name ∷ rest ≡ mark_of (is_first parts) ∷ signed_decimal part.factor ∷ part.name ∷ behind = sym is ∙ same in cc))

pub stuck_part : (words : List (List ℕ)) (parts all : List NamedPart) (left rest : List (List ℕ)) (mark factor name : List ℕ) → PartsSoFar words parts left → AllByRecursion IsNamedPart all → words ≡ parts_words true all
    → left ≡ mark ∷ factor ∷ name ∷ rest → ((part : NamedPart) → IsNamedPart part → factor ≡ signed_decimal part.factor → name ≡ part.name → ⊥) → ⊥
stuck_part words parts all left rest mark factor name so_far each e is never =
    stuck words parts all left so_far each e (λ none. absurd (cc (is, none)))
    (λ behind part same named.
    let spelled : factor ≡ signed_decimal part.factor = cc in
    let called : name ≡ part.name = cc in
    never part named spelled called)

-- a sum has some words
pub no_words : {X : Type 0} (now : X → List ℕ) (xs : List X) (claim name : List ℕ) (written : Written) → (length xs == 0) ≡ true → IsWritable written → claim ∷ name ∷ map now xs ≡ claim_words written → ⊥
no_words now [] claim name written empty can e = by written.parts can.some (let h : [] ≡ parts_words true written.parts = cc in h) where
  by : (parts : List NamedPart) → 0 < length parts → [] ≡ parts_words true parts → ⊥
  by [] some none = absurd (omega arith)
  by (part ∷ parts) some none = absurd cc
no_words now (x ∷ xs) claim name written empty can e = let none : length (x ∷ xs) ≡ 0 = eqb-true _ _ empty in absurd (omega arith)
