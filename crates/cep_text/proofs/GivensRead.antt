-- What variables are given, as it is read.
use Rattle.std.proofs.Common.{◌≡◌, ℕ, ◌+◌, ◌≤◌, List, [], ◌∷◌, ◌++◌, length, codes, Some, refl, sym, ap, ◌∙◌, arith, append_assoc, append-nil}
use Rattle.std.specs.List.{AllByRecursion}
use Rattle.cep_term.specs.Tree.{Tree, term_depth}
use Rattle.cep_rule.specs.Names.{AreNames}
use Rattle.cep_rule.specs.Shapes.{IsSmallTerm}
use Rattle.cep_rule.specs.Typing.{AreValues}
use Rattle.cep_rule.specs.declared.signature.Signature.{Signature}
use Rattle.cep_text.proofs.Heads.{IsApart}
use Rattle.cep_text.proofs.TermTexts.{SmallFound, small_found, small_again}
use Rattle.cep_text.proofs.ValuesFound.{literal_again, literal_found, value_again}
use Rattle.cep_text.proofs.TableLemmas.{by_bind, by_some}
use Rattle.cep_text.specs.Reading.{Reader, literal_at, con_names, value_at, small_at, given_at, givens_at}
use Rattle.cep_text.specs.Texts.{term_text, all_given_text}

-- The values are small and of the types, and what the variables are given stands before the rest.
pub record GivensFound (signature : Signature) (names : List (List ℕ)) (kinds : List ℕ) (before : List Tree) (bytes : List ℕ) (all : List Tree) (rest : List ℕ) : Type 0 where
  pub values : List Tree
  pub behind : all ≡ before ++ values
  pub typed : AreValues signature.cons kinds values
  pub small : AllByRecursion IsSmallTerm values
  pub text : bytes ≡ all_given_text signature names values ++ rest

given_found : (signature : Signature) (name : List ℕ) (kind : ℕ) (bytes : List ℕ) (t : Tree) (rest : List ℕ) → given_at (small_at signature.cons kind) name bytes ≡ Some (t, rest)
    → (inner : List ℕ) × SmallFound signature kind inner t rest × (bytes ≡ codes " " ++ (name ++ (codes "=" ++ inner)))
unfolding given_at
given_found signature name kind bytes t rest e =
    by_bind (literal_at (codes " ") bytes) _ (t, rest) e (λ space space-is e.
    by_bind (literal_at name space) _ (t, rest) e (λ named named-is e.
    by_bind (literal_at (codes "=") named) _ (t, rest) e (λ equals equals-is e. (
      equals,
      small_found signature kind equals t rest e,
      literal_found (codes " ") bytes space space-is ∙ ap (λ text. codes " " ++ text) (literal_found name space named named-is ∙ ap (λ text. name ++ text) (literal_found (codes "=") named equals equals-is)),
    ))))

-- the text of one, and then those of the others
regroup : (name text others rest : List ℕ) → codes " " ++ (name ++ (codes "=" ++ (text ++ (others ++ rest)))) ≡ ((codes " " ++ (name ++ (codes "=" ++ text))) ++ others) ++ rest
regroup name text others rest = grind (arith, append_assoc)

pub givens_found : (signature : Signature) (names : List (List ℕ)) (kinds : List ℕ) (before : List Tree) (bytes : List ℕ) (all : List Tree) (rest : List ℕ) → length kinds ≡ length names
    → givens_at (small_at signature.cons) names kinds before bytes ≡ Some (all, rest) → GivensFound signature names kinds before bytes all rest
unfolding givens_at
givens_found signature [] [] before bytes all rest many e =
    by_some (λ (x : List Tree × List ℕ). GivensFound signature [] [] before bytes x.0 x.1) _ (all, rest) e (record { values = []; behind = sym (append-nil before); typed = tt; small = tt; text = refl })
givens_found signature (name ∷ names) (kind ∷ kinds) before bytes all rest many e =
    by_bind (given_at (small_at signature.cons kind) name bytes) _ (all, rest) e (λ first first-is e.
    let one = given_found signature name kind bytes first.0 first.1 first-is in
    let others = givens_found signature names kinds (before ++ first.0 ∷ []) first.1 all rest (omega arith) e in
    record {
      values = first.0 ∷ others.values;
      behind = others.behind ∙ append_assoc before (first.0 ∷ []) others.values;
      typed = (one.1.value, others.typed);
      small = (one.1.small, others.small);
      text = one.2
          ∙ ap (λ bytes. codes " " ++ (name ++ (codes "=" ++ bytes))) (one.1.text ∙ ap (λ bytes. term_text signature first.0 ++ bytes) others.text)
          ∙ regroup name (term_text signature first.0) (all_given_text signature names others.values) rest;
    })
givens_found signature names kinds before bytes all rest many e = absurd (omega arith)

-- The text of each value is read as it.
abbrev pub AreRead : Signature → (ℕ → Reader Tree) → List ℕ → List Tree → Type 0
AreRead signature value [] [] = Unit {0}
AreRead signature value [] (t ∷ values) = ⊥
AreRead signature value (kind ∷ kinds) [] = ⊥
AreRead signature value (kind ∷ kinds) (t ∷ values) = ((rest : List ℕ) → IsApart rest → value kind (term_text signature t ++ rest) ≡ Some (t, rest)) × AreRead signature value kinds values

pub givens_apart : (signature : Signature) (names : List (List ℕ)) (values : List Tree) (rest : List ℕ) → IsApart rest → IsApart (all_given_text signature names values ++ rest)
givens_apart signature (name ∷ names) (t ∷ values) rest apart = refl
givens_apart signature names values rest apart = apart

given_again : (signature : Signature) (value : Reader Tree) (name : List ℕ) (t : Tree) (rest : List ℕ) → value (term_text signature t ++ rest) ≡ Some (t, rest) → given_at value name (codes " " ++ (name ++ (codes "=" ++ (term_text signature t ++ rest)))) ≡ Some (t, rest)
unfolding given_at
given_again signature value name t rest again =
    let text = term_text signature t ++ rest in
    rw (literal_again (codes " ") (name ++ (codes "=" ++ text)), literal_again name (codes "=" ++ text), literal_again (codes "=") text) again

pub givens_again : (signature : Signature) (value : ℕ → Reader Tree) (names : List (List ℕ)) (kinds : List ℕ) (before values : List Tree) (rest : List ℕ) → length kinds ≡ length names → AreRead signature value kinds values → IsApart rest
    → givens_at value names kinds before (all_given_text signature names values ++ rest) ≡ Some (before ++ values, rest)
unfolding givens_at
givens_again signature value [] [] before [] rest many read apart = rw append-nil refl
givens_again signature value (name ∷ names) (kind ∷ kinds) before (t ∷ values) rest many read apart =
    let behind = all_given_text signature names values ++ rest in
    let one = given_again signature (value kind) name t behind (read.0 behind (givens_apart signature names values rest apart)) in
    let others = givens_again signature value names kinds (before ++ t ∷ []) values rest (omega arith) read.1 apart in
    ap (givens_at value (name ∷ names) (kind ∷ kinds) before) (sym (regroup name (term_text signature t) (all_given_text signature names values) rest))
    ∙ rw (one, others) (ap (λ all. Some (all, rest)) (append_assoc before (t ∷ []) values))
givens_again signature value names kinds before values rest many read apart = grind arith

-- small values are read
pub small_read : (signature : Signature) → AreNames (con_names signature.cons) → (kinds : List ℕ) (values : List Tree) → AreValues signature.cons kinds values → AllByRecursion IsSmallTerm values → AreRead signature (small_at signature.cons) kinds values
small_read signature names (kind ∷ kinds) (t ∷ values) typed small = grind (arith, small_again, typed.0, small.0, small_read signature names kinds values typed.1 small.1, typed.1, small.1)
small_read signature names kinds values typed small = grind arith

-- how many levels any of the values has at most
abbrev pub levels_of : List Tree → ℕ
levels_of [] = 0
levels_of (t ∷ values) = term_depth t + levels_of values

-- all values are read with that many levels
pub all_read : (signature : Signature) → AreNames (con_names signature.cons) → (depth : ℕ) (kinds : List ℕ) (values : List Tree) → AreValues signature.cons kinds values → levels_of values ≤ depth → AreRead signature (value_at signature.cons depth) kinds values
all_read signature names depth (kind ∷ kinds) (t ∷ values) typed low = ((λ rest apart. value_again signature names t depth kind rest typed.0.ground typed.0.typed (omega arith) apart), all_read signature names depth kinds values typed.1 (omega arith))
all_read signature names depth kinds values typed low = grind arith
