-- Names at the front of a text.
use Rattle.std.proofs.Common.{◌≡◌, ℕ, true, List, [], ◌∷◌, ◌++◌, length, slice_get, codes, Option, Some, None, refl, sym, ap, subst, ◌∙◌, arith, take_at, drop_at, take-append-drop}
use Rattle.std.proofs.lemmas.Bool.{eqb-true, eq-eqb}
use Rattle.std.specs.Char.{is_ascii_lowercase}
use Rattle.std.specs.List.{AllByRecursion}
use Rattle.std.specs.Prelude.{IsTrue}
use Rattle.cep_base.specs.Spelling.{is_name_byte}
use Rattle.cep_rule.specs.Names.{IsWord, IsName, AreNames}
use Rattle.cep_rule.specs.declared.signature.Con.{Con}
use Rattle.cep_rule.specs.declared.signature.PredDecl.{PredDecl}
use Rattle.cep_text.proofs.TableLemmas.{by_bind, guard_some, some_is, all_at, number_found, item_name, item_named}
use Rattle.cep_text.specs.Reading.{literal_at, name_len, front_name, behind_name, number_among, con_names, pred_names, of_sort, con_at, pred_head, pred_at}

-- No byte of a name stands at the front.
abbrev pub IsApart : List ℕ → Type 0
IsApart bytes = name_len bytes ≡ 0

-- all are bytes of names
abbrev pub AreNameBytes : List ℕ → Type 0
AreNameBytes name = AllByRecursion (λ byte. IsTrue (is_name_byte byte)) name

name_whole : (name rest : List ℕ) → AreNameBytes name → IsApart rest → name_len (name ++ rest) ≡ length name
name_whole [] rest all apart = apart
name_whole (byte ∷ name) rest all apart = rw (all.0, name_whole name rest all.1 apart) (omega arith)

pub front_is : (name rest : List ℕ) → AreNameBytes name → IsApart rest → front_name (name ++ rest) ≡ name
front_is name rest all apart = rw (name_whole name rest all apart) (take_at name rest (length name) refl)

pub behind_is : (name rest : List ℕ) → AreNameBytes name → IsApart rest → behind_name (name ++ rest) ≡ rest
behind_is name rest all apart = rw (name_whole name rest all apart) (drop_at name rest (length name) refl)

lower_goes_on : (byte : ℕ) → is_ascii_lowercase byte ≡ true → is_name_byte byte ≡ true
lower_goes_on byte t = grind arith

pub name_bytes : (name : List ℕ) → IsName name → AreNameBytes name
name_bytes name is = grind (arith, lower_goes_on)

-- a name does not begin with a parenthesis
pub no_parenthesis : (name rest : List ℕ) → IsName name → literal_at (codes "(") (name ++ rest) ≡ None
unfolding literal_at
no_parenthesis name rest is = of_word name is.word where
  of_word : (name : List ℕ) → IsWord is_ascii_lowercase name → literal_at (codes "(") (name ++ rest) ≡ None
  of_word [] word = absurd word
  of_word (byte ∷ name) word = grind (arith, eqb-true)

-- a constructor that is read
pub record ConFound (cons : List Con) (sort : ℕ) (bytes : List ℕ) (number : ℕ) (kinds rest : List ℕ) : Type 0 where
  pub con : Con
  pub numbered : slice_get cons number ≡ Some con
  pub of_type : con.sort ≡ sort
  pub args : con.args ≡ kinds
  pub text : bytes ≡ con.name ++ rest

sort_found : (sort number : ℕ) (found : Option Con) (number' : ℕ) (kinds : List ℕ) → of_sort sort number found ≡ Some (number', kinds)
    → (con : Con) × (found ≡ Some con) × (number ≡ number') × (con.sort ≡ sort) × (con.args ≡ kinds)
sort_found sort number found number' kinds e = grind (arith, guard_some, eqb-true)

-- a constructor that is read stands in the text by its name
pub con_found : (cons : List Con) (sort : ℕ) (bytes : List ℕ) (number : ℕ) (kinds rest : List ℕ) → con_at cons sort bytes ≡ Some ((number, kinds), rest) → ConFound cons sort bytes number kinds rest
unfolding con_at
con_found cons sort bytes number kinds rest e =
    by_bind (number_among (con_names cons) (front_name bytes)) _ _ e (λ n n-is e.
    by_bind (of_sort sort n (slice_get cons n)) _ _ e (λ head head-is e.
    let pair = some_is (head, behind_name bytes) ((number, kinds), rest) e in
    let found = sort_found sort n (slice_get cons n) number kinds (head-is ∙ ap Some (ap (λ z. z.0) pair)) in
    let name = item_named (λ con. con.name) cons (front_name bytes) n found.0 n-is found.1 in
    record {
      con = found.0;
      numbered = subst (λ k. slice_get cons k ≡ Some found.0) found.2 found.1;
      of_type = found.3;
      args = found.4;
      text = sym (take-append-drop (name_len bytes) bytes) ∙ ap (λ front. front ++ behind_name bytes) (sym name) ∙ ap (λ r. found.0.name ++ r) (ap (λ z. z.1) pair);
    }))

-- the name of a constructor is read again
pub con_again : (cons : List Con) (sort number : ℕ) (con : Con) (rest : List ℕ) → AreNames (con_names cons) → slice_get cons number ≡ Some con → con.sort ≡ sort → IsApart rest
    → con_at cons sort (con.name ++ rest) ≡ Some ((number, con.args), rest)
unfolding con_at
con_again cons sort number con rest names there type apart =
    let named_there = item_name (λ con. con.name) cons number con there in
    let letters = name_bytes con.name (all_at IsName (con_names cons) number con.name names.each named_there) in
    rw (front_is con.name rest letters apart, number_found (con_names cons) number con.name names.differ named_there, there, eq-eqb con.sort sort type, behind_is con.name rest letters apart) refl

-- a predicate that is read
pub record PredFound (preds : List PredDecl) (bytes : List ℕ) (number : ℕ) (kinds rest : List ℕ) : Type 0 where
  pub pred : PredDecl
  pub numbered : slice_get preds number ≡ Some pred
  pub args : pred.args ≡ kinds
  pub text : bytes ≡ pred.name ++ rest

head_found : (number : ℕ) (found : Option PredDecl) (number' : ℕ) (kinds : List ℕ) → pred_head number found ≡ Some (number', kinds)
    → (pred : PredDecl) × (found ≡ Some pred) × (number ≡ number') × (pred.args ≡ kinds)
head_found number found number' kinds e = grind (arith, some_is)

pub pred_found : (preds : List PredDecl) (bytes : List ℕ) (number : ℕ) (kinds rest : List ℕ) → pred_at preds bytes ≡ Some ((number, kinds), rest) → PredFound preds bytes number kinds rest
unfolding pred_at
pred_found preds bytes number kinds rest e =
    by_bind (number_among (pred_names preds) (front_name bytes)) _ _ e (λ n n-is e.
    by_bind (pred_head n (slice_get preds n)) _ _ e (λ head head-is e.
    let pair = some_is (head, behind_name bytes) ((number, kinds), rest) e in
    let found = head_found n (slice_get preds n) number kinds (head-is ∙ ap Some (ap (λ z. z.0) pair)) in
    let name = item_named (λ pred. pred.name) preds (front_name bytes) n found.0 n-is found.1 in
    record {
      pred = found.0;
      numbered = subst (λ k. slice_get preds k ≡ Some found.0) found.2 found.1;
      args = found.3;
      text = sym (take-append-drop (name_len bytes) bytes) ∙ ap (λ front. front ++ behind_name bytes) (sym name) ∙ ap (λ r. found.0.name ++ r) (ap (λ z. z.1) pair);
    }))

pub pred_again : (preds : List PredDecl) (number : ℕ) (pred : PredDecl) (rest : List ℕ) → AreNames (pred_names preds) → slice_get preds number ≡ Some pred → IsApart rest
    → pred_at preds (pred.name ++ rest) ≡ Some ((number, pred.args), rest)
unfolding pred_at
pred_again preds number pred rest names there apart =
    let named_there = item_name (λ pred. pred.name) preds number pred there in
    let letters = name_bytes pred.name (all_at IsName (pred_names preds) number pred.name names.each named_there) in
    rw (front_is pred.name rest letters apart, number_found (pred_names preds) number pred.name names.differ named_there, there, behind_is pred.name rest letters apart) refl
