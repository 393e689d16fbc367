-- Which terms and atoms are well typed, where each variable has a type.
use Rattle.std.specs.Prelude.{◌≡◌, ℕ, Bool, true, false, List, [], ◌∷◌, Some, slice_get, unwrap_or, option_map, IsSomeAnd}
use Rattle.cep_base.specs.Kinds.{is_backward, is_of_facts}
use Rattle.cep_term.specs.Tree.{Tree, Trees, AtomTree, variable, node, none, more, IsGround}
use Rattle.cep_term.specs.Values.{Values, value_of}
use Rattle.cep_rule.specs.declared.signature.Con.{Con}
use Rattle.cep_rule.specs.declared.signature.Signature.{Signature}

-- A term is of a type: a variable is of its own type, and a constructor makes a term of the type that it declares, from one term for each type that it declares for its arguments.
abbrev mutual
  pub HasSort : List Con → List ℕ → ℕ → Tree → Type 0
  HasSort cons kinds sort (variable v) = slice_get kinds v ≡ Some sort
  HasSort cons kinds sort (node c args) = IsSomeAnd (slice_get cons c) (λ con. (con.sort ≡ sort) × HaveSorts cons kinds con.args args)

  pub HaveSorts : List Con → List ℕ → List ℕ → Trees → Type 0
  HaveSorts cons kinds [] none = Unit {0}
  HaveSorts cons kinds [] (more t rest) = ⊥
  HaveSorts cons kinds (sort ∷ sorts) none = ⊥
  HaveSorts cons kinds (sort ∷ sorts) (more t rest) = HasSort cons kinds sort t × HaveSorts cons kinds sorts rest

-- An atom is well typed where its predicate is declared, and there is one argument for each type that it declares, of that type.
abbrev pub IsTyped : Signature → List ℕ → AtomTree → Type 0
IsTyped signature kinds a = IsSomeAnd (slice_get signature.preds a.pred) (λ pred. HaveSorts signature.cons kinds pred.args a.args)

-- The atom's predicate is linear or one of facts: states have atoms of it.
abbrev pub HasStatePredicate : Signature → AtomTree → Type 0
HasStatePredicate signature a = IsSomeAnd (slice_get signature.preds a.pred) (λ pred. is_backward pred.kind ≡ false)

-- The atom's predicate is backward: clauses define it.
abbrev pub IsBackward : Signature → AtomTree → Type 0
IsBackward signature a = IsSomeAnd (slice_get signature.preds a.pred) (λ pred. is_backward pred.kind ≡ true)

-- whether the atom is a fact: one of a predicate of facts
abbrev pub is_fact : Signature → AtomTree → Bool
is_fact signature a = unwrap_or (option_map (λ pred. is_of_facts pred.kind) (slice_get signature.preds a.pred)) false

-- A value of a type: a ground term of it.
pub record IsValue (cons : List Con) (sort : ℕ) (t : Tree) : Type 0 where
  pub ground : IsGround t
  pub typed : HasSort cons [] sort t

-- The variable has a type, and a value that it has is one of this type.
pub record IsTypedAt (cons : List Con) (kinds : List ℕ) (values : Values) (v : ℕ) : Type 0 where
  pub sort : ℕ
  pub kind : slice_get kinds v ≡ Some sort
  pub value : (t : Tree) → value_of values v ≡ Some t → IsValue cons sort t

-- There is one value for each variable, of its type.
abbrev pub AreValues : List Con → List ℕ → List Tree → Type 0
AreValues cons [] [] = Unit {0}
AreValues cons [] (t ∷ values) = ⊥
AreValues cons (sort ∷ kinds) [] = ⊥
AreValues cons (sort ∷ kinds) (t ∷ values) = IsValue cons sort t × AreValues cons kinds values
