-- What is read as a term is the text of one, and the text of a term is read as that term.
use Rattle.std.proofs.Common.{◌≡◌, ◌≢◌, ℕ, cond, eqb, List, [], ◌∷◌, ◌++◌, Option, Some, None, MatchOption, refl, ap, ◌∙◌, Bor, arith, zero, suc, ◌≤◌, true, false, length, slice_get, codes, IsSomeAnd, sym, subst, append_assoc, append-nil, ◌+◌, drop, ◌-◌}
use Rattle.std.proofs.Math.Dec.{eqb-suc-zero}
use Rattle.std.proofs.lemmas.Bool.{eqb-true, eq-eqb}
use Rattle.std.proofs.lemmas.List.{drop_all}
use Rattle.cep_base.proofs.Options.{some_and}
use Rattle.cep_text.proofs.Heads.{con_found, IsApart, con_again, no_parenthesis}
use Rattle.cep_text.proofs.TableLemmas.{by_bind, by_some, guard_some, all_at, item_name}
use Rattle.cep_text.specs.Reading.{literal_at, Reader, con_at, bare_at, argument_at, arguments_at, inside_at, enclosed_at, value_by, value_at, ◌>>=◌, Fails, given_at, givens_at, proofs_at, node_at, proof_at, con_names}
use Rattle.cep_text.specs.Texts.{con_name, term_text, args_text}
use Rattle.cep_text.specs.declared.stop.Stop.{Stop}
use Rattle.cep_term.specs.Tree.{Tree, Trees, node, none, more, AreGround, term_depth, argument_depth, variable, IsGround}
use Rattle.cep_rule.specs.Derivations.{ProofTree, no_goal, goal_by}
use Rattle.cep_rule.specs.Typing.{HaveSorts, IsValue, HasSort}
use Rattle.cep_rule.specs.declared.signature.Signature.{Signature}
use Rattle.cep_rule.specs.Names.{IsName, AreNames}
use Rattle.cep_rule.specs.declared.parts.Parts.{Parts}
use Rattle.cep_rule.specs.declared.signature.Con.{Con}
use Rattle.cep_base.proofs.Drops.{drop_at as from_place}

-- Words at the front of a list.

pub literal_again : (word rest : List ℕ) → literal_at word (word ++ rest) ≡ Some rest
unfolding literal_at
literal_again [] rest = refl
literal_again (letter ∷ word) rest = rw (eq-eqb letter letter refl) (literal_again word rest)

none_from : (r : Option (List ℕ)) → ((rest : List ℕ) → r ≡ Some rest → ⊥) → r ≡ None
none_from r h = grind arith

pub literal_found : (word bytes rest : List ℕ) → literal_at word bytes ≡ Some rest → bytes ≡ word ++ rest
unfolding literal_at
literal_found [] bytes rest e = cc
literal_found (letter ∷ word) [] rest e = absurd cc
literal_found (letter ∷ word) (byte ∷ bytes) rest e = grind (arith, eqb-true, literal_found word bytes rest)

-- what `strip_prefix` says
pub literal_is : (word bytes : List ℕ) (r : Option (Bor (List ℕ))) → MatchOption r ((rest : List ℕ) → bytes ≢ word ++ rest) (λ rest. bytes ≡ word ++ rest.now) → MatchOption r (literal_at word bytes ≡ None) (λ rest. literal_at word bytes ≡ Some rest.now)
literal_is word bytes None h = none_from (literal_at word bytes) (λ rest e. h rest (literal_found word bytes rest e))
literal_is word bytes (Some rest) h = ap (literal_at word) h ∙ literal_again word rest.now

-- What is read as a term is the text of one.

-- The term is a value of the type, of at most so many levels, and its text stands before the rest.
pub record Found (signature : Signature) (depth sort : ℕ) (bytes : List ℕ) (t : Tree) (rest : List ℕ) : Type 0 where
  pub value : IsValue signature.cons sort t
  pub low : term_depth t ≤ depth
  pub text : bytes ≡ term_text signature t ++ rest

-- The arguments are values of the types, and their texts stand before the rest.
pub record FoundAll (signature : Signature) (depth : ℕ) (sorts bytes : List ℕ) (args : Trees) (rest : List ℕ) : Type 0 where
  pub is_ground : AreGround args
  pub typed : HaveSorts signature.cons [] sorts args
  pub low : argument_depth args ≤ depth
  pub text : bytes ≡ args_text signature args ++ rest

-- Each term that the reader gives is found so.
abbrev pub IsSound : Signature → ℕ → (ℕ → Reader Tree) → Type 0
IsSound signature depth value = (sort : ℕ) (bytes : List ℕ) (t : Tree) (rest : List ℕ) → value sort bytes ≡ Some (t, rest) → Found signature depth sort bytes t rest

argument_found : (signature : Signature) (depth : ℕ) (value : ℕ → Reader Tree) → IsSound signature depth value
    → (sort : ℕ) (bytes : List ℕ) (t : Tree) (rest : List ℕ) → argument_at (value sort) bytes ≡ Some (t, rest)
    → (behind : List ℕ) × (bytes ≡ codes " " ++ behind) × Found signature depth sort behind t rest
unfolding argument_at
argument_found signature depth value sound sort bytes t rest e =
    by_bind (literal_at (codes " ") bytes) _ (t, rest) e (λ behind is e. (behind, literal_found (codes " ") bytes behind is, sound sort behind t rest e))

pub arguments_found : (signature : Signature) (depth : ℕ) (value : ℕ → Reader Tree) → IsSound signature depth value
    → (sorts bytes : List ℕ) (args : Trees) (rest : List ℕ) → arguments_at value sorts bytes ≡ Some (args, rest) → FoundAll signature depth sorts bytes args rest
unfolding arguments_at
arguments_found signature depth value sound [] bytes args rest e =
    by_some (λ (x : Trees × List ℕ). FoundAll signature depth [] bytes x.0 x.1) _ (args, rest) e (record { is_ground = tt; typed = tt; low = omega arith; text = refl })
arguments_found signature depth value sound (sort ∷ sorts) bytes args rest e =
    by_bind (argument_at (value sort) bytes) _ (args, rest) e (λ first first-is e.
    by_bind (arguments_at value sorts first.1) _ (args, rest) e (λ others others-is e.
    let one = argument_found signature depth value sound sort bytes first.0 first.1 first-is in
    let rest_found = arguments_found signature depth value sound sorts first.1 others.0 others.1 others-is in
    by_some (λ (x : Trees × List ℕ). FoundAll signature depth (sort ∷ sorts) bytes x.0 x.1) _ (args, rest) e (record {
      is_ground = (one.2.value.ground, rest_found.is_ground);
      typed = (one.2.value.typed, rest_found.typed);
      low = omega (arith, one.2.low, rest_found.low);
      text = one.1 ∙ ap (λ text. codes " " ++ text) (one.2.text ∙ ap (λ text. term_text signature first.0 ++ text) rest_found.text ∙ sym (append_assoc (term_text signature first.0) (args_text signature others.0) others.1));
    })))

inside_found : (signature : Signature) (depth : ℕ) (value : ℕ → Reader Tree) → IsSound signature depth value
    → (sorts bytes : List ℕ) (args : Trees) (rest : List ℕ) → inside_at value sorts bytes ≡ Some (args, rest)
    → (eqb (length sorts) 0 ≡ false) × FoundAll signature depth sorts bytes args (codes ")" ++ rest)
unfolding inside_at
inside_found signature depth value sound sorts bytes args rest e =
    by_bind (cond (eqb (length sorts) 0) None (arguments_at value sorts bytes)) _ (args, rest) e (λ inner inner-is e.
    by_bind (literal_at (codes ")") inner.1) _ (args, rest) e (λ behind behind-is e.
    let parts : (eqb (length sorts) 0 ≡ false) × (arguments_at value sorts bytes ≡ Some inner) = grind arith in
    let found = arguments_found signature depth value sound sorts bytes inner.0 inner.1 parts.1 in
    by_some (λ (x : Trees × List ℕ). (eqb (length sorts) 0 ≡ false) × FoundAll signature depth sorts bytes x.0 (codes ")" ++ x.1)) _ (args, rest) e
    (parts.0, rw (literal_found (codes ")") inner.1 behind behind-is) at found)))

pub no_kinds : (kinds : List ℕ) → eqb (length kinds) 0 ≡ true → kinds ≡ []
no_kinds [] e = refl
no_kinds (kind ∷ kinds) e = let is = eqb-true (length (kind ∷ kinds)) 0 e in absurd (omega arith)

bare_found : (signature : Signature) (depth sort : ℕ) (bytes : List ℕ) (t : Tree) (rest : List ℕ) → bare_at signature.cons sort bytes ≡ Some (t, rest) → Found signature (suc depth) sort bytes t rest
unfolding bare_at
bare_found signature depth sort bytes t rest e =
    by_bind (con_at signature.cons sort bytes) _ (t, rest) e (λ con con-is e.
    let parts = guard_some (eqb (length con.0.1) 0) (node con.0.0 none, con.1) (t, rest) e in
    let found = con_found signature.cons sort bytes con.0.0 con.0.1 con.1 con-is in
    let bare : found.con.args ≡ [] = found.args ∙ no_kinds con.0.1 parts.0 in
    subst (λ (x : Tree × List ℕ). Found signature (suc depth) sort bytes x.0 x.1) parts.1 (record {
      value = record { ground = tt; typed = some_and _ found.con (λ con. (con.sort ≡ sort) × HaveSorts signature.cons [] con.args none) found.numbered (found.of_type, rw bare tt) };
      low = omega arith;
      text = found.text ∙ ap (λ name. name ++ con.1) (sym (append-nil found.con.name) ∙ ap (λ c. con_name c ++ []) (sym found.numbered));
    }))

-- the text of a constructor with arguments
enclosed_text : (signature : Signature) (number : ℕ) (con : Con) (sorts : List ℕ) (args : Trees) (bytes inner rest : List ℕ) → slice_get signature.cons number ≡ Some con
    → eqb (length sorts) 0 ≡ false → HaveSorts signature.cons [] sorts args → bytes ≡ con.name ++ inner → inner ≡ args_text signature args ++ (codes ")" ++ rest)
    → codes "(" ++ bytes ≡ term_text signature (node number args) ++ rest
enclosed_text signature number con sorts args bytes inner rest there some typed e f = grind (arith, append_assoc)

enclosed_found : (signature : Signature) (depth : ℕ) (value : ℕ → Reader Tree) → IsSound signature depth value
    → (sort : ℕ) (bytes : List ℕ) (t : Tree) (rest : List ℕ) → enclosed_at value signature.cons sort bytes ≡ Some (t, rest) → Found signature (suc depth) sort (codes "(" ++ bytes) t rest
unfolding enclosed_at
enclosed_found signature depth value sound sort bytes t rest e =
    by_bind (con_at signature.cons sort bytes) _ (t, rest) e (λ con con-is e.
    by_bind (inside_at value con.0.1 con.1) _ (t, rest) e (λ args args-is e.
    let head = con_found signature.cons sort bytes con.0.0 con.0.1 con.1 con-is in
    let found = inside_found signature depth value sound con.0.1 con.1 args.0 args.1 args-is in
    by_some (λ (x : Tree × List ℕ). Found signature (suc depth) sort (codes "(" ++ bytes) x.0 x.1) _ (t, rest) e (record {
      value = record { ground = found.1.is_ground; typed = some_and _ head.con (λ con. (con.sort ≡ sort) × HaveSorts signature.cons [] con.args args.0) head.numbered (head.of_type, rw head.args found.1.typed) };
      low = omega (arith, found.1.low);
      text = enclosed_text signature con.0.0 head.con con.0.1 args.0 bytes con.1 args.1 head.numbered found.0 found.1.typed head.text found.1.text;
    })))

by_cases : (signature : Signature) (depth : ℕ) (value : ℕ → Reader Tree) → IsSound signature depth value
    → (sort : ℕ) (bytes : List ℕ) (inside : Option (List ℕ)) (t : Tree) (rest : List ℕ) → literal_at (codes "(") bytes ≡ inside → value_by value signature.cons sort inside bytes ≡ Some (t, rest) → Found signature (suc depth) sort bytes t rest
by_cases signature depth value sound sort bytes None t rest is e = bare_found signature depth sort bytes t rest e
by_cases signature depth value sound sort bytes (Some inside) t rest is e =
    subst (λ text. Found signature (suc depth) sort text t rest) (sym (literal_found (codes "(") bytes inside is)) (enclosed_found signature depth value sound sort inside t rest e)

pub value_found : (signature : Signature) (depth : ℕ) → IsSound signature depth (value_at signature.cons depth)
unfolding value_at
value_found signature zero sort bytes t rest e = absurd cc
value_found signature (suc depth) sort bytes t rest e = by_cases signature depth (value_at signature.cons depth) (value_found signature depth) sort bytes (literal_at (codes "(") bytes) t rest refl e

-- One step of a reading, as the functions take it.

-- a step that fails makes the whole fail
pub fails_first : {A B : Type 0} (stop : Stop) (r : Option A) (f : A → Option B) → Fails stop r → Fails stop (r >>= f)
fails_first stop r f failed = grind arith

pub value_zero : (cons : List Con) (depth sort : ℕ) (bytes : List ℕ) → depth ≡ 0 → value_at cons depth sort bytes ≡ None
unfolding value_at
value_zero cons depth sort bytes e = rw e refl

pub value_more : (cons : List Con) (depth less sort : ℕ) (bytes : List ℕ) → depth ≡ suc less → value_at cons depth sort bytes ≡ value_by (value_at cons less) cons sort (literal_at (codes "(") bytes) bytes
unfolding value_at
value_more cons depth less sort bytes e = ap (λ d. value_at cons d sort bytes) e

pub arguments_end : (value : ℕ → Reader Tree) (kinds : List ℕ) (i : ℕ) (bytes : List ℕ) → i ≡ length kinds → arguments_at value (drop i kinds) bytes ≡ Some (none, bytes)
unfolding arguments_at
arguments_end value kinds i bytes e = rw (drop_all i kinds (omega arith)) refl

-- the arguments from one place on
pub arguments_next : (value : ℕ → Reader Tree) (kinds : List ℕ) (i kind : ℕ) (bytes : List ℕ) → slice_get kinds i ≡ Some kind
    → arguments_at value (drop i kinds) bytes ≡ (argument_at (value kind) bytes >>= λ first. (arguments_at value (drop (i + 1) kinds) first.1 >>= λ others. Some (more first.0 others.0, others.1)))
unfolding arguments_at
arguments_next value kinds i kind bytes e = rw (from_place kinds i kind e) refl

-- what the variables from one place on are given
pub givens_end : (value : ℕ → Reader Tree) (names : List (List ℕ)) (kinds : List ℕ) (i : ℕ) (values : List Tree) (bytes : List ℕ) → i ≡ length names → givens_at value (drop i names) (drop i kinds) values bytes ≡ Some (values, bytes)
unfolding givens_at
givens_end value names kinds i values bytes e = rw (drop_all i names (omega arith)) refl

pub givens_next : (value : ℕ → Reader Tree) (names : List (List ℕ)) (kinds : List ℕ) (i : ℕ) (name : List ℕ) (kind : ℕ) (values : List Tree) (bytes : List ℕ) → slice_get names i ≡ Some name → slice_get kinds i ≡ Some kind
    → givens_at value (drop i names) (drop i kinds) values bytes ≡ (given_at (value kind) name bytes >>= λ first. givens_at value (drop (i + 1) names) (drop (i + 1) kinds) (values ++ first.0 ∷ []) first.1)
unfolding givens_at
givens_next value names kinds i name kind values bytes e f = rw (from_place names i name e, from_place kinds i kind f) refl

pub proof_zero : (program : Parts) (value : ℕ → Reader Tree) (height : ℕ) (bytes : List ℕ) → height ≡ 0 → proof_at program value height bytes ≡ None
unfolding proof_at
proof_zero program value height bytes e = rw e refl

pub proof_more : (program : Parts) (value : ℕ → Reader Tree) (height less : ℕ) (bytes : List ℕ) → height ≡ suc less → proof_at program value height bytes ≡ node_at program value (proof_at program value less) bytes
unfolding proof_at
proof_more program value height less bytes e = ap (λ h. proof_at program value h bytes) e

pub proofs_zero : (proof : Reader ProofTree) (goals : ℕ) (bytes : List ℕ) → goals ≡ 0 → proofs_at proof goals bytes ≡ Some (no_goal, bytes)
unfolding proofs_at
proofs_zero proof goals bytes e = rw e refl

pub proofs_more : (proof : Reader ProofTree) (goals less : ℕ) (bytes : List ℕ) → goals ≡ suc less
    → proofs_at proof goals bytes ≡ (literal_at (codes " ") bytes >>= λ space. (proof space >>= λ first. (proofs_at proof less first.1 >>= λ others. Some (goal_by first.0 others.0, others.1))))
unfolding proofs_at
proofs_more proof goals less bytes e = ap (λ n. proofs_at proof n bytes) e

-- The text of a term is read as that term.

-- the constructor of a term that is well typed
pub record ConOf (cons : List Con) (sort number : ℕ) (args : Trees) : Type 0 where
  pub con : Con
  pub numbered : slice_get cons number ≡ Some con
  pub of_type : con.sort ≡ sort
  pub typed : HaveSorts cons [] con.args args

pub con_of : (cons : List Con) (sort number : ℕ) (args : Trees) (found : Option Con) → slice_get cons number ≡ found → IsSomeAnd found (λ con. (con.sort ≡ sort) × HaveSorts cons [] con.args args) → ConOf cons sort number args
con_of cons sort number args found e typed = grind arith

pub args_apart : (signature : Signature) (args : Trees) (rest : List ℕ) → IsApart rest → IsApart (args_text signature args ++ rest)
args_apart signature none rest apart = apart
args_apart signature (more t others) rest apart = refl

-- the arguments of a term are read again
abbrev AreReadAgain : Signature → ℕ → List ℕ → Trees → Type 0
AreReadAgain signature depth sorts args = (rest : List ℕ) → IsApart rest → arguments_at (value_at signature.cons depth) sorts (args_text signature args ++ rest) ≡ Some (args, rest)

bare_again : (signature : Signature) (sort number : ℕ) (rest : List ℕ) → AreNames (con_names signature.cons) → (of : ConOf signature.cons sort number none) → IsApart rest
    → (kinds : List ℕ) → of.con.args ≡ kinds → HaveSorts signature.cons [] kinds none → bare_at signature.cons sort (of.con.name ++ rest) ≡ Some (node number none, rest)
unfolding bare_at
bare_again signature sort number rest names of apart [] e typed = rw (con_again signature.cons sort number of.con rest names of.numbered of.of_type apart, e) refl
bare_again signature sort number rest names of apart (kind ∷ kinds) e typed = absurd typed

inside_again : (signature : Signature) (depth : ℕ) (kinds : List ℕ) (t : Tree) (others : Trees) (rest : List ℕ) → HaveSorts signature.cons [] kinds (more t others) → AreReadAgain signature depth kinds (more t others)
    → inside_at (value_at signature.cons depth) kinds (args_text signature (more t others) ++ (codes ")" ++ rest)) ≡ Some (more t others, rest)
unfolding inside_at
inside_again signature depth [] t others rest typed again = absurd typed
inside_again signature depth (kind ∷ kinds) t others rest typed again =
    let some : eqb (length (kind ∷ kinds)) 0 ≡ false = eqb-suc-zero (length kinds) in
    rw (some, again (codes ")" ++ rest) refl, literal_again (codes ")") rest) refl

enclosed_again : (signature : Signature) (depth sort number : ℕ) (t : Tree) (others : Trees) (rest : List ℕ) → AreNames (con_names signature.cons) → (of : ConOf signature.cons sort number (more t others)) → AreReadAgain signature depth of.con.args (more t others)
    → enclosed_at (value_at signature.cons depth) signature.cons sort (of.con.name ++ (args_text signature (more t others) ++ (codes ")" ++ rest))) ≡ Some (node number (more t others), rest)
unfolding enclosed_at
enclosed_again signature depth sort number t others rest names of again =
    let behind = args_text signature (more t others) ++ (codes ")" ++ rest) in
    rw (con_again signature.cons sort number of.con behind names of.numbered of.of_type refl, inside_again signature depth of.con.args t others rest of.typed again) refl

node_again : (signature : Signature) (depth sort number : ℕ) (args : Trees) (rest : List ℕ) → AreNames (con_names signature.cons) → (of : ConOf signature.cons sort number args) → AreReadAgain signature depth of.con.args args → IsApart rest
    → value_by (value_at signature.cons depth) signature.cons sort (literal_at (codes "(") (term_text signature (node number args) ++ rest)) (term_text signature (node number args) ++ rest) ≡ Some (node number args, rest)
node_again signature depth sort number none rest names of again apart =
    let name = of.con.name in
    let is_name = all_at IsName (con_names signature.cons) number name names.each (item_name (λ con. con.name) signature.cons number of.con of.numbered) in
    let text : term_text signature (node number none) ≡ name = ap (λ c. con_name c ++ []) of.numbered ∙ append-nil name in
    rw (text, no_parenthesis name rest is_name) (bare_again signature sort number rest names of apart of.con.args refl of.typed)
node_again signature depth sort number (more t others) rest names of again apart =
    let name = of.con.name in
    let args = args_text signature (more t others) in
    let inside = ((con_name (slice_get signature.cons number) ++ args) ++ codes ")") ++ rest in
    let whole : inside ≡ name ++ (args ++ (codes ")" ++ rest)) =
    ap (λ c. ((con_name c ++ args) ++ codes ")") ++ rest) of.numbered ∙ append_assoc (name ++ args) (codes ")") rest ∙ append_assoc name args (codes ")" ++ rest) in
    ap (λ found. value_by (value_at signature.cons depth) signature.cons sort found (codes "(" ++ inside)) (literal_again (codes "(") inside)
    ∙ ap (enclosed_at (value_at signature.cons depth) signature.cons sort) whole
    ∙ enclosed_again signature depth sort number t others rest names of again

argument_again : (signature : Signature) (depth sort : ℕ) (t : Tree) (text behind : List ℕ) → value_at signature.cons depth sort (text ++ behind) ≡ Some (t, behind) → argument_at (value_at signature.cons depth sort) (codes " " ++ (text ++ behind)) ≡ Some (t, behind)
unfolding argument_at
argument_again signature depth sort t text behind e = rw (literal_again (codes " ") (text ++ behind)) e

mutual
  unfolding arguments_at

  pub value_again : (signature : Signature) → AreNames (con_names signature.cons) → (t : Tree) (depth sort : ℕ) (rest : List ℕ) → IsGround t → HasSort signature.cons [] sort t → term_depth t ≤ depth → IsApart rest
      → value_at signature.cons depth sort (term_text signature t ++ rest) ≡ Some (t, rest)
  value_again signature names (variable v) depth sort rest g typed low apart = absurd g
  value_again signature names (node number args) depth sort rest g typed low apart =
      let of = con_of signature.cons sort number args (slice_get signature.cons number) refl typed in
      value_more signature.cons depth (depth - 1) sort (term_text signature (node number args) ++ rest) (omega arith)
      ∙ node_again signature (depth - 1) sort number args rest names of (λ behind behind_apart. arguments_again signature names args (depth - 1) of.con.args behind g of.typed (omega arith) behind_apart) apart

  pub arguments_again : (signature : Signature) → AreNames (con_names signature.cons) → (args : Trees) (depth : ℕ) (sorts rest : List ℕ) → AreGround args → HaveSorts signature.cons [] sorts args → argument_depth args ≤ depth → IsApart rest
      → arguments_at (value_at signature.cons depth) sorts (args_text signature args ++ rest) ≡ Some (args, rest)
  arguments_again signature names none depth [] rest g typed low apart = refl
  arguments_again signature names (more t others) depth (sort ∷ sorts) rest g typed low apart =
      let text = term_text signature t in
      let behind = args_text signature others ++ rest in
      let one = value_again signature names t depth sort behind g.0 typed.0 (omega arith) (args_apart signature others rest apart) in
      let all = arguments_again signature names others depth sorts rest g.1 typed.1 (omega arith) apart in
      ap (λ bytes. arguments_at (value_at signature.cons depth) (sort ∷ sorts) (codes " " ++ bytes)) (append_assoc text (args_text signature others) rest)
      ∙ rw (argument_again signature depth sort t text behind one, all) refl
  arguments_again signature names args depth sorts rest g typed low apart = absurd typed
