-- Whole texts of terms and atoms.
use Rattle.std.proofs.Common.{◌≡◌, ℕ, ◌-◌, ◌<◌, ◌≤◌, eqb, nat_le, List, [], ◌++◌, length, slice_get, Option, Some, None, IsSomeAnd, refl, sym, ap, subst, ◌∙◌, arith, append-nil}
use Rattle.std.proofs.lemmas.Bool.{leb-true, le-leb}
use Rattle.cep_base.specs.declared.limits.TheConstants.{MOST_DEPTH, MOST_NODES}
use Rattle.cep_term.specs.Tree.{Tree, Trees, AtomTree, variable, node, IsGround, AreGround, IsFit, term_nodes, argument_nodes, argument_depth}
use Rattle.cep_rule.specs.Names.{AreNames}
use Rattle.cep_rule.specs.Program.{IsProgram}
use Rattle.cep_rule.specs.Shapes.{IsSmallTerm}
use Rattle.cep_rule.specs.declared.parts.Parts.{Parts}
use Rattle.cep_rule.specs.Typing.{HasSort, HaveSorts, IsValue}
use Rattle.cep_rule.specs.declared.signature.PredDecl.{PredDecl}
use Rattle.cep_rule.specs.declared.signature.Signature.{Signature}
use Rattle.cep_base.proofs.Options.{some_and}
use Rattle.cep_text.proofs.Heads.{IsApart, pred_found, pred_again}
use Rattle.cep_text.proofs.TableLemmas.{by_bind, guard_some, none_is, all_at}
use Rattle.cep_text.proofs.ValuesFound.{no_kinds as no_items, FoundAll, value_found, arguments_found, con_of, value_again, arguments_again, args_apart}
use Rattle.cep_text.specs.Reading.{◌>>=◌, con_names, pred_names, pred_at, arguments_at, value_at, small_at, whole, term_read, atom_read}
use Rattle.cep_text.specs.Reads.{IsTermText, IsAtomText}
use Rattle.cep_text.specs.Texts.{pred_name, term_text, args_text}

-- A small value of the type, whose text stands before the rest.
pub record SmallFound (signature : Signature) (sort : ℕ) (bytes : List ℕ) (t : Tree) (rest : List ℕ) : Type 0 where
  pub value : IsValue signature.cons sort t
  pub small : IsSmallTerm t
  pub text : bytes ≡ term_text signature t ++ rest

pub small_found : (signature : Signature) (sort : ℕ) (bytes : List ℕ) (t : Tree) (rest : List ℕ) → small_at signature.cons sort bytes ≡ Some (t, rest) → SmallFound signature sort bytes t rest
unfolding small_at
small_found signature sort bytes t rest e =
    by_bind (value_at signature.cons MOST_DEPTH sort bytes) _ (t, rest) e (λ value value-is e.
    let parts = guard_some (nat_le (term_nodes value.0) MOST_NODES) value (t, rest) e in
    let found = value_found signature MOST_DEPTH sort bytes value.0 value.1 value-is in
    subst (λ (x : Tree × List ℕ). SmallFound signature sort bytes x.0 x.1) parts.1 (record {
      value = found.value;
      small = record { nodes = leb-true (term_nodes value.0) MOST_NODES parts.0; depth = found.low };
      text = found.text;
    }))

pub small_again : (signature : Signature) → AreNames (con_names signature.cons) → (t : Tree) (sort : ℕ) (rest : List ℕ) → IsValue signature.cons sort t → IsSmallTerm t → IsApart rest
    → small_at signature.cons sort (term_text signature t ++ rest) ≡ Some (t, rest)
unfolding small_at
small_again signature names t sort rest value small apart =
    rw (value_again signature names t MOST_DEPTH sort rest value.ground value.typed small.depth apart, le-leb (term_nodes t) MOST_NODES small.nodes) refl

-- where nothing stands after what was read
pub whole_is : {X : Type 0} (read : X × List ℕ) (x : X) → whole read ≡ Some x → (read.0 ≡ x) × (read.1 ≡ [])
whole_is read x e =
    let parts = guard_some (eqb (length read.1) 0) read.0 x e in
    (parts.1, no_items read.1 parts.0)

pub term_some : (program : Parts) (sort : ℕ) (bytes : List ℕ) (t : Tree) → term_read program.signature.cons sort bytes ≡ Some t → IsTermText program sort bytes t
unfolding term_read
term_some program sort bytes t e =
    by_bind (small_at program.signature.cons sort bytes) _ t e (λ value value-is e.
    let ended = whole_is value t e in
    let found = small_found program.signature sort bytes value.0 value.1 value-is in
    subst (IsTermText program sort bytes) ended.0 (record {
      value = found.value;
      small = found.small;
      text = found.text ∙ ap (λ rest. term_text program.signature value.0 ++ rest) ended.1 ∙ append-nil (term_text program.signature value.0);
    }))

pub term_none : (program : Parts) (sort : ℕ) (bytes : List ℕ) → IsProgram program → term_read program.signature.cons sort bytes ≡ None → (t : Tree) → IsTermText program sort bytes t → ⊥
unfolding term_read
term_none program sort bytes keeps e t is =
    let again = small_again program.signature keeps.named.cons t sort [] is.value is.small refl in
    let read : small_at program.signature.cons sort bytes ≡ Some (t, []) = ap (small_at program.signature.cons sort) (is.text ∙ sym (append-nil (term_text program.signature t))) ∙ again in
    none_is t (small_at program.signature.cons sort bytes >>= λ value. whole value) e (rw read refl)

-- there is no value of a type that is not there
pub no_sort : (program : Parts) (sort : ℕ) (bytes : List ℕ) → IsProgram program → length program.signature.sorts ≤ sort → (t : Tree) → IsTermText program sort bytes t → ⊥
no_sort program sort bytes keeps past t is = of_tree t is.value.ground is.value.typed where
  of_tree : (t : Tree) → IsGround t → HasSort program.signature.cons [] sort t → ⊥
  of_tree (variable v) g typed = g
  of_tree (node number args) g typed =
      let of = con_of program.signature.cons sort number args (slice_get program.signature.cons number) refl typed in
      omega (arith, all_at (λ con. con.sort < length program.signature.sorts) program.signature.cons number of.con keeps.in_range.con_sorts of.numbered, of.of_type)

-- the predicate of an atom that is well typed
pub record PredOf (signature : Signature) (a : AtomTree) : Type 0 where
  pub pred : PredDecl
  pub numbered : slice_get signature.preds a.pred ≡ Some pred
  pub typed : HaveSorts signature.cons [] pred.args a.args

pub pred_of : (signature : Signature) (a : AtomTree) (found : Option PredDecl) → slice_get signature.preds a.pred ≡ found → IsSomeAnd found (λ pred. HaveSorts signature.cons [] pred.args a.args) → PredOf signature a
pred_of signature a found e typed = grind arith

pub atom_some : (program : Parts) (bytes : List ℕ) (a : AtomTree) → atom_read program.signature bytes ≡ Some a → IsAtomText program bytes a
unfolding atom_read
atom_some program bytes a e =
    let signature = program.signature in
    by_bind (pred_at signature.preds bytes) _ a e (λ pred pred-is e.
    by_bind (arguments_at (value_at signature.cons (MOST_DEPTH - 1)) pred.0.1 pred.1) _ a e (λ args args-is e.
    by_bind (whole args) _ a e (λ all all-is e.
    let read : AtomTree = record { pred = pred.0.0; args = all } in
    let parts = guard_some (nat_le (argument_nodes all) (MOST_NODES - 1)) read a e in
    let ended = whole_is args all all-is in
    let head = pred_found signature.preds bytes pred.0.0 pred.0.1 pred.1 pred-is in
    let found : FoundAll signature (MOST_DEPTH - 1) pred.0.1 pred.1 all args.1 = subst (λ (x : Trees). FoundAll signature (MOST_DEPTH - 1) pred.0.1 pred.1 x args.1) ended.0 (arguments_found signature (MOST_DEPTH - 1) (value_at signature.cons (MOST_DEPTH - 1)) (value_found signature (MOST_DEPTH - 1)) pred.0.1 pred.1 args.0 args.1 args-is) in
    let nodes = leb-true (argument_nodes all) (MOST_NODES - 1) parts.0 in
    let typed = subst (λ kinds. HaveSorts signature.cons [] kinds all) (sym head.args) found.typed in
    subst (IsAtomText program bytes) parts.1 (record {
      well_typed = record { is_ground = found.is_ground; typed = some_and _ _ (λ pred. HaveSorts signature.cons [] pred.args all) head.numbered typed };
      fit = record { nodes = omega arith; depth = let low = found.low in omega arith };
      text = head.text
          ∙ ap (λ text. head.pred.name ++ text) (found.text ∙ ap (λ rest. args_text signature all ++ rest) ended.1 ∙ append-nil (args_text signature all))
          ∙ ap (λ found. pred_name found ++ args_text signature all) (sym head.numbered);
    }))))

-- the text of an atom is read as that atom
read_again : (signature : Signature) → AreNames (con_names signature.cons) → AreNames (pred_names signature.preds) → (a : AtomTree) (of : PredOf signature a) → AreGround a.args → IsFit a
    → atom_read signature (of.pred.name ++ args_text signature a.args) ≡ Some a
unfolding atom_read
read_again signature cons preds a of known fit =
    let text = args_text signature a.args in
    let nodes : argument_nodes a.args ≤ MOST_NODES - 1 = let n = fit.nodes in omega arith in
    let depth : argument_depth a.args ≤ MOST_DEPTH - 1 = let d = fit.depth in omega arith in
    let apart : IsApart text = subst IsApart (append-nil text) (args_apart signature a.args [] refl) in
    let again : arguments_at (value_at signature.cons (MOST_DEPTH - 1)) of.pred.args text ≡ Some (a.args, []) =
    ap (arguments_at (value_at signature.cons (MOST_DEPTH - 1)) of.pred.args) (sym (append-nil text)) ∙ arguments_again signature cons a.args (MOST_DEPTH - 1) of.pred.args [] known of.typed depth refl in
    rw (pred_again signature.preds a.pred of.pred text preds of.numbered apart, again, le-leb (argument_nodes a.args) (MOST_NODES - 1) nodes) refl

pub atom_none : (program : Parts) (bytes : List ℕ) → IsProgram program → atom_read program.signature bytes ≡ None → (a : AtomTree) → IsAtomText program bytes a → ⊥
atom_none program bytes keeps e a is =
    let signature = program.signature in
    let of = pred_of signature a (slice_get signature.preds a.pred) refl is.well_typed.typed in
    let text : bytes ≡ of.pred.name ++ args_text signature a.args = is.text ∙ ap (λ found. pred_name found ++ args_text signature a.args) of.numbered in
    none_is a (atom_read signature bytes) e (ap (atom_read signature) text ∙ read_again signature keeps.named.cons keeps.named.preds a of is.well_typed.is_ground is.fit)
