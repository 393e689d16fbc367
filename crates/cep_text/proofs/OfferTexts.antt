-- The texts of offers and derivations, of which no two are one.
use Rattle.std.proofs.Common.{◌≡◌, ℕ, List, [], ◌++◌, length, take-append-drop, slice_get, Option, Some, None, IsSomeAnd, refl, sym, ap, subst, ◌∙◌, append-nil, arith, ◌+◌, ◌≤◌, codes, append_assoc}
use Rattle.std.specs.List.{AllByRecursion}
use Rattle.cep_term.specs.Tree.{Tree, Trees, AtomTree, node, none, more, IsGround, AreGround, term_depth, argument_depth}
use Rattle.cep_rule.specs.Derivations.{ProofTree, ProofTrees, by_clause, no_goal, goal_by, proof_height}
use Rattle.cep_rule.specs.declared.signature.Signature.{Signature}
use Rattle.cep_rule.specs.Names.{IsName, AreNames}
use Rattle.cep_rule.specs.declared.parts.Parts.{Parts}
use Rattle.cep_rule.specs.declared.rule.Rule.{Rule}
use Rattle.cep_rule.specs.declared.signature.Con.{Con}
use Rattle.cep_rule.specs.Patterns.{ClauseTree}
use Rattle.cep_rule.specs.Shapes.{IsOfferOf, IsSmallTerm, AreAsMany, IsProofOf, AreProofsOf, HasSmallValues, HaveSmallValues}
use Rattle.cep_rule.specs.Program.{IsProgram, IsTypedRule}
use Rattle.cep_rule.specs.Typing.{AreValues, HasSort, IsValue}
use Rattle.cep_rule.specs.declared.offer.Offer.{Offer}
use Rattle.cep_base.proofs.Options.{some_and}
use Rattle.cep_text.proofs.GivensRead.{givens_found, AreRead, givens_apart, givens_again, small_read, all_read, levels_of}
use Rattle.cep_text.proofs.ProofsFound.{proof_found}
use Rattle.cep_text.proofs.Heads.{IsApart, name_bytes, front_is, behind_is, no_parenthesis, pred_again}
use Rattle.cep_text.specs.Reads.{IsOfferText, IsProofText}
use Rattle.cep_text.proofs.ProofsAgain.{NodeRead, IsRead, AllAreRead, proof_again}
use Rattle.cep_text.proofs.TableLemmas.{by_bind, by_some, some_is, none_is, all_at, number_found, item_name, item_named}
use Rattle.cep_text.proofs.TermTexts.{whole_is, PredOf, pred_of}
use Rattle.cep_text.proofs.ValuesFound.{con_of, value_again, arguments_again, args_apart, literal_again}
use Rattle.cep_text.specs.Reading.{Reader, name_len, front_name, behind_name, number_among, rule_names, small_at, whole, givens_at, rule_at, offer_read, value_at, proof_at, proof_read, ◌>>=◌, literal_at, con_names, pred_names, pred_at, arguments_at}
use Rattle.cep_text.specs.Texts.{offer_name, rule_vars, all_given_text, offer_text, proof_text, con_name, term_text, args_text, atom_text, IsGroundTerm, IsTypedGround}
use Rattle.cep_base.specs.declared.limits.TheConstants.{MOST_HEIGHT}

-- Whole texts of offers.

-- a rule that is read
pub record RuleFound (rules : List Rule) (bytes : List ℕ) (number : ℕ) (rule : Rule) (rest : List ℕ) : Type 0 where
  pub numbered : slice_get rules number ≡ Some rule
  pub text : bytes ≡ rule.name ++ rest

rule_found : (rules : List Rule) (bytes : List ℕ) (number : ℕ) (rule : Rule) (rest : List ℕ) → rule_at rules bytes ≡ Some ((number, rule), rest) → RuleFound rules bytes number rule rest
unfolding rule_at
rule_found rules bytes number rule rest e =
    by_bind (number_among (rule_names rules) (front_name bytes)) _ _ e (λ n n-is e.
    by_bind (slice_get rules n) _ _ e (λ found found-is e.
    let name = item_named (λ rule. rule.name) rules (front_name bytes) n found n-is found-is in
    by_some (λ (x : (ℕ × Rule) × List ℕ). RuleFound rules bytes x.0.0 x.0.1 x.1) _ ((number, rule), rest) e
    (record { numbered = found-is; text = sym (take-append-drop (name_len bytes) bytes) ∙ ap (λ front. front ++ behind_name bytes) (sym name) })))

rule_again : (rules : List Rule) (number : ℕ) (rule : Rule) (rest : List ℕ) → AreNames (rule_names rules) → slice_get rules number ≡ Some rule → IsApart rest
    → rule_at rules (rule.name ++ rest) ≡ Some ((number, rule), rest)
unfolding rule_at
rule_again rules number rule rest names there apart =
    let named_there = item_name (λ rule. rule.name) rules number rule there in
    let letters = name_bytes rule.name (all_at IsName (rule_names rules) number rule.name names.each named_there) in
    rw (front_is rule.name rest letters apart, number_found (rule_names rules) number rule.name names.differ named_there, there, behind_is rule.name rest letters apart) refl

-- the rule of an offer
pub record RuleOf (program : Parts) (offer : Offer) : Type 0 where
  pub rule : Rule
  pub numbered : slice_get program.rules offer.rule ≡ Some rule
  pub typed : AreValues program.signature.cons rule.kinds offer.values

pub rule_of : (program : Parts) (offer : Offer) → IsOfferOf program offer → RuleOf program offer
rule_of program offer is = grind arith

as_many : (program : Parts) (number : ℕ) (rule : Rule) → IsProgram program → slice_get program.rules number ≡ Some rule → length rule.kinds ≡ length rule.vars
as_many program number rule keeps there = (all_at (IsTypedRule program.signature) program.rules number rule keeps.typed_rules there).kinds

-- the text of an offer of this rule
text_by : (program : Parts) (number : ℕ) (rule : Rule) (values : List Tree) → slice_get program.rules number ≡ Some rule → rule.name ++ all_given_text program.signature rule.vars values ≡ offer_text program (record { rule = number; values = values })
text_by program number rule values there = ap (λ found. offer_name found ++ all_given_text program.signature (rule_vars found) values) (sym there)

pub offer_some : (program : Parts) (bytes : List ℕ) (offer : Offer) → IsProgram program → offer_read program (small_at program.signature.cons) bytes ≡ Some offer → IsOfferText program bytes offer
unfolding offer_read
offer_some program bytes offer keeps e =
    by_bind (rule_at program.rules bytes) _ offer e (λ rule rule-is e.
    by_bind (givens_at (small_at program.signature.cons) rule.0.1.vars rule.0.1.kinds [] rule.1) _ offer e (λ values values-is e.
    by_bind (whole values) _ offer e (λ all all-is e.
    let ended = whole_is values all all-is in
    let head = rule_found program.rules bytes rule.0.0 rule.0.1 rule.1 rule-is in
    let many = as_many program rule.0.0 rule.0.1 keeps head.numbered in
    let found = givens_found program.signature rule.0.1.vars rule.0.1.kinds [] rule.1 values.0 values.1 many values-is in
    let same : found.values ≡ all = sym found.behind ∙ ended.0 in
    let read : Offer = record { rule = rule.0.0; values = all } in
    let typed = subst (AreValues program.signature.cons rule.0.1.kinds) same found.typed in
    subst (IsOfferText program bytes) (some_is read offer e) (record {
      of_rule = some_and _ _ (λ rule. AreValues program.signature.cons rule.kinds all) head.numbered typed;
      small = subst (AllByRecursion IsSmallTerm) same found.small;
      text = head.text
          ∙ ap (λ text. rule.0.1.name ++ text) (found.text ∙ ap (λ rest. all_given_text program.signature rule.0.1.vars found.values ++ rest) ended.1 ∙ append-nil (all_given_text program.signature rule.0.1.vars found.values) ∙ ap (all_given_text program.signature rule.0.1.vars) same)
          ∙ text_by program rule.0.0 rule.0.1 all head.numbered;
    }))))

read_by : (program : Parts) (value : ℕ → Reader Tree) → IsProgram program → (offer : Offer) (of : RuleOf program offer) → AreRead program.signature value of.rule.kinds offer.values
    → offer_read program value (of.rule.name ++ all_given_text program.signature of.rule.vars offer.values) ≡ Some offer
unfolding offer_read
read_by program value keeps offer of read =
    let text = all_given_text program.signature of.rule.vars offer.values in
    let apart : IsApart text = subst IsApart (append-nil text) (givens_apart program.signature of.rule.vars offer.values [] refl) in
    let again : givens_at value of.rule.vars of.rule.kinds [] text ≡ Some (offer.values, []) =
    ap (givens_at value of.rule.vars of.rule.kinds []) (sym (append-nil text)) ∙ givens_again program.signature value of.rule.vars of.rule.kinds [] offer.values [] (as_many program offer.rule of.rule keeps of.numbered) read refl in
    rw (rule_again program.rules offer.rule of.rule text keeps.named.rules of.numbered apart, again) refl

-- the text of an offer is read as that offer
pub offer_again : (program : Parts) (value : ℕ → Reader Tree) → IsProgram program → (offer : Offer) (of : RuleOf program offer) → AreRead program.signature value of.rule.kinds offer.values → offer_read program value (offer_text program offer) ≡ Some offer
offer_again program value keeps offer of read = cc (text_by program offer.rule of.rule offer.values of.numbered, read_by program value keeps offer of read)

pub offer_none : (program : Parts) (bytes : List ℕ) → IsProgram program → offer_read program (small_at program.signature.cons) bytes ≡ None → (offer : Offer) → IsOfferText program bytes offer → ⊥
offer_none program bytes keeps e offer is = grind (arith, rule_of, small_read, none_is, offer_again)

-- Whole texts of derivations.

-- a node's clause, where the values by the clause's types are read
node_read : (program : Parts) (value : ℕ → Reader Tree) (number : ℕ) (values : List Tree) (subs : ProofTrees) (found : Option ClauseTree) → slice_get program.clauses number ≡ found
    → ((kinds : List ℕ) → AreValues program.signature.cons kinds values → AreRead program.signature value kinds values)
    → IsSomeAnd found (λ clause. AreValues program.signature.cons clause.kinds values) → IsSomeAnd found (λ clause. AreAsMany subs clause.goals) → NodeRead program value number values subs
node_read program value number values subs found e read typed many = grind arith

-- small values are read
mutual
  small_is_read : (program : Parts) → IsProgram program → (proof : ProofTree) → IsProofOf program proof → HasSmallValues proof → IsRead program (small_at program.signature.cons) proof
  small_is_read program keeps (by_clause number values subs) is small = (
    node_read program (small_at program.signature.cons) number values subs (slice_get program.clauses number) refl (λ kinds typed. small_read program.signature keeps.named.cons kinds values typed small.0) is.0 is.1,
    small_are_read program keeps subs is.2 small.1,
  )

  small_are_read : (program : Parts) → IsProgram program → (proofs : ProofTrees) → AreProofsOf program proofs → HaveSmallValues proofs → AllAreRead program (small_at program.signature.cons) proofs
  small_are_read program keeps no_goal are small = tt
  small_are_read program keeps (goal_by proof proofs) are small = (small_is_read program keeps proof are.0 small.0, small_are_read program keeps proofs are.1 small.1)

-- how many levels any of the values has at most
abbrev mutual
  pub levels_in : ProofTree → ℕ
  levels_in (by_clause number values subs) = levels_of values + levels_among subs

  pub levels_among : ProofTrees → ℕ
  levels_among no_goal = 0
  levels_among (goal_by proof proofs) = levels_in proof + levels_among proofs

-- all values are read with that many levels
mutual
  pub all_is_read : (program : Parts) → IsProgram program → (depth : ℕ) (proof : ProofTree) → IsProofOf program proof → levels_in proof ≤ depth → IsRead program (value_at program.signature.cons depth) proof
  all_is_read program keeps depth (by_clause number values subs) is low = (
    node_read program (value_at program.signature.cons depth) number values subs (slice_get program.clauses number) refl (λ kinds typed. all_read program.signature keeps.named.cons depth kinds values typed (omega arith)) is.0 is.1,
    all_are_read program keeps depth subs is.2 (omega arith),
  )

  pub all_are_read : (program : Parts) → IsProgram program → (depth : ℕ) (proofs : ProofTrees) → AreProofsOf program proofs → levels_among proofs ≤ depth → AllAreRead program (value_at program.signature.cons depth) proofs
  all_are_read program keeps depth no_goal are low = tt
  all_are_read program keeps depth (goal_by proof proofs) are low = (all_is_read program keeps depth proof are.0 (omega arith), all_are_read program keeps depth proofs are.1 (omega arith))

pub proof_some : (program : Parts) (bytes : List ℕ) (proof : ProofTree) → IsProgram program → proof_read program (small_at program.signature.cons) MOST_HEIGHT bytes ≡ Some proof → IsProofText program bytes proof
unfolding proof_read
proof_some program bytes proof keeps e =
    by_bind (proof_at program (small_at program.signature.cons) MOST_HEIGHT bytes) _ proof e (λ read read-is e.
    let ended = whole_is read proof e in
    let found = proof_found program MOST_HEIGHT keeps bytes read.0 read.1 read-is in
    subst (IsProofText program bytes) ended.0 (record {
      of_clauses = found.of_clauses;
      small = found.small;
      low = found.low;
      text = found.text ∙ ap (λ rest. proof_text program read.0 ++ rest) ended.1 ∙ append-nil (proof_text program read.0);
    }))

-- the text of a derivation is read as that derivation
pub text_again : (program : Parts) (value : ℕ → Reader Tree) (height : ℕ) → IsProgram program → (proof : ProofTree) → IsRead program value proof → proof_height proof ≤ height → proof_read program value height (proof_text program proof) ≡ Some proof
unfolding proof_read
text_again program value height keeps proof read low =
    let text = proof_text program proof in
    let again : proof_at program value height text ≡ Some (proof, []) = ap (proof_at program value height) (sym (append-nil text)) ∙ proof_again program value keeps proof height [] read low in
    rw again refl

pub proof_none : (program : Parts) (bytes : List ℕ) → IsProgram program → proof_read program (small_at program.signature.cons) MOST_HEIGHT bytes ≡ None → (proof : ProofTree) → IsProofText program bytes proof → ⊥
proof_none program bytes keeps e proof is =
    none_is proof (proof_read program (small_at program.signature.cons) MOST_HEIGHT bytes) e
    (ap (proof_read program (small_at program.signature.cons) MOST_HEIGHT) is.text ∙ text_again program (small_at program.signature.cons) MOST_HEIGHT keeps proof (small_is_read program keeps proof is.of_clauses is.small) is.low)

-- No text is the text of two values.

-- what one function reads from one text is one value
one_read : {A X : Type 0} (read : A → Option X) (a b : A) (x y : X) → a ≡ b → read a ≡ Some x → read b ≡ Some y → x ≡ y
one_read read a b x y e f g = some_is x y (sym f ∙ ap read e ∙ g)

one_term : (program : Parts) (sort : ℕ) (one other : Tree) → IsProgram program → IsValue program.signature.cons sort one → IsValue program.signature.cons sort other → term_text program.signature one ≡ term_text program.signature other → one ≡ other
one_term program sort one other keeps a b e =
    let signature = program.signature in
    let depth = term_depth one + term_depth other in
    let f = value_again signature keeps.named.cons one depth sort [] a.ground a.typed (omega arith) refl in
    let g = value_again signature keeps.named.cons other depth sort [] b.ground b.typed (omega arith) refl in
    ap (λ z. z.0) (one_read (value_at signature.cons depth sort) (term_text signature one ++ []) (term_text signature other ++ []) (one, []) (other, []) (ap (λ text. text ++ []) e) f g)

-- the bytes after a parenthesis, if there is one
abbrev unopened : Option (List ℕ) → List ℕ → List ℕ
unopened None bytes = bytes
unopened (Some inside) bytes = inside

-- the number of the constructor that the text names first
abbrev first_number : Signature → List ℕ → Option ℕ
first_number signature text = number_among (con_names signature.cons) (front_name (unopened (literal_at (codes "(") text) text))

number_in : (signature : Signature) → AreNames (con_names signature.cons) → (number : ℕ) (con : Con) (rest : List ℕ) → slice_get signature.cons number ≡ Some con → IsApart rest → number_among (con_names signature.cons) (front_name (con.name ++ rest)) ≡ Some number
number_in signature names number con rest there apart =
    let named_there = item_name (λ con. con.name) signature.cons number con there in
    let letters = name_bytes con.name (all_at IsName (con_names signature.cons) number con.name names.each named_there) in
    rw (front_is con.name rest letters apart) (number_found (con_names signature.cons) number con.name names.differ named_there)

first_is : (signature : Signature) → AreNames (con_names signature.cons) → (number : ℕ) (args : Trees) (con : Con) → slice_get signature.cons number ≡ Some con → first_number signature (term_text signature (node number args)) ≡ Some number
first_is signature names number none con there =
    let is_name = all_at IsName (con_names signature.cons) number con.name names.each (item_name (λ con. con.name) signature.cons number con there) in
    ap (λ found. first_number signature (con_name found ++ [])) there
    ∙ rw (no_parenthesis con.name [] is_name) (number_in signature names number con [] there refl)
first_is signature names number (more t others) con there =
    let args = args_text signature (more t others) in
    ap (λ found. first_number signature (codes "(" ++ ((con_name found ++ args) ++ codes ")"))) there
    ∙ rw (literal_again (codes "(") ((con.name ++ args) ++ codes ")"), append_assoc con.name args (codes ")")) (number_in signature names number con (args ++ codes ")") there refl)

-- ground terms of one text are of one type
one_sort : (signature : Signature) (one other : Tree) (sort sort' : ℕ) → AreNames (con_names signature.cons) → IsGround one → IsGround other → HasSort signature.cons [] sort one → HasSort signature.cons [] sort' other
    → term_text signature one ≡ term_text signature other → sort' ≡ sort
one_sort signature (node c args) (node d others) sort sort' names a b typed typed' e =
    let of = con_of signature.cons sort c args (slice_get signature.cons c) refl typed in
    let of' = con_of signature.cons sort' d others (slice_get signature.cons d) refl typed' in
    let same = one_read (first_number signature) (term_text signature (node c args)) (term_text signature (node d others)) c d e (first_is signature names c args of.con of.numbered) (first_is signature names d others of'.con of'.numbered) in
    let con = one_read (slice_get signature.cons) c d of.con of'.con same of.numbered of'.numbered in
    sym of'.of_type ∙ ap (λ con. con.sort) (sym con) ∙ of.of_type
one_sort signature one other sort sort' names a b typed typed' e = grind arith

pub one_ground_term : (program : Parts) (one other : Tree) → IsProgram program → IsGroundTerm program.signature one → IsGroundTerm program.signature other → term_text program.signature one ≡ term_text program.signature other → one ≡ other
one_ground_term program one other keeps a b e = grind (arith, one_sort, one_term)

-- the atom at the front, whatever its size
abbrev front_atom : Signature → ℕ → List ℕ → Option AtomTree
front_atom signature depth bytes = pred_at signature.preds bytes >>= λ pred. (arguments_at (value_at signature.cons depth) pred.0.1 pred.1 >>= λ args. Some (record { pred = pred.0.0; args = args.0 }))

atom_again : (signature : Signature) (depth : ℕ) → AreNames (con_names signature.cons) → AreNames (pred_names signature.preds) → (a : AtomTree) (of : PredOf signature a) → AreGround a.args → argument_depth a.args ≤ depth → front_atom signature depth (atom_text signature a) ≡ Some a
atom_again signature depth cons preds a of known low = grind (arith, append-nil, arguments_again signature cons a.args depth of.pred.args [] known of.typed low refl, front_atom, pred_again, args_apart signature a.args [] refl)

pub one_atom : (program : Parts) (one other : AtomTree) → IsProgram program → IsTypedGround program.signature one → IsTypedGround program.signature other → atom_text program.signature one ≡ atom_text program.signature other → one ≡ other
one_atom program one other keeps a b e =
    let signature = program.signature in
    let depth = argument_depth one.args + argument_depth other.args in
    let of = pred_of signature one (slice_get signature.preds one.pred) refl a.typed in
    let of' = pred_of signature other (slice_get signature.preds other.pred) refl b.typed in
    let f = atom_again signature depth keeps.named.cons keeps.named.preds one of a.is_ground (omega arith) in
    let g = atom_again signature depth keeps.named.cons keeps.named.preds other of' b.is_ground (omega arith) in
    one_read (front_atom signature depth) (atom_text signature one) (atom_text signature other) one other e f g

pub one_offer : (program : Parts) (one other : Offer) → IsProgram program → IsOfferOf program one → IsOfferOf program other → offer_text program one ≡ offer_text program other → one ≡ other
one_offer program one other keeps a b e =
    let depth = levels_of one.values + levels_of other.values in
    let value = value_at program.signature.cons depth in
    let of = rule_of program one a in
    let of' = rule_of program other b in
    let f = offer_again program value keeps one of (all_read program.signature keeps.named.cons depth of.rule.kinds one.values of.typed (omega arith)) in
    let g = offer_again program value keeps other of' (all_read program.signature keeps.named.cons depth of'.rule.kinds other.values of'.typed (omega arith)) in
    one_read (offer_read program value) (offer_text program one) (offer_text program other) one other e f g

pub one_proof : (program : Parts) (one other : ProofTree) → IsProgram program → IsProofOf program one → IsProofOf program other → proof_text program one ≡ proof_text program other → one ≡ other
one_proof program one other keeps a b e =
    let depth = levels_in one + levels_in other in
    let height = proof_height one + proof_height other in
    let value = value_at program.signature.cons depth in
    let f = text_again program value height keeps one (all_is_read program keeps depth one a (omega arith)) (omega arith) in
    let g = text_again program value height keeps other (all_is_read program keeps depth other b (omega arith)) (omega arith) in
    one_read (proof_read program value height) (proof_text program one) (proof_text program other) one other e f g
