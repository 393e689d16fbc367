-- The text of a derivation is read as that derivation.
use Rattle.std.proofs.Common.{add-one, ◌≡◌, ℕ, ◌+◌, ◌-◌, ◌<◌, ◌≤◌, ◌^◌, true, List, [], ◌∷◌, ◌++◌, length, slice_get, codes, Some, refl, ap, ◌∙◌, arith, append_assoc}
use Rattle.std.proofs.lemmas.Fmt.{digits_decimal}
use Rattle.std.proofs.lemmas.Option.{slice_get_within}
use Rattle.std.proofs.lemmas.Str.Parse.{numerals_by_value, tells_all_ascii_digits}
use Rattle.std.specs.Char.{is_ascii_digit}
use Rattle.std.specs.Prelude.{decimal}
use Rattle.std.specs.Str.{all_ascii_digits}
use Rattle.cep_term.specs.Tree.{Tree, AtomTree}
use Rattle.cep_base.specs.Spelling.{is_name_byte}
use Rattle.cep_base.specs.declared.limits.TheConstants.{MOST_CLAUSES}
use Rattle.cep_rule.specs.Derivations.{ProofTree, ProofTrees, by_clause, no_goal, goal_by, proof_height, greatest_height}
use Rattle.cep_rule.specs.Patterns.{ClauseTree}
use Rattle.cep_rule.specs.Program.{IsProgram}
use Rattle.cep_rule.specs.Shapes.{AreAsMany}
use Rattle.cep_rule.specs.declared.parts.Parts.{Parts}
use Rattle.cep_text.proofs.GivensRead.{AreRead, givens_apart, givens_again}
use Rattle.cep_text.proofs.Heads.{IsApart, AreNameBytes, front_is, behind_is}
use Rattle.cep_text.proofs.ProofsFound.{numbered_again, clause_as_many}
use Rattle.cep_text.specs.Reading.{Reader, clause_at, begin_at, proofs_at, node_at, proof_at}
use Rattle.cep_text.proofs.ValuesFound.{literal_again, proof_more}
use Rattle.cep_text.specs.Texts.{clause_vars, all_given_text, begin_text, proof_text, proofs_text}

-- digits are bytes of names
digit_goes_on : (byte : ℕ) → is_ascii_digit byte ≡ true → is_name_byte byte ≡ true
digit_goes_on byte t = grind arith

digits_go_on : (digits : List ℕ) → all_ascii_digits digits ≡ true → AreNameBytes digits
digits_go_on [] t = tt
digits_go_on (byte ∷ digits) t = grind (arith, digit_goes_on, digits_go_on digits)

decimal_goes_on : (n : ℕ) → n < 2 ^ 64 → AreNameBytes (decimal n)
decimal_goes_on n short = digits_go_on (decimal n) (digits_decimal (numerals_by_value (λ digits. all_ascii_digits digits ≡ true) tells_all_ascii_digits) n short)

clause_again : (clauses : List ClauseTree) (number : ℕ) (clause : ClauseTree) (rest : List ℕ) → length clauses ≤ MOST_CLAUSES → slice_get clauses number ≡ Some clause → IsApart rest
    → clause_at clauses (decimal (number + 1) ++ rest) ≡ Some ((number, clause), rest)
unfolding clause_at
clause_again clauses number clause rest few there apart =
    let below = slice_get_within clauses number clause there in
    let letters = decimal_goes_on (number + 1) (omega arith) in
    rw (front_is (decimal (number + 1)) rest letters apart, numbered_again (length clauses) number (decimal (number + 1)) (omega arith) below (ap decimal (add-one number)), there, behind_is (decimal (number + 1)) rest letters apart) refl

-- A node's clause is there, its values are read, and there is one derivation for each goal.
pub record NodeRead (program : Parts) (value : ℕ → Reader Tree) (number : ℕ) (values : List Tree) (subs : ProofTrees) : Type 0 where
  pub clause : ClauseTree
  pub numbered : slice_get program.clauses number ≡ Some clause
  pub read : AreRead program.signature value clause.kinds values
  pub many : AreAsMany subs clause.goals

-- so it is in each node
abbrev mutual
  pub IsRead : Parts → (ℕ → Reader Tree) → ProofTree → Type 0
  IsRead program value (by_clause number values subs) = NodeRead program value number values subs × AllAreRead program value subs

  pub AllAreRead : Parts → (ℕ → Reader Tree) → ProofTrees → Type 0
  AllAreRead program value no_goal = Unit {0}
  AllAreRead program value (goal_by proof proofs) = IsRead program value proof × AllAreRead program value proofs

begin_again : (program : Parts) (value : ℕ → Reader Tree) (number : ℕ) (values : List Tree) (subs : ProofTrees) (rest : List ℕ) → IsProgram program → (node : NodeRead program value number values subs) → IsApart rest
    → begin_at program value (begin_text program number values ++ rest) ≡ Some ((number, values, length node.clause.goals), rest)
unfolding begin_at
begin_again program value number values subs rest keeps node apart =
    let clause = node.clause in
    let given = all_given_text program.signature clause.vars values in
    let behind = given ++ rest in
    let text : begin_text program number values ++ rest ≡ codes "[" ++ (decimal (number + 1) ++ behind) =
    ap (λ found. (codes "[" ++ (decimal (number + 1) ++ all_given_text program.signature (clause_vars found) values)) ++ rest) node.numbered
    ∙ ap (λ text. codes "[" ++ text) (append_assoc (decimal (number + 1)) given rest) in
    rw (
      text,
      literal_again (codes "[") (decimal (number + 1) ++ behind),
      clause_again program.clauses number clause behind keeps.small.clauses node.numbered (givens_apart program.signature clause.vars values rest apart),
      givens_again program.signature value clause.vars clause.kinds [] values rest (clause_as_many program number clause keeps node.numbered) node.read apart,
    ) refl

-- what stands after the values of a node is no name
goals_apart : (program : Parts) (subs : ProofTrees) (rest : List ℕ) → IsApart (proofs_text program subs ++ (codes "]" ++ rest))
goals_apart program no_goal rest = refl
goals_apart program (goal_by proof proofs) rest = refl

node_again : (program : Parts) (value : ℕ → Reader Tree) (read : Reader ProofTree) (number : ℕ) (values : List Tree) (subs : ProofTrees) (rest : List ℕ) → IsProgram program → (node : NodeRead program value number values subs)
    → ((behind : List ℕ) → proofs_at read (length node.clause.goals) (proofs_text program subs ++ behind) ≡ Some (subs, behind))
    → node_at program value read (proof_text program (by_clause number values subs) ++ rest) ≡ Some (by_clause number values subs, rest)
unfolding node_at
node_again program value read number values subs rest keeps node again =
    let start = begin_text program number values in
    let goals = proofs_text program subs in
    let text : proof_text program (by_clause number values subs) ++ rest ≡ start ++ (goals ++ (codes "]" ++ rest)) =
    append_assoc start (goals ++ codes "]") rest ∙ ap (λ text. start ++ text) (append_assoc goals (codes "]") rest) in
    rw (text, begin_again program value number values subs (goals ++ (codes "]" ++ rest)) keeps node (goals_apart program subs rest), again (codes "]" ++ rest), literal_again (codes "]") rest) refl

mutual
  unfolding proofs_at

  pub proof_again : (program : Parts) (value : ℕ → Reader Tree) → IsProgram program → (proof : ProofTree) (height : ℕ) (rest : List ℕ) → IsRead program value proof → proof_height proof ≤ height
      → proof_at program value height (proof_text program proof ++ rest) ≡ Some (proof, rest)
  proof_again program value keeps (by_clause number values subs) height rest read low =
      proof_more program value height (height - 1) (proof_text program (by_clause number values subs) ++ rest) (omega arith)
      ∙ node_again program value (proof_at program value (height - 1)) number values subs rest keeps read.0
      (λ behind. proofs_again program value keeps subs (height - 1) read.0.clause.goals behind read.1 read.0.many (omega arith))

  pub proofs_again : (program : Parts) (value : ℕ → Reader Tree) → IsProgram program → (proofs : ProofTrees) (height : ℕ) (goals : List AtomTree) (rest : List ℕ) → AllAreRead program value proofs → AreAsMany proofs goals → greatest_height proofs ≤ height
      → proofs_at (proof_at program value height) (length goals) (proofs_text program proofs ++ rest) ≡ Some (proofs, rest)
  proofs_again program value keeps no_goal height [] rest read many low = refl
  proofs_again program value keeps (goal_by proof proofs) height (goal ∷ goals) rest read many low =
      let behind = proofs_text program proofs ++ rest in
      let one = proof_again program value keeps proof height behind read.0 (omega arith) in
      let all = proofs_again program value keeps proofs height goals rest read.1 many (omega arith) in
      ap (λ bytes. proofs_at (proof_at program value height) (length (goal ∷ goals)) (codes " " ++ bytes)) (append_assoc (proof_text program proof) (proofs_text program proofs) rest)
      ∙ rw (literal_again (codes " ") (proof_text program proof ++ behind), one, all) refl
  proofs_again program value keeps proofs height goals rest read many low = absurd many
