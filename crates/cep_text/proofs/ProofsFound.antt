-- What is read as a derivation is the text of one.
use Rattle.std.proofs.Common.{add-one, ◌≡◌, ◌≢◌, ℕ, zero, suc, ◌<◌, ◌^◌, List, Some, None, refl, sym, ◌∙◌, arith, ◌+◌, ◌≤◌, [], ◌++◌, length, take-append-drop, slice_get, codes, ap, subst, append_assoc}
use Rattle.std.proofs.lemmas.Fmt.{decimal_injective}
use Rattle.std.proofs.lemmas.Slice.Eq.{bytes_eq-Decides}
use Rattle.std.specs.List.{AllByRecursion}
use Rattle.std.specs.Prelude.{decimal}
use Rattle.cep_base.proofs.Options.{some_and}
use Rattle.cep_text.proofs.GivensRead.{givens_found}
use Rattle.cep_text.proofs.ValuesFound.{literal_found}
use Rattle.cep_text.proofs.TableLemmas.{bytes_apart, some_is, by_bind, by_some, all_at}
use Rattle.cep_text.specs.Texts.{all_given_text, begin_text, proof_text, proofs_text}
use Rattle.cep_text.specs.Reading.{numbered_by, Reader, literal_at, name_len, front_name, behind_name, small_at, givens_at, clause_at, begin_at, proofs_at, node_at, proof_at}
use Rattle.cep_term.specs.Tree.{Tree, AtomTree}
use Rattle.cep_rule.specs.Derivations.{ProofTree, ProofTrees, goal_by, proof_height, greatest_height}
use Rattle.cep_rule.specs.Patterns.{ClauseTree}
use Rattle.cep_rule.specs.Program.{IsProgram, IsTypedClause}
use Rattle.cep_rule.specs.Typing.{AreValues}
use Rattle.cep_rule.specs.Shapes.{AreAsMany, IsProofOf, AreProofsOf, IsSmallTerm, HasSmallValues, HaveSmallValues}
use Rattle.cep_rule.specs.declared.parts.Parts.{Parts}

-- The numbers of clauses, counted from 1.

pub numbered_none : (most : ℕ) (word : List ℕ) → ((n : ℕ) → n < most → word ≢ decimal (suc n)) → numbered_by most word ≡ None
unfolding numbered_by
numbered_none zero word none = refl
numbered_none (suc place) word none =
    rw (bytes_apart (decimal (suc place)) word (λ e. none place (omega arith) (sym e))) (numbered_none place word (λ n below. none n (omega arith)))

-- the word is the decimal of another number
pub numbered_other : (most number : ℕ) (word : List ℕ) → word ≡ decimal number → number < 2 ^ 32 → most < 2 ^ 32 → ((n : ℕ) → n < most → number ≢ suc n) → numbered_by most word ≡ None
numbered_other most number word is short few other = numbered_none most word (λ n below e. other n below (decimal_injective number (suc n) (omega arith) (omega arith) (sym is ∙ e)))

pub numbered_again : (most n : ℕ) (word : List ℕ) → most < 2 ^ 32 → n < most → word ≡ decimal (suc n) → numbered_by most word ≡ Some n
unfolding numbered_by
numbered_again zero n word few below is = absurd (omega arith)
numbered_again (suc place) n word few below is = grind (arith, decimal_injective, bytes_eq-Decides (decimal (suc place)) word, numbered_again place n word)

pub numbered_found : (most : ℕ) (word : List ℕ) (n : ℕ) → numbered_by most word ≡ Some n → (n < most) × (word ≡ decimal (suc n))
unfolding numbered_by
numbered_found zero word n e = absurd cc
numbered_found (suc place) word n e = grind (arith, some_is, bytes_eq-Decides (decimal (suc place)) word, numbered_found place word n)

-- a clause that is read
pub record ClauseFound (clauses : List ClauseTree) (bytes : List ℕ) (number : ℕ) (clause : ClauseTree) (rest : List ℕ) : Type 0 where
  pub numbered : slice_get clauses number ≡ Some clause
  pub text : bytes ≡ decimal (number + 1) ++ rest

clause_found : (clauses : List ClauseTree) (bytes : List ℕ) (number : ℕ) (clause : ClauseTree) (rest : List ℕ) → clause_at clauses bytes ≡ Some ((number, clause), rest) → ClauseFound clauses bytes number clause rest
unfolding clause_at
clause_found clauses bytes number clause rest e =
    by_bind (numbered_by (length clauses) (front_name bytes)) _ _ e (λ n n-is e.
    by_bind (slice_get clauses n) _ _ e (λ found found-is e.
    let name : front_name bytes ≡ decimal (n + 1) = (numbered_found (length clauses) (front_name bytes) n n-is).1 ∙ ap decimal (sym (add-one n)) in
    by_some (λ (x : (ℕ × ClauseTree) × List ℕ). ClauseFound clauses bytes x.0.0 x.0.1 x.1) _ ((number, clause), rest) e
    (record { numbered = found-is; text = sym (take-append-drop (name_len bytes) bytes) ∙ ap (λ front. front ++ behind_name bytes) name })))

pub clause_as_many : (program : Parts) (number : ℕ) (clause : ClauseTree) → IsProgram program → slice_get program.clauses number ≡ Some clause → length clause.kinds ≡ length clause.vars
clause_as_many program number clause keeps there = (all_at (IsTypedClause program.signature) program.clauses number clause keeps.typed_clauses there).kinds

-- The clause is there, its values are small and of its types, there are as many goals, and so begins the text.
pub record BeginFound (program : Parts) (bytes : List ℕ) (number : ℕ) (values : List Tree) (goals : ℕ) (rest : List ℕ) : Type 0 where
  pub clause : ClauseTree
  pub numbered : slice_get program.clauses number ≡ Some clause
  pub typed : AreValues program.signature.cons clause.kinds values
  pub small : AllByRecursion IsSmallTerm values
  pub as_many : length clause.goals ≡ goals
  pub text : bytes ≡ begin_text program number values ++ rest

begin_of_text : (program : Parts) (number : ℕ) (clause : ClauseTree) (values : List Tree) (rest : List ℕ) → slice_get program.clauses number ≡ Some clause
    → codes "[" ++ (decimal (number + 1) ++ (all_given_text program.signature clause.vars values ++ rest)) ≡ begin_text program number values ++ rest
begin_of_text program number clause values rest there = grind (arith, append_assoc, program.signature, clause.vars)

begin_found : (program : Parts) (bytes : List ℕ) (number : ℕ) (values : List Tree) (goals : ℕ) (rest : List ℕ) → IsProgram program
    → begin_at program (small_at program.signature.cons) bytes ≡ Some ((number, values, goals), rest) → BeginFound program bytes number values goals rest
unfolding begin_at
begin_found program bytes number values goals rest keeps e =
    by_bind (literal_at (codes "[") bytes) _ _ e (λ bracket bracket-is e.
    by_bind (clause_at program.clauses bracket) _ _ e (λ clause clause-is e.
    by_bind (givens_at (small_at program.signature.cons) clause.0.1.vars clause.0.1.kinds [] clause.1) _ _ e (λ given given-is e.
    let head = clause_found program.clauses bracket clause.0.0 clause.0.1 clause.1 clause-is in
    let found = givens_found program.signature clause.0.1.vars clause.0.1.kinds [] clause.1 given.0 given.1 (clause_as_many program clause.0.0 clause.0.1 keeps head.numbered) given-is in
    let same : found.values ≡ given.0 = sym found.behind in
    by_some (λ (x : (ℕ × List Tree × ℕ) × List ℕ). BeginFound program bytes x.0.0 x.0.1 x.0.2 x.1) _ ((number, values, goals), rest) e (record {
      clause = clause.0.1;
      numbered = head.numbered;
      typed = subst (AreValues program.signature.cons clause.0.1.kinds) same found.typed;
      small = subst (AllByRecursion IsSmallTerm) same found.small;
      as_many = refl;
      text = literal_found (codes "[") bytes bracket bracket-is
          ∙ ap (λ text. codes "[" ++ text) (head.text ∙ ap (λ text. decimal (clause.0.0 + 1) ++ text) (found.text ∙ ap (λ vs. all_given_text program.signature clause.0.1.vars vs ++ given.1) same))
          ∙ begin_of_text program clause.0.0 clause.0.1 given.0 given.1 head.numbered;
    }))))

-- The derivation is of the program's shape, small and low enough, and its text stands before the rest.
pub record ProofFound (program : Parts) (height : ℕ) (bytes : List ℕ) (proof : ProofTree) (rest : List ℕ) : Type 0 where
  pub of_clauses : IsProofOf program proof
  pub small : HasSmallValues proof
  pub low : proof_height proof ≤ height
  pub text : bytes ≡ proof_text program proof ++ rest

-- There are as many derivations, each such, and their texts stand before the rest.
pub record ProofsFound (program : Parts) (height goals : ℕ) (bytes : List ℕ) (proofs : ProofTrees) (rest : List ℕ) : Type 0 where
  pub as_many : (atoms : List AtomTree) → length atoms ≡ goals → AreAsMany proofs atoms
  pub of_clauses : AreProofsOf program proofs
  pub small : HaveSmallValues proofs
  pub low : greatest_height proofs ≤ height
  pub text : bytes ≡ proofs_text program proofs ++ rest

-- Each derivation that the reader gives is found so.
abbrev pub IsSoundProof : Parts → ℕ → Reader ProofTree → Type 0
IsSoundProof program height read = (bytes : List ℕ) (proof : ProofTree) (rest : List ℕ) → read bytes ≡ Some (proof, rest) → ProofFound program height bytes proof rest

more_as_many : (goals : ℕ) (proof : ProofTree) (proofs : ProofTrees) → ((atoms : List AtomTree) → length atoms ≡ goals → AreAsMany proofs atoms) → (atoms : List AtomTree) → length atoms ≡ suc goals → AreAsMany (goal_by proof proofs) atoms
more_as_many goals proof proofs many atoms e = grind arith

proofs_found : (program : Parts) (height : ℕ) (read : Reader ProofTree) → IsSoundProof program height read
    → (goals : ℕ) (bytes : List ℕ) (proofs : ProofTrees) (rest : List ℕ) → proofs_at read goals bytes ≡ Some (proofs, rest) → ProofsFound program height goals bytes proofs rest
unfolding proofs_at
proofs_found program height read sound zero bytes proofs rest e =
    by_some (λ (x : ProofTrees × List ℕ). ProofsFound program height zero bytes x.0 x.1) _ (proofs, rest) e (record { as_many = λ atoms none. grind (arith, none); of_clauses = tt; small = tt; low = omega arith; text = refl })
proofs_found program height read sound (suc goals) bytes proofs rest e =
    by_bind (literal_at (codes " ") bytes) _ (proofs, rest) e (λ space space-is e.
    by_bind (read space) _ (proofs, rest) e (λ first first-is e.
    by_bind (proofs_at read goals first.1) _ (proofs, rest) e (λ others others-is e.
    let one = sound space first.0 first.1 first-is in
    let all = proofs_found program height read sound goals first.1 others.0 others.1 others-is in
    by_some (λ (x : ProofTrees × List ℕ). ProofsFound program height (suc goals) bytes x.0 x.1) _ (proofs, rest) e (record {
      as_many = more_as_many goals first.0 others.0 all.as_many;
      of_clauses = (one.of_clauses, all.of_clauses);
      small = (one.small, all.small);
      low = omega (arith, one.low, all.low);
      text = literal_found (codes " ") bytes space space-is
          ∙ ap (λ text. codes " " ++ text) (one.text ∙ ap (λ text. proof_text program first.0 ++ text) all.text ∙ sym (append_assoc (proof_text program first.0) (proofs_text program others.0) others.1));
    }))))

node_found : (program : Parts) (height : ℕ) (read : Reader ProofTree) → IsProgram program → IsSoundProof program height read
    → (bytes : List ℕ) (proof : ProofTree) (rest : List ℕ) → node_at program (small_at program.signature.cons) read bytes ≡ Some (proof, rest) → ProofFound program (suc height) bytes proof rest
unfolding node_at
node_found program height read keeps sound bytes proof rest e =
    by_bind (begin_at program (small_at program.signature.cons) bytes) _ (proof, rest) e (λ begun begun-is e.
    by_bind (proofs_at read begun.0.2 begun.1) _ (proof, rest) e (λ subs subs-is e.
    by_bind (literal_at (codes "]") subs.1) _ (proof, rest) e (λ behind behind-is e.
    let head = begin_found program bytes begun.0.0 begun.0.1 begun.0.2 begun.1 keeps begun-is in
    let all = proofs_found program height read sound begun.0.2 begun.1 subs.0 subs.1 subs-is in
    let start = begin_text program begun.0.0 begun.0.1 in
    let goals = proofs_text program subs.0 in
    by_some (λ (x : ProofTree × List ℕ). ProofFound program (suc height) bytes x.0 x.1) _ (proof, rest) e (record {
      of_clauses = (
        some_and _ _ (λ clause. AreValues program.signature.cons clause.kinds begun.0.1) head.numbered head.typed,
        some_and _ _ (λ clause. AreAsMany subs.0 clause.goals) head.numbered (all.as_many head.clause.goals head.as_many),
        all.of_clauses,
      );
      small = (head.small, all.small);
      low = omega (arith, all.low);
      text = head.text
          ∙ ap (λ text. start ++ text) (all.text ∙ ap (λ text. goals ++ text) (literal_found (codes "]") subs.1 behind behind-is) ∙ sym (append_assoc goals (codes "]") behind))
          ∙ sym (append_assoc start (goals ++ codes "]") behind);
    }))))

pub proof_found : (program : Parts) (height : ℕ) → IsProgram program → IsSoundProof program height (proof_at program (small_at program.signature.cons) height)
unfolding proof_at
proof_found program zero keeps bytes proof rest e = absurd cc
proof_found program (suc height) keeps bytes proof rest e =
    node_found program height (proof_at program (small_at program.signature.cons) height) keeps (proof_found program height keeps) bytes proof rest e
