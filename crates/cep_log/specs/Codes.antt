-- Derivations as lists of nodes, by which proofs tell them apart.
use Rattle.std.specs.Prelude.{◌≡◌, ℕ, List, [], ◌∷◌}
use Rattle.std.specs.Coded.{Coded, coded_ℕ, coded_list, coded×}
use Rattle.std.proofs.Common.{refl, sym, ap, arith}
use base.Stored.{coded_via}
use Rattle.cep_term.specs.Tree.{Tree, AtomTree}
use Rattle.cep_term.specs.Codes.{tree_code, atom_code}
use Rattle.cep_rule.specs.Derivations.{ProofTree, ProofTrees, by_clause, no_goal, goal_by}

-- the nodes of a derivation, before others
abbrev mutual
  pub node_list : ProofTree → List (ℕ × List Tree) → List (ℕ × List Tree)
  node_list (by_clause number values subs) behind = (number, values) ∷ node_lists subs behind

  pub node_lists : ProofTrees → List (ℕ × List Tree) → List (ℕ × List Tree)
  node_lists no_goal behind = (0, []) ∷ behind
  node_lists (goal_by proof proofs) behind = (1, []) ∷ node_list proof (node_lists proofs behind)

-- what ends the goals begins no other goal
no_other_goal : {X : Type 0} (k l : List (ℕ × List Tree)) → (0, []) ∷ k ≡ (1, []) ∷ l → X
no_other_goal k l same =
    let head : ◌≡◌ {A = ℕ × List Tree} (0, []) (1, []) = cc in
    let numbers : ◌≡◌ {A = ℕ} 0 1 = ap (λ node. node.0) head in
    absurd (omega arith)

-- Lists that begin with derivations and are equal have equal derivations, and the same after them.
mutual
  pub node_list_injective : (d e : ProofTree) (k l : List (ℕ × List Tree)) → node_list d k ≡ node_list e l → (d ≡ e) × (k ≡ l)
  node_list_injective (by_clause m us ds) (by_clause n vs es) k l same =
      let head : ◌≡◌ {A = ℕ × List Tree} (m, us) (n, vs) = cc in
      let numbers : m ≡ n = λ i. (head i).0 in
      let values : us ≡ vs = λ i. (head i).1 in
      let rest = node_lists_injective ds es k l (cc) in
      let subs = rest.0 in
      ((cc), rest.1)

  pub node_lists_injective : (ds es : ProofTrees) (k l : List (ℕ × List Tree)) → node_lists ds k ≡ node_lists es l → (ds ≡ es) × (k ≡ l)
  node_lists_injective no_goal no_goal k l same = (refl, cc)
  node_lists_injective no_goal (goal_by e es) k l same = no_other_goal k (node_list e (node_lists es l)) same
  node_lists_injective (goal_by d ds) no_goal k l same = no_other_goal l (node_list d (node_lists ds k)) (sym same)
  node_lists_injective (goal_by d ds) (goal_by e es) k l same =
      let first = node_list_injective d e (node_lists ds k) (node_lists es l) (cc) in
      let rest = node_lists_injective ds es k l first.1 in
      let head = first.0 in
      let tail = rest.0 in
      ((cc), rest.1)

pub proof_injective : (d e : ProofTree) → node_list d [] ≡ node_list e [] → d ≡ e
proof_injective d e same = (node_list_injective d e [] [] same).0

-- the code of a derivation
abbrev pub proof_code : Coded ProofTree
proof_code = coded_via (coded_list (coded× coded_ℕ (coded_list tree_code))) (λ d. node_list d []) proof_injective

-- the code of an entry of a listing
abbrev pub entry_code : Coded (AtomTree × ℕ)
entry_code = coded× atom_code coded_ℕ
