-- Premises and clauses as plain records, whose atoms are trees.
use Rattle.std.specs.Prelude.{ℕ, Bool, List, refl}
use Rattle.std.specs.Coded.{Coded, code_by, coded×, coded_list, coded_ℕ, coded_bool}
use Rattle.cep_term.specs.Tree.{AtomTree, atom_of}
use Rattle.cep_term.specs.Codes.{atom_code}
use Rattle.cep_rule.specs.declared.rule.Premise.{Premise}
use Rattle.cep_rule.specs.declared.clause.Clause.{Clause}

-- A premise of a rule that a state has to meet: an atom that is needed, and whether the rule keeps it.
pub record PremiseTree : Type 0 where
  pub atom : AtomTree
  pub kept : Bool

-- A clause: the names and the types of its variables, its head, and its goals in written order.
pub record ClauseTree : Type 0 where
  pub vars : List (List ℕ)
  pub kinds : List ℕ
  pub head : AtomTree
  pub goals : List AtomTree

-- what a premise with boxes stands for
abbrev pub premise_of : Premise → PremiseTree
premise_of p = record { atom = atom_of p.atom; kept = p.kept }

-- what a clause with boxes stands for
abbrev pub clause_of : Clause → ClauseTree
clause_of c = record { vars = c.vars; kinds = c.kinds; head = atom_of c.head; goals = c.goals }

-- a premise is stored as its fields
abbrev pub premise_code : Coded PremiseTree
premise_code =
    code_by (AtomTree × Bool) (coded× atom_code coded_bool)
    (λ p. (p.atom, p.kept)) (λ parts. record { atom = parts.0; kept = parts.1 }) (λ _. refl)

-- a clause is stored as its fields
abbrev pub clause_code : Coded ClauseTree
clause_code =
    code_by (List (List ℕ) × (List ℕ × (AtomTree × List AtomTree)))
    (coded× (coded_list (coded_list coded_ℕ)) (coded× (coded_list coded_ℕ) (coded× atom_code (coded_list atom_code))))
    (λ c. (c.vars, (c.kinds, (c.head, c.goals)))) (λ parts. record { vars = parts.0; kinds = parts.1.0; head = parts.1.1.0; goals = parts.1.1.1 }) (λ _. refl)
