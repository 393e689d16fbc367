-- Terms and atoms as plain trees, without boxes; their sizes, and which of them are ground and fit.
use Rattle.std.specs.Prelude.{◌≡◌, ℕ, ◌+◌, ◌<◌, ◌≤◌, ◌⊎◌, max}
use Rattle.cep_term.specs.declared.term.Term.{Term}
use Rattle.cep_term.specs.declared.term.Term.TheVariants.{Var, App}
use Rattle.cep_term.specs.declared.term.Args.{Args}
use Rattle.cep_term.specs.declared.term.Args.TheVariants.{Nil, Cons'}
use Rattle.cep_term.specs.declared.term.Atom.{Atom}
use Rattle.cep_base.specs.declared.limits.TheConstants.{MOST_DEPTH, MOST_NODES}

mutual
  -- a term: a variable by its number, or a constructor by its number with one term for each argument
  pub data Tree : Type 0 where
    variable : ℕ → Tree
    node : ℕ → Trees → Tree

  -- the arguments, in written order
  pub data Trees : Type 0 where
    none : Trees
    more : Tree → Trees → Trees

-- an atom: a predicate by its number, with one term for each argument
pub record AtomTree : Type 0 where
  pub pred : ℕ
  pub args : Trees

-- the tree of a term, and of a list of arguments
abbrev mutual
  pub tree_of : Term → Tree
  tree_of (Var v) = variable v
  tree_of (App c args) = node c (trees_of args)

  pub trees_of : Args → Trees
  trees_of Nil = none
  trees_of (Cons' p t rest) = more (tree_of t) (trees_of rest)

-- the tree of an atom
abbrev pub atom_of : Atom → AtomTree
atom_of a = record { pred = a.pred; args = trees_of a.args }

-- There are no variables in the term, nor in any argument.
abbrev mutual
  pub IsGround : Tree → Type 0
  IsGround (variable v) = ⊥
  IsGround (node c args) = AreGround args

  pub AreGround : Trees → Type 0
  AreGround none = Unit {0}
  AreGround (more t rest) = IsGround t × AreGround rest

-- There are no variables in the atom.
abbrev pub IsGroundAtom : AtomTree → Type 0
IsGroundAtom a = AreGround a.args

-- how many variables, constructors and predicates there are: a variable counts 1, and else the head counts 1
abbrev mutual
  pub term_nodes : Tree → ℕ
  term_nodes (variable v) = 1
  term_nodes (node c args) = 1 + argument_nodes args

  pub argument_nodes : Trees → ℕ
  argument_nodes none = 0
  argument_nodes (more t rest) = term_nodes t + argument_nodes rest

-- how many nodes the atom has
abbrev pub atom_nodes : AtomTree → ℕ
atom_nodes a = 1 + argument_nodes a.args

-- how many levels there are: 1 without arguments, and else 1 more than the deepest argument
abbrev mutual
  pub term_depth : Tree → ℕ
  term_depth (variable v) = 1
  term_depth (node c args) = 1 + argument_depth args

  pub argument_depth : Trees → ℕ
  argument_depth none = 0
  argument_depth (more t rest) = max (term_depth t) (argument_depth rest)

-- how many levels the atom has
abbrev pub atom_depth : AtomTree → ℕ
atom_depth a = 1 + argument_depth a.args

-- The atom is small enough to be kept in a state or a derivation.
pub record IsFit (a : AtomTree) : Type 0 where
  pub nodes : atom_nodes a ≤ MOST_NODES
  pub depth : atom_depth a ≤ MOST_DEPTH

-- The variable occurs in the term, or in some argument.
abbrev mutual
  pub Occurs : ℕ → Tree → Type 0
  Occurs v (variable w) = v ≡ w
  Occurs v (node c args) = OccursAmong v args

  pub OccursAmong : ℕ → Trees → Type 0
  OccursAmong v none = ⊥
  OccursAmong v (more t rest) = Occurs v t ⊎ OccursAmong v rest

-- The variable occurs in the atom.
abbrev pub OccursIn : ℕ → AtomTree → Type 0
OccursIn v a = OccursAmong v a.args

-- Each variable of the term, or of the arguments, is one of so many, numbered from 0.
abbrev mutual
  pub IsInRange : ℕ → Tree → Type 0
  IsInRange vars (variable v) = v < vars
  IsInRange vars (node c args) = AreInRange vars args

  pub AreInRange : ℕ → Trees → Type 0
  AreInRange vars none = Unit {0}
  AreInRange vars (more t rest) = IsInRange vars t × AreInRange vars rest

-- Each variable of the atom is one of so many.
abbrev pub IsAtomInRange : ℕ → AtomTree → Type 0
IsAtomInRange vars a = AreInRange vars a.args
