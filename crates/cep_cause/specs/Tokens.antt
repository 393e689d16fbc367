-- Tokens: the copies that a state is made of, each with a number of its own, and which of them a step picks.
use Rattle.std.specs.Prelude.{◌≡◌, ℕ, ◌+◌, ◌≤◌, Bool, false, not, ◌||◌, ◌==◌, if◌then◌else◌, List, [], ◌∷◌, map, filter, replicate, Contains}
use Rattle.std.specs.List.{flat_map}
use Rattle.std.specs.FinMap as finite
use Rattle.cep_term.specs.Tree.{Tree, AtomTree}
use Rattle.cep_term.specs.Multiset.{Multiset, gathered}
use Rattle.cep_rule.specs.declared.signature.Signature.{Signature}
use Rattle.cep_rule.specs.Patterns.{PremiseTree}
use Rattle.cep_rule.specs.Typing.{is_fact}
use Rattle.cep_rule.specs.Instances.{full_instance}

-- A token: a copy of an atom, by a number that no other token has.
pub record Token : Type 0 where
  pub number : ℕ
  pub atom : AtomTree

-- tokens for atoms, one each in order, numbered from here on
abbrev pub numbered : ℕ → List AtomTree → List Token
numbered next [] = []
numbered next (a ∷ atoms) = record { number = next; atom = a } ∷ numbered (next + 1) atoms

-- the atoms of tokens
abbrev pub token_atoms : List Token → List AtomTree
token_atoms tokens = map (λ token. token.atom) tokens

-- the state that is made of tokens
abbrev pub token_state : List Token → Multiset
token_state tokens = gathered (token_atoms tokens)

-- the copies of a state, in the order of its listing
abbrev pub listed_copies : Multiset → List AtomTree
listed_copies state = flat_map (λ e. replicate e.1 e.0) (finite.entries state)

-- the tokens of a start state, which are numbered from 0 in the order of its listing
abbrev pub start_tokens : Multiset → List Token
start_tokens state = numbered 0 (listed_copies state)

-- whether a token has this number
abbrev pub has_number : List Token → ℕ → Bool
has_number [] number = false
has_number (token ∷ tokens) number = token.number == number || has_number tokens number

-- the tokens that stay if some are removed
abbrev pub staying : List Token → List Token → List Token
staying removed present = filter (λ token. not (has_number removed token.number)) present

-- A token may be picked for an atom: it is present, it is of the atom, and if that is no fact it is
-- not used yet.
pub record CanBePicked (signature : Signature) (present used : List Token) (a : AtomTree)
    (token : Token) : Type 0 where
  pub there : Contains present token
  pub of_atom : token.atom ≡ a
  pub unused : is_fact signature a ≡ false → ¬ Contains used token

-- The token is picked for an atom: of those that may be, it is the one of least number.
pub record IsPick (signature : Signature) (present used : List Token) (a : AtomTree)
    (token : Token) : Type 0 where
  pub can : CanBePicked signature present used a token
  pub least : (other : Token) → CanBePicked signature present used a other
      → token.number ≤ other.number

-- The tokens are picked for the instances of premises, one each in written order, and none for two
-- linear premises.
abbrev pub ArePicks : Signature → List Tree → List Token → List Token → List PremiseTree
    → List Token → Type 0
ArePicks signature values present used [] [] = Unit {0}
ArePicks signature values present used [] (token ∷ tokens) = ⊥
ArePicks signature values present used (premise ∷ premises) [] = ⊥
ArePicks signature values present used (premise ∷ premises) (token ∷ tokens) =
    IsPick signature present used (full_instance values premise.atom) token
    × ArePicks signature values present (token ∷ used) premises tokens

-- the tokens that are picked for premises that do not stay
abbrev pub picked_to_go : Signature → List PremiseTree → List Token → List Token
picked_to_go signature [] tokens = []
picked_to_go signature (premise ∷ premises) [] = []
picked_to_go signature (premise ∷ premises) (token ∷ tokens) =
    if premise.kept || is_fact signature premise.atom
    then picked_to_go signature premises tokens
    else token ∷ picked_to_go signature premises tokens
