-- Matching as it goes from left to right: each variable takes the first term that it meets, and later meets no other.
use Rattle.std.specs.Prelude.{ℕ, ◌==◌, if◌then◌else◌, Option, Some, None, slice_set, option_and_then}
use Rattle.std.specs.Ordering.{is_eq}
use Rattle.cep_term.specs.Tree.{Tree, Trees, variable, node, none, more}
use Rattle.cep_term.specs.Order.{tree_cmp}
use Rattle.cep_term.specs.Values.{Values, value_of}

-- the values after a variable with this value met the term, and None where it has another value
abbrev pub matched_value : Option Tree → Values → ℕ → Tree → Option Values
matched_value (Some s) values v t = if is_eq (tree_cmp s t) then Some values else None
matched_value None values v t = Some (slice_set values v (Some t))

-- the values after the pattern met the term from these values on, and None where it does not
abbrev mutual
  pub matched : Values → Tree → Tree → Option Values
  matched values (variable v) t = matched_value (value_of values v) values v t
  matched values (node c args) (variable w) = None
  matched values (node c args) (node d others) = if c == d then matched_all values args others else None

  pub matched_all : Values → Trees → Trees → Option Values
  matched_all values none none = Some values
  matched_all values none (more u others) = None
  matched_all values (more t rest) none = None
  matched_all values (more t rest) (more u others) = option_and_then (λ met. matched_all met rest others) (matched values t u)
