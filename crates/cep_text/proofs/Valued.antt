-- The constructors of values are declared.
use Rattle.std.proofs.Common.{◌≡◌, ℕ, List, [], ◌∷◌, arith, length, sym, ◌∙◌}
use Rattle.std.specs.Prelude.{Option, slice_get, IsSomeAnd, Some}
use Rattle.std.specs.List.{AllByRecursion}
use Rattle.cep_term.specs.Tree.{Tree, Trees, variable, node, none, more, IsGround, AreGround}
use Rattle.cep_rule.specs.Patterns.{ClauseTree}
use Rattle.cep_rule.specs.declared.rule.Rule.{Rule}
use Rattle.cep_rule.specs.Program.{IsProgram, IsTypedRule}
use Rattle.cep_rule.specs.Typing.{HasSort, HaveSorts, AreValues}
use Rattle.cep_rule.specs.declared.signature.PredDecl.{PredDecl}
use Rattle.cep_rule.specs.Shapes.{IsOfferOf, IsNodeOf}
use Rattle.cep_rule.specs.declared.offer.Offer.{Offer}
use Rattle.cep_rule.specs.declared.parts.Parts.{Parts}
use Rattle.cep_rule.specs.declared.signature.Con.{Con}
use Rattle.cep_text.specs.Texts.{HasNames, HaveNames}
use Rattle.cep_base.proofs.Lists.{holds_at as found_in}
use Rattle.cep_base.proofs.Options.{some_weaker}
use Rattle.cep_rule.proofs.StepLaws.{as_many_values}

-- The constructors of a well-typed ground term are declared.

-- the types that the constructor declares for its arguments
sorts_for : (cons : List Con) (sort : ℕ) (args : Trees) (found : Option Con) → IsSomeAnd found (λ con. (con.sort ≡ sort) × HaveSorts cons [] con.args args) → (sorts : List ℕ) × HaveSorts cons [] sorts args
sorts_for cons sort args found typed = grind arith

mutual
  pub has_names : (cons : List Con) (sort : ℕ) (t : Tree) → IsGround t → HasSort cons [] sort t → HasNames cons t
  has_names cons sort (variable v) g typed = g
  has_names cons sort (node c args) g typed =
      let found = sorts_for cons sort args (slice_get cons c) typed in
      (some_weaker (slice_get cons c) _ _ (λ con of. tt) typed, have_names cons found.0 args g found.1)

  pub have_names : (cons : List Con) (sorts : List ℕ) (args : Trees) → AreGround args → HaveSorts cons [] sorts args → HaveNames cons args
  have_names cons (sort ∷ sorts) (more t rest) g typed = (has_names cons sort t g.0 typed.0, have_names cons sorts rest g.1 typed.1)
  have_names cons sorts none g typed = tt
  have_names cons sorts args g typed = absurd typed

-- so are those of an atom
pub atom_names : (cons : List Con) (args : Trees) (found : Option PredDecl) → AreGround args → IsSomeAnd found (λ pred. HaveSorts cons [] pred.args args) → HaveNames cons args
atom_names cons args found g typed = grind (arith, have_names)

-- Values for the variables of a rule or a clause: there are as many as variables, and their constructors are declared.

pub all_declared : (cons : List Con) (kinds : List ℕ) (values : List Tree) → AreValues cons kinds values → AllByRecursion (HasNames cons) values
all_declared cons (sort ∷ kinds) (t ∷ values) all = (has_names cons sort t all.0.ground all.0.typed, all_declared cons kinds values all.1)
all_declared cons kinds values all = grind arith

pub offer_values : (program : Parts) (offer : Offer) (rule : Rule) → IsOfferOf program offer → slice_get program.rules offer.rule ≡ Some rule → AreValues program.signature.cons rule.kinds offer.values
offer_values program offer rule is found = rw found at is

pub rule_as_many : (program : Parts) (offer : Offer) (rule : Rule) → IsProgram program → IsOfferOf program offer → slice_get program.rules offer.rule ≡ Some rule → length rule.vars ≡ length offer.values
rule_as_many program offer rule keeps is found = sym (found_in (IsTypedRule program.signature) program.rules offer.rule rule keeps.typed_rules found).kinds ∙ sym (as_many_values program.signature.cons rule.kinds offer.values (offer_values program offer rule is found))

pub node_values : (program : Parts) (number : ℕ) (values : List Tree) (clause : ClauseTree) → IsNodeOf program number values → slice_get program.clauses number ≡ Some clause → AreValues program.signature.cons clause.kinds values
node_values program number values clause is found = rw found at is

pub clause_as_many : (program : Parts) (number : ℕ) (values : List Tree) (clause : ClauseTree) → IsProgram program → IsNodeOf program number values → slice_get program.clauses number ≡ Some clause → length clause.vars ≡ length values
clause_as_many program number values clause keeps is found = grind (arith, found_in, as_many_values, node_values)
