-- Runs as lists of states, for weights: by any rules, whatever the stage, and however large a state becomes.
use Rattle.std.specs.Prelude.{◌≡◌, ℕ, ◌/◌, ◌≤◌, List, [], ◌∷◌, length, slice_get, Some, Contains, pos, ◌≤ℤ◌}
use Rattle.std.specs.List.{AllByRecursion}
use Rattle.cep_term.specs.Tree.{Tree}
use Rattle.cep_term.specs.Multiset.{Multiset}
use Rattle.cep_rule.specs.declared.rule.Rule.{Rule}
use Rattle.cep_rule.specs.declared.parts.Parts.{Parts}
use Rattle.cep_rule.specs.Step.{Step}
use Rattle.cep_claim.specs.declared.weight.Claim.{Claim}
use Rattle.cep_claim.specs.declared.weight.Claim.TheVariants.{Keep, Most, Fall}
use Rattle.cep_claim.specs.declared.weight.Part.{Part}
use Rattle.cep_weigh.specs.Weights.{weight_of, copies_of_pred, Wants, ArePositive}

-- One state follows another: by a step of some rule of the program, with some values for its variables.
pub record Follows (program : Parts) (old new : Multiset) : Type 0 where
  pub rule : Rule
  pub of_program : Contains program.rules rule
  pub values : List Tree
  pub step : Step program.signature rule values old new

-- A run from a state: each state follows the one before it. (The first is not listed, so the run has as many steps as the list is long.)
abbrev pub IsRun : Parts → Multiset → List Multiset → Type 0
IsRun program state [] = Unit {0}
IsRun program state (next ∷ later) = Follows program state next × IsRun program next later

-- From each state of a run to the next the weight becomes what the claim wants.
abbrev pub GoesAsClaimed : Claim → List Part → Multiset → List Multiset → Type 0
GoesAsClaimed claim parts state [] = Unit {0}
GoesAsClaimed claim parts state (next ∷ later) = Wants claim (weight_of parts state) (weight_of parts next) × GoesAsClaimed claim parts next later

-- What the claim says of a whole run: each state has the weight of the first; none is heavier than one before it; or there are at most as many steps as the first state weighs.
abbrev pub HoldsOfRun : Claim → List Part → Multiset → List Multiset → Type 0
HoldsOfRun Keep parts state run = AllByRecursion (λ later. weight_of parts later ≡ weight_of parts state) run
HoldsOfRun Most parts state run = GoesAsClaimed Most parts state run
HoldsOfRun Fall parts state run = pos (length run) ≤ℤ weight_of parts state

-- No state of the run has more copies of a part's predicate than the weight of the first divided by the part's factor, rounded down.
abbrev pub BoundsCopies : List Part → Multiset → List Multiset → Type 0
BoundsCopies parts state run =
    (part : Part) (later : Multiset) (weight factor : ℕ) → Contains parts part → part.factor ≡ pos factor → weight_of parts state ≡ pos weight
    → Contains (state ∷ run) later → copies_of_pred later part.pred ≤ weight / factor

-- A claim holds: of each run from the start, and where all factors are positive it bounds the copies in each.
pub record HoldsOfRuns (program : Parts) (claim : Claim) (parts : List Part) : Type 0 where
  pub runs : (run : List Multiset) → IsRun program program.start run → HoldsOfRun claim parts program.start run
  pub bounds : ArePositive parts → (run : List Multiset) → IsRun program program.start run → BoundsCopies parts program.start run

-- Each step by the rule with this number breaks the claim: the weight does not become what it wants.
abbrev pub BreaksSteps : Parts → Claim → List Part → ℕ → Type 0
BreaksSteps program claim parts number =
    (rule : Rule) (values : List Tree) (old new : Multiset) → slice_get program.rules number ≡ Some rule → Step program.signature rule values old new
    → ¬ Wants claim (weight_of parts old) (weight_of parts new)
