-- What matching finds, on which proofs of other crates rest.
use Rattle.std.specs.Prelude.{◌≡◌, length, Some}
use Rattle.cep_term.specs.Tree.{Tree, Trees, IsGround, AreGround, Occurs, OccursAmong, IsInRange, AreInRange}
use Rattle.cep_term.specs.Values.{Values, term_instance, argument_instances, Extends, Grows}
use Rattle.cep_term.specs.Matching.{matched, matched_all}

-- Matching from left to right finds values by which a pattern is a ground term, and sets only those that it needs; and where some further values make the two equal, it finds values that these keep. So too for arguments.
pub record MatchingLaws : Type 0 where
  pub found : (pattern target : Tree) (old new : Values) → IsInRange (length old) pattern → IsGround target → matched old pattern target ≡ Some new → (term_instance new pattern ≡ target) × Grows (λ v. Occurs v pattern) old new
  pub all_found : (patterns targets : Trees) (old new : Values) → AreInRange (length old) patterns → AreGround targets → matched_all old patterns targets ≡ Some new → (argument_instances new patterns ≡ targets) × Grows (λ v. OccursAmong v patterns) old new
  pub least : (pattern target : Tree) (old other : Values) → IsInRange (length old) pattern → IsGround target → Extends old other → term_instance other pattern ≡ target → (new : Values) × (matched old pattern target ≡ Some new) × Extends new other
  pub all_least : (patterns targets : Trees) (old other : Values) → AreInRange (length old) patterns → AreGround targets → Extends old other → argument_instances other patterns ≡ targets → (new : Values) × (matched_all old patterns targets ≡ Some new) × Extends new other
