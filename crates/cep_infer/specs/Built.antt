-- Private.
-- Atoms and premises that are built one after another, after others.
use Rattle.std.specs.Prelude.{◌≡◌, ℕ, not, List, [], ◌++◌, map, filter}
use Rattle.cep_parse.specs.declared.raw.RawAtom.{RawAtom}
use Rattle.cep_parse.specs.declared.raw.RawElem.{RawElem}
use Rattle.cep_parse.specs.declared.raw.RawRule.{RawRule}
use Rattle.cep_term.specs.Tree.{AtomTree}
use Rattle.cep_rule.specs.Patterns.{PremiseTree}
use Rattle.cep_source.specs.Items.{Source}
use Rattle.cep_parse.specs.Raw.{atoms_of, raw_nodes}
use Rattle.cep_infer.specs.Heads.{AreAtomsBy}
use Rattle.cep_infer.specs.declared.left.LeftSide.{LeftSide}
use Rattle.cep_infer.specs.declared.rules.Sides.{Sides}
use Rattle.cep_infer.specs.Meaning.{ArePremisesBy, is_back}
use Rattle.cep_source.specs.Variables.{blanks_after}

-- After the old atoms stand those that are written; so many blanks stand before these, and so many after them.
pub record AreBuilt (source : Source) (vars : List (List ℕ)) (raws : List RawAtom) (before behind : ℕ) (old new : List AtomTree) : Type 0 where
  pub more : List AtomTree
  pub new_is : new ≡ old ++ more
  pub are : AreAtomsBy source vars before raws more
  pub behind_is : behind ≡ blanks_after before (raw_nodes raws)

-- After the old premises stand those that are written, the linear ones and the backward ones.
pub record IsLeftBuilt (source : Source) (vars : List (List ℕ)) (side : List RawElem) (before behind : ℕ) (old new : LeftSide) : Type 0 where
  pub more : List PremiseTree
  pub are : ArePremisesBy source vars before side more
  pub premises_are : new.premises ≡ old.premises ++ filter (λ premise. not (is_back source premise.atom)) more
  pub backs_are : new.backs ≡ old.backs ++ map (λ premise. premise.atom) (filter (λ premise. is_back source premise.atom) more)
  pub behind_is : behind ≡ blanks_after before (raw_nodes (atoms_of side))

-- The sides are those that are written: so many blanks stand on the left.
pub record AreSidesBuilt (source : Source) (vars : List (List ℕ)) (rule : RawRule) (sides : Sides) : Type 0 where
  pub behind : ℕ
  pub left_is : IsLeftBuilt source vars rule.left 0 behind (record { premises = []; backs = [] }) sides.left
  pub right_is : AreAtomsBy source vars behind (atoms_of rule.right) sides.right
