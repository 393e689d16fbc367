-- Kinds of predicates.
use Rattle.std.specs.Prelude.{Bool, true, false}
use Rattle.cep_base.specs.declared.kind.PredKind.{PredKind}
use Rattle.cep_base.specs.declared.kind.PredKind.TheVariants.{Linear, Back, Fact}

-- whether clauses define the predicates of this kind; of all others states have atoms
abbrev pub is_backward : PredKind → Bool
is_backward Linear = false
is_backward Back = true
is_backward Fact = false

-- whether the atoms of this kind are facts, which a state holds once or not at all
abbrev pub is_of_facts : PredKind → Bool
is_of_facts Linear = false
is_of_facts Back = false
is_of_facts Fact = true
