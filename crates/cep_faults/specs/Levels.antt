-- Private.
-- The terms that are still to come within an atom, by their levels.
use Rattle.std.specs.Prelude.{ℕ, Bool, List, [], ◌∷◌, ◌++◌, nat_le}
use Rattle.std.specs.List.{repeat}
use Rattle.cep_parse.specs.declared.raw.RawNode.{RawNode}
use Rattle.cep_base.specs.declared.limits.TheConstants.{MOST_DEPTH}
use Rattle.cep_faults.specs.declared.limits.Run.{Run}
use Rattle.cep_source.specs.Starts.{levels, greatest}

-- the levels of the terms that runs stand for, those of the last run first
abbrev pub pending : List Run → List ℕ
pending [] = []
pending (run ∷ above) = pending above ++ run.level ∷ repeat run.more (run.level ∷ [])

-- whether no node stands too deep, where the next ones stand on these levels
abbrev pub is_shallow : List ℕ → List RawNode → Bool
is_shallow next nodes = nat_le (greatest (levels next nodes)) MOST_DEPTH
