use Rattle.std.proofs.Common.{◌≡◌, take}
use Rattle.std.specs.List.{flat_map}
use Rattle.cep_round.specs.Rounds.{admitted}
use Rattle.cep_round.specs.Sides.{needed_by, given_by}
use Rattle.cep_round.proofs.round.together.Given as goal

abbrev pub invariant-loop-i : goal.invariant-loop-i
invariant-loop-i l =
    (l.needed ≡ flat_map (needed_by l.program) (admitted (take l.i l.chosen) (take l.i l.flags)))
    × (l.given ≡ flat_map (given_by l.program) (admitted (take l.i l.chosen) (take l.i l.flags)))
