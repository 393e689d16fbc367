use Rattle.std.proofs.Common.{◌≡◌, take, map}
use Rattle.cep_base.specs.FirstNames.{names_among}
use Rattle.cep_text.proofs.name_table.fill.Given as goal

abbrev pub invariant-loop-i : goal.invariant-loop-i
invariant-loop-i g l = names_among l.table ≡ take l.i (map g.T.Named.name_of l.items)
