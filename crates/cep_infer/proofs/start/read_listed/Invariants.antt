use Rattle.std.proofs.Common.{[], take}
use Rattle.cep_parse.specs.declared.raw.RawStart.TheVariants as start
use Rattle.cep_source.specs.Starts.{start_atoms}
use Rattle.cep_base.specs.FirstNames.{names_among}
use Rattle.cep_infer.specs.Built.{AreBuilt}
use Rattle.cep_infer.proofs.start.read_listed.Given as goal

abbrev pub invariant-loop-raw : goal.invariant-loop-raw
invariant-loop-raw l = AreBuilt l.source (names_among l.none.firsts) (start_atoms l.source (start.Listed (take l.raw-index l.raws))) 0 l.blanks [] l.atoms
