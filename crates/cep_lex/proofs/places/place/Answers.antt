use Rattle.std.proofs.Common.{[]}
use Rattle.cep_lex.proofs.GapLemmas.{place_start}
use Rattle.cep_lex.proofs.places.place.Goals as goal

pub returns : goal.returns
returns c = c.place_after.ensures [] place_start
