use Rattle.std.proofs.Common.{rules}
use Rattle.cep_lines.specs.Lines.{expected_listing}
use Rattle.cep_lines.proofs.deed.put_expected_listing.Goals as goal

pub returns-then-lists-clause-ok : goal.returns-then-lists-clause-ok
unfolding expected_listing
returns-then-lists-clause-ok c = search rules
