use Rattle.cep_parse.proofs.Within.{well_written, no_more_items}
use Rattle.cep_parse.proofs.laws.items_are_made_of_tokens.Goals as goal

pub returns : goal.returns
returns c = record { made = well_written; few = no_more_items }
