use Rattle.cep_infer.proofs.RulesInTurn.{atom_made, filled}
use Rattle.cep_infer.proofs.laws.atoms_are_made_of_tokens.Goals as goal

pub returns : goal.returns
returns c = record { made = atom_made c.items_are_made_of_tokens.ensures.made; filled = filled c.items_are_made_of_tokens.ensures.made }
