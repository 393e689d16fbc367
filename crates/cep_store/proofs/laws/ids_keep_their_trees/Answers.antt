use Rattle.cep_store.proofs.Additions.{parts_stay, args_stay_held}
use Rattle.cep_store.proofs.laws.ids_keep_their_trees.Goals as goal

pub returns-clause-parts : goal.returns-clause-parts
returns-clause-parts c = parts_stay

pub returns-clause-args : goal.returns-clause-args
returns-clause-args c = args_stay_held
