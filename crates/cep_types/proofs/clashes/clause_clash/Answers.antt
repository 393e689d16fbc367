use Rattle.std.proofs.Common.{[], ◌∷◌, append-nil}
use Rattle.cep_source.specs.Kept.{atom_at}
use Rattle.cep_types.proofs.Meeting.{two_found}
use Rattle.cep_types.proofs.clashes.clause_clash.Goals as goal

pub returns : goal.returns
returns c =
    two_found c.args.source.now (atom_at c.args.clause.now.head ∷ []) c.args.clause.now.goals.now c.in_ok-variables.variables c.in_ok-first.first c.in_ok-other.other c.first_of.result c.in_ok-variables.ensures
    (rw append-nil c.in_ok-first.ensures) c.in_ok-other.ensures c.first_of.ensures
