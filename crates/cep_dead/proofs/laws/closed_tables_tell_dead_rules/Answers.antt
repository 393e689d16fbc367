use Rattle.std.proofs.Common.{◌≡◌, true}
use Rattle.cep_reach.proofs.Growing.{dead_by_table}
use Rattle.cep_dead.proofs.laws.closed_tables_tell_dead_rules.Goals as goal

pub returns : goal.returns
returns c = λ program has rule closed within. dead_by_table program (λ item. has item ≡ true) rule closed within
