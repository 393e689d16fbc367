use Rattle.std.proofs.Common.{◌∙◌}
use Rattle.cep_text.proofs.TableLemmas.{number_seen}
use Rattle.cep_text.proofs.name_table.find.Goals as goal

pub returns : goal.returns
returns c = c.number.ensures ∙ number_seen (λ entry. entry.0) c.args.name.now c.args.table.now
