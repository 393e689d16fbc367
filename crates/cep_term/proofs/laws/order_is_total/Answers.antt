use Rattle.cep_term.proofs.OrderLaws.{tree_cmp_total, tree_cmp_ties, atom_cmp_total, atom_cmp_ties}
use Rattle.cep_term.proofs.laws.order_is_total.Goals as goal

pub returns : goal.returns
returns c = record { terms = tree_cmp_total; equal_terms = tree_cmp_ties; atoms = atom_cmp_total; equal_atoms = atom_cmp_ties }
