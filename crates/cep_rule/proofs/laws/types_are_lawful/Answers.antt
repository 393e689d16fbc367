use Rattle.cep_rule.proofs.StepLaws.{ground_instance, typed_instance, atom_in_range, as_many_values}
use Rattle.cep_rule.proofs.TypedValues.{term_values, args_values, term_typed, args_typed, values_from_each, values_to_each}
use Rattle.cep_rule.proofs.laws.types_are_lawful.Goals as goal

pub returns : goal.returns
returns c = record {
  in_range = atom_in_range;
  as_many = as_many_values;
  ground = ground_instance;
  typed = typed_instance;
  typed_at = term_values;
  all_typed_at = args_values;
  typed_by = term_typed;
  all_typed_by = args_typed;
  from_each = values_from_each;
  to_each = values_to_each;
}
