-- What a premise counts as: by the declaration of its predicate.
use Rattle.std.specs.Prelude.{false, not, List, filter, unwrap_or}
use Rattle.std.specs.Option.{option_map}
use Rattle.cep_base.specs.Kinds.{is_backward}
use Rattle.cep_parse.specs.declared.raw.RawAtom.{RawAtom}
use Rattle.cep_parse.specs.declared.raw.RawRule.{RawRule}
use Rattle.cep_parse.specs.Raw.{atoms_of}
use Rattle.cep_source.specs.Items.{Source}
use Rattle.cep_source.specs.Spaces.{kind_of}

-- the premises of a rule that are of states, and the backward ones
abbrev pub state_premises_of : Source → RawRule → List RawAtom
state_premises_of source rule = filter (λ atom. unwrap_or (option_map (λ its. not (is_backward its)) (kind_of source atom)) false) (atoms_of rule.left)

abbrev pub backward_of : Source → RawRule → List RawAtom
backward_of source rule = filter (λ atom. unwrap_or (option_map is_backward (kind_of source atom)) false) (atoms_of rule.left)
