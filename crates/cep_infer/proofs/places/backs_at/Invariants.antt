use Rattle.std.proofs.Common.{◌≡◌, false, map, filter, take}
use Rattle.std.specs.Prelude.{unwrap_or}
use Rattle.std.specs.Option.{option_map}
use Rattle.cep_base.specs.Kinds.{is_backward}
use Rattle.cep_parse.specs.Raw.{atoms_of}
use Rattle.cep_source.specs.Spaces.{kind_of}
use Rattle.cep_infer.proofs.places.backs_at.Given as goal

abbrev pub invariant-loop-elem : goal.invariant-loop-elem
invariant-loop-elem l = l.ats.items ≡ map (λ atom. atom.name.from) (filter (λ atom. unwrap_or (option_map is_backward (kind_of l.source atom)) false) (atoms_of (take l.elem-index l.elem-items)))
