use Rattle.cep_text.proofs.Valued.{has_names}
use Rattle.cep_text.proofs.terms.put_term.Goals as goal

pub put_value-requires : goal.put_value-requires
put_value-requires c = rw c.parts.ensures.parts (has_names _ c.requires.sort _ c.requires.value.ground c.requires.value.typed)
