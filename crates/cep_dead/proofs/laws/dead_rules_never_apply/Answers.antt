use Rattle.cep_reach.proofs.Reached.{never_applies}
use Rattle.cep_dead.proofs.laws.dead_rules_never_apply.Goals as goal

pub returns : goal.returns
returns c = λ program height moves last rule offer kept are dead numbered of_stage_is applies.
    let is = c.what_comes_about_is_in_some_round.ensures.reached program height moves last kept are in
    never_applies program kept (c.what_is_needed_is_there.ensures.needed program.signature) (c.atoms_come_from_somewhere.ensures program.signature) height is.0 last rule offer (record { stage = is.1; atoms = is.2 }) dead numbered of_stage_is applies
