use Rattle.cep_term.proofs.MatchingLaws.{matched_sound, matched_all_sound, matched_least, matched_all_least}
use Rattle.cep_term.proofs.laws.matching_is_lawful.Goals as goal

pub returns : goal.returns
returns c = record { found = matched_sound; all_found = matched_all_sound; least = matched_least; all_least = matched_all_least }
