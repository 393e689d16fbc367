use Rattle.cep_term.proofs.MatchingLaws.{one_of_meets, least_of_meets}
use Rattle.cep_term.proofs.laws.matches_are_least.Goals as goal

pub returns : goal.returns
returns c = record { one = one_of_meets; least = least_of_meets; not_both = λ old new pattern target meets never. never new meets.kept meets.equal }
