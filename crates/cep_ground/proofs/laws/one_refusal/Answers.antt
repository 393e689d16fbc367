use Rattle.cep_ground.proofs.OneAnswer as law
use Rattle.cep_ground.proofs.laws.one_refusal.Goals as goal

pub returns : goal.returns
returns c = record { fault = law.one_refusal; told = law.one_telling }
