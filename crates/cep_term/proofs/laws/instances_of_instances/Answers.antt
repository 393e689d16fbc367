use Rattle.cep_term.proofs.MatchingLaws.{ground_instance_in, instance_in_twice, instance_in_extended, instance_in_alike, instance_in_ground}
use Rattle.cep_term.proofs.laws.instances_of_instances.Goals as goal

pub returns : goal.returns
returns c = record { of_known = ground_instance_in; twice = instance_in_twice; later = instance_in_extended; alike = instance_in_alike; known = instance_in_ground }
