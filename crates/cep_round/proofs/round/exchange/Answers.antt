use Rattle.cep_round.proofs.Admitted.{few_left}
use Rattle.cep_round.proofs.round.exchange.Goals as goal

pub join-requires-2-clause-few : goal.join-requires-2-clause-few
join-requires-2-clause-few c =
    few_left c.bags_are_lawful.ensures c.args.signature.now c.args.state.now c.args.needed.now c.args.given.now c.requires.bag c.requires.needed c.requires.few
    c.new-taken.result c.join.new.bag c.in_ok-new.new c.take_all.new.self c.new-taken.ensures c.in_ok-join.ensures c.in_ok-new.ensures c.take_all.ensures
