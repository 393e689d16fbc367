use Rattle.cep_infer.proofs.Placing.{lists_push}
use Rattle.cep_infer.proofs.places.push_places.Goals as goal

pub returns-clause-lists : goal.returns-clause-lists
returns-clause-lists c = λ before are.
    rw c.in_ok-push.ensures.ok (lists_push c.args.source.now.text before c.args.lists.now c.args.ats.items _ are (rw c.deref.ensures.value at c.in_ok-places.ensures.places))
