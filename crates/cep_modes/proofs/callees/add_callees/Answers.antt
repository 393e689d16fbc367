use Rattle.std.proofs.Common.{sym, true, false}
use Rattle.std.proofs.lemmas.List.{append-nil}
use Rattle.cep_rule.specs.Patterns.{clause_of}
use Rattle.cep_modes.specs.Places.{holds, positions_of}
use Rattle.cep_modes.proofs.Looping.{clause_called}
use Rattle.cep_modes.proofs.callees.add_callees.Goals as goal

pub returns-in_ok-push : goal.returns-in_ok-push
returns-in_ok-push c =
    clause_called (clause_of c.args.clause.now) (positions_of c.args.positions) (holds c.unknown-known.result) (holds c.learn_at.new.known) (holds c.add_calls.new.known) false
    c.args.found.now.items c.add_calls.new.found.items c.push.new.self.items
    c.unknown-known.ensures c.learn_at.ensures c.in_ok-add_calls.ensures.found c.in_ok-add_calls.ensures.known c.if-not-are_known.ensures c.in_ok-push.ensures.items

pub returns-else-not-are_known : goal.returns-else-not-are_known
returns-else-not-are_known c =
    clause_called (clause_of c.args.clause.now) (positions_of c.args.positions) (holds c.unknown-known.result) (holds c.learn_at.new.known) (holds c.add_calls.new.known) true
    c.args.found.now.items c.add_calls.new.found.items c.add_calls.new.found.items
    c.unknown-known.ensures c.learn_at.ensures c.in_ok-add_calls.ensures.found c.in_ok-add_calls.ensures.known c.if-not-are_known.ensures (sym (append-nil c.add_calls.new.found.items))
