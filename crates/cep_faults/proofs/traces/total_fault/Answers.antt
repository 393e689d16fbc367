use Rattle.std.proofs.Common.{List, ℕ, length, ap}
use Rattle.cep_refusal.specs.declared.reason.Reason.TheVariants.{NoTrace}
use Rattle.cep_refusal.specs.First.{wrong}
use Rattle.cep_faults.proofs.Firsts.{some_traces, no_traces}
use Rattle.cep_faults.proofs.traces.total_fault.Goals as goal

pub returns-in_ok-first-in-Some : goal.returns-in_ok-first-in-Some
returns-in_ok-first-in-Some c =
    some_traces c.args.source.now c.traces.result.now c.traces.ensures c.in-Some.trace.now c.in-Some.rest.now _ _ _ c.in-Some.ensures.cases.0 c.in_ok-first-in-Some.ensures c.two_fault.ensures c.first_of.ensures

pub returns-in-None : goal.returns-in-None
returns-in-None c = no_traces c.args.source.now c.traces.result.now c.traces.ensures _ c.in-None.ensures.cases (ap (λ (text : List ℕ). wrong NoTrace (length text)) c.text.ensures)
