use Rattle.std.proofs.Common.{◌≡◌, false, not, sym, append-nil, rules, of_calls}
use Rattle.std.specs.Prelude.{MatchOption}
use Rattle.cep_source.specs.Variables.{Occurrence}
use Rattle.cep_base.specs.FirstNames.{has_name}
use Rattle.cep_infer.proofs.RulesInTurn.{node_passes, node_pushed, node_counted}
use Rattle.cep_infer.proofs.places.push_unbound.Goals as goal
use Rattle.cep_infer.proofs.places.push_unbound.Goals.{then-is_some_and+in_ok-push, else-is_some_and}

pub loop-node-preserved : goal.loop-node-preserved
loop-node-preserved c =
    let source = c.args.source.now in
    let firsts = c.args.left.now.firsts in
    let passed : MatchOption c.in_ok-name.name (c.is_some_and.result ≡ false) (λ name. c.is_some_and.result ≡ not (has_name firsts name)) = search (of_calls, rules) in
    let given = node_passes source firsts c.loop-node.blanks _ _ c.in_ok-name.name c.is_some_and.result c.in_ok-name.ensures passed in
    record {
      ats = node_pushed source (λ (occurrence : Occurrence). not (has_name firsts occurrence.name)) c.args.nodes.now c.loop-node.node-index c.loop-node.blanks c.in_ok-blanks.field-0 _ c.loop-node.ats.items _ c.if-is_some_and.ats.items _
          c.loop-node-test.true given
          (elim c.if-is_some_and.branch [
            | then-is_some_and+in_ok-push w ↦ rw (w.ats-is, w.if-is_some_and.true) w.in_ok-push.ensures.items
            | else-is_some_and w ↦ rw (w.ats-is, w.if-is_some_and.false) (sym (append-nil c.loop-node.ats.items))
          ])
          c.in_ok-blanks.ensures c.loop-node.invariant.ats;
      blanks = node_counted source c.args.nodes.now c.loop-node.node-index c.loop-node.blanks c.in_ok-blanks.field-0 _ _ c.loop-node-test.true c.in_ok-blanks.ensures c.loop-node.invariant.blanks;
    }
