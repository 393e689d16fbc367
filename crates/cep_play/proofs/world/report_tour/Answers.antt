use Rattle.std.proofs.Common.{◌++◌, ap, ◌∙◌}
use Rattle.cep_play.specs.World.{summary}
use Rattle.cep_play.proofs.Done.{toured}
use Rattle.cep_play.proofs.world.report_tour.Goals as goal

pub returns-clause-reported : goal.returns-clause-reported
returns-clause-reported g c =
    let tally = c.in_ok-tally.tally in
    toured c.args.program.now c.args.rooms c.args.options c.args.steps.now c.run_silently.new.steps tally c.put_summary.new.out _ _ c.in_ok-tally.ensures.ran c.text.ensures
    (c.in_ok-put_summary.ensures ∙ ap (λ xs. xs ++ summary c.args.rooms c.unwrap_or-seed.result tally) c.new-lines.ensures ∙ ap (λ s. summary c.args.rooms s tally) c.unwrap_or-seed.ensures) c.of_run.ensures
