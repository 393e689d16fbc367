use Rattle.std.proofs.Common.{subst, sym, ◌∙◌}
use Rattle.std.proofs.lemmas.List.{length-map}
use Rattle.cep_term.specs.Multiset.{Multiset}
use Rattle.cep_log.specs.Holding.{HoldsDeeds}
use Rattle.cep_step.specs.Deeds.{start_of}
use Rattle.cep_run.specs.Run.{Turn, deeds_of, whole_supply}
use Rattle.cep_run.proofs.TurnSteps.{quiet_here}
use Rattle.cep_run.proofs.Transcribed.{run_told}
use Rattle.cep_run.proofs.laws.dialogues_have_logs.Goals as goal

pub returns : goal.returns
returns c = λ program settings come turns ending events rest kept height_is said short.
    let run = said.run in
    let lines = c.lines_are_read_as_written.ensures in
    let deeds = c.turns_are_deeds.ensures program settings (start_of program) (whole_supply come) turns run.last run.between run.done in
    let told = run_told program lines.numbers (λ offer is. lines.offers program offer kept is) settings come turns ending events rest said in
    let found = c.deeds_have_legal_logs.ensures.written program settings.height (deeds_of turns) run.last ending.word _ kept height_is deeds
    (λ quiet. quiet_here program settings run.last run.between quiet run.ends)
    told short in (
      found.0,
      found.1,
      subst (λ (state : Multiset). HoldsDeeds program settings.height (deeds_of turns) ending.word state found.0) (sym run.state) found.2,
      found.3,
      found.4 ∙ length-map turns (λ (turn : Turn). turn.deed),
    )
