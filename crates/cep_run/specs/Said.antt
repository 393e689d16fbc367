-- What is said of a run where it is played: its dialogue, what holds of that, and what it came to.
use Rattle.std.specs.Prelude.{◌≡◌, ℕ, ◌≤◌, List, [], length, map, Option}
use Rattle.std.specs.List.{AllByRecursion}
use Rattle.cep_base.specs.declared.limits.TheConstants.{MOST_LOG}
use Rattle.cep_base.specs.declared.console.Event.{Event}
use Rattle.cep_base.specs.Talk.{Did}
use Rattle.cep_term.specs.Multiset.{copies_in}
use Rattle.cep_rule.specs.declared.parts.Parts.{Parts}
use Rattle.cep_log.specs.declared.log.Log.{Log}
use Rattle.cep_log.specs.Legal.{IsLegal}
use Rattle.cep_log.specs.Transcript.{HasLog}
use Rattle.cep_run.specs.declared.settings.Settings.{Settings}
use Rattle.cep_run.specs.declared.tally.Tally.{Tally}
use Rattle.cep_step.specs.Deeds.{start_of, AreDeeds}
use Rattle.cep_run.specs.Run.{Turn, Ending, deeds_of, unproved, offers_listed}
use Rattle.cep_run.specs.Dialogue.{Dialogue}
use Rattle.cep_run.specs.Dialogue.{written_bytes}

-- The tally of a run: the word with which it ended, how many turns were done, how many offers were
-- listed in them, and how many copies the last state has.
pub record IsTally (done : List Turn) (ending : Ending) (tally : Tally) : Type 0 where
  pub word : tally.word ≡ ending.word
  pub turns : tally.turns ≡ length done
  pub offers : tally.offers ≡ offers_listed done
  pub copies : tally.copies ≡ copies_in ending.state

-- What is said is a dialogue of the program, and P holds of its turns and its end: what was done in
-- its turns are lawful deeds, from the start to where it ended, as many as were done then. What is
-- written of it is a transcript, if it is not too long, and its log is legal, with as many steps as
-- turns. What is typed allows no other dialogue but for the derivations of its turns, and no other
-- at all where no rule has a backward premise.
pub record IsSaid (program : Parts) (settings : Settings) (P : List Turn → Ending → Type 0)
    (come : List ℕ) (events : List Event) (rest : List ℕ) : Type 0 where
  pub turns : List Turn
  pub ending : Ending
  pub dialogue : Dialogue program settings come turns ending events rest
  pub holds : P turns ending
  pub deeds : AreDeeds program settings.height (start_of program) (deeds_of turns) dialogue.run.last
  pub counted : dialogue.run.last.turns ≡ length turns
  pub only : (turns' : List Turn) (ending' : Ending) (events' : List Event) (rest' : List ℕ)
      → Dialogue program settings come turns' ending' events' rest'
      → (map unproved turns' ≡ map unproved turns) × (ending' ≡ ending) × (rest' ≡ rest)
  pub logged : length (written_bytes events) ≤ MOST_LOG → (log : Log)
      × HasLog program (written_bytes events) log × IsLegal program log
      × (length log.steps ≡ length turns)
  pub to_the_byte : AllByRecursion (λ rule. rule.backs ≡ []) program.rules
      → (turns' : List Turn) (ending' : Ending) (events' : List Event) (rest' : List ℕ)
      → Dialogue program settings come turns' ending' events' rest' → events' ≡ events

-- where the console tells what is to come, what is said is a dialogue of the program, and P holds
-- of its turns and its end
abbrev pub Says : {C : Type 0} → (C → Option (List Event)) → (C → Option (List ℕ)) → C → C → Parts
    → Settings → (List Turn → Ending → Type 0) → Type 0
Says talk left old new program settings P = Did talk left old new (IsSaid program settings P)

-- what is said is a dialogue of the program, whatever holds of its turns and its end
abbrev pub IsSomeSaid : Parts → Settings → List ℕ → List Event → List ℕ → Type 0
IsSomeSaid program settings = IsSaid program settings (λ turns ending. Unit {0})
