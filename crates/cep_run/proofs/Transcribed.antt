-- What is written of a dialogue tells the deeds of its turns; and there is a dialogue, whatever is typed.
use Rattle.std.proofs.Common.{◌≡◌, ◌≢◌, ℕ, ◌+◌, List, [], ◌∷◌, ◌++◌, length, append-nil, refl, sym, ap, arith, append_assoc, Option, ◌≤◌}
use Rattle.std.specs.Prelude.{codes, decimal}
use Rattle.std.specs.List.{AllByRecursion, flat_map}
use Rattle.std.proofs.lemmas.Grind.{flat_map-append}
use Rattle.cep_base.specs.declared.console.Event.{Event}
use Rattle.cep_base.specs.declared.console.Event.TheVariants.{Out, In, End}
use Rattle.cep_base.specs.Talk.{outs, ins}
use Rattle.cep_base.proofs.Elements.{both_all, all_of}
use Rattle.cep_rule.specs.declared.parts.Parts.{Parts}
use Rattle.cep_rule.specs.declared.offer.Offer.{Offer}
use Rattle.cep_rule.specs.Shapes.{IsOfferOf}
use Rattle.cep_rule.specs.State.{IsState}
use Rattle.cep_rule.specs.Program.{IsProgram}
use Rattle.cep_text.specs.Texts.{offer_text}
use Rattle.cep_lines.specs.Lines.{line, offer_line, offer_lines, header}
use Rattle.cep_step.specs.Deeds.{Position, start_of}
use Rattle.cep_log.specs.Transcript.{IsPassedOver, IsOneLine}
use Rattle.cep_log.specs.Written.{IsRemark}
use Rattle.cep_log.specs.Holding.{AreRemarks, lines_of_deed, TellDeeds, TellRun}
use Rattle.cep_choice.specs.TypedLine.{Cut, Nothing, Full, ReadsLine}
use Rattle.cep_run.specs.declared.choice.Choice.{Choice}
use Rattle.cep_run.specs.declared.settings.Settings.{Settings}
use Rattle.cep_run.specs.Deciding.{Supply, How, Decides}
use Rattle.cep_run.specs.Choice.{room_after, no_line, Hears, chosen, again, no_more, no_room}
use Rattle.cep_run.proofs.Turns.{applied_has_text}
use Rattle.cep_run.specs.Run.{Question, IsQuestion, Turn, Ending, whole_supply, deeds_of, AreTurns, Run}
use Rattle.cep_run.proofs.TurnSteps.{LeftBy, left_by}
use Rattle.cep_run.specs.Dialogue.{asking_line, asked_events, written_bytes, question_events, last_events, turn_events, Dialogue, events_of}

-- What is written of a question is remarks: lines that a transcript passes over.

pub written_both : (events others : List Event) → written_bytes (events ++ others) ≡ written_bytes events ++ written_bytes others
written_both [] others = refl
written_both (Out byte ∷ events) others = ap (λ bytes. byte ∷ bytes) (written_both events others)
written_both (In byte ∷ events) others = written_both events others
written_both (End ∷ events) others = written_both events others

pub written_outs : (bytes : List ℕ) → written_bytes (outs bytes) ≡ bytes
written_outs [] = refl
written_outs (byte ∷ bytes) = ap (λ rest. byte ∷ rest) (written_outs bytes)

pub no_remarks : (bytes : List ℕ) → bytes ≡ [] → AreRemarks bytes
no_remarks bytes none = record { lines = []; passed = tt; written = none }

pub both_remarks : (one other : List ℕ) → AreRemarks one → AreRemarks other → AreRemarks (one ++ other)
both_remarks one other a b = record { lines = a.lines ++ b.lines; passed = both_all IsRemark a.lines b.lines a.passed b.passed; written = rw (a.written, b.written, flat_map-append line a.lines b.lines) refl }

pub said_both : (one other : List Event) → AreRemarks (written_bytes one) → AreRemarks (written_bytes other) → AreRemarks (written_bytes (one ++ other))
said_both one other a b = rw (written_both one other) (both_remarks (written_bytes one) (written_bytes other) a b)

pub said_outs : (bytes : List ℕ) → AreRemarks bytes → AreRemarks (written_bytes (outs bytes))
said_outs bytes are = rw (written_outs bytes) are

pub line_remark : (text : List ℕ) → IsOneLine text → IsPassedOver text → AreRemarks (line text)
line_remark text one passed = record { lines = text ∷ []; passed = (record { passed = passed; one = one }, tt); written = sym (append-nil (line text)) }

-- the reading of a line writes nothing
written_ins : (bytes : List ℕ) → written_bytes (ins bytes) ≡ []
written_ins [] = refl
written_ins (byte ∷ bytes) = written_ins bytes

reads_remarks : (room : ℕ) (come : List ℕ) (events : List Event) (cut : Cut) (rest : List ℕ) (taken : ℕ) → ReadsLine room come events cut rest taken → AreRemarks (written_bytes events)
reads_remarks room come events cut rest taken reads = grind (arith, no_remarks, written_ins, written_both)

-- what was heard, with the answers to lines that choose nothing
pub heard_remarks : (n : ℕ) {come rest : List ℕ} {taken taken' : ℕ} {events : List Event} {choice : Choice} → Hears n come taken events choice rest taken' → AreRemarks (written_bytes events)
unfolding no_line
heard_remarks n {come} {rest} {taken} {events = events} (chosen cut text more reads is chooses many) = reads_remarks (room_after taken) come events cut rest more reads
heard_remarks n {come} {taken = taken} {events = events} (again cut text between more first others reads is none hears whole) =
    rw whole (said_both first (outs no_line ++ others) (reads_remarks (room_after taken) come first cut between more reads)
    (said_both (outs no_line) others (said_outs no_line (line_remark (codes "? no") (grind arith) refl)) (heard_remarks n hears)))
heard_remarks n {come} {rest} {taken} {events = events} (no_more more reads many) = reads_remarks (room_after taken) come events Nothing rest more reads
heard_remarks n {come} {rest} {taken} {events = events} (no_room bytes more reads many) = reads_remarks (room_after taken) come events (Full bytes) rest more reads

-- the line that asks one player
pub asking_remark : AreRemarks asking_line
asking_remark = line_remark (codes "? choose") (grind arith) refl

pub both_one : (one other : List ℕ) → IsOneLine one → IsOneLine other → IsOneLine (one ++ other)
both_one one other here there = both_all (λ byte. (byte ≢ 10) × (byte ≢ 13)) one other here there

module _ (program : Parts) (numbers : (number : ℕ) → IsOneLine (decimal number)) (offers_one : (offer : Offer) → IsOfferOf program offer → IsOneLine (offer_text program offer)) where
  -- a line with a number and an offer
  pub numbered_remark : (word : List ℕ) (number : ℕ) (offer : Offer) → IsOneLine word → IsOfferOf program offer → IsPassedOver (word ++ decimal number ++ codes " " ++ offer_text program offer) → AreRemarks (line (word ++ decimal number ++ codes " " ++ offer_text program offer))
  numbered_remark word number offer one is passed = grind (arith, both_one, line_remark)

  pub offers_remarks : (place : ℕ) (offers : List Offer) → AllByRecursion (IsOfferOf program) offers → AreRemarks (offer_lines program place offers)
  unfolding offer_lines offer_line
  offers_remarks place [] all = no_remarks [] refl
  offers_remarks place (offer ∷ offers) all = both_remarks (offer_line program place offer) (offer_lines program (place + 1) offers) (numbered_remark (codes "? ") place offer (grind arith) all.0 refl) (offers_remarks (place + 1) offers all.1)

  asked_remarks : (asking : List ℕ) → AreRemarks asking → (seed stage group : ℕ) (offers : List Offer) (from to : Supply) (how : How) (choice : Choice) → AllByRecursion (IsOfferOf program) offers → Decides program seed stage group (length offers) from how choice to
      → AreRemarks (written_bytes (asked_events asking program offers how))
  asked_remarks asking are seed stage group offers from to how choice all decides = grind (arith, said_both, said_outs, both_remarks, offers_remarks, heard_remarks)

  pub question_remarks : (asking : List ℕ) → AreRemarks asking → (settings : Settings) (at : Position) (from : Supply) (asked : Question) (to : Supply) → IsQuestion program settings at from asked to → AreRemarks (written_bytes (asked_events asking program asked.offers asked.how))
  question_remarks asking are settings at from asked to is =
      asked_remarks asking are settings.seed at.spot.stage asked.group asked.offers from to asked.how asked.choice
      (all_of (IsOfferOf program) asked.offers (λ offer there. applied_has_text program settings.height at.spot.state offer (is.offered.no_other offer there).applies)) is.decided

-- What is written of a dialogue tells the deeds of its turns.

module _ (program : Parts) (numbers : (number : ℕ) → IsOneLine (decimal number)) (offers_one : (offer : Offer) → IsOfferOf program offer → IsOneLine (offer_text program offer)) (settings : Settings) where
  turns_told : (at : Position) (from : Supply) (turns : List Turn) (last : Position) (to : Supply) → AreTurns program settings at from turns last to → TellDeeds program (deeds_of turns) (written_bytes (flat_map (turn_events program) turns))
  turns_told at from [] last to done = refl
  turns_told at from (turn ∷ turns) last to done =
      let asked = question_events program turn.question in
      let lines = lines_of_deed program turn.deed in
      let rest = flat_map (turn_events program) turns in (
        written_bytes asked,
        written_bytes rest,
        question_remarks program numbers offers_one asking_line asking_remark settings at from turn.question turn.left done.0.asks,
        turns_told turn.deed.after turn.left turns last to done.1,
        rw (written_both (asked ++ outs lines) rest, written_both asked (outs lines), written_outs lines) (append_assoc (written_bytes asked) lines (written_bytes rest)),
      )

  last_told : (at : Position) (from : Supply) (asked : Option Question) (to : Supply) → LeftBy program settings at from asked to → AreRemarks (written_bytes (last_events program asked))
  last_told at from asked to asks = grind (arith, no_remarks, question_remarks, asking_remark)

  pub run_told : (come : List ℕ) (turns : List Turn) (ending : Ending) (events : List Event) (rest : List ℕ) → (said : Dialogue program settings come turns ending events rest) → TellRun program settings.height (deeds_of turns) ending.word said.run.last.spot.state (written_bytes events)
  run_told come turns ending events rest said = grind (arith, turns_told, last_told, left_by, written_both, written_outs)

-- Whatever is typed, there is a dialogue.

-- it tells the run from the start
pub dialogue_there : (program : Parts) (settings : Settings) (come : List ℕ) → IsProgram program
    → ((at : Position) (from : Supply) → IsState program.signature at.spot.state → at.turns ≤ settings.limit → (turns : List Turn) × (ending : Ending) × (to : Supply) × Run program settings at from turns ending to)
    → (turns : List Turn) × (ending : Ending) × (events : List Event) × (rest : List ℕ) × Dialogue program settings come turns ending events rest
dialogue_there program settings come kept there =
    let run = there (start_of program) (whole_supply come) kept.start (omega arith) in
    (run.0, run.1, outs (header program settings.height) ++ events_of program run.0 run.1, run.2.come, record { left = run.2; run = run.3; whole = refl; rest_is = refl })
