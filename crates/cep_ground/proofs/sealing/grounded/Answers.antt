use Rattle.std.proofs.Common.{refl}
use Rattle.cep_parse.specs.Symbols.{symbols_of}
use Rattle.cep_refusal.specs.declared.reason.Reason.TheVariants.{Ungrounded}
use Rattle.cep_refusal.specs.First.{wrong}
use Rattle.cep_ground.proofs.OneAnswer.{refused_ungrounded, first_ungrounded, all_grounded}
use Rattle.cep_ground.proofs.sealing.grounded.Goals as goal

pub ungrounded_premises-requires : goal.ungrounded_premises-requires
ungrounded_premises-requires c =
    c.clean_parts_are_a_program.ensures.in_order (record { text = c.args.text.now; file = c.args.file.now }) c.args.draft.parts c.requires.clean c.requires.bound c.requires.declared.parts_are

pub sealed-requires-clause-grounded : goal.sealed-requires-clause-grounded
sealed-requires-clause-grounded c =
    all_grounded (record { text = c.args.text.now; file = c.args.file.now }) c.args.draft.parts c.requires.declared.parts_are c.in_ok-marks.marks c.in_ok-marks.ensures c.args.draft.back_places c.requires.declared.backs_are
    (c.clean_parts_are_a_program.ensures.counted (record { text = c.args.text.now; file = c.args.file.now }) c.requires.clean c.requires.bound)
    (rw c.in-None.is at c.earliest_of_marked.ensures)

pub returns-in-Some : goal.returns-in-Some
returns-in-Some c =
    let first = first_ungrounded (record { text = c.args.text.now; file = c.args.file.now }) c.args.draft.parts c.requires.declared.parts_are c.in_ok-marks.marks c.in_ok-marks.ensures c.args.draft.back_places c.requires.declared.backs_are
    c.in-Some.pos (rw c.in-Some.is at c.earliest_of_marked.ensures) in (
      wrong Ungrounded first.at,
      refused_ungrounded c.lexed_once.ensures c.args.text.now c.parsed_once.ensures (λ text tokens one other. c.one_raw_file.ensures (symbols_of text tokens) one other)
          (record { text = c.args.text.now; file = c.args.file.now }) refl c.requires.clean.short c.requires.clean.is_source c.requires.clean c.requires.bound first.at first.is first.least,
      record { reason = refl; pos = first.pos_is },
    )
