use Rattle.std.proofs.Common.{refl}
use Rattle.cep_parse.specs.Symbols.{symbols_of}
use Rattle.cep_refusal.specs.declared.reason.Reason.TheVariants.{Unbound}
use Rattle.cep_refusal.specs.First.{wrong}
use Rattle.cep_ground.proofs.OneAnswer.{refused_unbound, first_unbound, all_bound}
use Rattle.cep_ground.proofs.sealing.judged.Goals as goal

pub grounded-requires-clause-bound : goal.grounded-requires-clause-bound
grounded-requires-clause-bound c =
    all_bound (record { text = c.args.text.now; file = c.args.file.now }) c.args.draft.right_places c.requires.declared.unbound_are
    (rw c.in-None.is at c.earliest_of_all.ensures)

pub returns-in-Some : goal.returns-in-Some
returns-in-Some c =
    let first = first_unbound (record { text = c.args.text.now; file = c.args.file.now }) c.args.draft.right_places c.requires.declared.unbound_are c.in-Some.pos
    (rw c.in-Some.is at c.earliest_of_all.ensures) in (
      wrong Unbound first.occurrence.at.from,
      refused_unbound c.lexed_once.ensures c.args.text.now c.parsed_once.ensures (λ text tokens one other. c.one_raw_file.ensures (symbols_of text tokens) one other)
          (record { text = c.args.text.now; file = c.args.file.now }) refl c.requires.clean.short c.requires.clean.is_source c.requires.clean first.rule first.occurrence first.there first.inside first.least,
      record { reason = refl; pos = first.pos_is },
    )
