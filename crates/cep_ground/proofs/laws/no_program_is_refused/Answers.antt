use Rattle.cep_parse.specs.Symbols.{symbols_of}
use Rattle.cep_ground.proofs.OneAnswer.{nothing_wrong}
use Rattle.cep_ground.proofs.laws.no_program_is_refused.Goals as goal

pub returns : goal.returns
returns c text parts fault is =
    nothing_wrong c.lexed_once.ensures text c.parsed_once.ensures (λ text tokens one other. c.one_raw_file.ensures (symbols_of text tokens) one other)
    is.source is.text_is (rw is.text_is at is.clean.short) is.clean.is_source is.clean is.bound parts is.declared is.grounded fault
