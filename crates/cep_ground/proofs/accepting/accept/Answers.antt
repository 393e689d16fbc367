use Rattle.std.proofs.Common.{arith, rules}
use Rattle.cep_parse.specs.Symbols.{symbols_of}
use Rattle.cep_source.specs.Items.{Source}
use Rattle.cep_infer.specs.Shapes.{IsSource}
use Rattle.cep_ground.proofs.OneAnswer.{refused_draft}
use Rattle.cep_ground.proofs.accepting.accept.Goals as goal

pub returns : goal.returns
returns c =
    let text = c.args.text.now in
    let source : Source = record { text = text; file = c.in-Ok-2.file } in
    let lexed = rw c.in-Ok.is at c.in_ok-tokens.ensures in
    let parsed = rw c.in-Ok-2.is at c.in_ok-file.ensures in
    let is_source : IsSource source = record { tokens = c.in-Ok.tokens; lexed = lexed; parsed = parsed.0; shallow = parsed.1 } in
    refused_draft c.lexed_once.ensures c.parsed_once.ensures (λ text tokens one other. c.one_raw_file.ensures (symbols_of text tokens) one other)
    source (omega arith) is_source c.in-Err-3.refusal (rw c.in-Err-3.is at c.in_ok-draft.ensures)

pub returns-then-text-gt-MOST_TEXT : goal.returns-then-text-gt-MOST_TEXT
returns-then-text-gt-MOST_TEXT c = search rules
