use Rattle.cep_lex.proofs.Steps.{bad_byte_here, end_here, gap_stops, long_name_here, token_here, token_ends}
use Rattle.cep_lex.proofs.lexing.step_at.Goals as goal

pub returns-then-from-text : goal.returns-then-from-text
returns-then-from-text c = end_here c.args.text.now c.args.at c.gap_len.result c.requires.within c.if-from-text.true c.gap_len.ensures.gap

pub returns-in_default : goal.returns-in_default
returns-in_default c tokens cut =
    bad_byte_here c.args.text.now c.args.at c.gap_len.result (gap_stops c.args.text.now c.args.at c.gap_len.result c.requires.within c.gap_len.ensures.within c.if-from-text.false) c.gap_len.ensures.gap (rw c.in_default.is at c.front.ensures.none) tokens cut

pub returns-then-is_too_long : goal.returns-then-is_too_long
returns-then-is_too_long c tokens cut =
    long_name_here c.args.text.now c.args.at c.gap_len.result (gap_stops c.args.text.now c.args.at c.gap_len.result c.requires.within c.gap_len.ensures.within c.if-from-text.false) c.gap_len.ensures.gap c.in-Some.kind c.in-Some.size (rw c.in-Some.is at c.front.ensures.found)
    (rw c.if-is_too_long.true at c.is_too_long.ensures) tokens cut

pub returns : goal.returns
returns c =
    let stops = gap_stops c.args.text.now c.args.at c.gap_len.result c.requires.within c.gap_len.ensures.within c.if-from-text.false in
    let front = rw c.in-Some.is at c.front.ensures.found in
    let ends = token_ends c.args.text.now c.args.at c.gap_len.result stops c.gap_len.ensures.gap c.in-Some.kind c.in-Some.size front in
    (token_here c.args.text.now c.args.at c.gap_len.result stops c.gap_len.ensures.gap c.in-Some.kind c.in-Some.size front (rw c.if-is_too_long.false at c.is_too_long.ensures), ends.0, ends.1)
