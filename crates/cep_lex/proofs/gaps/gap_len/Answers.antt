use Rattle.std.proofs.Common.{sym, ◌∙◌}
use Rattle.cep_lex.specs.Cuts.IsGap.{empty}
use Rattle.cep_lex.proofs.GapLemmas.{in_comment_next, comment_next, separator_next, gap_found, gap_whole}
use Rattle.cep_lex.proofs.gaps.gap_len.Goals as goal
use Rattle.cep_lex.proofs.gaps.gap_len.Goals.{then-in_comment, else-in_comment+then-byte-eq37, else-in_comment+else-byte-eq37+else-not-is_separator}

pub loop-i-init : goal.loop-i-init
loop-i-init c = empty

pub returns-then-not-is_separator-clause-gap : goal.returns-then-not-is_separator-clause-gap
returns-then-not-is_separator-clause-gap c =
    gap_found c.args.bytes.now c.loop-i.i c.loop-i.in_comment c.loop-i-test.true c.if-in_comment.false (sym c.is_separator.ensures ∙ c.if-not-is_separator.true) c.if-byte-eq37.false c.loop-i.invariant

pub loop-i-preserved : goal.loop-i-preserved
loop-i-preserved c =
    elim c.if-in_comment.branch [
      | then-in_comment w ↦ in_comment_next c.args.bytes.now c.loop-i.i c.loop-i.in_comment c.if-in_comment.in_comment c.loop-i-test.true w.if-in_comment.true w.in_comment-is c.loop-i.invariant
      | else-in_comment+then-byte-eq37 w ↦ comment_next c.args.bytes.now c.loop-i.i c.loop-i.in_comment c.if-in_comment.in_comment c.loop-i-test.true w.if-in_comment.false w.in_comment-is w.if-byte-eq37.true c.loop-i.invariant
      | else-in_comment+else-byte-eq37+else-not-is_separator w ↦
          separator_next c.args.bytes.now c.loop-i.i c.loop-i.in_comment c.if-in_comment.in_comment c.loop-i-test.true w.if-in_comment.false w.in_comment-is (sym w.is_separator.ensures ∙ w.if-not-is_separator.false) c.loop-i.invariant
    ]

pub returns-clause-gap : goal.returns-clause-gap
returns-clause-gap c = gap_whole c.args.bytes.now c.loop-i.i c.loop-i.in_comment c.loop-i-test.false c.loop-i.invariant
