use Rattle.std.proofs.Common.{refl, arith, ◌∙◌}
use Rattle.cep_players.proofs.BlockedLines.{did_same, did_map, did_then, on_err, position_of}
use Rattle.cep_run.proofs.Framed.{nothing_spent}
use Rattle.cep_players.proofs.Going.{no_parts, parts_then, parts_end, parts_refused}
use Rattle.cep_players.proofs.dialogue.all_parts.Goals as goal

pub loop-next-init : goal.loop-next-init
loop-next-init g c =
    let nothing = c.nothing-spent.ensures in
    record {
      played = c.requires.played;
      few = omega (arith, c.requires.begins);
      spent = nothing_spent c.args.settings.seed c.args.start.turns c.nothing-spent.result nothing.taken nothing.drawn nothing.draw;
      counted = omega arith;
      calm = refl;
      so_far = did_map g.C.Console.talk g.C.Console.left _ _ _ _ (no_parts _ _ _ (position_of c.args.start) c.nothing-spent.result nothing.taken nothing.drawn) (did_same g.C.Console.talk g.C.Console.left c.args.console.now c.args.console.now refl refl);
    }

pub loop-next-preserved : goal.loop-next-preserved
loop-next-preserved g c =
    let before = c.loop-next.invariant in
    let (does, more, few) = rw c.in-Done.is at c.in_ok-next.ensures.went in
    let spent = c.part.ensures.spent in
    record {
      played = rw c.in-Done.is at c.in_ok-next.ensures.played;
      few = few;
      spent = record { taken = spent.taken; drawn = omega (arith, spent.drawn, more); draw = spent.draw };
      counted = omega (arith, c.part.ensures.counted, before.counted);
      calm = c.in_ok-next.ensures.cause ∙ before.calm;
      so_far = did_then g.C.Console.talk g.C.Console.left _ _ _ _ _ _ (parts_then _ _ _ (position_of c.args.start) (position_of c.loop-next.config) c.loop-next.spent (position_of c.in-Done.next) c.part.new.spent) before.so_far does;
    }

pub loop-next-smaller : goal.loop-next-smaller
loop-next-smaller g c = let (does, more, few) = rw c.in-Done.is at c.in_ok-next.ensures.went in omega (arith, more, few)

pub returns-in-Over-clause-said : goal.returns-in-Over-clause-said
returns-in-Over-clause-said g c =
    let end = parts_end c.args.program.now c.args.settings c.args.players (position_of c.args.start) (position_of c.loop-next.config) c.loop-next.spent c.in-Over.ended.word (position_of c.in-Over.ended.config) c.part.new.spent in
    did_then g.C.Console.talk g.C.Console.left _ _ _ _ _ _ end c.loop-next.invariant.so_far (rw c.in-Over.is at c.in_ok-next.ensures.went)

pub returns-in_err-next-clause-begun : goal.returns-in_err-next-clause-begun
returns-in_err-next-clause-begun g c =
    let refused = parts_refused c.args.program.now c.args.settings c.args.players (position_of c.args.start) (position_of c.loop-next.config) c.loop-next.spent in
    on_err c.from_residual.result _ (did_then g.C.Console.talk g.C.Console.left _ _ _ _ _ _ refused c.loop-next.invariant.so_far c.in_err-next.ensures.begun)
