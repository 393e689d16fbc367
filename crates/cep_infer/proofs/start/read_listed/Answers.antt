use Rattle.std.proofs.Common.{[], ◌∷◌, true, false, refl}
use Rattle.cep_base.specs.FirstNames.{names_among}
use Rattle.cep_infer.proofs.RulesInTurn.{braces_built, braces_filled}
use Rattle.cep_infer.proofs.start.read_listed.Goals as goal

pub loop-raw-preserved-then-stands_for_context : goal.loop-raw-preserved-then-stands_for_context
loop-raw-preserved-then-stands_for_context c =
    braces_built c.args.source.now (names_among c.args.none.now.firsts) c.args.raws.now c.loop-raw.raw-index c.raw-item.result true c.listed-listed.result.now 0 c.loop-raw.blanks c.push_atoms.new.blanks [] c.loop-raw.atoms c.push_atoms.new.atoms
    c.loop-raw-test.true c.raw-item.is c.if-stands_for_context.ensures c.listed-listed.ensures c.loop-raw.invariant c.in_ok-push_atoms.ensures

pub loop-raw-preserved : goal.loop-raw-preserved
loop-raw-preserved c =
    braces_built c.args.source.now (names_among c.args.none.now.firsts) c.args.raws.now c.loop-raw.raw-index c.raw-item.result false (c.raw-item.result ∷ []) 0 c.loop-raw.blanks c.push_atom.new.blanks [] c.loop-raw.atoms c.push_atom.new.atoms
    c.loop-raw-test.true c.raw-item.is c.if-stands_for_context.ensures refl c.loop-raw.invariant c.in_ok-push_atom.ensures

pub push_atoms-requires : goal.push_atoms-requires
push_atoms-requires c =
    braces_filled c.args.source.now c.args.raws.now c.loop-raw.raw-index c.raw-item.result true c.listed-listed.result.now c.requires c.loop-raw-test.true c.raw-item.is c.if-stands_for_context.ensures c.listed-listed.ensures

pub push_atom-requires : goal.push_atom-requires
push_atom-requires c =
    (braces_filled c.args.source.now c.args.raws.now c.loop-raw.raw-index c.raw-item.result false (c.raw-item.result ∷ []) c.requires c.loop-raw-test.true c.raw-item.is c.if-stands_for_context.ensures refl).0
