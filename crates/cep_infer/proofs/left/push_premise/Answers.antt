use Rattle.std.proofs.Common.{ap, sym, ◌∙◌}
use Rattle.cep_parse.specs.declared.raw.RawAtom.{RawAtom}
use Rattle.cep_source.specs.Variables.{blanks_after}
use Rattle.std.proofs.lemmas.Result.{on_ok_weaker}
use Rattle.cep_term.specs.Tree.{atom_of}
use Rattle.cep_base.specs.FirstNames.{names_among}
use Rattle.cep_infer.proofs.RulesInTurn.{back_built, linear_built}
use Rattle.cep_infer.proofs.left.push_premise.Goals as goal

pub returns-then-is_back : goal.returns-then-is_back
returns-then-is_back c =
    rw c.in-Atom.is
    (on_ok_weaker c.push.result
    (λ pushed. back_built c.args.source.now (names_among c.args.variables.now.firsts) c.in-Atom.kept c.in-Atom.atom c.args.blanks.now c.read_atom.new.blanks c.args.left.now c.push.new.self (atom_of c.in_ok-atom.atom)
    (rw c.of_raw.ensures at c.in_ok-atom.ensures.atom) (c.in_ok-atom.ensures.blanks ∙ ap (λ (raw : RawAtom). blanks_after c.args.blanks.now raw.nodes) c.of_raw.ensures) (sym c.if-is_back.ensures) pushed)
    c.push.ensures.ok)

pub returns : goal.returns
returns c =
    rw c.in-Atom.is
    (on_ok_weaker c.push-2.result
    (λ pushed. linear_built c.args.source.now (names_among c.args.variables.now.firsts) c.in-Atom.kept c.is_kept-kept.result c.in-Atom.atom c.args.blanks.now c.read_atom.new.blanks c.args.left.now c.push-2.new.self (atom_of c.in_ok-atom.atom) c.is_kept-kept.ensures
    (rw c.of_raw.ensures at c.in_ok-atom.ensures.atom) (c.in_ok-atom.ensures.blanks ∙ ap (λ (raw : RawAtom). blanks_after c.args.blanks.now raw.nodes) c.of_raw.ensures) (sym c.if-is_back.ensures) pushed)
    c.push-2.ensures.ok)
