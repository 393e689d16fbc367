use Rattle.std.proofs.Common.{List, ℕ, [], ◌∷◌, ◌++◌, take, refl, sym, ◌∙◌, ap, subst}
use Rattle.std.proofs.lemmas.List.{take_all}
use Rattle.cep_parse.specs.declared.raw.RawAtom.{RawAtom}
use Rattle.cep_source.specs.Items.{said}
use Rattle.cep_base.specs.FirstNames.{under_name, added}
use Rattle.cep_faults.specs.Counted.{IsCountOf}
use Rattle.cep_faults.proofs.Counting.{both_counted, first_more, context_again, context_first}
use Rattle.cep_faults.proofs.traces.Counted.note_context.Goals as goal

pub returns-in-Some : goal.returns-in-Some
returns-in-Some c =
    let old = c.args.self.now in
    λ before so_far.
    context_again c.args.source.now before old (record { size = c.and-self.result; facts = old.facts; contexts = old.contexts }) (said c.args.source.now c.args.name) c.in-Some.size so_far
    (ap (under_name old.contexts) (sym c.said.ensures) ∙ sym c.under.ensures ∙ c.in-Some.is) c.and-self.ensures refl refl

pub loop-atom-preserved : goal.loop-atom-preserved
loop-atom-preserved c =
    let atoms = c.listed-atoms.result.now in
    both_counted c.args.source.now (take c.loop-atom.atom-index atoms) (c.atom-item.result ∷ []) _ c.args.self.now c.loop-atom.self c.note.new.self
    (first_more atoms c.loop-atom.atom-index c.atom-item.result c.loop-atom-test.true c.atom-item.is) c.loop-atom.invariant c.in_ok-note.ensures

pub returns : goal.returns
returns c =
    let source = c.args.source.now in
    let name = said source c.args.name in
    let atoms = c.listed-atoms.result.now in
    let old = c.loop-atom.self in
    λ before so_far.
    context_first source before atoms old (record { size = old.size; facts = old.facts; contexts = c.add.new.self }) name c.of_others.result c.listed-atoms.ensures
    (subst (λ (them : List RawAtom). IsCountOf source (before ++ them) old) (take_all c.loop-atom.atom-index atoms c.loop-atom-test.false) (c.loop-atom.invariant before so_far))
    c.of_others.ensures refl refl (c.in_ok-add.ensures.entries ∙ ap (λ (n : List ℕ). added old.contexts (n, c.of_others.result)) c.said-2.ensures)
