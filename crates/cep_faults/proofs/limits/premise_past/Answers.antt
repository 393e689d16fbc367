use Rattle.std.proofs.Common.{filter, length, ap, sym, ◌∙◌, take}
use Rattle.cep_parse.specs.declared.raw.RawAtom.{RawAtom}
use Rattle.cep_parse.specs.Raw.{atoms_in}
use Rattle.cep_refusal.specs.First.{first_in}
use Rattle.cep_faults.specs.Faults.{is_premise, past_most}
use Rattle.cep_faults.proofs.Firsts.{past_found, past_none, filter-flat_map, is_counted, kept_one}
use Rattle.cep_faults.proofs.limits.premise_past.Goals as goal

pub returns-then-before-most : goal.returns-then-before-most
returns-then-before-most c =
    let premise = is_premise c.args.source.now c.args.back in
    past_found (λ elem. filter premise (atoms_in elem)) (λ (atom : RawAtom). atom.name.from) c.args.left.now c.loop-elem.elem-index c.elem-item.result c.in-Some.atom.now c.loop-elem.before c.args.most _
    c.loop-elem-test.true c.elem-item.is (c.loop-elem.invariant.counted ∙ ap length (filter-flat_map premise atoms_in (take c.loop-elem.elem-index c.args.left.now)))
    (kept_one premise c.in-Some.atom.now (atoms_in c.elem-item.result) c.in-Some.ensures
    (is_counted c.args.back c.is_backward.result c.in-Some-kind.kind _ (sym c.kind.ensures ∙ c.in-Some-kind.is) c.is_backward.ensures c.if-is_backward-back.false))
    c.if-before-most.true c.past.ensures
    ∙ ap (λ atoms. first_in (past_most (λ (atom : RawAtom). atom.name.from) atoms c.args.most)) (sym (filter-flat_map premise atoms_in c.args.left.now))

pub returns : goal.returns
returns c =
    let premise = is_premise c.args.source.now c.args.back in
    past_none (λ elem. filter premise (atoms_in elem)) (λ (atom : RawAtom). atom.name.from) c.args.left.now c.loop-elem.elem-index c.loop-elem.before c.args.most c.loop-elem-test.false
    (c.loop-elem.invariant.counted ∙ ap length (filter-flat_map premise atoms_in (take c.loop-elem.elem-index c.args.left.now))) c.loop-elem.invariant.few
    ∙ ap (λ atoms. first_in (past_most (λ (atom : RawAtom). atom.name.from) atoms c.args.most)) (sym (filter-flat_map premise atoms_in c.args.left.now))
