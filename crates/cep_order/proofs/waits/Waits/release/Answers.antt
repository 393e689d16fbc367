use Rattle.std.proofs.Common.{◌≡◌, ℕ, ◌-◌, ◌<◌, ◌≤◌, Bool, true, false, List, length, get_or, Some, refl, ap, sym, ◌∙◌, ⊎_elim, arith}
use Rattle.std.specs.Prelude.{slice_get}
use Rattle.std.proofs.lemmas.List.{get_or_read, get_or_default, get_or-set_same}
use Rattle.std.proofs.lemmas.Option.{slice_get-get_or}
use Rattle.cep_order.specs.declared.waits.Link.{Link}
use Rattle.cep_order.proofs.Trees.{on_or_off}
use Rattle.cep_order.proofs.Releasing.{releasing_begins, releasing_ends, waits_some, step_within, not_ready, released_ready, released_waiting}
use Rattle.cep_order.proofs.waits.Waits.release.Goals as goal

-- The link that is read is one of the old ones.
read_link : (old new : List Link) (from : ℕ) (link : Link) → new ≡ old → 0 < from → from ≤ length old → link ≡ get_or new (from - 1) link → slice_get old (from - 1) ≡ Some link
read_link old new from link same some within read = slice_get-get_or old (from - 1) link (omega arith) ∙ ap Some (sym (read ∙ ap (λ (links : List Link). get_or links (from - 1) link) same))

unset : (flags : List Bool) (step : ℕ) → step < length flags → (get_or flags step false ≡ true → ⊥) → get_or flags step true ≡ false
unset flags step within not_set = get_or_default flags step true false within ∙ ⊎_elim (λ set. absurd (not_set set)) (λ off. off) (on_or_off (get_or flags step false))

pub returns-then-is_empty : goal.returns-then-is_empty
returns-then-is_empty c =
    let old = c.args.self.now in
    let was = c.args.ready.now in
    let from = get_or old.begins.items c.args.place 0 in
    let none : length old.links.items ≡ 0 = grind (arith, c.is_empty.ensures, c.if-is_empty.true) in
    releasing_ends old was c.args.place c.args.end c.requires old was from (releasing_begins old was c.args.place c.args.end c.requires from refl) (omega (arith, c.requires.lead.begin c.args.place, none))

pub index_mut-requires : goal.index_mut-requires
index_mut-requires c =
    let old = c.args.self.now in
    let was = c.args.ready.now in
    let at = c.loop-from in
    let is = at.invariant in
    let some = c.loop-from-test.true in
    let link = c.index-link.result.now in
    let there = read_link old.links.items at.self.links.items at.from link is.links some is.within c.index-link.ensures in
    omega (arith, step_within old was c.args.place c.args.end c.requires at.self at.ready at.from is link some there, is.long, at.self.left.ok.0)

pub overflow_sub-index_mut : goal.overflow_sub-index_mut
overflow_sub-index_mut c =
    let old = c.args.self.now in
    let was = c.args.ready.now in
    let at = c.loop-from in
    let is = at.invariant in
    let some = c.loop-from-test.true in
    let link = c.index-link.result.now in
    let there = read_link old.links.items at.self.links.items at.from link is.links some is.within c.index-link.ensures in
    let within = step_within old was c.args.place c.args.end c.requires at.self at.ready at.from is link some there in
    let read = get_or_read at.self.left.items link.step c.index_mut.result.now (omega (arith, within, is.long)) c.index_mut.ensures.value 0 in
    let waits = waits_some old was c.args.place c.args.end c.requires at.self at.ready at.from is link some there in
    omega (arith, read, waits)

pub index-requires : goal.index-requires
index-requires c =
    let old = c.args.self.now in
    let was = c.args.ready.now in
    let at = c.loop-from in
    let is = at.invariant in
    let some = c.loop-from-test.true in
    let link = c.index-link.result.now in
    let there = read_link old.links.items at.self.links.items at.from link is.links some is.within c.index-link.ensures in
    omega (arith, step_within old was c.args.place c.args.end c.requires at.self at.ready at.from is link some there, is.long, at.self.left.ok.0)

pub insert-requires-clause-within : goal.insert-requires-clause-within
insert-requires-clause-within c =
    let old = c.args.self.now in
    let was = c.args.ready.now in
    let at = c.loop-from in
    let is = at.invariant in
    let some = c.loop-from-test.true in
    let link = c.index-link.result.now in
    let there = read_link old.links.items at.self.links.items at.from link is.links some is.within c.index-link.ensures in
    omega (arith, step_within old was c.args.place c.args.end c.requires at.self at.ready at.from is link some there, is.room, c.requires.room)

pub insert-requires-clause-other : goal.insert-requires-clause-other
insert-requires-clause-other c =
    let old = c.args.self.now in
    let was = c.args.ready.now in
    let at = c.loop-from in
    let is = at.invariant in
    let some = c.loop-from-test.true in
    let link = c.index-link.result.now in
    let there = read_link old.links.items at.self.links.items at.from link is.links some is.within c.index-link.ensures in
    unset at.ready link.step (omega (arith, step_within old was c.args.place c.args.end c.requires at.self at.ready at.from is link some there, is.room, c.requires.room)) (not_ready old was c.args.place c.args.end c.requires at.self at.ready at.from is link some there)

pub loop-from-smaller-then-step-end : goal.loop-from-smaller-then-step-end
loop-from-smaller-then-step-end c =
    let old = c.args.self.now in
    let was = c.args.ready.now in
    let at = c.loop-from in
    let is = at.invariant in
    let some = c.loop-from-test.true in
    let link = c.index-link.result.now in
    let there = read_link old.links.items at.self.links.items at.from link is.links some is.within c.index-link.ensures in
    omega (arith, c.requires.lead.back (at.from - 1) link there)

pub loop-from-preserved-then-step-end : goal.loop-from-preserved-then-step-end
loop-from-preserved-then-step-end c =
    let old = c.args.self.now in
    let was = c.args.ready.now in
    let at = c.loop-from in
    let is = at.invariant in
    let some = c.loop-from-test.true in
    let link = c.index-link.result.now in
    let there = read_link old.links.items at.self.links.items at.from link is.links some is.within c.index-link.ensures in
    let within = step_within old was c.args.place c.args.end c.requires at.self at.ready at.from is link some there in
    let read = get_or_read at.self.left.items link.step c.index_mut.result.now (omega (arith, within, is.long)) c.index_mut.ensures.value 0 in
    let waits = waits_some old was c.args.place c.args.end c.requires at.self at.ready at.from is link some there in
    let count = c.index_mut.result.now - 1 in
    let is_now = c.index.ensures ∙ get_or-set_same at.self.left.items link.step count c.index.result.now (omega (arith, within, is.long)) in
    released_ready old was c.args.place c.args.end c.requires at.self at.ready at.from is link some there _ count refl refl refl (omega (arith, read, waits)) c.insert.new.self c.insert.ensures (sym is_now ∙ c.if-index-eq0.true) c.if-step-end.true

pub loop-from-smaller : goal.loop-from-smaller
loop-from-smaller c =
    let old = c.args.self.now in
    let was = c.args.ready.now in
    let at = c.loop-from in
    let is = at.invariant in
    let some = c.loop-from-test.true in
    let link = c.index-link.result.now in
    let there = read_link old.links.items at.self.links.items at.from link is.links some is.within c.index-link.ensures in
    omega (arith, c.requires.lead.back (at.from - 1) link there)

pub loop-from-preserved : goal.loop-from-preserved
loop-from-preserved c =
    let old = c.args.self.now in
    let was = c.args.ready.now in
    let at = c.loop-from in
    let is = at.invariant in
    let some = c.loop-from-test.true in
    let link = c.index-link.result.now in
    let there = read_link old.links.items at.self.links.items at.from link is.links some is.within c.index-link.ensures in
    let within = step_within old was c.args.place c.args.end c.requires at.self at.ready at.from is link some there in
    let read = get_or_read at.self.left.items link.step c.index_mut.result.now (omega (arith, within, is.long)) c.index_mut.ensures.value 0 in
    let waits = waits_some old was c.args.place c.args.end c.requires at.self at.ready at.from is link some there in
    let count = c.index_mut.result.now - 1 in
    let is_now = c.index.ensures ∙ get_or-set_same at.self.left.items link.step count c.index.result.now (omega (arith, within, is.long)) in
    released_waiting old was c.args.place c.args.end c.requires at.self at.ready at.from is link some there _ count refl refl refl (omega (arith, read, waits)) (λ none early. ⊎_elim (λ late. omega (arith, late.1)) (λ some_left. some_left (is_now ∙ none)) c.else-index-eq0.either)
