use Rattle.std.proofs.Common.{◌-◌, ◌/◌, ◌%◌, ◌∙◌, List, ℕ, Vec, Global, map, slice_index_or, refl}
use Rattle.std.proofs.lemmas.Option.{slice_get-get_or}
use Rattle.cep_base.proofs.Lists.{holds_at}
use Rattle.cep_rule.specs.Patterns.{clause_of}
use Rattle.cep_modes.specs.Places.{positions_of, IsPlainClause}
use Rattle.cep_modes.proofs.Looping.{callees_ended, listed, number_there, callees_told}
use Rattle.cep_modes.proofs.callees.callees_at.Goals as goal

pub get-requires : goal.get-requires
get-requires c =
    let table : List (List ℕ) = map (λ (v : Vec ℕ Global). v.items) c.args.table.now.items in
    number_there c.args.clauses.now table ((c.args.n - 1) / 256) c.loop-i.i-index (slice_index_or c.deref-i-items.result.now c.loop-i.i-index 0) c.deref-i-items.result.now c.requires.table
    (listed c.args.table.now.items c.args.n (c.args.n - 1) c.index-numbers.result.now c.deref-i-items.result.now c.requires.in_range c.if-n-eq0.false refl c.index-numbers.ensures c.deref-i-items.ensures.value)
    (slice_get-get_or c.deref-i-items.result.now c.loop-i.i-index 0 c.loop-i-test.true)

pub add_callees-requires : goal.add_callees-requires
add_callees-requires c = holds_at (IsPlainClause 32) c.args.clauses.now (slice_index_or c.deref-i-items.result.now c.loop-i.i-index 0) (clause_of c.get.result.now) c.requires.plain c.get.ensures

pub returns : goal.returns
returns c =
    let table : List (List ℕ) = map (λ (v : Vec ℕ Global). v.items) c.args.table.now.items in
    callees_ended (positions_of ((c.args.n - 1) % 256)) c.args.clauses.now c.deref-i-items.result.now c.loop-i.i-index c.loop-i.found.items _ c.loop-i-test.false c.loop-i.invariant
    ∙ callees_told c.args.clauses.now table c.args.n (c.args.n - 1) c.deref-i-items.result.now c.requires.table
    (listed c.args.table.now.items c.args.n (c.args.n - 1) c.index-numbers.result.now c.deref-i-items.result.now c.requires.in_range c.if-n-eq0.false refl c.index-numbers.ensures c.deref-i-items.ensures.value)
    c.if-n-eq0.false refl
