use Rattle.std.proofs.Common.{ℕ, ◌≤◌, List, length, take, replicate, sym, subst, arith}
use Rattle.std.proofs.lemmas.List.{take_all}
use Rattle.std.specs.List.{flat_map}
use Rattle.std.proofs.lemmas.Option.{slice_get_within}
use Rattle.cep_base.proofs.Lists.{holds_at}
use Rattle.cep_term.specs.Tree.{AtomTree, atom_of}
use Rattle.cep_term.specs.Multiset.{IsEntry}
use Rattle.cep_graph.specs.Traces.{AreOfStart}
use Rattle.cep_graph.proofs.Made.{starts_met, entry_more}
use Rattle.std.specs.FinMap as finite
use Rattle.cep_graph.proofs.starting.start_tokens.Goals as goal

pub id_of-requires : goal.id_of-requires
id_of-requires c = (holds_at IsEntry (finite.entries c.args.start.now) c.loop-i.i ((atom_of c.entry-copies.result.0.now), c.entry-copies.result.1) c.len-i-end.ensures.kept c.entry-copies.ensures).1

pub add_copies-requires : goal.add_copies-requires
add_copies-requires c = slice_get_within c.id_of.new.self.atoms c.in_ok-id.id (atom_of c.entry-copies.result.0.now) c.in_ok-id.ensures.met

pub loop-i-preserved : goal.loop-i-preserved
loop-i-preserved c =
    subst (λ (atoms : List AtomTree). AreOfStart atoms c.add_copies.new.tokens) (sym (entry_more (finite.entries c.args.start.now) c.loop-i.i (atom_of c.entry-copies.result.0.now) c.entry-copies.result.1 c.entry-copies.ensures))
    (c.in_ok-add_copies.ensures (atom_of c.entry-copies.result.0.now) (flat_map (λ (e : AtomTree × ℕ). replicate e.1 e.0) (take c.loop-i.i (finite.entries c.args.start.now))) c.in_ok-id.ensures.met
    (starts_met (flat_map (λ (e : AtomTree × ℕ). replicate e.1 e.0) (take c.loop-i.i (finite.entries c.args.start.now))) c.loop-i.tokens c.id_of.new.self (atom_of c.entry-copies.result.0.now) c.in_ok-id.id c.in_ok-id.ensures c.loop-i.invariant))

pub returns : goal.returns
returns c =
    let all : length (finite.entries c.args.start.now) ≤ c.loop-i.i = omega (arith, finite.len-entries c.args.start.now, c.len-i-end.ensures.value, c.loop-i-test.false) in
    subst (λ (entries : List (AtomTree × ℕ)). AreOfStart (flat_map (λ (e : AtomTree × ℕ). replicate e.1 e.0) entries) c.loop-i.tokens) (take_all c.loop-i.i (finite.entries c.args.start.now) all) c.loop-i.invariant
