use Rattle.std.proofs.Common.{◌<◌, List, length, get_or, refl, ap, ◌∙◌, arith}
use Rattle.std.proofs.lemmas.Option.{slice_get-get_or}
use Rattle.std.specs.Prelude.{slice_get}
use Rattle.cep_term.specs.Tree.{AtomTree, none}
use Rattle.cep_graph.proofs.Made.{copies_more}
use Rattle.cep_graph.proofs.starting.add_copies.Goals as goal

pub add-requires : goal.add-requires
add-requires c = let same = ap (λ (atoms : List AtomTree). length atoms) c.loop-copy.invariant.0 in let within = c.requires in omega arith

pub loop-copy-preserved : goal.loop-copy-preserved
loop-copy-preserved c =
    let within : c.args.id < length c.loop-copy.tokens.atoms = (let same = ap (λ (atoms : List AtomTree). length atoms) c.loop-copy.invariant.0 in let within = c.requires in omega arith) in
    let some = slice_get-get_or c.loop-copy.tokens.atoms c.args.id (record { pred = 0; args = none }) within in (
      (c.in_ok-add.ensures (get_or c.loop-copy.tokens.atoms c.args.id (record { pred = 0; args = none })) some).atoms ∙ c.loop-copy.invariant.0,
      λ a atoms id starts. copies_more atoms c.loop-copy._copy c.loop-copy.tokens c.add.new.self a (record { maker = 0; users = c.new-users.result }) refl c.new-users.ensures
          (c.in_ok-add.ensures a (ap (λ (all : List AtomTree). slice_get all c.args.id) c.loop-copy.invariant.0 ∙ id)) (c.loop-copy.invariant.1 a atoms id starts),
    )
