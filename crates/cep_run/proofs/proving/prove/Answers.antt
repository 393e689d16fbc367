use Rattle.std.proofs.Common.{◌≡◌, map, length, Some, arith, rules}
use Rattle.std.specs.Prelude.{slice_get}
use Rattle.std.proofs.lemmas.List.{length-map}
use Rattle.cep_base.proofs.Lists.{holds_at, get_mapped, get_last}
use Rattle.cep_base.proofs.Members.{in_got, to_contains}
use Rattle.cep_term.specs.Tree.{atom_of}
use Rattle.cep_term.specs.Values.{atom_instance}
use Rattle.cep_rule.specs.Derivations.{proof_of}
use Rattle.cep_prove.specs.declared.answering.Answer.{Answer}
use Rattle.cep_prove.specs.Answers.{IsLowestProof}
use Rattle.cep_run.proofs.Backs.{some_answer, same_goal, is_within}
use Rattle.cep_run.proofs.proving.prove.Goals as goal

pub unwrap-answer-requires : goal.unwrap-answer-requires
unwrap-answer-requires g c =
    let some = some_answer c.args.program.now c.args.height (atom_of c.args.goal.now) c.args.known.now (map (λ (answer : Answer). answer.values) c.in_ok-list.list) c.in_ok-list.ensures.answers c.requires.valued c.requires.derivable in
    grind (arith, some, c.pop.ensures, length-map c.in_ok-list.list (λ (answer : Answer). answer.values))

pub returns-clause-proved : goal.returns-clause-proved
returns-clause-proved g c =
    let program = c.args.program.now in
    let goal_is = atom_of c.args.goal.now in
    let answer = c.unwrap-answer.result in
    let place = length c.pop.new.self in
    let at : slice_get c.in_ok-list.list place ≡ Some answer = rw (rw c.unwrap-answer.ensures at c.pop.ensures) (get_last c.pop.new.self answer) in
    let lowest = holds_at (λ (answer : Answer). IsLowestProof program (proof_of answer.proof) (atom_instance answer.values goal_is)) c.in_ok-list.list place answer c.in_ok-list.ensures.proofs at in
    let all = map (λ (answer : Answer). answer.values) c.in_ok-list.list in
    let there = to_contains all answer.values (in_got all place answer.values (get_mapped (λ (answer : Answer). answer.values) c.in_ok-list.list place answer at)) in
    let same = same_goal c.instances_of_instances.ensures.alike program c.args.height goal_is c.args.known.now answer.values c.requires.valued (c.in_ok-list.ensures.answers.no_other answer.values there) in
    is_within program c.args.height (atom_instance answer.values goal_is) (atom_instance c.args.known.now goal_is) (proof_of answer.proof) same lowest c.requires.derivable

pub returns-in_err-list-clause-ticked : goal.returns-in_err-list-clause-ticked
returns-in_err-list-clause-ticked g c = search rules

pub returns-clause-ticked : goal.returns-clause-ticked
returns-clause-ticked g c = search rules
