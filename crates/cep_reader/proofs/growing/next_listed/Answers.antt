use Rattle.cep_rule.specs.Program.{IsProgram}
use Rattle.cep_log.specs.Listed.{have_of}
use Rattle.cep_log.proofs.OneWay.{OneValue}
use Rattle.cep_reader.proofs.LineKindLemmas.{listed_none}
use Rattle.cep_reader.proofs.growing.next_listed.Goals as goal

pub returns-else-is_behind-clause-none : goal.returns-else-is_behind-clause-none
returns-else-is_behind-clause-none c = λ entry said behind.
    let program = c.args.vocabulary.now in
    let is : IsProgram program = c.parts.ensures.kept in
    let laws : OneValue program = record {
      atoms = λ x y p q e. c.one_value.ensures.atoms program x y is p q e;
      offers = λ x y p q e. c.one_value.ensures.offers program x y is p q e;
      derivations = λ x y p q e. c.one_value.ensures.derivations program x y is p q e;
      stages = is.named.stages.differ;
    } in
    listed_none program laws c.args.line.now c.args.haves.now (have_of c.in-Some.have) entry (rw c.in-Some.is at c.in_ok-have.ensures.some)
    (λ is_behind. let t = c.is_behind.ensures.1 is_behind in let f = c.if-is_behind.false in absurd cc) said behind

pub returns-in-None-clause-none : goal.returns-in-None-clause-none
returns-in-None-clause-none c = λ entry said behind. (rw c.in-None.is at c.in_ok-have.ensures.none) entry said
