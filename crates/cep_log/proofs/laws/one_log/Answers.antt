use Rattle.cep_rule.specs.declared.parts.Parts.{Parts}
use Rattle.cep_rule.specs.Program.{IsProgram}
use Rattle.cep_log.proofs.OneWay.{OneValue}
use Rattle.cep_log.proofs.Apart.{one_log, log_or_misfit, one_misfit}
use Rattle.cep_log.proofs.laws.one_log.Goals as goal

laws_of : goal.After-one_value → (program : Parts) → IsProgram program → OneValue program
laws_of c program is = record {
  atoms = λ x y p q e. c.one_value.ensures.atoms program x y is p q e;
  offers = λ x y p q e. c.one_value.ensures.offers program x y is p q e;
  derivations = λ x y p q e. c.one_value.ensures.derivations program x y is p q e;
  stages = is.named.stages.differ;
}

pub returns : goal.returns
returns c = record {
  once = λ program bytes one other is a b. one_log program (laws_of c program is) bytes one other a b;
  apart = λ program bytes log fault is a b. log_or_misfit program (laws_of c program is) bytes log fault a b;
  misfit = λ program bytes one other is a b. one_misfit program (laws_of c program is) bytes one other a b;
}
