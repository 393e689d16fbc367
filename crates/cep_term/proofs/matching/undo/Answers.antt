use Rattle.std.proofs.Common.{◌∙◌, ap, arith}
use Rattle.std.proofs.lemmas.Grind.{elements}
use Rattle.cep_term.specs.Values.{values_of}
use Rattle.cep_term.specs.Undoing.{undone}
use Rattle.cep_term.proofs.MatchingLaws.{undone_pop}
use Rattle.cep_term.proofs.matching.undo.Goals as goal

pub loop-v-preserved : goal.loop-v-preserved
loop-v-preserved c = record {
  same = ap (λ terms. undone c.pop.new.self.items (values_of terms)) c.clear.ensures ∙ undone_pop _ _ c.in-Some.v c.loop-v.values.items c.in-Some.ensures.items ∙ c.loop-v.invariant.same;
  in_range = λ k d lt. grind (arith, elements, c.loop-v.invariant.in_range k d, c.in-Some.ensures.items, c.clear.ensures);
}
