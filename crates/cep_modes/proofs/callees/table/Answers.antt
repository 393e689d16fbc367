use Rattle.std.proofs.Common.{◌≡◌, ◌+◌, ap, sym, ◌∙◌, length, map, ℕ, List, Vec, Global, arith, subst, zero-add}
use Rattle.std.proofs.lemmas.List.{length-map}
use Rattle.cep_base.proofs.Lists.{map_last}
use Rattle.cep_modes.specs.Places.{IsClauseTable, numbers_of}
use Rattle.cep_modes.proofs.Looping.{table_more}
use Rattle.cep_modes.proofs.callees.table.Goals as goal

pub loop-pred-preserved : goal.loop-pred-preserved
loop-pred-preserved c =
    let items : Vec ℕ Global → List ℕ = λ v. v.items in
    let P : List (List ℕ) → Type 0 = IsClauseTable c.args.clauses.now 0 in
    let at : c.loop-pred.pred ≡ 0 + length (map items c.loop-pred.table.items) = sym (zero-add (length (map items c.loop-pred.table.items)) ∙ length-map c.loop-pred.table.items items ∙ c.loop-pred.invariant.many) in
    record {
      many = omega (arith, c.in_ok-push.ensures.len, c.loop-pred.invariant.many);
      numbers =
          subst P (sym (map_last items c.loop-pred.table.items c.in_ok-numbers.field-0) ∙ ap (map items) (sym c.in_ok-push.ensures.items))
          (table_more c.args.clauses.now 0 (map items c.loop-pred.table.items) c.in_ok-numbers.field-0.items c.loop-pred.invariant.numbers (c.in_ok-numbers.ensures ∙ ap (λ p. numbers_of p 0 c.args.clauses.now) at));
    }
