use Rattle.std.proofs.Common.{refl, sym, ◌∙◌, ap}
use Rattle.cep_base.specs.FirstNames.{has_name}
use Rattle.cep_faults.specs.declared.traces.Counted.{Counted}
use Rattle.cep_faults.specs.Counted.{cut, total_size}
use Rattle.cep_faults.proofs.Counting.{added_again, no_fact, new_fact, old_fact, not_true, not_false}
use Rattle.cep_faults.proofs.traces.Counted.note.Goals as goal
use Rattle.cep_faults.proofs.traces.Counted.note.Goals.{then-is_of_fact+in_ok-key+in_ok-is_new+else-not-is_new, else-is_of_fact}

pub returns-then-not-is_new : goal.returns-then-not-is_new
returns-then-not-is_new c =
    let old = c.args.self.now in
    let has = not_true c.in_ok-is_new.is_new (has_name old.facts c.bytes.result.now) c.in_ok-is_new.ensures.new c.if-not-is_new.true in
    λ before so_far.
    old_fact c.args.source.now c.args.atom.now old (record { size = old.size; facts = c.add.new.self; contexts = old.contexts }) before so_far refl c.bytes.result.now (sym c.is_of_fact.ensures ∙ c.if-is_of_fact.true) (c.bytes.ensures ∙ c.in_ok-key.ensures) has refl
    (c.in_ok-is_new.ensures.entries ∙ added_again old.facts c.bytes.result.now _ has)

pub returns : goal.returns
returns c =
    let old = c.args.self.now in
    let new : Counted = record { size = c.and-self.result; facts = c.if-is_of_fact.self.facts; contexts = c.if-is_of_fact.self.contexts } in
    λ before so_far.
    elim c.if-is_of_fact.branch [
      | then-is_of_fact+in_ok-key+in_ok-is_new+else-not-is_new w ↦
          new_fact c.args.source.now c.args.atom.now old new before so_far (ap (λ (counted : Counted). counted.contexts) w.self-is) c.of_one.result c.of_one.ensures
          (c.and-self.ensures ∙ ap (λ (counted : Counted). cut (total_size counted.size c.of_one.result)) w.self-is)
          w.bytes.result.now _ (sym c.is_of_fact.ensures ∙ w.if-is_of_fact.true) (w.bytes.ensures ∙ w.in_ok-key.ensures)
          (not_false w.in_ok-is_new.is_new (has_name old.facts w.bytes.result.now) w.in_ok-is_new.ensures.new w.if-not-is_new.false)
          (ap (λ (counted : Counted). counted.facts) w.self-is ∙ w.in_ok-is_new.ensures.entries)
      | else-is_of_fact w ↦
          no_fact c.args.source.now c.args.atom.now old new before so_far (ap (λ (counted : Counted). counted.contexts) w.self-is) c.of_one.result c.of_one.ensures
          (c.and-self.ensures ∙ ap (λ (counted : Counted). cut (total_size counted.size c.of_one.result)) w.self-is)
          (sym c.is_of_fact.ensures ∙ w.if-is_of_fact.false) (ap (λ (counted : Counted). counted.facts) w.self-is)
    ]
